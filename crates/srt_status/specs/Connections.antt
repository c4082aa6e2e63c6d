-- The state of one connection.
use Rattle.std.specs.Prelude.{ℕ, ◌-◌, Bool, true, ◌==◌, ◌&&◌, nat_le, List, length, if◌then◌else◌}

-- what was received, what is left to be sent, whether there is a response, and since when the present part lasts
pub record ConnectionState : Type 0 where
  pub received : List ℕ
  pub left : List ℕ
  pub answered : Bool
  pub since : ℕ

-- all of the response was sent, or two seconds went by
abbrev pub is_over : ConnectionState → (moment : ℕ) → Bool
is_over connection moment =
    if connection.answered && (length connection.left == 0) then true else nat_le 2_000_000 (moment - connection.since)
