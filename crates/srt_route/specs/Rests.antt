-- A route at rest: none of its sessions is open, and it wasn't closed. Of everything that happened, what it does later
-- depends on its clock alone, and on the number of sessions that were ever opened in each slot; and on what it has for its
-- secured roles.
use Rattle.std.specs.Prelude.{◌≡◌, ℕ, ◌%◌, ◌<◌, Bool, false, not, ◌&&◌, List, slice_index_or}
use Rattle.std.specs.List.{list_any}
use Rattle.srt_types.specs.Terms.{Terms}
use Rattle.srt_types.specs.Items.{Item}
use Rattle.srt_route.specs.Sessions.{Session, generation_of}
use Rattle.srt_route.specs.RouteKeys.{first_keys}
use Rattle.srt_route.specs.Route.{Route, after}

abbrev pub is_any_open : List Session → Bool
is_any_open sessions = list_any (λ (s : Session). s.is_open) sessions

abbrev pub is_at_rest : Route → Bool
is_at_rest m = not m.is_closed && not (is_any_open m.sessions)

-- the route rests with this clock, and its slots below `slots` with these generations, modulo 2^16; no key was ever derived
pub record IsResting (slots : ℕ) (m : Route) (clock : ℕ) (generations : List ℕ) : Type 0 where
  pub none_open : is_any_open m.sessions ≡ false
  pub not_closed : m.is_closed ≡ false
  pub clock_is : m.clock ≡ clock
  pub keys_are : m.keys ≡ first_keys
  pub counts : (slot : ℕ) → slot < slots → slice_index_or generations slot 0 ≡ generation_of m.sessions slot % 65536

-- after these items, the newest first
abbrev pub RestsAs : Terms → (index : ℕ) → List Item → (clock : ℕ) → (generations : List ℕ) → Type 0
RestsAs e index items clock generations = IsResting e.sessions (after e index items) clock generations
