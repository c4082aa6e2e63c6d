-- In buffer mode the front's packet was received if the acknowledgement point is above it.
use Rattle.std.proofs.Common.{◌≡◌, inl, inr, ℕ, ◌+◌, ◌<◌, Bool, true, false, not, ◌||◌, List, [], refl, ap, subst, arith}
use Rattle.std.proofs.lemmas.Bool.{cases_lt}
use Rattle.srt_recvbuf.specs.Receiving.{Request, Receiving, is_received, is_requested, is_missing, ack_point}
use Rattle.srt_recvbuf.specs.OneByOne.{NothingBeyond}
use Rattle.srt_recvbuf.proofs.Points.{ack_points}

first_there : (a b : Bool) → b ≡ false → not (a || b) ≡ false → a ≡ true
first_there true b e f = refl
first_there false true e f = cc
first_there false false e f = cc

first_gone : (a b : Bool) → not (a || b) ≡ true → a ≡ false
first_gone true b e = cc
first_gone false b e = refl

none_requested : (width n : ℕ) (qs : List Request) → qs ≡ [] → is_requested width qs n ≡ false
none_requested width n qs e = ap (λ (xs : List Request). is_requested width xs n) e

pub front_received : (width : ℕ) (r : Receiving) → r.requests ≡ [] → r.front < ack_point width r → is_received r r.front ≡ true
front_received width r none lt =
    first_there (is_received r r.front) (is_requested width r.requests r.front) (none_requested width r.front r.requests none)
    ((ack_points width r).before r.front (omega arith) lt)

pub front_not_received : (width : ℕ) (r : Receiving) → NothingBeyond width r → ack_point width r ≡ r.front → is_received r r.front ≡ false
front_not_received width r beyond at = elim (cases_lt (ack_point width r) (r.front + width)) [
  | inl lt ↦
      let here : is_missing width r (ack_point width r) ≡ true = (ack_points width r).here lt in
      first_gone (is_received r r.front) (is_requested width r.requests r.front) (subst (λ (n : ℕ). is_missing width r n ≡ true) at here)
  | inr ge ↦ beyond r.front (omega (arith, at, ge))
]
