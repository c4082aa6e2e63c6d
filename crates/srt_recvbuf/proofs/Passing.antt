-- The front moves past the next packet.
use Rattle.std.proofs.Common.{◌≡◌, ℕ, ◌+◌, Option, Some, ap, sym, subst, ◌∙◌, arith}
use Rattle.srt_recvbuf.specs.declared.buffer.RecvBuf.{RecvBuf}
use Rattle.srt_recvbuf.specs.Receiving.{Arrival, Receiving, after_next, settled, moved_to}
use Rattle.srt_recvbuf.specs.Stands.{StandsFor}

pub passed_one : (width initial origin at : ℕ) (b : RecvBuf) (r : Receiving) (a : Arrival) (next : Option Arrival) → next ≡ Some a
    → a.number ≡ r.front + at → StandsFor width initial origin b (settled width (moved_to (r.front + (at + 1)) r))
    → StandsFor width initial origin b (after_next width next r)
passed_one width initial origin at b r a next e number h =
    let n : a.number + 1 ≡ r.front + (at + 1) = omega (arith, number) in
    let P : Receiving → Type 0 = λ x. StandsFor width initial origin b x in
    subst P (sym (ap (λ o. after_next width o r) e ∙ ap (λ x. settled width (moved_to x r)) n)) h
