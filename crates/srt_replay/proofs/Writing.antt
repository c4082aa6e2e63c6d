-- Known bytes of a writer.
use Rattle.std.proofs.Common.{◌≡◌, ℕ, ◌+◌, ◌-◌, take, drop, length, arith, List, ◌++◌, Option, None, Some, refl, ap, append_assoc, ◌∙◌}
use Rattle.std.proofs.lemmas.List.{take_rest, drop-take, take-take, take-append-drop}
use Rattle.std.specs.Io.KnownBytes.{Appends, Keeps}
use Rattle.srt_replay.specs.Known.{Wrote}

own : (zs ys : List ℕ) → Some zs ≡ Some ys → zs ≡ ys
own zs ys e = cc

none : (ys : List ℕ) → None ≡ Some ys → ⊥
none ys e = cc

-- more bytes were written
pub wrote_more : (old now new : Option (List ℕ)) (bs cs : List ℕ) → Wrote old now bs → Appends now new cs → Wrote old new (bs ++ cs)
wrote_more old None new bs cs h a ws e = absurd (none (ws ++ bs) (h ws e))
wrote_more old (Some zs) None bs cs h a ws e = absurd a
wrote_more old (Some zs) (Some ys) bs cs h a ws e =
    ap (λ (xs : List ℕ). Some xs) (a ∙ ap (λ (xs : List ℕ). xs ++ cs) (own zs (ws ++ bs) (h ws e)) ∙ append_assoc ws bs cs)

-- nothing was written
pub wrote_same : (old now new : Option (List ℕ)) (bs : List ℕ) → Wrote old now bs → Keeps now new → Wrote old new bs
wrote_same old None new bs h a ws e = absurd (none (ws ++ bs) (h ws e))
wrote_same old (Some zs) None bs h a ws e = absurd a
wrote_same old (Some zs) (Some ys) bs h a ws e = ap (λ (xs : List ℕ). Some xs) a ∙ h ws e

-- the front of a list and more of it
pub further : (at n : ℕ) (bytes : List ℕ) → take at bytes ++ take n (take (length bytes - at) (drop at bytes)) ≡ take (at + n) bytes
further at n bytes =
    rw (take_rest bytes at, ← drop-take at n bytes, ← take-take at (at + n) bytes (omega arith)) (take-append-drop at (take (at + n) bytes))

pub kept : (old : Option (List ℕ)) → Keeps old old
kept None = tt
kept (Some xs) = refl

pub kept_on : (old now new : Option (List ℕ)) → Keeps old now → Keeps now new → Keeps old new
kept_on None now new h k = tt
kept_on (Some xs) None new h k = absurd h
kept_on (Some xs) (Some ys) None h k = absurd k
kept_on (Some xs) (Some ys) (Some zs) h k = k ∙ h
