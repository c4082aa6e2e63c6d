-- Bytes put at the end of a text that is cut off.
use Rattle.std.proofs.Common.{◌≡◌, ℕ, zero, suc, ◌+◌, ◌<◌, ◌≤◌, List, [], ◌∷◌, ◌++◌, length, take, slice_index, refl, ap, sym, ◌∙◌, subst}
use Rattle.std.proofs.Common.{arith, append_assoc, length-append}
use Rattle.std.proofs.Math.Seq.{take-append-add}
use Rattle.std.proofs.lemmas.List.{length-take-le, take_all, take_more, flat_map_more}
use Rattle.std.specs.List.{flat_map}
use Rattle.srt_log.specs.Texts.{put, escaped, escaped_all, readable, readable_all}
use Rattle.srt_log.specs.Peers.{next_group, next_groups}

twice : (n : ℕ) (x y : List ℕ) → take n (take n x ++ y) ≡ take n (x ++ y)
twice zero x y = refl
twice (suc n) [] y = refl
twice (suc n) (a ∷ x) y = ap (λ (l : List ℕ). a ∷ l) (twice n x y)

-- bytes put one after the other are put at once
pub put_put : (x a b : List ℕ) → put (put x a) b ≡ put x (a ++ b)
unfolding put
put_put x a b = twice 1023 (x ++ a) b ∙ ap (take 1023) (append_assoc x a b)

-- bytes that fit are put whole
pub put_whole : (x a : List ℕ) → length x + length a ≤ 1023 → x ++ a ≡ put x a
unfolding put
put_whole x a within =
    let fits : length (x ++ a) ≤ 1023 = omega (arith, length-append x a) in
    sym (take_all 1023 (x ++ a) fits)

-- of others their front is put
pub put_front : (x a : List ℕ) (room : ℕ) → room + length x ≡ 1023 → x ++ take room a ≡ put x a
unfolding put
put_front x a room e =
    let full : length x + room ≡ 1023 = omega (arith, e) in
    sym (subst (λ (n : ℕ). take n (x ++ a) ≡ x ++ take room a) full (take-append-add x a room))

pub front_len : (room : ℕ) (a : List ℕ) → room ≤ length a → length (take room a) ≡ room
front_len room a within = length-take-le room a within

-- one text put behind another
pub followed : (x y z a b : List ℕ) → y ≡ put x a → z ≡ put y b → z ≡ put x (a ++ b)
followed x y z a b e f = f ∙ ap (λ (l : List ℕ). put l b) e ∙ put_put x a b

-- what is put for a list with one more item
more : (f : ℕ → List ℕ) (bytes : List ℕ) (i : ℕ) → i < length bytes → flat_map f (take (i + 1) bytes) ≡ flat_map f (take i bytes) ++ f (slice_index bytes i)
more f bytes i within = ap (flat_map f) (take_more bytes i 0 within) ∙ sym (flat_map_more f [] (take i bytes) (slice_index bytes i))

-- one more byte, as it is shown
pub one_more : (bytes : List ℕ) (i : ℕ) → i < length bytes → escaped_all (take (i + 1) bytes) ≡ escaped_all (take i bytes) ++ escaped (slice_index bytes i)
one_more bytes i within = more escaped bytes i within

pub one_more_readable : (bytes : List ℕ) (i : ℕ) → i < length bytes →
    readable_all (take (i + 1) bytes) ≡ readable_all (take i bytes) ++ readable (slice_index bytes i)
one_more_readable bytes i within = more readable bytes i within

pub one_more_group : (groups : List ℕ) (i : ℕ) → i < length groups →
    next_groups (take (i + 1) groups) ≡ next_groups (take i groups) ++ next_group (slice_index groups i)
one_more_group groups i within = more next_group groups i within
