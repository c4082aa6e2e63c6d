-- The keys in parts, whatever the offsets of the parts.
use Rattle.std.proofs.Common.{◌≡◌, ℕ, ◌+◌, ◌==◌, Bool, true, false, cond, List, [], ◌∷◌, Option, None, Some, take, drop, codes, refl, ap, ◌∙◌}
use Rattle.std.specs.Bool.{⊤}
use Rattle.std.specs.List.{cons_option}
use Rattle.std.specs.Str.{byte, bytes_eq}
use Rattle.srt_streamid.specs.Parts.{Piece, joined, parts_from, equals_in, value_behind, key_in, keys_in, first_text}

-- parts with the same texts
abbrev Alike : List Piece → List Piece → Type 0
Alike [] [] = ⊤
Alike [] (q ∷ qs) = ⊥
Alike (p ∷ ps) [] = ⊥
Alike (p ∷ ps) (q ∷ qs) = (p.text ≡ q.text) × Alike ps qs

joined_alike : (i j b : ℕ) (ps qs : List Piece) → Alike ps qs → Alike (joined i b ps) (joined j b qs)
joined_alike i j b [] [] h = (refl, tt)
joined_alike i j b [] (q ∷ qs) h = absurd h
joined_alike i j b (p ∷ ps) [] h = absurd h
joined_alike i j b (p ∷ ps) (q ∷ qs) h = (ap (λ (text : List ℕ). b ∷ text) h.0, h.1)

parts_alike : (i j : ℕ) (text : List ℕ) → Alike (parts_from i text) (parts_from j text)
parts_alike i j [] = (refl, tt)
parts_alike i j (b ∷ bs) = by (b == byte ",") (parts_alike (i + 1) (j + 1) bs)
  where
    by : (t : Bool) → Alike (parts_from (i + 1) bs) (parts_from (j + 1) bs)
        → Alike (cond t (record { start = i; text = [] } ∷ parts_from (i + 1) bs) (joined i b (parts_from (i + 1) bs)))
        (cond t (record { start = j; text = [] } ∷ parts_from (j + 1) bs) (joined j b (parts_from (j + 1) bs)))
    by true h = (refl, h)
    by false h = joined_alike i j b (parts_from (i + 1) bs) (parts_from (j + 1) bs) h

-- the first key of a part with this = and of the parts after it
first_behind : (part other : Piece) (rest more : List Piece) (o : Option ℕ) → part.text ≡ other.text
    → first_text (keys_in rest) ≡ first_text (keys_in more)
    → first_text (cons_option (value_behind (codes "k") part o) (keys_in rest))
    ≡ first_text (cons_option (value_behind (codes "k") other o) (keys_in more))
first_behind part other rest more None e h = h
first_behind part other rest more (Some at) e h =
    by (bytes_eq (take at part.text) (codes "k")) ∙
    ap (λ (b : Bool). first_text (cons_option (cond b (Some (record { start = other.start + at + 1; text = drop (at + 1) other.text })) None) (keys_in more)))
    (ap (λ (text : List ℕ). bytes_eq (take at text) (codes "k")) e)
  where
    by : (b : Bool)
        → first_text (cons_option (cond b (Some (record { start = part.start + at + 1; text = drop (at + 1) part.text })) None) (keys_in rest))
        ≡ first_text (cons_option (cond b (Some (record { start = other.start + at + 1; text = drop (at + 1) other.text })) None) (keys_in more))
    by true = ap (λ (text : List ℕ). Some (drop (at + 1) text)) e
    by false = h

alike_keys : (ps qs : List Piece) → Alike ps qs → first_text (keys_in ps) ≡ first_text (keys_in qs)
alike_keys [] [] h = refl
alike_keys [] (q ∷ qs) h = absurd h
alike_keys (p ∷ ps) [] h = absurd h
alike_keys (p ∷ ps) (q ∷ qs) h =
    first_behind p q ps qs (equals_in p) h.0 (alike_keys ps qs h.1) ∙
    ap (λ (o : Option ℕ). first_text (cons_option (value_behind (codes "k") q o) (keys_in qs)))
    (ap (λ (text : List ℕ). equals_in (record { start = q.start; text = text })) h.0)

pub anywhere : (i j : ℕ) (text : List ℕ) → first_text (keys_in (parts_from i text)) ≡ first_text (keys_in (parts_from j text))
anywhere i j text = alike_keys (parts_from i text) (parts_from j text) (parts_alike i j text)
