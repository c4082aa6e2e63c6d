-- Names lie at the offsets that reading returns.
use Rattle.std.proofs.Common.{◌≡◌, ℕ, suc, ◌+◌, ◌<◌, ◌==◌, Bool, true, false, if◌then◌else◌, List, [], ◌∷◌, Option, None, Some, length}
use Rattle.std.proofs.Common.{take, drop, refl, sym, ap, ◌∙◌, arith, length-drop}
use Rattle.std.specs.List.{AllByRecursion, filter_map, cons_option}
use Rattle.std.specs.Str.{byte, bytes_eq}
use Rattle.std.proofs.lemmas.List.{drop-drop, drop-take}
use Rattle.std.proofs.lemmas.List.Quantifiers.{position-Some}
use Rattle.srt_streamid.specs.Parts.{Piece, joined, parts_from, equals_in, value_behind, value_of}

-- the bytes have the piece's text at the offset of the piece
abbrev pub StandsIn : List ℕ → Piece → Type 0
StandsIn bytes piece = piece.text ≡ take (length piece.text) (drop piece.start bytes)

abbrev StartsAt : ℕ → List Piece → Type 0
StartsAt at [] = ⊥
StartsAt at (part ∷ parts) = part.start ≡ at

next : (bytes bs : List ℕ) (at b : ℕ) → drop at bytes ≡ b ∷ bs → drop (at + 1) bytes ≡ bs
next bytes bs at b e = sym (drop-drop 1 at bytes) ∙ ap (drop 1) e

AllStand : List ℕ → ℕ → List Piece → Type 0
AllStand bytes at parts = StartsAt at parts × AllByRecursion (StandsIn bytes) parts

joined_stand : (bytes bs : List ℕ) (at b : ℕ) (parts : List Piece)
    → drop at bytes ≡ b ∷ bs → AllStand bytes (at + 1) parts → AllStand bytes at (joined at b parts)
unfolding AllStand
joined_stand bytes bs at b [] e h = absurd h.0
joined_stand bytes bs at b (part ∷ parts) e h =
    let n = length part.text in
    let text : part.text ≡ take n bs = h.1.0 ∙ ap (λ k. take n (drop k bytes)) h.0 ∙ ap (take n) (next bytes bs at b e) in
    let first : b ∷ part.text ≡ take (suc n) (drop at bytes) = ap (λ t. b ∷ t) text ∙ ap (take (suc n)) (sym e) in
    (refl, (first, h.1.1))

stand_if : (comma : Bool) (bytes bs : List ℕ) (at b : ℕ) (parts : List Piece) → drop at bytes ≡ b ∷ bs → AllStand bytes (at + 1) parts
    → AllStand bytes at (if comma then record { start = at; text = [] } ∷ parts else joined at b parts)
unfolding AllStand
stand_if true bytes bs at b parts e h = (refl, (refl, h.1))
stand_if false bytes bs at b parts e h = joined_stand bytes bs at b parts e h

parts_stand_at : (bytes bs : List ℕ) (at : ℕ) → drop at bytes ≡ bs → AllStand bytes at (parts_from at bs)
unfolding AllStand
parts_stand_at bytes [] at e = (refl, (refl, tt))
parts_stand_at bytes (b ∷ bs) at e = stand_if (b == byte ",") bytes bs at b (parts_from (at + 1) bs) e (parts_stand_at bytes bs (at + 1) (next bytes bs at b e))

pub parts_stand : (bytes : List ℕ) (at : ℕ) → AllByRecursion (StandsIn bytes) (parts_from at (drop at bytes))
unfolding AllStand
parts_stand bytes at = (parts_stand_at bytes (drop at bytes) at refl).1

cut_stands : (bytes text : List ℕ) (start k : ℕ) → k < length text → text ≡ take (length text) (drop start bytes)
    → drop (k + 1) text ≡ take (length (drop (k + 1) text)) (drop (start + k + 1) bytes)
cut_stands bytes text start k inside e =
    let m = length (drop (k + 1) text) in
    let size : length text ≡ k + 1 + m = omega (arith, length-drop (k + 1) text) in
    let place : start + (k + 1) ≡ start + k + 1 = omega arith in
    ap (drop (k + 1)) e ∙ ap (λ n. drop (k + 1) (take n (drop start bytes))) size ∙ drop-take (k + 1) m (drop start bytes)
    ∙ ap (take m) (drop-drop (k + 1) start bytes) ∙ ap (λ n. take m (drop n bytes)) place

value_stands_if : (key : Bool) (bytes : List ℕ) (part : Piece) (k : ℕ) → k < length part.text → StandsIn bytes part
    → AllByRecursion (StandsIn bytes) (cons_option (if key then Some (record { start = part.start + k + 1; text = drop (k + 1) part.text }) else None) [])
value_stands_if true bytes part k inside e = (cut_stands bytes part.text part.start k inside e, tt)
value_stands_if false bytes part k inside e = tt

value_stands : (key bytes : List ℕ) (part : Piece) (equals : Option ℕ)
    → equals_in part ≡ equals → StandsIn bytes part → AllByRecursion (StandsIn bytes) (cons_option (value_behind key part equals) [])
value_stands key bytes part None e h = tt
value_stands key bytes part (Some k) e h = value_stands_if (bytes_eq (take k part.text) key) bytes part k (position-Some _ part.text k 0 e).0 h

one_stands : (bytes : List ℕ) (value : Option Piece) (values : List Piece) → AllByRecursion (StandsIn bytes) (cons_option value [])
    → AllByRecursion (StandsIn bytes) values
    → AllByRecursion (StandsIn bytes) (cons_option value values)
one_stands bytes None values h rest = rest
one_stands bytes (Some value) values h rest = (h.0, rest)

pub values_stand : (key bytes : List ℕ) (parts : List Piece)
    → AllByRecursion (StandsIn bytes) parts → AllByRecursion (StandsIn bytes) (filter_map (value_of key) parts)
values_stand key bytes [] h = tt
values_stand key bytes (part ∷ parts) h =
    one_stands bytes (value_of key part) _ (value_stands key bytes part (equals_in part) refl h.0) (values_stand key bytes parts h.1)
