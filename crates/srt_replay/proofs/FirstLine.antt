-- The first line of some bytes.
use Rattle.std.proofs.Common.{◌≡◌, ◌≢◌, ℕ, zero, suc, ◌+◌, take, List, [], ◌∷◌, ◌++◌, length, Option, refl, sym, ap, subst, ◌∙◌, ◌<◌, ◌≤◌}
use Rattle.std.proofs.Common.{arith, append_assoc, length-append}
use Rattle.std.specs.List.{AllByRecursion}
use Rattle.std.proofs.lemmas.Bool.{ne_eqb}
use Rattle.std.proofs.lemmas.List.{append-nil}
use Rattle.std.proofs.lemmas.List.Elements.{recursion_from_All, All-append}
use Rattle.srt_replay.specs.Known.{Took, TookLine, TookOne, LongLine, NoLine, BeginsWith, AtEnd, NoLf}
use Rattle.srt_replay.specs.declared.reader.Taken.{Taken}
use Rattle.srt_replay.specs.declared.reader.Taken.TheVariants.{Line, End}
use Rattle.srt_replay.specs.Tape.{lines_of, onto}

abbrev pub IsInside : ℕ → Type 0
IsInside b = b ≢ 10

pub ended : (line ys : List ℕ) → AllByRecursion IsInside line → lines_of (line ++ 10 ∷ ys) ≡ line ∷ lines_of ys
ended [] ys h = refl
ended (b ∷ line) ys h = rw (ne_eqb b 10 h.0, ended line ys h.1) refl

last : (b : ℕ) (line : List ℕ) → AllByRecursion IsInside (b ∷ line) → lines_of (b ∷ line) ≡ (b ∷ line) ∷ []
last b [] h = rw (ne_eqb b 10 h.0) refl
last b (x ∷ line) h = rw (ne_eqb b 10 h.0) (ap (onto b) (last x line h.1))

whole : (line : List ℕ) → 0 < length line → AllByRecursion IsInside line → lines_of line ≡ line ∷ []
whole [] some h = absurd (omega arith)
whole (b ∷ line) some h = last b line h

-- some bytes, and then more
took_both : (old now new : Option (List ℕ)) (bs cs : List ℕ) → Took old now bs → Took now new cs → Took old new (bs ++ cs)
took_both old now new bs cs k t xs e =
    let a = k xs e in
    let b = t a.0 a.1 in
    (b.0, b.1, a.2 ∙ ap (λ (ys : List ℕ). bs ++ ys) b.2 ∙ sym (append_assoc bs cs b.0))

pub took_more : (old now new : Option (List ℕ)) (before bs after : List ℕ) → Took old now before → Took now new bs → after ≡ before ++ bs → Took old new after
took_more old now new before bs after k t e = subst (Took old new) (sym e) (took_both old now new before bs k t)

pub inside_more : (before bs after : List ℕ) → NoLf before → NoLf bs → after ≡ before ++ bs → NoLf after
inside_more before bs after h k e = subst NoLf (sym e) (All-append IsInside before bs h k)

-- a line and its LF were read
pub line_ended : (old now new : Option (List ℕ)) (before bs after : List ℕ)
    → Took old now before → NoLf before → Took now new (bs ++ 10 ∷ []) → NoLf bs → after ≡ before ++ bs → TookLine old new after
line_ended old now new before bs after k h t i e xs is =
    let a = took_both old now new before (bs ++ 10 ∷ []) k t xs is in
    let f : before ++ (bs ++ 10 ∷ []) ++ a.0 ≡ after ++ 10 ∷ a.0 = rw e (simp append_assoc) in
    (a.0, a.1, ap lines_of (a.2 ∙ f) ∙ ended after a.0 (recursion_from_All IsInside after (inside_more before bs after h i e)))

-- the bytes ended after a line
pub line_last : (old now new : Option (List ℕ)) (line : List ℕ)
    → Took old now line → NoLf line → 0 < length line → AtEnd now → Took now new [] → TookLine old new line
line_last old now new line k inside some end t xs e =
    let a = k xs e in
    let b = t a.0 a.1 in
    let none : b.0 ≡ [] = sym b.2 ∙ end a.0 a.1 in (
      b.0,
      b.1,
      ap lines_of (a.2 ∙ ap (λ (ys : List ℕ). line ++ ys) (end a.0 a.1) ∙ append-nil line)
          ∙ whole line some (recursion_from_All IsInside line inside) ∙ ap (λ (ys : List ℕ). line ∷ lines_of ys) (sym none),
    )

-- the bytes ended before a line had begun
pub no_line : (old now : Option (List ℕ)) (line : List ℕ) → Took old now line → length line ≡ 0 → AtEnd now → NoLine old
no_line old now line k none end xs e =
    let a = k xs e in
    ap lines_of (a.2 ∙ ap (λ (ys : List ℕ). line ++ ys) (end a.0 a.1) ∙ append-nil line) ∙ empty line none
  where
    empty : (line : List ℕ) → length line ≡ 0 → lines_of line ≡ []
    empty [] e = refl
    empty (b ∷ line) e = absurd (omega (arith, e))

-- the bytes ended after this many bytes of a line
pub ended_at : (old now new : Option (List ℕ)) (len : ℕ) (buffer : List ℕ) → Took old now (take len buffer) → NoLf (take len buffer)
    → length (take len buffer) ≡ len → len ≤ 4096 → AtEnd now → Took now new [] → (taken : Taken) → (len ≡ 0 → taken ≡ End)
    → (0 < len → taken ≡ Line len)
    → TookOne old new buffer taken
ended_at old now new zero buffer k inside size short end t taken none some =
    subst (TookOne old new buffer) (sym (none refl)) (no_line old now (take 0 buffer) k size end)
ended_at old now new (suc n) buffer k inside size short end t taken none some =
    subst (TookOne old new buffer) (sym (some (omega arith))) (line_last old now new (take (suc n) buffer) k inside (omega (arith, size)) end t, short)

record Begun (bs ys : List ℕ) : Type 0 where
  first : List ℕ
  others : List (List ℕ)
  lines_are : lines_of (bs ++ ys) ≡ first ∷ others
  long : length bs ≤ length first

pieces_of : (b : ℕ) (lines : List (List ℕ)) → (first : List ℕ) × (others : List (List ℕ)) × (onto b lines ≡ first ∷ others) × (1 ≤ length first)
pieces_of b [] = (b ∷ [], [], refl, omega arith)
pieces_of b (line ∷ lines) = (b ∷ line, lines, refl, omega arith)

begun : (b : ℕ) (bs ys : List ℕ) → AllByRecursion IsInside (b ∷ bs) → Begun (b ∷ bs) ys
begun b [] ys h =
    let p = pieces_of b (lines_of ys) in
    record { first = p.0; others = p.1; lines_are = rw (ne_eqb b 10 h.0) p.2; long = p.3 }
begun b (x ∷ bs) ys h =
    let p = begun x bs ys h.1 in
    record { first = b ∷ p.first; others = p.others; lines_are = rw (ne_eqb b 10 h.0) (ap (onto b) p.lines_are); long = omega (arith, p.long) }

-- the bytes begin with more than a line may have
pub long_line : (old now : Option (List ℕ)) (before bs : List ℕ)
    → Took old now before → NoLf before → BeginsWith now bs → NoLf bs → 4096 < length before + length bs → LongLine old
long_line old now before bs k h t i long xs e =
    let a = k xs e in
    let b = t a.0 a.1 in
    let p = of (before ++ bs) b.0 (omega (arith, length-append before bs, long))
    (recursion_from_All IsInside (before ++ bs) (All-append IsInside before bs h i)) in (
      p.first,
      p.others,
      ap lines_of (a.2 ∙ ap (λ (ys : List ℕ). before ++ ys) b.1 ∙ sym (append_assoc before bs b.0)) ∙ p.lines_are,
      omega (arith, p.long, length-append before bs, long),
    )
  where
    of : (bs ys : List ℕ) → 0 < length bs → AllByRecursion IsInside bs → Begun bs ys
    of [] ys some h = absurd (omega arith)
    of (b ∷ bs) ys some h = begun b bs ys h
