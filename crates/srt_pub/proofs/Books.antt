-- The book of the Full ACKs in the notes.
use Rattle.std.proofs.Common.{◌≡◌, ℕ, suc, zero, ◌+◌, ◌<◌, Bool, true, false, cond, not, if◌then◌else◌, ◌||◌, Option, Some, None, List, []}
use Rattle.std.proofs.Common.{◌∷◌, length, map, take, refl, sym, ap, ◌∙◌, arith}
use Rattle.std.specs.Prelude.{◌==◌, slice_get, option_map}
use Rattle.std.specs.List.{find, position, position_or_len}
use Rattle.std.proofs.lemmas.List.{length-map, take-map}
use Rattle.std.proofs.lemmas.List.Folds.{find_at}
use Rattle.std.proofs.lemmas.Option.{slice_get-get_or}
use Rattle.std.proofs.lemmas.Bool.Decides.{nat_tests}
use Rattle.srt_timing.specs.Book as book
use Rattle.srt_timing.proofs.Confirmed.{not_found}
use Rattle.srt_pub.specs.Publishing.{Full, Note, Arrived, Sent, Confirmed, Report, FullAck, LightAck, fulls, is_confirmed, answers}
use Rattle.srt_pub.specs.Publishing.{confirmed_by, confirmed_notes, sample_of}
use Rattle.srt_pub.specs.Kept.{noted_of, book_of}
use Rattle.srt_pub.specs.declared.region.Region.{Region}
use Rattle.srt_recvbuf.specs.declared.buffer.Put.{Put}
use Rattle.srt_packet.specs.declared.writing.Rates.{Rates}

pub book_arrived : (time : ℕ) (region : Region) (put : Put) (notes : List Note) → book_of (Arrived time region put ∷ notes) ≡ book_of notes
unfolding book_of
book_arrived time region put notes = refl

-- a report that isn't a Full ACK
pub book_sent : (time : ℕ) (r : Report) (notes : List Note) → fulls (Sent time r ∷ notes) ≡ fulls notes → book_of (Sent time r ∷ notes) ≡ book_of notes
unfolding book_of
book_sent time r notes e = ap (map (noted_of notes)) e

pub book_light : (time point : ℕ) (notes : List Note) → book_of (Sent time (LightAck point) ∷ notes) ≡ book_of notes
unfolding book_of
book_light time point notes = refl

pub book_full : (time point rtt variance room : ℕ) (rates : Rates) (notes : List Note) → is_confirmed notes (length (fulls notes)) ≡ false
    → book_of (Sent time (FullAck (length (fulls notes)) point rtt variance room rates) ∷ notes) ≡ book.noted time (book_of notes)
unfolding book_of
book_full time point rtt variance room rates notes none =
    let n = length-map (fulls notes) (noted_of notes) in
    ap (λ (b : Bool). record { index = length (fulls notes); moment = time; is_confirmed = b } ∷ map (noted_of notes) (fulls notes)) none
    ∙ ap (λ (k : ℕ). record { index = k; moment = time; is_confirmed = false } ∷ map (noted_of notes) (fulls notes)) (sym n)

pub length_book : (notes : List Note) → length (book_of notes) ≡ length (fulls notes)
unfolding book_of
length_book notes = length-map (fulls notes) (noted_of notes)

on_cond : (b : Bool) (g : Full → book.Noted) (x : Full) (o : Option book.Noted) (q : Option Full)
    → o ≡ option_map g q → cond b (Some (g x)) o ≡ option_map g (cond b (Some x) q)
on_cond true g x o q e = refl
on_cond false g x o q e = e

find_mapped : (g : Full → book.Noted) (p : book.Noted → Bool) (xs : List Full) → find p (map g xs) ≡ option_map g (find (λ x. p (g x)) xs)
find_mapped g p [] = refl
find_mapped g p (x ∷ xs) = on_cond (p (g x)) g x _ _ (find_mapped g p xs)

place_mapped : (g : Full → book.Noted) (p : book.Noted → Bool) (xs : List Full) → position_or_len p (map g xs) ≡ position_or_len (λ x. p (g x)) xs
place_mapped g p [] = refl
place_mapped g p (x ∷ xs) = on_step (p (g x)) _ _ (place_mapped g p xs)
  where
    on_step : (b : Bool) (m n : ℕ) → m ≡ n → cond (not b) (1 + m) 0 ≡ cond (not b) (1 + n) 0
    on_step true m n e = refl
    on_step false m n e = ap (λ k. 1 + k) e

-- a number confirms the same Full ACK in the book and in the notes
pub same_waiting : (number : ℕ) (notes : List Note) → book.waiting number (book_of notes) ≡ option_map (noted_of notes) (confirmed_by number notes)
unfolding book_of confirmed_by
same_waiting number notes =
    ap (find (book.is_waiting number)) (take-map (noted_of notes) 64 (fulls notes))
    ∙ find_mapped (noted_of notes) (book.is_waiting number) (take 64 (fulls notes))

no_option : (g : Full → book.Noted) (o : Option Full) → None ≡ option_map g o → o ≡ None
no_option g None e = refl
no_option g (Some f) e = cc

-- a number without a place in the book confirms nothing
pub confirms_none : (number : ℕ) (notes : List Note) → book.waiting_place number (book_of notes) ≡ None → confirmed_by number notes ≡ None
confirms_none number notes e = no_option (noted_of notes) (confirmed_by number notes) (sym (not_found (book_of notes) number e) ∙ same_waiting number notes)

slice_get_taken : (n : ℕ) (xs : List Full) (d : ℕ) (f : Full) → slice_get (take n xs) d ≡ Some f → (d < n) × (slice_get xs d ≡ Some f)
slice_get_taken zero xs d f e = cc
slice_get_taken (suc n) [] d f e = cc
slice_get_taken (suc n) (x ∷ xs) zero f e = (omega arith, e)
slice_get_taken (suc n) (x ∷ xs) (suc d) f e = let k = slice_get_taken n xs d f e in (omega (arith, k.0), k.1)

at_place : (p : book.Noted → Bool) (xs : List book.Noted) (d : ℕ) → position p xs ≡ Some d → (d < length xs) × (position_or_len p xs ≡ d)
at_place p xs d e = grind (arith, nat_tests)

pub record Confirms (number d : ℕ) (notes : List Note) : Type 0 where
  pub full : Full
  pub it_is : confirmed_by number notes ≡ Some full
  pub stands : slice_get (fulls notes) d ≡ Some full
  pub last : d < 64

found_is : (number d : ℕ) (notes : List Note) → confirmed_by number notes ≡ slice_get (take 64 (fulls notes)) d → (o : Option Full)
    → slice_get (take 64 (fulls notes)) d ≡ o → d < length (take 64 (fulls notes))
    → Confirms number d notes
found_is number d notes e None is lt = let some = slice_get-get_or (take 64 (fulls notes)) d (record { index = 0; time = 0; point = 0; available = 0 }) lt in cc
found_is number d notes e (Some f) is lt = let k = slice_get_taken 64 (fulls notes) d f is in record { full = f; it_is = e ∙ is; stands = k.1; last = k.0 }

pub confirms_some : (number d : ℕ) (notes : List Note) → book.waiting_place number (book_of notes) ≡ Some d → Confirms number d notes
unfolding book_of confirmed_by
confirms_some number d notes e =
    let g = noted_of notes in
    let xs = take 64 (fulls notes) in
    let t = take-map g 64 (fulls notes) in
    let at = at_place (book.is_waiting number) (take 64 (book_of notes)) d e in
    let same : position_or_len (answers number notes) xs ≡ d =
    sym (place_mapped g (book.is_waiting number) xs) ∙ ap (position_or_len (book.is_waiting number)) (sym t) ∙ at.1 in
    let len : length (take 64 (book_of notes)) ≡ length xs = ap length t ∙ length-map xs g in
    found_is number d notes (find_at (answers number notes) xs ∙ ap (slice_get xs) same) (slice_get xs d) refl (omega (arith, at.0, len))

both : (a b : ℕ) (c : Bool) → (if b == a then true else c) ≡ ((a == b) || c)
both a b c = grind (arith, nat_tests)

marked_all : (notes : List Note) (time stamp : ℕ) (full : Full) (sample : ℕ) (fs : List Full)
    → map (book.marked full.index) (map (noted_of notes) fs) ≡ map (noted_of (Confirmed time stamp full sample ∷ notes)) fs
marked_all notes time stamp full sample [] = refl
marked_all notes time stamp full sample (f ∷ fs) =
    ap
    (λ (b : Bool). record { index = f.index; moment = f.time; is_confirmed = b } ∷ map (book.marked full.index) (map (noted_of notes) fs))
    (both full.index f.index (is_confirmed notes f.index))
    ∙ ap (λ (ns : List book.Noted). noted_of (Confirmed time stamp full sample ∷ notes) f ∷ ns) (marked_all notes time stamp full sample fs)

by_option : (time stamp : ℕ) (notes : List Note) (o : Option Full)
    → book.with_marked (option_map (noted_of notes) o) (book_of notes) ≡ book_of (confirmed_notes time stamp o notes)
unfolding book_of
by_option time stamp notes None = refl
by_option time stamp notes (Some full) = marked_all notes time stamp full (sample_of time full) (fulls notes)

pub book_confirmed : (number time stamp : ℕ) (notes : List Note)
    → book.confirmed number (book_of notes) ≡ book_of (confirmed_notes time stamp (confirmed_by number notes) notes)
book_confirmed number time stamp notes =
    ap (λ (o : Option book.Noted). book.with_marked o (book_of notes)) (same_waiting number notes)
    ∙ by_option time stamp notes (confirmed_by number notes)

sample_option : (time : ℕ) (notes : List Note) (o : Option Full)
    → option_map (book.sample_at time) (option_map (noted_of notes) o) ≡ option_map (sample_of time) o
sample_option time notes None = refl
sample_option time notes (Some full) = refl

pub same_sample : (number time : ℕ) (notes : List Note) → book.sample number time (book_of notes) ≡ option_map (sample_of time) (confirmed_by number notes)
same_sample number time notes = ap (option_map (book.sample_at time)) (same_waiting number notes) ∙ sample_option time notes (confirmed_by number notes)
