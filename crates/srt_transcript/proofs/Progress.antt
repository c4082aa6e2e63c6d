-- A transcript goes on and ends.
use Rattle.std.proofs.Common.{◌≡◌, ℕ, zero, suc, ◌+◌, ◌≤◌, Bool, true, false, List, [], ◌∷◌, ◌++◌, length, take, drop, Option, Some}
use Rattle.std.proofs.Common.{Result, Ok, Err, refl, sym, ap, subst, ◌∙◌, append_assoc, arith, length-append}
use Rattle.std.proofs.Common.{inl, inr}
use Rattle.std.specs.Io.KnownBytes.{Keeps}
use Rattle.std.proofs.lemmas.List.{append-nil, take-append-drop}
use Rattle.std.proofs.lemmas.List.Elements.{All-push}
use Rattle.srt_replay.specs.Tape.{lines_of}
use Rattle.srt_replay.specs.Known.{NoLf, Wrote, NoLine}
use Rattle.srt_replay.proofs.Writing.{wrote_same}
use Rattle.srt_transcript.specs.declared.transcribing.TranscriptFault.{TranscriptFault}
use Rattle.srt_transcript.specs.declared.transcribing.TranscriptFault.TheVariants.{NoEvent, Output, Read, Write}
use Rattle.srt_transcript.specs.Transcript.{is_event, no_event_from, line_text, answer_text, transcript_from}
use Rattle.srt_transcript.specs.Transcript.{IsTranscript, WroteTranscript, WroteLines, WrotePrefix, IsShare, IsNoOutput, HasTranscribed}
use Rattle.srt_transcript.specs.declared.transcribing.Explained.{Explained}
use Rattle.srt_transcript.specs.declared.transcribing.Explained.TheVariants.{Event, Other, End}
use Rattle.srt_transcript.specs.inside.Steps.{WroteWords, WrotePart, NoEventAt, TooMuchAt, TookEvent, TookAnswer, LineExplained, AnswerExplained}
use Rattle.srt_transcript.specs.inside.Rounds.{AnswersTaken, EventsTaken, HasStopped, Written, LineTurned, AnswerTurned}
use Rattle.srt_transcript.proofs.Numbers.{fault_after, fault_here}
use Rattle.srt_transcript.proofs.Snoc.{with_line, with_answer}

-- bytes that were written one after the other
wrote_both : (held now holds : Option (List ℕ)) (bs cs both : List ℕ) → Wrote held now bs → Wrote now holds cs → both ≡ bs ++ cs → Wrote held holds both
wrote_both held now holds bs cs both w v e ws is =
    v (ws ++ bs) (w ws is) ∙ ap (λ (xs : List ℕ). Some xs) (append_assoc ws bs cs ∙ ap (λ (xs : List ℕ). ws ++ xs) (sym e))

-- nothing was written
wrote_still : (held now holds : Option (List ℕ)) (bs : List ℕ) → Wrote held now bs → holds ≡ now → Wrote held holds bs
wrote_still held now holds bs w e = subst (λ (o : Option (List ℕ)). Wrote held o bs) (sym e) w

-- no more answers were explained than were due
answers_due : (output : List ℕ) (left : Option (List ℕ)) (due count : ℕ) (has_ended : Bool) → AnswersTaken output left due count has_ended → count ≤ due
answers_due output left due count false h = omega (arith, h.2)
answers_due output left due count true h = h.0

pub started : (tape output : List ℕ) (held left output_left : Option (List ℕ)) → left ≡ Some tape → output_left ≡ Some output
    → Written output held output_left held 0 0 false (EventsTaken tape left 0 false)
started tape output held left output_left t o =
    record {
      words = [];
      replies = [];
      line_words = λ i d low. absurd (omega (arith, low));
      answer_words = λ i d low. absurd (omega (arith, low));
      wrote = λ ws e. e ∙ ap (λ (xs : List ℕ). Some xs) (sym (append-nil ws));
      within = omega arith;
      read = (tape, t, refl, omega arith, refl);
      answered = (output, o, refl, refl, omega arith);
    }

-- the lines so far
pub so_far : (output : List ℕ) (held output_left now holds : Option (List ℕ)) (lines answers : ℕ) (has_ended : Bool) (Tape : ℕ → Type 0)
    → Written output held output_left now lines answers has_ended Tape → holds ≡ now → WroteLines held holds
so_far output held output_left now holds lines answers has_ended Tape h e =
    record {
      lines = length h.words;
      answers = length h.replies;
      wrote = record {
        text = transcript_from 1 h.words h.replies;
        wrote = wrote_still held now holds (transcript_from 1 h.words h.replies) h.wrote e;
        explains = record {
          words = h.words;
          replies = h.replies;
          each_line = refl;
          each_answer = refl;
          line_words = h.line_words;
          answer_words = h.answer_words;
          text_is = refl;
        };
      };
    }

-- what is written after the tape's next line
more_words : (output : List ℕ) (held output_left now holds : Option (List ℕ)) (before number : ℕ) (has_ended : Bool) (Old New : ℕ → Type 0)
    → Written output held output_left now before before has_ended Old → number ≡ before + 1
    → (words : List ℕ) → NoLf words → Wrote now holds (line_text number words)
    → ((count : ℕ) → Old count → count ≡ before) → ((count : ℕ) → Old count → New (count + 1))
    → Written output held output_left holds number before has_ended New
more_words output held output_left now holds before number has_ended Old New h is words inside wrote at next =
    let due : length h.replies ≤ before = answers_due output output_left before (length h.replies) has_ended h.answered in
    let count : length h.words ≡ before = at (length h.words) h.read in
    let grown : length (h.words ++ words ∷ []) ≡ length h.words + 1 = length-append h.words (words ∷ []) in
    record {
      words = h.words ++ words ∷ [];
      replies = h.replies;
      line_words = All-push NoLf h.words words h.line_words inside;
      answer_words = h.answer_words;
      wrote = wrote_both held now holds (transcript_from 1 h.words h.replies) (line_text number words)
          (transcript_from 1 (h.words ++ words ∷ []) h.replies) h.wrote wrote
          (with_line 1 number h.words h.replies words (omega (arith, due, count)) (omega (arith, is, count)));
      within = omega (arith, grown, count, is);
      read = subst New (sym grown) (next (length h.words) h.read);
      answered = h.answered;
    }

events_at : (tape : List ℕ) (left : Option (List ℕ)) (before count : ℕ) → EventsTaken tape left before false count → count ≡ before
events_at tape left before count t = t.2

-- the tape's next line is an event
next_event : (tape : List ℕ) (left left' : Option (List ℕ)) (before number : ℕ) → number ≡ before + 1 → TookEvent left left' number
    → (count : ℕ) → EventsTaken tape left before false count → EventsTaken tape left' number false (count + 1)
next_event tape left left' before number is event count t =
    let p = event.took t.0 t.1 in
    let at : count + 1 ≡ number = omega (arith, t.2, is) in
    let size : length (lines_of t.0) ≡ suc (length (lines_of p.0)) = ap length p.2 in (
      p.0,
      p.1,
      at,
      omega (arith, t.3, size),
      t.4 ∙ ap (no_event_from (count + 1)) p.2
          ∙ fault_after (count + 1) event.line (lines_of p.0) (subst (λ (n : ℕ). is_event n event.line ≡ true) (sym at) event.event_is),
    )

pub with_event : (tape output : List ℕ) (held left left' output_left now holds : Option (List ℕ)) (before number : ℕ) (has_ended : Bool)
    → number ≡ before + 1 → Written output held output_left now before before has_ended (EventsTaken tape left before false)
    → TookEvent left left' number → WroteWords (line_text number) now holds
    → Written output held output_left holds number before has_ended (EventsTaken tape left' number false)
with_event tape output held left left' output_left now holds before number has_ended is h event wrote =
    more_words output held output_left now holds before number has_ended (EventsTaken tape left before false) (EventsTaken tape left' number false) h is
    wrote.0 wrote.1 wrote.2 (events_at tape left before) (next_event tape left left' before number is event)

-- the tape's next line isn't an event
next_other : (tape : List ℕ) (left : Option (List ℕ)) (before number : ℕ) → number ≡ before + 1 → NoEventAt left number
    → (count : ℕ) → EventsTaken tape left before false count → HasStopped tape number (count + 1)
next_other tape left before number is other count t =
    let p = other t.0 t.1 in
    let at : count + 1 ≡ number = omega (arith, t.2, is) in (
      at,
      t.4 ∙ ap (no_event_from (count + 1)) p.2
          ∙ fault_here (count + 1) p.0 p.1 (subst (λ (n : ℕ). is_event n p.0 ≡ false) (sym at) p.3)
          ∙ ap (λ (n : ℕ). Some n) at,
    )

pub with_other : (tape output : List ℕ) (held left output_left now holds : Option (List ℕ)) (before number : ℕ) (has_ended : Bool)
    → number ≡ before + 1 → Written output held output_left now before before has_ended (EventsTaken tape left before false)
    → NoEventAt left number → WroteWords (line_text number) now holds
    → Written output held output_left holds number before has_ended (HasStopped tape number)
with_other tape output held left output_left now holds before number has_ended is h other wrote =
    more_words output held output_left now holds before number has_ended (EventsTaken tape left before false) (HasStopped tape number) h is
    wrote.0 wrote.1 wrote.2 (events_at tape left before) (next_other tape left before number is other)

-- nothing is written of the tape
same_words : (output : List ℕ) (held output_left now holds : Option (List ℕ)) (before number : ℕ) (has_ended : Bool) (Old New : ℕ → Type 0)
    → Written output held output_left now before before has_ended Old → number ≡ before + 1 → holds ≡ now
    → ((count : ℕ) → Old count → New count) → Written output held output_left holds number before has_ended New
same_words output held output_left now holds before number has_ended Old New h is e next =
    record {
      words = h.words;
      replies = h.replies;
      line_words = h.line_words;
      answer_words = h.answer_words;
      wrote = wrote_still held now holds (transcript_from 1 h.words h.replies) h.wrote e;
      within = omega (arith, h.within, is);
      read = next (length h.words) h.read;
      answered = h.answered;
    }

next_end : (tape : List ℕ) (left left' : Option (List ℕ)) (before number : ℕ) → number ≡ before + 1 → NoLine left
    → (count : ℕ) → EventsTaken tape left before false count → EventsTaken tape left' number true count
next_end tape left left' before number is none count t =
    let empty : lines_of t.0 ≡ [] = none t.0 t.1 in
    let size : length (lines_of t.0) ≡ 0 = ap length empty in
    (omega (arith, t.2, is), omega (arith, t.3, size), t.4 ∙ ap (no_event_from (count + 1)) empty)

pub with_end : (tape output : List ℕ) (held left left' output_left now holds : Option (List ℕ)) (before number : ℕ) (has_ended : Bool)
    → number ≡ before + 1 → Written output held output_left now before before has_ended (EventsTaken tape left before false)
    → NoLine left → holds ≡ now → Written output held output_left holds number before has_ended (EventsTaken tape left' number true)
with_end tape output held left left' output_left now holds before number has_ended is h none e =
    same_words output held output_left now holds before number has_ended (EventsTaken tape left before false) (EventsTaken tape left' number true) h is e
    (next_end tape left left' before number is none)

still_ended : (tape : List ℕ) (left left' : Option (List ℕ)) (before number : ℕ) → number ≡ before + 1
    → (count : ℕ) → EventsTaken tape left before true count → EventsTaken tape left' number true count
still_ended tape left left' before number is count t = (omega (arith, t.0, is), t.1, t.2)

-- the tape has ended before
pub after_end : (tape output : List ℕ) (held left left' output_left now : Option (List ℕ)) (before number : ℕ) (has_ended : Bool)
    → number ≡ before + 1 → Written output held output_left now before before has_ended (EventsTaken tape left before true)
    → Written output held output_left now number before has_ended (EventsTaken tape left' number true)
after_end tape output held left left' output_left now before number has_ended is h =
    same_words output held output_left now now before number has_ended (EventsTaken tape left before true) (EventsTaken tape left' number true) h is refl
    (still_ended tape left left' before number is)

-- a part of the next line was written
pub part_of_line : (output : List ℕ) (held output_left now holds : Option (List ℕ)) (before number : ℕ) (has_ended : Bool) (Tape : ℕ → Type 0)
    → number ≡ before + 1 → Written output held output_left now before before has_ended Tape → ((count : ℕ) → Tape count → count ≡ before)
    → WrotePart (line_text number) now holds → WrotePrefix held holds
part_of_line output held output_left now holds before number has_ended Tape is h at part =
    let due : length h.replies ≤ before = answers_due output output_left before (length h.replies) has_ended h.answered in
    let count : length h.words ≡ before = at (length h.words) h.read in
    let done = transcript_from 1 h.words h.replies in
    let text = line_text number part.0 in
    record {
      text = done ++ take part.1 text;
      more = drop part.1 text;
      lines = length (h.words ++ part.0 ∷ []);
      answers = length h.replies;
      wrote = wrote_both held now holds done (take part.1 text) (done ++ take part.1 text) h.wrote part.3 refl;
      explains = record {
        words = h.words ++ part.0 ∷ [];
        replies = h.replies;
        each_line = refl;
        each_answer = refl;
        line_words = All-push NoLf h.words part.0 h.line_words part.2;
        answer_words = h.answer_words;
        text_is = append_assoc done (take part.1 text) (drop part.1 text) ∙ ap (λ (xs : List ℕ). done ++ xs) (take-append-drop part.1 text)
            ∙ sym (with_line 1 number h.words h.replies part.0 (omega (arith, due, count)) (omega (arith, is, count)));
      };
    }

pub part_of_event : (tape output : List ℕ) (held left output_left now holds : Option (List ℕ)) (before number : ℕ) (has_ended : Bool)
    → number ≡ before + 1 → Written output held output_left now before before has_ended (EventsTaken tape left before false)
    → WrotePart (line_text number) now holds → WrotePrefix held holds
part_of_event tape output held left output_left now holds before number has_ended is h part =
    part_of_line output held output_left now holds before number has_ended (EventsTaken tape left before false) is h (events_at tape left before) part

-- one item more is dropped
dropped_one : (xs : List (List ℕ)) (n : ℕ) (x : List ℕ) (ys : List (List ℕ)) → drop n xs ≡ x ∷ ys → drop (suc n) xs ≡ ys
dropped_one [] zero x ys e = absurd cc
dropped_one [] (suc n) x ys e = absurd cc
dropped_one (z ∷ xs) zero x ys e = cc
dropped_one (z ∷ xs) (suc n) x ys e = dropped_one xs n x ys e

dropped : (xs : List (List ℕ)) (n m : ℕ) (x : List ℕ) (ys : List (List ℕ)) → m ≡ suc n → drop n xs ≡ x ∷ ys → drop m xs ≡ ys
dropped xs n m x ys is e = subst (λ (k : ℕ). drop k xs ≡ ys) (sym is) (dropped_one xs n x ys e)

-- what is written after the output's next line
pub with_reply : (output : List ℕ) (held left left' now holds : Option (List ℕ)) (before number : ℕ) (Tape : ℕ → Type 0) → number ≡ before + 1
    → Written output held left now number before false Tape → TookAnswer left left' → WroteWords answer_text now holds
    → Written output held left' holds number number false Tape
with_reply output held left left' now holds before number Tape is h answer wrote =
    let o = h.answered in
    let p = answer.took o.0 o.1 in
    let count = length h.replies in
    let grown : length (h.replies ++ wrote.0 ∷ []) ≡ count + 1 = length-append h.replies (wrote.0 ∷ []) in
    let size : length (lines_of o.0) ≡ suc (length (lines_of p.0)) = ap length p.2 in
    record {
      words = h.words;
      replies = h.replies ++ wrote.0 ∷ [];
      line_words = h.line_words;
      answer_words = All-push NoLf h.replies wrote.0 h.answer_words wrote.1;
      wrote = wrote_both held now holds (transcript_from 1 h.words h.replies) (answer_text wrote.0)
          (transcript_from 1 h.words (h.replies ++ wrote.0 ∷ [])) h.wrote wrote.2
          (with_answer 1 h.words h.replies wrote.0 (omega (arith, h.within, o.2, is)));
      within = h.within;
      read = h.read;
      answered = (
        p.0,
        p.1,
        omega (arith, grown, o.2, is),
        dropped (lines_of output) count (length (h.replies ++ wrote.0 ∷ [])) answer.line (lines_of p.0) (omega (arith, grown)) (o.3 ∙ p.2),
        omega (arith, o.4, size, grown),
      );
    }

-- the output ends
pub with_last : (output : List ℕ) (held left left' now holds : Option (List ℕ)) (before number : ℕ) (Tape : ℕ → Type 0) → number ≡ before + 1
    → Written output held left now number before false Tape → NoLine left → holds ≡ now
    → Written output held left' holds number number true Tape
with_last output held left left' now holds before number Tape is h none e =
    let o = h.answered in
    let size : length (lines_of o.0) ≡ 0 = ap length (none o.0 o.1) in
    record {
      words = h.words;
      replies = h.replies;
      line_words = h.line_words;
      answer_words = h.answer_words;
      wrote = wrote_still held now holds (transcript_from 1 h.words h.replies) h.wrote e;
      within = h.within;
      read = h.read;
      answered = (omega (arith, o.2, is), omega (arith, o.4, size));
    }

-- it has ended before
pub after_last : (output : List ℕ) (held left left' now : Option (List ℕ)) (before number : ℕ) (Tape : ℕ → Type 0) → number ≡ before + 1
    → Written output held left now number before true Tape → Written output held left' now number number true Tape
after_last output held left left' now before number Tape is h =
    record {
      words = h.words;
      replies = h.replies;
      line_words = h.line_words;
      answer_words = h.answer_words;
      wrote = h.wrote;
      within = h.within;
      read = h.read;
      answered = (omega (arith, h.answered.0, is), h.answered.1);
    }

-- a part of an output's line was written
pub part_of_answer : (output : List ℕ) (held left now holds : Option (List ℕ)) (before number : ℕ) (Tape : ℕ → Type 0) → number ≡ before + 1
    → Written output held left now number before false Tape → WrotePart answer_text now holds → WrotePrefix held holds
part_of_answer output held left now holds before number Tape is h part =
    let done = transcript_from 1 h.words h.replies in
    let text = answer_text part.0 in
    record {
      text = done ++ take part.1 text;
      more = drop part.1 text;
      lines = length h.words;
      answers = length (h.replies ++ part.0 ∷ []);
      wrote = wrote_both held now holds done (take part.1 text) (done ++ take part.1 text) h.wrote part.3 refl;
      explains = record {
        words = h.words;
        replies = h.replies ++ part.0 ∷ [];
        each_line = refl;
        each_answer = refl;
        line_words = h.line_words;
        answer_words = All-push NoLf h.replies part.0 h.answer_words part.2;
        text_is = append_assoc done (take part.1 text) (drop part.1 text) ∙ ap (λ (xs : List ℕ). done ++ xs) (take-append-drop part.1 text)
            ∙ sym (with_answer 1 h.words h.replies part.0 (omega (arith, h.within, h.answered.2, is)));
      };
    }

-- the output has more than a replay prints
pub too_much : (output : List ℕ) (held left now : Option (List ℕ)) (before number : ℕ) (Tape : ℕ → Type 0) → number ≡ before + 1
    → Written output held left now number before false Tape → TooMuchAt left number → IsNoOutput output
too_much output held left now before number Tape is h much =
    let o = h.answered in
    let p = much o.0 o.1 in
    record {
      before = length h.replies;
      line = p.0;
      lines = p.1;
      line_is = o.3 ∙ p.2;
      too_much = elim p.3 [ inl long ↦ inl long | inr large ↦ inr (omega (arith, large, o.2, is)) ];
    }

-- the transcript as far as it goes
pub all_of : (output : List ℕ) (held output_left now : Option (List ℕ)) (lines answers : ℕ) (has_ended : Bool) (Tape : ℕ → Type 0)
    → (h : Written output held output_left now lines answers has_ended Tape) → (all shares : ℕ) → length h.words ≡ all → length h.replies ≡ shares
    → WroteTranscript all shares held now
all_of output held output_left now lines answers has_ended Tape h all shares e f =
    record {
      text = transcript_from 1 h.words h.replies;
      wrote = h.wrote;
      explains = record {
        words = h.words;
        replies = h.replies;
        each_line = e;
        each_answer = f;
        line_words = h.line_words;
        answer_words = h.answer_words;
        text_is = refl;
      };
    }

-- both have ended
done : (tape output : List ℕ) (held left output_left now : Option (List ℕ)) (lines : ℕ)
    → Written output held output_left now lines lines true (EventsTaken tape left lines true)
    → HasTranscribed tape output held now (Ok tt)
done tape output held left output_left now lines h = (
  all_of output held output_left now lines lines true (EventsTaken tape left lines true) h (length (lines_of tape)) (length (lines_of output))
      (sym h.read.1) (sym h.answered.1),
  h.read.2,
)

pub done_at : (tape output : List ℕ) (held left output_left now : Option (List ℕ)) (lines : ℕ) (tape_ended output_ended : Bool)
    → tape_ended ≡ true → output_ended ≡ true → Written output held output_left now lines lines output_ended (EventsTaken tape left lines tape_ended)
    → HasTranscribed tape output held now (Ok tt)
done_at tape output held left output_left now lines true true e f h = done tape output held left output_left now lines h
done_at tape output held left output_left now lines true false e f h = absurd cc
done_at tape output held left output_left now lines false output_ended e f h = absurd cc

share : (output : List ℕ) (left : Option (List ℕ)) (lines count : ℕ) (has_ended : Bool) → AnswersTaken output left lines count has_ended
    → IsShare output lines count
share output left lines count false o = inr (o.2, omega (arith, o.4))
share output left lines count true o = inl (sym o.1, o.0)

-- a line of the tape isn't an event
pub stopped : (tape output : List ℕ) (held output_left now : Option (List ℕ)) (number : ℕ) (has_ended : Bool)
    → Written output held output_left now number number has_ended (HasStopped tape number)
    → HasTranscribed tape output held now (Err (NoEvent number))
stopped tape output held output_left now number has_ended h = (
  length h.replies,
  share output output_left number (length h.replies) has_ended h.answered,
  all_of output held output_left now number number has_ended (HasStopped tape number) h number (length h.replies) h.read.0 refl,
  h.read.1,
)

-- the flush keeps what was written
kept : (lines answers : ℕ) (held now holds : Option (List ℕ)) → WroteTranscript lines answers held now → Keeps now holds
    → WroteTranscript lines answers held holds
kept lines answers held now holds w k =
    record { text = w.text; wrote = wrote_same held now holds w.text w.wrote k; explains = w.explains }

kept_lines : (held now holds : Option (List ℕ)) → WroteLines held now → Keeps now holds → WroteLines held holds
kept_lines held now holds w k =
    record { lines = w.lines; answers = w.answers; wrote = kept w.lines w.answers held now holds w.wrote k }

pub flushed : (tape output : List ℕ) (held now holds : Option (List ℕ)) (result : Result (Unit {0}) TranscriptFault)
    → HasTranscribed tape output held now result → Keeps now holds → HasTranscribed tape output held holds result
flushed tape output held now holds (Ok u) h k = (kept (length (lines_of tape)) (length (lines_of output)) held now holds h.0 k, h.1)
flushed tape output held now holds (Err (NoEvent line)) h k = (h.0, h.1, kept line h.0 held now holds h.2 k, h.3)
flushed tape output held now holds (Err Output) h k = (kept_lines held now holds h.0 k, h.1)
flushed tape output held now holds (Err Read) h k = kept_lines held now holds h k
flushed tape output held now holds (Err Write) h k =
    record {
      text = h.text;
      more = h.more;
      lines = h.lines;
      answers = h.answers;
      wrote = wrote_same held now holds h.text h.wrote k;
      explains = h.explains;
    }

whole : (lines answers : ℕ) (held now : Option (List ℕ)) → WroteTranscript lines answers held now → WrotePrefix held now
whole lines answers held now w =
    record {
      text = w.text;
      more = [];
      lines = lines;
      answers = answers;
      wrote = w.wrote;
      explains = subst (IsTranscript lines answers) (sym (append-nil w.text)) w.explains;
    }

-- whatever was written is a prefix
pub is_part : (tape output : List ℕ) (held now : Option (List ℕ)) (result : Result (Unit {0}) TranscriptFault)
    → HasTranscribed tape output held now result → WrotePrefix held now
is_part tape output held now (Ok u) h = whole (length (lines_of tape)) (length (lines_of output)) held now h.0
is_part tape output held now (Err (NoEvent line)) h = whole line h.0 held now h.2
is_part tape output held now (Err Output) h = whole h.0.lines h.0.answers held now h.0.wrote
is_part tape output held now (Err Read) h = whole h.lines h.answers held now h.wrote
is_part tape output held now (Err Write) h = h

-- the result of a tape's line
pub line_turned : (tape output : List ℕ) (held left left' output_left now holds : Option (List ℕ)) (before number : ℕ) (has_ended : Bool)
    → number ≡ before + 1 → Written output held output_left now before before has_ended (EventsTaken tape left before false)
    → (result : Result Explained TranscriptFault) → LineExplained number left left' now holds result
    → LineTurned tape output held left' output_left holds before number has_ended result
line_turned tape output held left left' output_left now holds before number has_ended is w (Ok Event) h =
    with_event tape output held left left' output_left now holds before number has_ended is w h.0 h.1
line_turned tape output held left left' output_left now holds before number has_ended is w (Ok Other) h =
    with_other tape output held left output_left now holds before number has_ended is w h.0 h.1
line_turned tape output held left left' output_left now holds before number has_ended is w (Ok End) h =
    with_end tape output held left left' output_left now holds before number has_ended is w h.0 h.1
line_turned tape output held left left' output_left now holds before number has_ended is w (Err (NoEvent n)) h = h
line_turned tape output held left left' output_left now holds before number has_ended is w (Err Output) h = h
line_turned tape output held left left' output_left now holds before number has_ended is w (Err Read) h =
    so_far output held output_left now holds before before has_ended (EventsTaken tape left before false) w h
line_turned tape output held left left' output_left now holds before number has_ended is w (Err Write) h =
    part_of_event tape output held left output_left now holds before number has_ended is w h

-- and of an output's
pub answer_turned : (output : List ℕ) (held left left' now holds : Option (List ℕ)) (before number : ℕ) (Tape : ℕ → Type 0) → number ≡ before + 1
    → Written output held left now number before false Tape
    → (result : Result Bool TranscriptFault) → AnswerExplained number left left' now holds result
    → AnswerTurned output held left' holds number Tape result
answer_turned output held left left' now holds before number Tape is w (Ok false) h =
    with_reply output held left left' now holds before number Tape is w h.0 h.1
answer_turned output held left left' now holds before number Tape is w (Ok true) h =
    with_last output held left left' now holds before number Tape is w h.0 h.1
answer_turned output held left left' now holds before number Tape is w (Err (NoEvent n)) h = h
answer_turned output held left left' now holds before number Tape is w (Err Output) h =
    (so_far output held left now holds number before false Tape w h.1, too_much output held left now before number Tape is w h.0)
answer_turned output held left left' now holds before number Tape is w (Err Read) h = so_far output held left now holds number before false Tape w h
answer_turned output held left left' now holds before number Tape is w (Err Write) h =
    part_of_answer output held left now holds before number Tape is w h

-- a turn that ends the transcript
pub line_stops : (tape output : List ℕ) (held left output_left holds : Option (List ℕ)) (before number : ℕ) (has_ended : Bool)
    (fault : TranscriptFault)
    → LineTurned tape output held left output_left holds before number has_ended (Err fault) → HasTranscribed tape output held holds (Err fault)
line_stops tape output held left output_left holds before number has_ended (NoEvent n) h = absurd h
line_stops tape output held left output_left holds before number has_ended Output h = absurd h
line_stops tape output held left output_left holds before number has_ended Read h = h
line_stops tape output held left output_left holds before number has_ended Write h = h

pub answer_stops : (tape output : List ℕ) (held left holds : Option (List ℕ)) (number : ℕ) (Tape : ℕ → Type 0) (fault : TranscriptFault)
    → AnswerTurned output held left holds number Tape (Err fault) → HasTranscribed tape output held holds (Err fault)
answer_stops tape output held left holds number Tape (NoEvent n) h = absurd h
answer_stops tape output held left holds number Tape Output h = h
answer_stops tape output held left holds number Tape Read h = h
answer_stops tape output held left holds number Tape Write h = h
