-- A replay over a gateway continues and ends.
use Rattle.std.proofs.Common.{◌≡◌, ℕ, zero, suc, ◌+◌, Bool, true, false, List, [], ◌∷◌, ◌++◌, length, take, drop, Option, Some, None}
use Rattle.std.proofs.Common.{Result, Ok, Err, refl, sym, ap, subst, ◌∙◌, append_assoc, arith, length-append}
use Rattle.std.proofs.lemmas.List.{append-nil, take-append-drop}
use Rattle.std.proofs.Math.Seq.{take-append_seam, drop-append_seam}
use Rattle.std.specs.Io.KnownBytes.{Keeps}
use Rattle.srt_types.specs.Terms.{Terms}
use Rattle.srt_hub.specs.World.{Event, Sorting, Meaning}
use Rattle.srt_hub.specs.Hubs.{names_at, routes_at}
use Rattle.srt_replay.specs.declared.replaying.ReplayFault.{ReplayFault}
use Rattle.srt_replay.specs.declared.replaying.ReplayFault.TheVariants.{Tape, OutOfMemory, Read, Write}
use Rattle.srt_replay.specs.Tape.{lines_of}
use Rattle.srt_replay.specs.Texts.{event_text}
use Rattle.srt_replay.specs.Known.{NoLine, Wrote}
use Rattle.srt_replay.specs.Replay.{event_at, events_on, events_from, fault_on, fault_from, with_past, past_of, text_after, text_of}
use Rattle.srt_replay.specs.Replay.{tape_text, front_text, WantsCopy, Replays}
use Rattle.srt_replay.specs.inside.Step.{History, NoEvent, TookEvent, Answered, Replayed, IsReplaying}
use Rattle.srt_replay.proofs.Writing.{wrote_same}

abbrev Known : List ℕ → Option (List ℕ)
Known xs = Some xs

-- lines that are all events, and those after them
fault_first : (n : ℕ) (event : Option Event) (others : Event → Option ℕ) → fault_on n event others ≡ None → (e : Event) × (event ≡ Some e) × (others e ≡ None)
fault_first n None others h = absurd cc
fault_first n (Some e) others h = (e, refl, h)

events_behind : (class : Sorting) (reply : Meaning) (entries : List Terms) (past : List Event) (n m : ℕ) (lines behind : List (List ℕ))
    → fault_from class reply entries past n lines ≡ None → m ≡ n + length lines →
    events_from class reply entries past n (lines ++ behind)
    ≡ events_from class reply entries past n lines
    ++ events_from class reply entries (with_past past (events_from class reply entries past n lines)) m behind
events_behind class reply entries past n m [] behind none is = let same : m ≡ n = omega (arith, is) in rw same refl
events_behind class reply entries past n m (line ∷ lines) behind none is =
    let p = fault_first n (event_at (routes_at class reply entries past) n line) (λ event. fault_from class reply entries (event ∷ past) (n + 1) lines) none in
    rw p.1 (ap (λ (es : List Event). p.0 ∷ es) (events_behind class reply entries (p.0 ∷ past) (n + 1) m lines behind p.2 (omega (arith, is))))

fault_behind : (class : Sorting) (reply : Meaning) (entries : List Terms) (past : List Event) (n m : ℕ) (lines behind : List (List ℕ))
    → fault_from class reply entries past n lines ≡ None → m ≡ n + length lines →
    fault_from class reply entries past n (lines ++ behind)
    ≡ fault_from class reply entries (with_past past (events_from class reply entries past n lines)) m behind
fault_behind class reply entries past n m [] behind none is = let same : m ≡ n = omega (arith, is) in rw same refl
fault_behind class reply entries past n m (line ∷ lines) behind none is =
    let p = fault_first n (event_at (routes_at class reply entries past) n line) (λ event. fault_from class reply entries (event ∷ past) (n + 1) lines) none in
    rw p.1 (fault_behind class reply entries (p.0 ∷ past) (n + 1) m lines behind p.2 (omega (arith, is)))

events_one : (class : Sorting) (reply : Meaning) (entries : List Terms) (past : List Event) (n : ℕ) (line : List ℕ) (lines : List (List ℕ))
    (event : Event)
    → event_at (routes_at class reply entries past) n line ≡ Some event
    → events_from class reply entries past n (line ∷ lines) ≡ event ∷ events_from class reply entries (event ∷ past) (n + 1) lines
events_one class reply entries past n line lines event is = rw is refl

events_none : (class : Sorting) (reply : Meaning) (entries : List Terms) (past : List Event) (n : ℕ) (line : List ℕ) (lines : List (List ℕ))
    → event_at (routes_at class reply entries past) n line ≡ None → events_from class reply entries past n (line ∷ lines) ≡ []
events_none class reply entries past n line lines is = rw is refl

fault_one : (class : Sorting) (reply : Meaning) (entries : List Terms) (past : List Event) (n : ℕ) (line : List ℕ) (lines : List (List ℕ))
    (event : Event)
    → event_at (routes_at class reply entries past) n line ≡ Some event
    → fault_from class reply entries past n (line ∷ lines) ≡ fault_from class reply entries (event ∷ past) (n + 1) lines
fault_one class reply entries past n line lines event is = rw is refl

fault_none : (class : Sorting) (reply : Meaning) (entries : List Terms) (past : List Event) (n : ℕ) (line : List ℕ) (lines : List (List ℕ))
    → event_at (routes_at class reply entries past) n line ≡ None → fault_from class reply entries past n (line ∷ lines) ≡ Some n
fault_none class reply entries past n line lines is = rw is refl

-- the text of some events, and of those after them
text_behind : (class : Sorting) (reply : Meaning) (entries : List Terms) (past xs ys : List Event)
    → text_after class reply entries past (xs ++ ys)
    ≡ text_after class reply entries past xs ++ text_after class reply entries (with_past past xs) ys
text_behind class reply entries past [] ys = refl
text_behind class reply entries past (x ∷ xs) ys =
    let t = event_text class reply entries past x in
    ap (λ (bs : List ℕ). t ++ bs) (text_behind class reply entries (x ∷ past) xs ys)
    ∙ sym (append_assoc t (text_after class reply entries (x ∷ past) xs) (text_after class reply entries (with_past (x ∷ past) xs) ys))

past_behind : (past xs ys : List Event) → with_past past (xs ++ ys) ≡ with_past (with_past past xs) ys
past_behind past [] ys = refl
past_behind past (x ∷ xs) ys = past_behind (x ∷ past) xs ys

-- the text of a tape, of which some lines were answered
tape_text_is : (class : Sorting) (reply : Meaning) (entries : List Terms) (tape : List ℕ) (lines behind : List (List ℕ)) (m : ℕ)
    → lines_of tape ≡ lines ++ behind → fault_from class reply entries [] 1 lines ≡ None → m ≡ 1 + length lines →
    tape_text class reply entries tape
    ≡ text_of class reply entries lines
    ++ text_after class reply entries (past_of class reply entries lines)
    (events_from class reply entries (past_of class reply entries lines) m behind)
tape_text_is class reply entries tape lines behind m are none is =
    ap (text_of class reply entries) are
    ∙ ap (text_after class reply entries []) (events_behind class reply entries [] 1 m lines behind none is)
    ∙ text_behind class reply entries [] (events_from class reply entries [] 1 lines)
    (events_from class reply entries (past_of class reply entries lines) m behind)

fault_line_is : (class : Sorting) (reply : Meaning) (entries : List Terms) (tape : List ℕ) (lines behind : List (List ℕ)) (m : ℕ)
    → lines_of tape ≡ lines ++ behind → fault_from class reply entries [] 1 lines ≡ None → m ≡ 1 + length lines →
    fault_from class reply entries [] 1 (lines_of tape) ≡ fault_from class reply entries (past_of class reply entries lines) m behind
fault_line_is class reply entries tape lines behind m are none is =
    ap (fault_from class reply entries [] 1) are ∙ fault_behind class reply entries [] 1 m lines behind none is

pub started : (class : Sorting) (reply : Meaning) (entries : List Terms) (Now : History) (r w : Option (List ℕ))
    → Now [] → IsReplaying class reply entries Now r w r w 1
started class reply entries Now r w stands tape e =
    record {
      lines = [];
      left = tape;
      lines_are = refl;
      number_is = refl;
      no_fault = refl;
      reader_is = e;
      wrote = λ ws f. f ∙ ap Known (sym (append-nil ws));
      stands = stands;
    }

-- the result of a line, whatever happened before
abbrev pub Step : Sorting → Meaning → List Terms → (Now Next : History) → (old new held holds : Option (List ℕ)) (number : ℕ) → Result Bool ReplayFault → Type 0
Step class reply entries Now Next old new held holds number result =
    (past : List Event) → Now past → Answered class reply entries past Next old new held holds number result

pub goes_on : (class : Sorting) (reply : Meaning) (entries : List Terms) (Now Next : History) (r0 w0 r w r' w' : Option (List ℕ)) (n : ℕ)
    → IsReplaying class reply entries Now r0 w0 r w n → Step class reply entries Now Next r r' w w' n (Ok true)
    → IsReplaying class reply entries Next r0 w0 r' w' (n + 1)
goes_on class reply entries Now Next r0 w0 r w r' w' n h step tape e =
    let a = h tape e in
    let past = past_of class reply entries a.lines in
    let s = step (past_of class reply entries a.lines) a.stands in
    let event = s.0 in
    let took = s.1 in
    let b = took.took a.left a.reader_is in
    let line = took.line in
    let t = event_text class reply entries past event in
    let done = text_of class reply entries a.lines in
    let first = events_from class reply entries [] 1 a.lines in
    let arrived : events_from class reply entries [] 1 (a.lines ++ line ∷ []) ≡ first ++ event ∷ [] =
    events_behind class reply entries [] 1 n a.lines (line ∷ []) a.no_fault a.number_is
    ∙ ap (λ (es : List Event). first ++ es) (events_one class reply entries past n line [] event took.event_is) in
    let text : text_of class reply entries (a.lines ++ line ∷ []) ≡ done ++ t = ap (text_after class reply entries []) arrived
    ∙ text_behind class reply entries [] first (event ∷ []) ∙ ap (λ (xs : List ℕ). done ++ xs) (append-nil t) in
    let gone : with_past [] (events_from class reply entries [] 1 (a.lines ++ line ∷ [])) ≡ event ∷ past =
    ap (with_past []) arrived ∙ past_behind [] first (event ∷ []) in
    record {
      lines = a.lines ++ line ∷ [];
      left = b.0;
      lines_are = a.lines_are ∙ ap (λ (ls : List (List ℕ)). a.lines ++ ls) b.2 ∙ sym (append_assoc a.lines (line ∷ []) (lines_of b.0));
      number_is = omega (arith, a.number_is, length-append a.lines (line ∷ []));
      no_fault = fault_behind class reply entries [] 1 n a.lines (line ∷ []) a.no_fault a.number_is
          ∙ fault_one class reply entries past n line [] event took.event_is;
      reader_is = b.1;
      wrote = λ ws f. s.2 (ws ++ done) (a.wrote ws f) ∙ ap Known (append_assoc ws done t ∙ ap (λ (xs : List ℕ). ws ++ xs) (sym text));
      stands = subst Next (sym gone) s.3;
    }

ends : (class : Sorting) (reply : Meaning) (entries : List Terms) (Now : History) (r0 w0 r w : Option (List ℕ)) (n : ℕ)
    → IsReplaying class reply entries Now r0 w0 r w n → NoLine r → Replays class reply entries r0 w0 w (Ok tt)
ends class reply entries Now r0 w0 r w n h none tape e =
    let a = h tape e in
    let past = past_of class reply entries a.lines in
    let b = none a.left a.reader_is in
    let done = text_of class reply entries a.lines in
    let text : tape_text class reply entries tape ≡ done =
    tape_text_is class reply entries tape a.lines (lines_of a.left) n a.lines_are a.no_fault a.number_is
    ∙ ap (λ (ls : List (List ℕ)). done ++ text_after class reply entries past (events_from class reply entries past n ls)) b
    ∙ append-nil done in (
      λ ws f. a.wrote ws f
          ∙ ap (λ (xs : List ℕ). Known (ws ++ xs)) (sym text),
      fault_line_is class reply entries tape a.lines (lines_of a.left) n a.lines_are
          a.no_fault a.number_is
          ∙ ap (fault_from class reply entries past n) b,
    )

ends_at_fault : (class : Sorting) (reply : Meaning) (entries : List Terms) (Now : History) (r0 w0 r w : Option (List ℕ)) (n : ℕ)
    → IsReplaying class reply entries Now r0 w0 r w n →
    ((past : List Event) → Now past → NoEvent r (routes_at class reply entries past) n) → Replays class reply entries r0 w0 w (Err (Tape n))
ends_at_fault class reply entries Now r0 w0 r w n h none tape e =
    let a = h tape e in
    let past = past_of class reply entries a.lines in
    let b = none past a.stands a.left a.reader_is in
    let done = text_of class reply entries a.lines in
    let rest : events_from class reply entries past n (lines_of a.left) ≡ [] =
    ap (events_from class reply entries past n) b.2 ∙ events_none class reply entries past n b.0 b.1 b.3 in
    let text : tape_text class reply entries tape ≡ done =
    tape_text_is class reply entries tape a.lines (lines_of a.left) n a.lines_are a.no_fault a.number_is
    ∙ ap (λ (es : List Event). done ++ text_after class reply entries past es) rest ∙ append-nil done in (
      λ ws f. a.wrote ws f
          ∙ ap (λ (xs : List ℕ). Known (ws ++ xs)) (sym text),
      fault_line_is class reply entries tape a.lines (lines_of a.left) n a.lines_are
          a.no_fault a.number_is
          ∙ ap (fault_from class reply entries past n) b.2 ∙ fault_none class reply entries past n b.0 b.1 b.3,
    )

-- some whole lines have their answers
front_is : (tape : List ℕ) (lines behind : List (List ℕ)) → lines_of tape ≡ lines ++ behind → take (length lines) (lines_of tape) ≡ lines
front_is tape lines behind are = ap (take (length lines)) are ∙ take-append_seam lines behind

front_wrote : (class : Sorting) (reply : Meaning) (entries : List Terms) (held w : Option (List ℕ)) (tape : List ℕ)
    (lines behind : List (List ℕ))
    → lines_of tape ≡ lines ++ behind → Wrote held w (text_of class reply entries lines)
    → Wrote held w (front_text class reply entries tape (length lines))
front_wrote class reply entries held w tape lines behind are wrote ws f =
    wrote ws f ∙ ap (λ (ls : List (List ℕ)). Known (ws ++ text_of class reply entries ls)) (sym (front_is tape lines behind are))

ends_at_read : (class : Sorting) (reply : Meaning) (entries : List Terms) (Now : History) (r0 w0 r w : Option (List ℕ)) (n : ℕ)
    → IsReplaying class reply entries Now r0 w0 r w n → Replays class reply entries r0 w0 w (Err Read)
ends_at_read class reply entries Now r0 w0 r w n h tape e =
    let a = h tape e in
    (length a.lines, front_wrote class reply entries w0 w tape a.lines (lines_of a.left) a.lines_are a.wrote)

ends_at_memory : (class : Sorting) (reply : Meaning) (entries : List Terms) (Now Next : History) (r0 w0 r w r' w' : Option (List ℕ)) (n : ℕ)
    → IsReplaying class reply entries Now r0 w0 r w n → Step class reply entries Now Next r r' w w' n (Err OutOfMemory)
    → Replays class reply entries r0 w0 w (Err OutOfMemory)
ends_at_memory class reply entries Now Next r0 w0 r w r' w' n h step tape e =
    let a = h tape e in
    let past = past_of class reply entries a.lines in
    let s = step past a.stands in
    let took = s.2 in
    let b = took.took a.left a.reader_is in
    let number : n ≡ length a.lines + 1 = omega (arith, a.number_is) in
    let front = front_is tape a.lines (lines_of a.left) a.lines_are in (
      length a.lines,
      front_wrote class reply entries w0 w tape a.lines (lines_of a.left) a.lines_are a.wrote,
      record {
        line = took.line;
        behind = lines_of b.0;
        event = s.0;
        no_fault = ap (fault_from class reply entries [] 1) front ∙ a.no_fault;
        line_is = ap (drop (length a.lines)) a.lines_are ∙ drop-append_seam a.lines (lines_of a.left) ∙ b.2;
        event_is = subst
            (λ (ls : List (List ℕ)).
            event_at (routes_at class reply entries (past_of class reply entries ls)) (length a.lines + 1) took.line ≡ Some s.0)
            (sym front) (subst (λ (m : ℕ). event_at (routes_at class reply entries past) m took.line ≡ Some s.0) number took.event_is);
        wants = subst (λ (ls : List (List ℕ)). WantsCopy class (names_at class reply entries (past_of class reply entries ls)) s.0) (sym front) s.3;
      },
    )

-- the text of a tape is that of the lines that were answered, that of the next line's event, and a rest
text_on : (class : Sorting) (reply : Meaning) (entries : List Terms) (Now : History) (tape : List ℕ) (held r w r' : Option (List ℕ)) (n : ℕ)
    (event : Event)
    → (a : Replayed class reply entries Now tape held r w n)
    → TookEvent r r' (routes_at class reply entries (past_of class reply entries a.lines)) n event
    →
    (rest : List ℕ) ×
    (tape_text class reply entries tape
    ≡ text_of class reply entries a.lines ++ (event_text class reply entries (past_of class reply entries a.lines) event ++ rest))
text_on class reply entries Now tape held r w r' n event a took =
    let past = past_of class reply entries a.lines in
    let b = took.took a.left a.reader_is in
    let coming : events_from class reply entries past n (lines_of a.left)
    ≡ event ∷ events_from class reply entries (event ∷ past) (n + 1) (lines_of b.0) =
    ap (events_from class reply entries past n) b.2 ∙ events_one class reply entries past n took.line (lines_of b.0) event took.event_is in (
      text_after class reply entries (event ∷ past) (events_from class reply entries (event ∷ past) (n + 1) (lines_of b.0)),
      tape_text_is class reply entries tape a.lines (lines_of a.left) n a.lines_are a.no_fault a.number_is
          ∙ ap (λ (es : List Event). text_of class reply entries a.lines ++ text_after class reply entries past es) coming,
    )

ends_at_write : (class : Sorting) (reply : Meaning) (entries : List Terms) (Now Next : History) (r0 w0 r w r' w' : Option (List ℕ)) (n : ℕ)
    → IsReplaying class reply entries Now r0 w0 r w n → Step class reply entries Now Next r r' w w' n (Err Write)
    → Replays class reply entries r0 w0 w' (Err Write)
ends_at_write class reply entries Now Next r0 w0 r w r' w' n h step tape e =
    let a = h tape e in
    let s = step (past_of class reply entries a.lines) a.stands in
    let text = event_text class reply entries (past_of class reply entries a.lines) s.0 in
    let done = text_of class reply entries a.lines in
    let whole = text_on class reply entries Now tape w0 r w r' n s.0 a s.1 in
    let k = s.2.0 in
    let more = drop k text ++ whole.0 in
    let parts : take k text ++ more ≡ text ++ whole.0 =
    sym (append_assoc (take k text) (drop k text) whole.0) ∙ ap (λ (xs : List ℕ). xs ++ whole.0) (take-append-drop k text) in (
      done ++ take k text,
      more,
      λ ws f. s.2.1 (ws ++ done) (a.wrote ws f) ∙ ap Known (append_assoc ws done (take k text)),
      append_assoc done (take k text) more ∙ ap (λ (xs : List ℕ). done ++ xs) parts ∙ sym whole.1,
    )

the_writer : (class : Sorting) (reply : Meaning) (entries : List Terms) (r0 w0 w w' : Option (List ℕ))
    (answer : Result (Unit {0}) ReplayFault)
    → w' ≡ w → Replays class reply entries r0 w0 w answer
    → Replays class reply entries r0 w0 w' answer
the_writer class reply entries r0 w0 w w' answer same h = subst (λ (v : Option (List ℕ)). Replays class reply entries r0 w0 v answer) (sym same) h

pub stops : (class : Sorting) (reply : Meaning) (entries : List Terms) (Now Next : History) (r0 w0 r w r' w' : Option (List ℕ)) (n : ℕ)
    (fault : ReplayFault)
    → IsReplaying class reply entries Now r0 w0 r w n → Step class reply entries Now Next r r' w w' n (Err fault)
    → Replays class reply entries r0 w0 w' (Err fault)
stops class reply entries Now Next r0 w0 r w r' w' n (Tape line) h step tape e =
    let a = h tape e in
    let s = step (past_of class reply entries a.lines) a.stands in
    the_writer class reply entries r0 w0 w w' (Err (Tape line)) s.2
    (subst (λ (m : ℕ). Replays class reply entries r0 w0 w (Err (Tape m))) (sym s.0)
    (ends_at_fault class reply entries Now r0 w0 r w n h (λ past stands. (step past stands).1)))
    tape e
stops class reply entries Now Next r0 w0 r w r' w' n OutOfMemory h step tape e =
    let a = h tape e in
    the_writer class reply entries r0 w0 w w' (Err OutOfMemory) (step (past_of class reply entries a.lines) a.stands).1
    (ends_at_memory class reply entries Now Next r0 w0 r w r' w' n h step) tape e
stops class reply entries Now Next r0 w0 r w r' w' n Read h step tape e =
    let a = h tape e in
    the_writer class reply entries r0 w0 w w' (Err Read) (step (past_of class reply entries a.lines) a.stands)
    (ends_at_read class reply entries Now r0 w0 r w n h) tape e
stops class reply entries Now Next r0 w0 r w r' w' n Write h step tape e = ends_at_write class reply entries Now Next r0 w0 r w r' w' n h step tape e

pub no_more : (class : Sorting) (reply : Meaning) (entries : List Terms) (Now Next : History) (r0 w0 r w r' w' : Option (List ℕ)) (n : ℕ)
    → IsReplaying class reply entries Now r0 w0 r w n → Step class reply entries Now Next r r' w w' n (Ok false)
    → Replays class reply entries r0 w0 w' (Ok tt)
no_more class reply entries Now Next r0 w0 r w r' w' n h step tape e =
    let a = h tape e in
    let s = step (past_of class reply entries a.lines) a.stands in
    the_writer class reply entries r0 w0 w w' (Ok tt) s.1 (ends class reply entries Now r0 w0 r w n h s.0) tape e

-- a flush changes nothing
pub flushed : (class : Sorting) (reply : Meaning) (entries : List Terms) (r0 w0 w w' : Option (List ℕ))
    (answer : Result (Unit {0}) ReplayFault)
    → Replays class reply entries r0 w0 w answer → Keeps w w'
    → Replays class reply entries r0 w0 w' answer
flushed class reply entries r0 w0 w w' (Ok u) h k tape e = let a = h tape e in (wrote_same w0 w w' _ a.0 k, a.1)
flushed class reply entries r0 w0 w w' (Err (Tape line)) h k tape e = let a = h tape e in (wrote_same w0 w w' _ a.0 k, a.1)
flushed class reply entries r0 w0 w w' (Err OutOfMemory) h k tape e = let a = h tape e in (a.0, wrote_same w0 w w' _ a.1 k, a.2)
flushed class reply entries r0 w0 w w' (Err Read) h k tape e = let a = h tape e in (a.0, wrote_same w0 w w' _ a.1 k)
flushed class reply entries r0 w0 w w' (Err Write) h k tape e = let a = h tape e in (a.0, a.1, wrote_same w0 w w' _ a.2 k, a.3)

-- the text of some first lines is a prefix of the text
front_is_part : (class : Sorting) (reply : Meaning) (entries : List Terms) (past : List Event) (n k : ℕ) (lines : List (List ℕ)) →
    (more : List ℕ) ×
    (text_after class reply entries past (events_from class reply entries past n (take k lines)) ++ more
    ≡ text_after class reply entries past (events_from class reply entries past n lines))
front_is_part class reply entries past n zero lines = (text_after class reply entries past (events_from class reply entries past n lines), refl)
front_is_part class reply entries past n (suc k) [] = ([], refl)
front_is_part class reply entries past n (suc k) (line ∷ lines) =
    onward (event_at (routes_at class reply entries past) n line) (λ (p : List Event). front_is_part class reply entries p (n + 1) k lines)
  where
    onward : (event : Option Event) →
        ((p : List Event)
        → (more : List ℕ) ×
        (text_after class reply entries p (events_from class reply entries p (n + 1) (take k lines)) ++ more
        ≡ text_after class reply entries p (events_from class reply entries p (n + 1) lines)))
        →
        (more : List ℕ) ×
        (text_after class reply entries past (events_on event (λ e. events_from class reply entries (e ∷ past) (n + 1) (take k lines)))
        ++ more
        ≡ text_after class reply entries past (events_on event (λ e. events_from class reply entries (e ∷ past) (n + 1) lines)))
    onward None h = ([], refl)
    onward (Some e) h =
        let p = h (e ∷ past) in
        let t = event_text class reply entries past e in (
          p.0,
          append_assoc t (text_after class reply entries (e ∷ past) (events_from class reply entries (e ∷ past) (n + 1) (take k lines))) p.0
              ∙ ap (λ (xs : List ℕ). t ++ xs) p.1,
        )

-- whatever was written is a prefix of the text
pub is_part : (class : Sorting) (reply : Meaning) (entries : List Terms) (r0 w0 w : Option (List ℕ))
    (answer : Result (Unit {0}) ReplayFault)
    → Replays class reply entries r0 w0 w answer
    → Replays class reply entries r0 w0 w (Err Write)
is_part class reply entries r0 w0 w (Ok u) h tape e =
    let a = h tape e in (tape_text class reply entries tape, [], a.0, append-nil (tape_text class reply entries tape))
is_part class reply entries r0 w0 w (Err (Tape line)) h tape e =
    let a = h tape e in (tape_text class reply entries tape, [], a.0, append-nil (tape_text class reply entries tape))
is_part class reply entries r0 w0 w (Err OutOfMemory) h tape e =
    let a = h tape e in
    let p = front_is_part class reply entries [] 1 a.0 (lines_of tape) in
    (front_text class reply entries tape a.0, p.0, a.1, p.1)
is_part class reply entries r0 w0 w (Err Read) h tape e =
    let a = h tape e in
    let p = front_is_part class reply entries [] 1 a.0 (lines_of tape) in
    (front_text class reply entries tape a.0, p.0, a.1, p.1)
is_part class reply entries r0 w0 w (Err Write) h tape e = h tape e
