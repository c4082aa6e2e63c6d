-- What a log writes, by the calls that it got.
use Rattle.std.specs.Prelude.{◌≡◌, ℕ, ◌+◌, ◌-◌, ◌/◌, ◌^◌, ◌==◌, min, Bool, true, false, nat_le, List, [], ◌∷◌, ◌++◌, map, Option, None, Some, codes}
use Rattle.std.specs.Prelude.{if◌then◌else◌}
use Rattle.std.specs.Io.KnownBytes.{Appends}
use denote.Ref.{Bor}
use Rattle.srt_log.specs.Times.{IsUtcText}
use Rattle.srt_log.specs.LineShares.{SharedCall, AreShares, line_of, polled, is_shared, omitted_of, omitted_in, beyond_in}
use Rattle.srt_log.specs.declared.line_limits.LineKind.{LineKind}
use Rattle.srt_log.specs.declared.line_limits.LineKind.TheVariants.{Session}
use Rattle.srt_log.specs.Texts.{put}
use Rattle.srt_log.specs.Events.{time_text, event_text}
use Rattle.srt_log.specs.Members.{text_member}
use Rattle.srt_log.specs.Objects.{kind_of, kind_member, time_member, event_members}
use Rattle.srt_log.specs.declared.events.LogEvent.{LogEvent}
use Rattle.srt_log.specs.declared.events.LogEvent.TheVariants.{LeftOut, Refused, RefusedAgain}
use Rattle.srt_watch.specs.Machines.{MachineState}
use Rattle.srt_watch.specs.declared.log.LogForm.{LogForm}
use Rattle.srt_watch.specs.declared.log.When.{When}
use Rattle.srt_watch.specs.declared.log.LogPace.{LogPace}

-- the time in front of a line: none if lines have none
abbrev pub IsStamp : (is_timed : Bool) → (time : ℕ) → Option (List ℕ) → Type 0
IsStamp false time stamp = stamp ≡ None
IsStamp true time stamp = (text : List ℕ) × IsUtcText time text × (stamp ≡ Some text)

-- the time at which a machine says this, for lines of this form
pub record IsTimeOf (form : LogForm) (s : MachineState) (when : When) : Type 0 where
  pub moment_is : when.moment ≡ s.moment
  pub stamp_is : IsStamp form.is_timed s.time when.stamp
  pub form_is : when.is_json ≡ form.is_json

-- a sum, at most 2^64 - 1
abbrev pub most : ℕ → ℕ
most n = min n (2 ^ 64 - 1)

-- the line of an event is about refused callers: one, how often it was refused again, or how many lines a flood of them left out
abbrev pub is_refusal : LogEvent → Bool
is_refusal (Refused code peer name by) = true
is_refusal (RefusedAgain ip code name by count) = true
is_refusal (LeftOut count) = true
is_refusal _ = false

-- what a log says of an event: the words of its line, in an object what it was and its facts, and whether it is about refused callers
pub record Said : Type 0 where
  pub words : List ℕ
  pub kind : List ℕ
  pub members : List ℕ
  pub is_refusal : Bool

abbrev pub said : LogEvent → Said
said event = record { words = event_text event; kind = kind_of event; members = event_members event; is_refusal = is_refusal event }

-- a text that an event borrows
abbrev pub lent : List ℕ → Bor (List ℕ)
lent text = record { ref_ptr = (0, 0); now = text }

-- A call of a log, each event by what is said of it: an event whose line is written if its second has room for one of its kind, one whose line is always
-- written, the time at which a second may be over, events that were missed, and the end.
pub data LogCall : Type 0 where
  Offered : When → LineKind → Said → LogCall
  Always : When → Said → LogCall
  Polled : When → LogCall
  Missed : ℕ → LogCall
  Looked : LogCall
  Closed : When → LogCall

-- the calls of its shares so far, newest first, the events that were missed and aren't logged yet, and the second in which missed ones were logged last
pub record LogState : Type 0 where
  pub calls : List SharedCall
  pub missed : ℕ
  pub second : ℕ
  pub looks : ℕ

abbrev pub second_of : When → ℕ
second_of when = when.moment / 1_000_000

-- the missed events to be logged now: once a second
abbrev pub missed_at : LogState → When → ℕ
missed_at s when = if nat_le (second_of when) s.second then 0 else s.missed

abbrev pub with_line : LogState → When → LineKind → LogState
with_line s when kind = record s { calls = line_of kind when.moment ∷ s.calls }

abbrev pub with_poll : LogState → When → LogState
with_poll s when = record {
  calls = polled when.moment s.calls;
  missed = if nat_le (second_of when) s.second then s.missed else 0;
  second = if nat_le (second_of when) s.second then s.second else second_of when;
  looks = s.looks;
}

-- the state after a call
abbrev pub state_after : LogState → LogCall → LogState
state_after s (Offered when kind event) = with_line s when kind
state_after s (Always when event) = with_poll s when
state_after s (Polled when) = with_poll s when
state_after s (Missed count) = record s { missed = most (s.missed + count) }
state_after s Looked = record s { looks = most (s.looks + 1) }
state_after s (Closed when) = record (with_poll s when) { missed = 0 }

-- the text of an event in a line of its own: its time and its words, or its object with the same facts
abbrev pub words_at : (stamp : Option (List ℕ)) → Said → List ℕ
words_at stamp event = put [] (time_text stamp ++ event.words) ++ 10 ∷ []

abbrev pub object_at : (stamp : Option (List ℕ)) → Said → List ℕ
object_at stamp event =
    kind_member event.kind ++ time_member stamp ++ text_member (codes "text") (put [] event.words) ++ event.members ++ codes "}\n"

abbrev pub line_at : When → Said → List ℕ
line_at when event = if when.is_json then object_at when.stamp event else words_at when.stamp event

-- the line of what was left out, if something was, and that of an event that is written

abbrev pub left_out_text : When → (count : ℕ) → List ℕ
left_out_text when count = if count == 0 then [] else line_at when (said (LeftOut count))

abbrev pub line_if : (written : Bool) → When → Said → List ℕ
line_if written when event = if written then line_at when event else []

-- what the last second left out, and what was missed
abbrev pub second_text : LogState → When → List ℕ
second_text s when = left_out_text when (most (omitted_in s.calls when.moment + missed_at s when))

-- what is left out so far, and missed
abbrev pub end_text : LogState → When → List ℕ
end_text s when = left_out_text when (most (beyond_in s.calls + s.missed))

-- what a call writes
abbrev pub text_of : LogState → LogCall → List ℕ
text_of s (Offered when kind event) =
    left_out_text when (omitted_of s.calls kind when.moment) ++ line_if (is_shared s.calls kind when.moment) when event
text_of s (Always when event) = second_text s when ++ line_at when event
text_of s (Polled when) = second_text s when
text_of s (Missed count) = []
text_of s Looked = []
text_of s (Closed when) = second_text s when ++ end_text (with_poll s when) when

-- the state after calls, in their order, and what they write
unfoldable pub state_after_all : LogState → List LogCall → LogState
state_after_all s [] = s
state_after_all s (call ∷ calls) = state_after_all (state_after s call) calls

unfoldable pub text_of_all : LogState → List LogCall → List ℕ
text_of_all s [] = []
text_of_all s (call ∷ calls) = text_of s call ++ text_of_all (state_after s call) calls

-- the missed events of a pace to be logged now, and the pace after that
abbrev pub missed_of : LogPace → (moment : ℕ) → ℕ
missed_of pace moment = if nat_le (moment / 1_000_000) pace.second then 0 else pace.missed

abbrev pub after_missed : LogPace → (moment : ℕ) → LogPace
after_missed pace moment = if nat_le (moment / 1_000_000) pace.second then pace else record pace { missed = 0; second = moment / 1_000_000 }

-- a log's pace has this state
pub record HasState (pace : LogPace) (s : LogState) : Type 0 where
  pub shares_stand : AreShares pace.shares s.calls
  pub missed_is : pace.missed ≡ s.missed
  pub second_is : pace.second ≡ s.second
  pub looks_is : pace.looks ≡ s.looks

-- A text was written, and the pace is the same: as long as no write fails, the bytes of the writer grow by it.
pub record Wrote (before after : Option (List ℕ)) (old new : LogPace) (text : List ℕ) : Type 0 where
  pub shares_are : new.shares ≡ old.shares
  pub missed_is : new.missed ≡ old.missed
  pub second_is : new.second ≡ old.second
  pub looks_is : new.looks ≡ old.looks
  pub whole_is : new.is_whole ≡ true → old.is_whole ≡ true
  pub text_is : new.is_whole ≡ true → Appends before after text

-- A log got these calls, in their order. As long as no write fails, the bytes of its writer grow by their text, and by nothing else.
pub record Logged (before after : Option (List ℕ)) (old new : LogPace) (calls : List LogCall) : Type 0 where
  pub whole_is : new.is_whole ≡ true → old.is_whole ≡ true
  pub state_is : (s : LogState) → HasState old s → HasState new (state_after_all s calls)
  pub text_is : (s : LogState) → HasState old s → new.is_whole ≡ true → Appends before after (text_of_all s calls)

-- events of a session or a route whose lines are written if there is room, in this order
abbrev pub offered : When → List LogEvent → List LogCall
offered when events = map (λ event. Offered when Session (said event)) events
