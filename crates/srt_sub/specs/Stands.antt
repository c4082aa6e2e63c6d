-- Which session the fields of a subscriber represent.
use Rattle.std.specs.Prelude.{◌≡◌, ℕ, ◌+◌, ◌-◌, ◌*◌, ◌^◌, ◌<◌, ◌≤◌, Option, None, Some, Bool, true, false, option_map, List, [], ◌∷◌, All, map, length, min}
use Rattle.srt_types.specs.Counts.{message_number}
use Rattle.srt_types.specs.Runs.{Run}
use Rattle.srt_types.specs.declared.shared.Mode.TheVariants.{Live}
use Rattle.srt_timing.specs.RoundTrip.{round_trip_of}
use Rattle.srt_timing.specs.Deadline.{too_late_at}
use Rattle.srt_packet.specs.Encoded.{bytes_of}
use Rattle.srt_packet.specs.declared.encoded.EncodedPacket.{EncodedPacket}
use Rattle.srt_sendbuf.specs.Sending.{Sending, IsTimely, IsLater}
use Rattle.srt_types.specs.Window.{word_of, number_word}
use Rattle.srt_sendbuf.specs.Outgoing.{Gone, gone_by}
use Rattle.srt_sendbuf.specs.Stands as places
use Rattle.srt_sub.specs.Subscribing.{Terms, Note, Report, Sent, Missed, Subscribing, opened, is_media, is_drop, last_sent, last_media}
use Rattle.srt_sub.specs.Subscribing.{last_growth, round_trip, tries, flow_window, unreported, credit, renewed_notes, Presumed}
use Rattle.srt_sub.specs.Says.{says}
use Rattle.srt_sub.specs.Counting.{AreSendings, Counted, fresh_in, resent_in, is_again, renewals_in}
use Rattle.srt_sub.specs.declared.resend_credit.Credit.{Credit}
use Rattle.srt_sub.specs.declared.history.History.{History}
use Rattle.srt_sub.specs.declared.resend_all.Resending.TheVariants.{AtEachTimeout, Once}
use Rattle.srt_sub.specs.declared.session.Opening.{Opening}
use Rattle.srt_sub.specs.declared.session.Subscriber.{Subscriber}
use Rattle.srt_sub.specs.declared.session.Phase.TheVariants.{Lost}
use Rattle.srt_sub.specs.declared.hearing.Took.{Took}
use Rattle.srt_sub.specs.declared.hearing.Took.TheVariants.{Nothing, Answer, Ended}

-- a run as the contents of a drop request, in sequence numbers
abbrev pub run_gone : (initial : ℕ) → Run → Gone
run_gone initial run = record { first = number_word initial run.low; last = number_word initial run.high; message = message_number run.low }

-- the fields are the credit for resends, where a new packet adds `percent` hundredths of a packet (None: no limit)
pub record IsCredit (percent : Option ℕ) (c : Credit) (notes : List Note) : Type 0 where
  pub percent_is : c.percent ≡ percent
  pub hundredths_are : (p : ℕ) → percent ≡ Some p → c.hundredths ≡ credit p notes

-- the fields have the values that these notes define, in a session with this initial number and these terms
pub record IsHistory (initial : ℕ) (terms : Terms) (h : History) (notes : List Note) : Type 0 where
  pub window_is : h.window ≡ flow_window terms.window notes
  pub round_trip_is : round_trip_of h.round_trip ≡ round_trip notes
  pub sent_is : h.sent ≡ last_sent notes
  pub media_is : h.media ≡ last_media notes
  pub growth_is : h.growth ≡ last_growth notes
  pub missed_is : option_map gone_by h.missed ≡ option_map (run_gone initial) (unreported notes)
  pub sendings_are : AreSendings h.sendings (fresh_in notes) (resent_in notes)
  pub credit_is : IsCredit terms.resend_percent h.credit notes
  pub tries_are : h.tries ≡ min (tries notes) (2 ^ 32 - 1)
  -- a session that resends all once does it at most once between two ACKs that acknowledge more
  pub once : terms.resending ≡ Once → tries notes ≤ 1

-- no queued payload is empty
abbrev pub HasBytes : Sending → Type 0
HasBytes s = All (λ q. 0 < length q.payload) s.queue

-- invariants of a session: no payload was queued later than this time, all expired payloads are too late at it, and no
-- payload is empty
pub record IsSound (terms : Terms) (time : ℕ) (s : Sending) : Type 0 where
  pub timely : IsTimely time s
  pub later : IsLater (too_late_at time terms.delay) s
  pub some : HasBytes s

-- the bound on the packets sent again, for a record with these numbers, and the invariants for its proof: there were
-- at least 20 ms for each raise of the credit, counted up to the last data packet if the credit is less than one packet
pub record IsCredited (percent : Option ℕ) (time last again fresh renewals : ℕ) (credit : ℕ → ℕ) : Type 0 where
  pub before : last ≤ time
  pub rare : renewals * 20_000 ≤ time
  pub bounded : (p : ℕ) → percent ≡ Some p → 100 * again + credit p ≤ 6_400 + p * fresh + 100 * renewals
  pub spent : (p : ℕ) → percent ≡ Some p → credit p < 100 → renewals * 20_000 ≤ last

-- the same for these notes
abbrev pub AreCredited : (percent : Option ℕ) → (time : ℕ) → List Note → Type 0
AreCredited percent time notes =
    IsCredited percent time (last_media notes) (resent_in notes) (fresh_in notes) (renewals_in notes) (λ p. credit p notes)

-- the fields represent a session of these terms, with this initial number, opened at the clock's time `opening` by a
-- caller with this socket ID. Its last call was at this time since the opening, and `given` data packets were sent in
-- this event
pub record StandsIn (terms : Terms) (initial opening caller time given : ℕ) (s : Subscriber) (m : Subscribing) : Type 0 where
  pub buffer_is : places.StandsFor terms.width initial s.buffer m.sending
  pub history_is : IsHistory initial terms s.history m.notes
  pub mode_is : s.mode ≡ terms.mode
  pub delay_is : s.delay ≡ terms.delay
  pub mtu_is : s.mtu ≡ terms.mtu
  pub resending_is : s.resending ≡ terms.resending
  pub opening_is : s.opening ≡ opening
  pub caller_is : s.caller ≡ caller
  pub given_is : s.given ≡ given
  pub phase_is : given ≡ 0 → s.phase ≡ Lost
  pub credited : AreCredited terms.resend_percent time m.notes
  pub sound : IsSound terms time m.sending
  pub counts_are : Counted s.counts m

-- the same between two events; `last` is the clock's time of the last call
abbrev pub StandsFor : (terms : Terms) (initial opening caller last : ℕ) → Subscriber → Subscribing → Type 0
StandsFor terms initial opening caller last s m = StandsIn terms initial opening caller (last - opening) 0 s m

-- the buffer has places for `width` packets
abbrev pub IsWide : (width : ℕ) → Subscriber → Type 0
IsWide width s = (initial : ℕ) × (kept : Sending) × places.StandsFor width initial s.buffer kept

-- the bytes of the packets that are sent at once, if this packet was written
abbrev pub texts_of : Took → EncodedPacket → List (List ℕ)
texts_of Answer packet = bytes_of packet ∷ []
texts_of Nothing packet = []
texts_of Ended packet = []

-- the terms of a session with these parameters, in a subscriber with `width` places
abbrev pub terms_of : (width : ℕ) → Opening → Terms
terms_of width o =
    record {
      mode = o.mode;
      width = width;
      delay = o.delay;
      mtu = o.mtu;
      window = o.window;
      resend_percent = o.resend_percent;
      resending = o.resending;
    }

-- the terms of a subscriber with `width` places before its first start
abbrev pub unstarted : (width : ℕ) → Terms
unstarted width =
    record { mode = Live; width = width; delay = 0; mtu = 0; window = 0; resend_percent = None; resending = AtEachTimeout }

-- a session begins with these parameters
abbrev pub HasBegun : (width : ℕ) → Opening → Subscriber → Type 0
HasBegun width o s = StandsFor (terms_of width o) (word_of o.initial) o.now o.caller o.now s opened

-- for every session that a subscriber represents between two events, `P` holds
abbrev pub ForWhatever : Subscriber → (P : Terms → (initial opening caller last : ℕ) → Subscribing → Type 0) → Type 0
ForWhatever s P =
    (terms : Terms) (initial opening caller last : ℕ) (m : Subscribing)
    → StandsFor terms initial opening caller last s m → P terms initial opening caller last m

-- if the subscriber represents a session before a call, it represents `f` of it after the call, at the same time;
-- numbers count from the initial one
abbrev pub Becomes : (before after : Subscriber) → (f : (initial : ℕ) → Subscribing → Subscribing) → Type 0
Becomes before after f =
    (terms : Terms) (initial opening caller time given : ℕ) (m : Subscribing)
    → StandsIn terms initial opening caller time given before m
    → StandsIn terms initial opening caller time given after (f initial m)

-- the same at one time since the opening
abbrev pub BecomesAt : (time : ℕ) → (before after : Subscriber) → (f : (initial : ℕ) → Subscribing → Subscribing) → Type 0
BecomesAt time before after f =
    (terms : Terms) (initial opening caller given : ℕ) (m : Subscribing)
    → StandsIn terms initial opening caller time given before m
    → StandsIn terms initial opening caller time given after (f initial m)

-- the same, where `f` depends on the session's terms
abbrev pub BecomesIn : (time : ℕ) → (before after : Subscriber) → (f : Terms → Subscribing → Subscribing) → Type 0
BecomesIn time before after f =
    (terms : Terms) (initial opening caller given : ℕ) (m : Subscribing)
    → StandsIn terms initial opening caller time given before m
    → StandsIn terms initial opening caller time given after (f terms m)

-- the same for a call between two events, at a clock's time not before the last call's; `f` also depends on the
-- session's terms and the time since its opening
abbrev pub BecomesBy : (now : ℕ) → (before after : Subscriber) → (f : Terms → (initial time : ℕ) → Subscribing → Subscribing) → Type 0
BecomesBy now before after f =
    (terms : Terms) (initial opening caller last : ℕ) (m : Subscribing)
    → StandsFor terms initial opening caller last before m → last ≤ now
    → StandsFor terms initial opening caller now after (f terms initial (now - opening) m)

-- a call at a time since the opening wrote the bytes of these reports
abbrev pub WritesAt : (time : ℕ) → (before : Subscriber) → (written : List (List ℕ)) → (reports : Subscribing → List Report) → Type 0
WritesAt time before written reports =
    (terms : Terms) (initial opening caller given : ℕ) (m : Subscribing)
    → StandsIn terms initial opening caller time given before m
    → written ≡ map (says caller initial time) (reports m)

-- a call between two events, at a clock's time not before the last call's, wrote the bytes of these reports
abbrev pub WritesBy : (now : ℕ) → (before : Subscriber) → (written : List (List ℕ)) → (reports : (initial : ℕ) → List Report) → Type 0
WritesBy now before written reports =
    (terms : Terms) (initial opening caller last : ℕ) (m : Subscribing)
    → StandsFor terms initial opening caller last before m → last ≤ now
    → written ≡ map (says caller initial (now - opening)) (reports initial)

-- for all notes that the fields of a history represent, `P` holds
abbrev pub ForWhateverNotes : History → (P : (initial : ℕ) → Terms → List Note → Type 0) → Type 0
ForWhateverNotes h P = (initial : ℕ) (agreed : Terms) (notes : List Note) → IsHistory initial agreed h notes → P initial agreed notes

-- if the fields of a history represent notes before a call, they represent `f` of them after it
abbrev pub NotesBecome : (before after : History) → (f : List Note → List Note) → Type 0
NotesBecome before after f =
    (initial : ℕ) (agreed : Terms) (notes : List Note) → IsHistory initial agreed before notes → IsHistory initial agreed after (f notes)

-- a call recorded that a packet was sent at this time. `media` and `drop` state whether it is a data packet and
-- whether it is a drop request
abbrev pub NotesSent : (media drop : Bool) (time : ℕ) → (before after : History) → Type 0
NotesSent media drop time before after =
    (initial : ℕ) (agreed : Terms) (notes : List Note) (r : Report) → is_media r ≡ media → is_drop r ≡ drop
    → IsHistory initial agreed before notes → IsHistory initial agreed after (Sent time r ∷ notes)

-- the same for a data packet, sent for the first time or again
abbrev pub NotesMedia : (again : Bool) → (time : ℕ) → (before after : History) → Type 0
NotesMedia again time before after =
    (initial : ℕ) (agreed : Terms) (notes : List Note) (r : Report) → is_media r ≡ true → is_drop r ≡ false → is_again r ≡ again
    → IsHistory initial agreed before notes → IsHistory initial agreed after (Sent time r ∷ notes)

-- the same for a drop request
abbrev pub NotesDrop : (time : ℕ) → (before after : History) → Type 0
NotesDrop time before after = NotesSent false true time before after

-- the same for any other packet
abbrev pub NotesOther : (time : ℕ) → (before after : History) → Type 0
NotesOther time before after = NotesSent false false time before after

-- a call recorded that a NAK requested these numbers, which are expired
abbrev pub NotesMissed : Gone → (before after : History) → Type 0
NotesMissed gone before after =
    (initial : ℕ) (agreed : Terms) (notes : List Note) (r : Run) → gone ≡ run_gone initial r
    → IsHistory initial agreed before notes → IsHistory initial agreed after (Missed r ∷ notes)

-- a call raised the credit for resends at this time, if that is due
abbrev pub NotesRenewal : (time : ℕ) → (before after : History) → Type 0
NotesRenewal time before after =
    (initial : ℕ) (agreed : Terms) (notes : List Note)
    → IsHistory initial agreed before notes → IsHistory initial agreed after (renewed_notes agreed.resend_percent time notes)

-- a call recorded that all packets in flight were marked as lost; a session that resends all once hadn't done it since
-- the last growth
abbrev pub NotesPresumed : (before after : History) → Type 0
NotesPresumed before after =
    (initial : ℕ) (agreed : Terms) (notes : List Note) → (agreed.resending ≡ Once → tries notes ≡ 0)
    → IsHistory initial agreed before notes → IsHistory initial agreed after (Presumed ∷ notes)
