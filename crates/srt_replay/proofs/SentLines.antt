-- The lines of the datagrams that were sent.
use Rattle.std.proofs.Common.{◌≡◌, ℕ, zero, suc, ◌+◌, ◌/◌, ◌%◌, ◌==◌, ◌&&◌, nat_lt, Bool, true, false, not, is_some, eqb-true, List, []}
use Rattle.std.proofs.Common.{◌∷◌, ◌++◌, slice_index, map, codes, decimal, Option, None, Some, refl, sym, ap, subst, ◌∙◌, append_assoc}
use Rattle.std.proofs.Common.{if◌then◌else◌, arith, length, cond, ◌≤◌, rules}
use Rattle.std.specs.List.{AllByRecursion}
use Rattle.std.specs.Fmt.{digits, digits_onto, digit_glyph}
use Rattle.std.proofs.lemmas.Bool.Decides.{nat_tests}
use Rattle.std.proofs.lemmas.List.{append-nil, map-append}
use Rattle.hex.specs.Hex.{encode_with, encode_lower, lower_digits}
use Rattle.srt_types.specs.Items.{Datagram, Item, Received, Tick, Close}
use Rattle.srt_types.specs.declared.shared.OpenFault.TheVariants as faults
use Rattle.srt_types.specs.Terms.{Terms}
use Rattle.srt_types.specs.Entries.{is_name, in_limits}
use Rattle.srt_lobby.specs.Names.{index_of}
use Rattle.srt_types.specs.declared.shared.Turned.{Turned}
use Rattle.srt_types.specs.declared.shared.Turned.TheVariants.{Moved, Applied, Blocked, Idle}
use Rattle.srt_lobby.specs.declared.classes.Cause.{Cause}
use Rattle.srt_lobby.specs.declared.classes.Cause.TheVariants as cause
use Rattle.srt_lobby.specs.declared.classes.Class.{Class}
use Rattle.srt_lobby.specs.declared.classes.Class.TheVariants.{Answer, Route, Dropped}
use Rattle.srt_hub.specs.declared.answers.Arrived.{Arrived}
use Rattle.srt_hub.specs.declared.answers.Arrived.TheVariants as arrived
use Rattle.srt_hub.specs.declared.answers.Closing.{Closing}
use Rattle.srt_hub.specs.declared.answers.Closing.TheVariants as closings
use Rattle.srt_hub.specs.declared.answers.Ticked.{Ticked}
use Rattle.srt_hub.specs.declared.answers.Ticked.TheVariants as ticked
use Rattle.srt_hub.specs.World.{Event, Arrives, Ticks, Turns, Sends, Opens, Closes, Sorting, Meaning, Lane, Step, Offers, Send, Nothing}
use Rattle.srt_hub.specs.World.{own_step, step_for, sends_out, Turn, empty, names_in, is_shown_in, listed, offer_if, opening_of, closing}
use Rattle.srt_hub.specs.World.{arrival_of, offered_to, is_route, sent, first, tick, turn, world_after}
use Rattle.srt_hub.specs.Hubs.{entry_at, lane_at, room_at}
use Rattle.srt_replay.specs.Tape.{lines_of}
use Rattle.srt_replay.specs.Texts.{digit_of, route_text, arrived_text, arrival_text, ticked_text, turned_text, sent_text, opened_text, closed_text, event_text}
use Rattle.srt_replay.specs.Replay.{text_after, with_past}
use Rattle.srt_replay.specs.Sent.{events_of, happened, is_send, sent_line, is_sent_line, sent_at, SentLinesTell, TapesAreIsolated}
use Rattle.srt_hub.proofs.Isolation.{gateways_isolated}
use Rattle.srt_hub.proofs.OpeningRoutes.{empty_before}
use Rattle.srt_replay.proofs.TapeEvents.{Unrefused, AllUnrefused, lines_unrefused}
use Rattle.srt_replay.proofs.FirstLine.{IsInside, ended}

abbrev Inside : List ℕ → Type 0
Inside line = AllByRecursion IsInside line

both : (xs ys : List ℕ) → Inside xs → Inside ys → Inside (xs ++ ys)
both [] ys h k = k
both (x ∷ xs) ys h k = (h.0, both xs ys h.1 k)

-- digits aren't LF
digit : (t : Bool) (d : ℕ) → IsInside (if t then 48 + d else 87 + d)
digit true d e = omega (arith, e)
digit false d e = omega (arith, e)

whichever : (t : Bool) (xs ys : List ℕ) → Inside xs → Inside ys → Inside (if t then xs else ys)
whichever true xs ys h k = h
whichever false xs ys h k = k

digits_inside : (k n : ℕ) (acc : List ℕ) → Inside acc → Inside (digits_onto k 10 false n acc)
digits_inside zero n acc h = h
digits_inside (suc k) n acc h =
    let more : Inside (digit_glyph false (n % 10) ∷ acc) = (digit (nat_lt (n % 10) 10) (n % 10), h) in
    whichever (n / 10 == 0) (digit_glyph false (n % 10) ∷ acc) (digits_onto k 10 false (n / 10) (digit_glyph false (n % 10) ∷ acc)) more
    (digits_inside k (n / 10) (digit_glyph false (n % 10) ∷ acc) more)

decimal_inside : (n : ℕ) → Inside (decimal n)
unfolding digits
decimal_inside n = digits_inside 64 n [] tt

at_inside : (xs : List ℕ) (i : ℕ) → Inside xs → IsInside (slice_index xs i)
at_inside [] i h = λ e. cc
at_inside (x ∷ xs) zero h = h.0
at_inside (x ∷ xs) (suc i) h = at_inside xs i h.1

table_inside : Inside lower_digits
table_inside = search rules

hex_inside : (bytes : List ℕ) → Inside (encode_lower bytes)
unfolding encode_with
hex_inside [] = tt
hex_inside (b ∷ bytes) = (at_inside lower_digits (b / 16) table_inside, (at_inside lower_digits (b % 16) table_inside, hex_inside bytes))

-- a text that is one line
record IsLine (text : List ℕ) : Type 0 where
  line : List ℕ
  text_is : text ≡ line ++ 10 ∷ []
  inside : Inside line

route_line : (words : List ℕ) (r : ℕ) → Inside words → IsLine (route_text words r)
route_line words r h = record { line = words ++ decimal r; text_is = refl; inside = both words (decimal r) h (decimal_inside r) }

digit_inside : (c : Cause) → Inside (digit_of c ∷ [])
digit_inside cause.Packet = search rules
digit_inside cause.UnknownId = search rules
digit_inside cause.NotHandshake = search rules
digit_inside cause.Handshake = search rules
digit_inside cause.WrongKind = search rules
digit_inside cause.WrongCookie = search rules
digit_inside cause.NotAllowed = search rules

arrived_line : (a : Arrived) → IsLine (arrived_text a)
arrived_line (arrived.Answer bytes) =
    record {
      line = codes "answer " ++ encode_lower bytes;
      text_is = refl;
      inside = both (codes "answer ") (encode_lower bytes) (search rules) (hex_inside bytes);
    }
arrived_line (arrived.Accepted r) = route_line (codes "accepted ") r (search rules)
arrived_line (arrived.Full r) = route_line (codes "full ") r (search rules)
arrived_line (arrived.Dropped c) =
    record {
      line = codes "dropped " ++ digit_of c ∷ [];
      text_is = refl;
      inside = both (codes "dropped ") (digit_of c ∷ []) (search rules) (digit_inside c);
    }

offered_line : (r : ℕ) (room : Bool) → IsLine (arrived_text (offered_to r room))
offered_line r true = arrived_line (arrived.Accepted r)
offered_line r false = arrived_line (arrived.Full r)

arrival_line : (k : Class) (rooms : ℕ → Bool) → IsLine (arrival_text (arrival_of false rooms k))
arrival_line (Answer bytes) rooms = arrived_line (arrived.Answer bytes)
arrival_line (Dropped c) rooms = arrived_line (arrived.Dropped c)
arrival_line (Route r) rooms = offered_line r (rooms r)

tick_line : (r : ℕ) (t : Ticked) → IsLine (ticked_text r t)
tick_line r ticked.Accepted = route_line (codes "accepted ") r (search rules)
tick_line r ticked.Full = route_line (codes "full ") r (search rules)

turn_line : (t : Turned) → IsLine (turned_text t)
turn_line Moved = record { line = codes "moved"; text_is = refl; inside = search rules }
turn_line Applied = record { line = codes "applied"; text_is = refl; inside = search rules }
turn_line Blocked = record { line = codes "blocked"; text_is = refl; inside = search rules }
turn_line Idle = record { line = codes "idle"; text_is = refl; inside = search rules }

-- with enough memory an opening has a line
opening_line : (next : ℕ) (named limited : Bool)
    → IsLine (opened_text (opening_of next false (if named then (if limited then None else Some faults.Limits) else Some faults.Names)))
opening_line next true true = route_line (codes "opened ") next (search rules)
opening_line next true false = record { line = codes "open fault 2"; text_is = refl; inside = search rules }
opening_line next false limited = record { line = codes "open fault 1"; text_is = refl; inside = search rules }

closing_line : (r : ℕ) (c : Closing) → IsLine (closed_text r c)
closing_line r closings.Accepted = route_line (codes "closing ") r (search rules)
closing_line r closings.Full = route_line (codes "full ") r (search rules)
closing_line r closings.Closed = route_line (codes "closed ") r (search rules)

sent_inside : (d : Datagram) → Inside (sent_line d)
sent_inside d =
    let ip = encode_lower d.peer.ip in
    let port = 32 ∷ decimal d.peer.port in
    let bytes = 32 ∷ encode_lower d.bytes in
    let space : IsInside 32 = search rules in
    both (codes "sent " ++ ip ++ port) bytes
    (both (codes "sent " ++ ip) port (both (codes "sent ") ip (search rules) (hex_inside d.peer.ip)) (space, decimal_inside d.peer.port))
    (space, hex_inside d.bytes)

none_inside : Inside (codes "none")
none_inside = search rules

abbrev send_line : (o : Option Datagram) → IsLine (sent_text o)
send_line None = record { line = codes "none"; text_is = refl; inside = none_inside }
send_line (Some d) = record { line = sent_line d; text_is = refl; inside = sent_inside d }

-- the line, if it is a `sent` line
abbrev picked : (b : Bool) (line : List ℕ) → List (List ℕ)
picked b line = if b then line ∷ [] else []

sends_reported : (o : Option Datagram) → map sent_line (listed o) ≡ picked (is_sent_line (send_line o).line) (send_line o).line
sends_reported None = refl
sends_reported (Some d) = refl

picks : (b : Bool) (line : List ℕ) (others : List (List ℕ)) → (if b then line ∷ others else others) ≡ picked b line ++ others
picks true line others = refl
picks false line others = refl

nothing_offered : (t : Bool) (item : Item) (m : Lane) → sends_out (if t then Offers item else Nothing) m ≡ []
nothing_offered true item m = refl
nothing_offered false item m = refl

nothing_turned : (t : Bool) (m : Lane) → sends_out (if t then Turn else Nothing) m ≡ []
nothing_turned true m = refl
nothing_turned false m = refl

nothing_closed : (t shown : Bool) (item : Item) (m : Lane) → sends_out (if t then offer_if shown item else Nothing) m ≡ []
nothing_closed true true item m = refl
nothing_closed true false item m = refl
nothing_closed false shown item m = refl

-- an event's line, and its `sent` lines for a route
record Reported (class : Sorting) (reply : Meaning) (entries : List Terms) (r : ℕ) (past : List Event) (event : Event) : Type 0 where
  line : List ℕ
  text_is : event_text class reply entries past event ≡ line ++ 10 ∷ []
  inside : Inside line
  sends : map sent_line (sends_out (step_for class (world_after class reply entries past) r event) (lane_at class reply entries r past))
      ≡ picked (is_send r event && is_sent_line line) line

-- a step that sends nothing if the route exists sends nothing
none_sent : (there : Bool) (step : Step) (m : Lane) → sends_out step m ≡ [] → sends_out (cond there step Nothing) m ≡ []
none_sent true step m h = h
none_sent false step m h = refl

-- a route that doesn't exist sends nothing, and its outbox is empty
not_there : (n r : ℕ) → nat_lt r n ≡ false → n ≤ r
not_there n r h = grind (arith, nat_tests)

send_reported : (class : Sorting) (reply : Meaning) (entries : List Terms) (r s : ℕ) (past : List Event) (there : Bool)
    → nat_lt r (length (world_after class reply entries past).places) ≡ there → (t : Bool) → (t ≡ true → s ≡ r) →
    map sent_line (sends_out (cond there (if t then Send else Nothing) Nothing) (lane_at class reply entries r past))
    ≡ picked (t && is_sent_line (send_line (first (lane_at class reply entries s past).outbox)).line)
    (send_line (first (lane_at class reply entries s past).outbox)).line
send_reported class reply entries r s past true is true same =
    let o = first (lane_at class reply entries s past).outbox in
    subst
    (λ (q : ℕ). map sent_line (listed (first (lane_at class reply entries q past).outbox))
    ≡ picked (is_sent_line (send_line o).line) (send_line o).line)
    (same refl) (sends_reported o)
send_reported class reply entries r s past false is true same =
    let none : lane_at class reply entries s past ≡ empty = ap (λ (q : ℕ). lane_at class reply entries q past) (same refl)
    ∙ empty_before class reply entries r past (not_there (length (world_after class reply entries past).places) r is) in
    subst (λ (m : Lane). map sent_line [] ≡ picked (is_sent_line (send_line (first m.outbox)).line) (send_line (first m.outbox)).line) (sym none) refl
send_reported class reply entries r s past true is false same = refl
send_reported class reply entries r s past false is false same = refl

reported : (class : Sorting) (reply : Meaning) (entries : List Terms) (r : ℕ) (past : List Event) (event : Event)
    → Unrefused event → Reported class reply entries r past event
unfolding event_text
reported class reply entries r past (Arrives d moment true) u = absurd cc
reported class reply entries r past (Arrives d moment false) u =
    let w = world_after class reply entries past in
    let k = arrival_line (class (names_in w) d moment) (room_at class reply entries past) in
    record {
      line = k.line;
      text_is = k.text_is;
      inside = k.inside;
      sends = ap (map sent_line)
          (none_sent (nat_lt r (length w.places)) (own_step class w r (Arrives d moment false)) (w.lane r)
          (nothing_offered (is_route r (class (names_in w) d moment)) (Received d moment) (w.lane r)));
    }
reported class reply entries r past (Ticks s moment) u =
    let w = world_after class reply entries past in
    let k = tick_line s (tick (entry_at class reply entries s past) (w.lane s)) in
    record {
      line = k.line;
      text_is = k.text_is;
      inside = k.inside;
      sends = ap (map sent_line)
          (none_sent (nat_lt r (length w.places)) (own_step class w r (Ticks s moment)) (w.lane r)
          (nothing_offered (s == r) (Tick moment) (w.lane r)));
    }
reported class reply entries r past (Turns s) u =
    let w = world_after class reply entries past in
    let k = turn_line (turn (entry_at class reply entries s past) (w.lane s)) in
    record {
      line = k.line;
      text_is = k.text_is;
      inside = k.inside;
      sends = ap (map sent_line)
          (none_sent (nat_lt r (length w.places)) (own_step class w r (Turns s)) (w.lane r) (nothing_turned (s == r) (w.lane r)));
    }
reported class reply entries r past (Sends s) u =
    let w = world_after class reply entries past in
    let k = send_line (first (w.lane s).outbox) in
    record {
      line = k.line;
      text_is = k.text_is;
      inside = k.inside;
      sends = send_reported class reply entries r s past (nat_lt r (length w.places)) refl (s == r) (eqb-true s r);
    }
reported class reply entries r past (Opens e true) u = absurd cc
reported class reply entries r past (Opens e false) u =
    let w = world_after class reply entries past in
    let k = opening_line (length w.places) (is_name e.name && not (is_some (index_of (names_in w) e.name))) (nat_lt (length (names_in w)) 511 && in_limits e) in
    record {
      line = k.line;
      text_is = k.text_is;
      inside = k.inside;
      sends = ap (map sent_line) (none_sent (nat_lt r (length w.places)) Nothing (w.lane r) refl);
    }
reported class reply entries r past (Closes s moment) u =
    let w = world_after class reply entries past in
    let k = closing_line s (closing w s) in
    record {
      line = k.line;
      text_is = k.text_is;
      inside = k.inside;
      sends = ap (map sent_line)
          (none_sent (nat_lt r (length w.places)) (own_step class w r (Closes s moment)) (w.lane r)
          (nothing_closed (s == r) (is_shown_in w r) (Close moment) (w.lane r)));
    }

all_reported : (class : Sorting) (reply : Meaning) (entries : List Terms) (r : ℕ) (past coming : List Event) → AllUnrefused coming →
    map sent_line (sent class reply entries r (with_past past coming))
    ≡ map sent_line (sent class reply entries r past) ++ sent_at r coming (lines_of (text_after class reply entries past coming))
all_reported class reply entries r past [] u = sym (append-nil (map sent_line (sent class reply entries r past)))
all_reported class reply entries r past (event ∷ coming) u =
    let w = world_after class reply entries past in
    let p = reported class reply entries r past event u.0 in
    let rest = text_after class reply entries (event ∷ past) coming in
    let before = map sent_line (sent class reply entries r past) in
    let now = picked (is_send r event && is_sent_line p.line) p.line in
    let later = sent_at r coming (lines_of rest) in
    let lines : lines_of (text_after class reply entries past (event ∷ coming)) ≡ p.line ∷ lines_of rest =
    ap lines_of (ap (λ (xs : List ℕ). xs ++ rest) p.text_is ∙ append_assoc p.line (10 ∷ []) rest) ∙ ended p.line rest p.inside in
    let here : sent_at r (event ∷ coming) (lines_of (text_after class reply entries past (event ∷ coming))) ≡ now ++ later =
    ap (sent_at r (event ∷ coming)) lines ∙ picks (is_send r event && is_sent_line p.line) p.line later in
    all_reported class reply entries r (event ∷ past) coming u.1
    ∙ ap (λ (ls : List (List ℕ)). ls ++ later)
    (map-append sent_line (sent class reply entries r past) (sends_out (step_for class w r event) (w.lane r))
    ∙ ap (λ (ls : List (List ℕ)). before ++ ls) p.sends)
    ∙ append_assoc before now later
    ∙ ap (λ (ls : List (List ℕ)). before ++ ls) (sym here)

pub lines_tell : SentLinesTell
lines_tell class reply entries r tape =
    sym (all_reported class reply entries r [] (events_of class reply entries tape) (lines_unrefused class reply entries [] 1 (lines_of tape)))

pub tapes_isolated : TapesAreIsolated
tapes_isolated class reply secret entries entries' r tape tape' same took quiet quiet' =
    let sorting = class secret in
    let h = gateways_isolated class reply secret entries entries' r (happened sorting reply entries tape)
    (happened sorting reply entries' tape') same took quiet quiet' in
    let tells = lines_tell sorting reply entries r tape in
    (tells ∙ ap (map sent_line) h.0 ∙ sym (lines_tell sorting reply entries' r tape'), tells ∙ ap (map sent_line) h.1)
