-- The lines of a replay with the datagrams sent for a route.
use Rattle.std.specs.Prelude.{◌≡◌, ℕ, ◌==◌, ◌&&◌, Bool, false, List, [], ◌∷◌, ◌++◌, take, map, codes, decimal, if◌then◌else◌}
use Rattle.std.specs.Str.{bytes_eq}
use Rattle.hex.specs.Hex.{encode_lower}
use Rattle.srt_types.specs.Items.{Datagram}
use Rattle.srt_types.specs.Terms.{Terms}
use Rattle.srt_hub.specs.World.{Event, Arrives, Ticks, Turns, Sends, Opens, Closes, Sorting, Meaning, solo, accepted, sent, IsQuiet}
use Rattle.srt_hub.specs.Hubs.{entry_at, lane_at}
use Rattle.srt_replay.specs.Tape.{lines_of}
use Rattle.srt_replay.specs.Replay.{events_from, past_of, tape_text}

-- the events of a tape for a gateway that was opened with these entries, the oldest first
abbrev pub events_of : Sorting → Meaning → List Terms → (tape : List ℕ) → List Event
events_of class reply entries tape = events_from class reply entries [] 1 (lines_of tape)

-- the same with the newest first
abbrev pub happened : Sorting → Meaning → List Terms → (tape : List ℕ) → List Event
happened class reply entries tape = past_of class reply entries (lines_of tape)

-- whether an event is the send of a route, a line `S r`
abbrev pub is_send : (r : ℕ) → Event → Bool
is_send r (Sends s) = s == r
is_send r (Arrives d moment refused) = false
is_send r (Ticks s moment) = false
is_send r (Turns s) = false
is_send r (Opens e refused) = false
is_send r (Closes s moment) = false

-- the line of a datagram that was sent, without its LF
abbrev pub sent_line : Datagram → List ℕ
sent_line d = codes "sent " ++ encode_lower d.peer.ip ++ 32 ∷ decimal d.peer.port ++ 32 ∷ encode_lower d.bytes

-- whether a line begins with `sent `
abbrev pub is_sent_line : List ℕ → Bool
is_sent_line line = bytes_eq (take 5 line) (codes "sent ")

-- the `sent` lines at the sends of a route, selected from the lines that belong to these events
abbrev pub sent_at : (r : ℕ) → List Event → (lines : List (List ℕ)) → List (List ℕ)
sent_at r [] lines = []
sent_at r (event ∷ events) [] = []
sent_at r (event ∷ events) (line ∷ lines) = if is_send r event && is_sent_line line then line ∷ sent_at r events lines else sent_at r events lines

-- the `sent` lines of a text at the lines `S r` of its tape
abbrev pub sent_lines : Sorting → Meaning → List Terms → (r : ℕ) → (tape text : List ℕ) → List (List ℕ)
sent_lines class reply entries r tape text = sent_at r (events_of class reply entries tape) (lines_of text)

-- in the text of a tape they are the lines of the datagrams that were sent for the route
abbrev pub SentLinesTell : Type 0
SentLinesTell =
    (class : Sorting) (reply : Meaning) (entries : List Terms) (r : ℕ) (tape : List ℕ) →
    sent_lines class reply entries r tape (tape_text class reply entries tape) ≡ map sent_line (sent class reply entries r (happened class reply entries tape))

-- two tapes, replayed over gateways with the same secret, after which a route has the same entry, with which it was
-- opened at the start or by a line: if the route accepted the same items and nothing of it waits at the end, these
-- lines are the same, and are those of the route's own replies
abbrev pub TapesAreIsolated : Type 0
TapesAreIsolated =
    (class : (secret : List ℕ) → Sorting) (reply : Meaning) (secret : List ℕ) (entries entries' : List Terms) (r : ℕ) (tape tape' : List ℕ) →
    let sorting = class secret in
    let events = happened sorting reply entries tape in
    let events' = happened sorting reply entries' tape' in
    let e = entry_at sorting reply entries r events in
    e ≡ entry_at sorting reply entries' r events' →
    accepted sorting reply entries r events ≡ accepted sorting reply entries' r events' →
    IsQuiet (lane_at sorting reply entries r events) → IsQuiet (lane_at sorting reply entries' r events') →
    (sent_lines sorting reply entries r tape (tape_text sorting reply entries tape)
    ≡ sent_lines sorting reply entries' r tape' (tape_text sorting reply entries' tape'))
    ×
    (sent_lines sorting reply entries r tape (tape_text sorting reply entries tape) ≡ map sent_line (solo reply e r (accepted sorting reply entries r events)))
