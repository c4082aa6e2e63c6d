-- The last lines of the gateway's log (our choice), and their JSON text.
use Rattle.std.specs.Prelude.{◌≡◌, ℕ, ◌-◌, ◌/◌, ◌==◌, nat_le, nat_lt, Bool, false, ◌&&◌, List, [], ◌∷◌, ◌++◌, length, take, drop, slice_index}
use Rattle.std.specs.Prelude.{codes, if◌then◌else◌}
use Rattle.std.specs.List.{flat_map, list_all, remove}
use Rattle.srt_status.specs.declared.events.Event.{Event}
use Rattle.srt_status.specs.Texts.{name_text, micros_text}

-- what is kept of a line
pub record KeptEvent : Type 0 where
  pub moment : ℕ
  pub is_refusal : Bool
  pub text : List ℕ

abbrev pub kept_as : Event → KeptEvent
kept_as event = record { moment = event.moment; is_refusal = event.is_refusal; text = event.text.items }

-- a byte continues a character of UTF-8: it is one from 128 to 191
abbrev pub is_inner : (byte : ℕ) → Bool
is_inner byte = byte / 64 == 2

-- where a text of more than 512 bytes is cut: before the character that doesn't end within these; one of UTF-8 has at most four bytes
abbrev pub cut_at : (text : List ℕ) → ℕ
cut_at text =
    if is_inner (slice_index text 512) then (if is_inner (slice_index text 511) then (if is_inner (slice_index text 510) then 509 else 510) else 511)
    else 512

-- at most 512 bytes of a text
abbrev pub cut : (text : List ℕ) → List ℕ
cut text = if nat_le (length text) 512 then text else take (cut_at text) text

-- the last ten are refusals
abbrev pub is_of_refusal : Event → Bool
is_of_refusal event = event.is_refusal

abbrev pub is_flooded : List Event → Bool
is_flooded events = if nat_lt (length events) 10 then false else list_all is_of_refusal (drop (length events - 10) events)

-- with room for one more: of eleven refusals in a row the first one goes, of 51 events the oldest
abbrev pub with_room : List Event → (is_refusal : Bool) → List Event
with_room events is_refusal =
    if is_refusal && is_flooded events then remove events (length events - 10)
    else (if length events == 50 then remove events 0 else events)

-- a line was kept behind the others
pub record HasKept (old new : List Event) (moment : ℕ) (is_refusal : Bool) (text : List ℕ) : Type 0 where
  pub event : Event
  pub event_is : kept_as event ≡ record { moment = moment; is_refusal = is_refusal; text = cut text }
  pub events_are : new ≡ with_room old is_refusal ++ event ∷ []

-- an event as an object: its time in seconds since the start, and its text
unfoldable pub event_start : List ℕ
event_start = codes "{\"seconds\":"

unfoldable pub event_json : Event → List ℕ
event_json event =
    event_start ++ micros_text event.moment ++ codes ",\"text\":\"" ++ name_text event.text.items ++ codes "\"}"

unfoldable pub next_event_json : Event → List ℕ
next_event_json event = codes "," ++ event_json event

abbrev pub some_events_json : List Event → List ℕ
some_events_json [] = []
some_events_json (event ∷ events) = event_json event ++ flat_map next_event_json events

-- all of them
abbrev pub events_json : List Event → List ℕ
events_json events = codes "[" ++ some_events_json events ++ codes "]\n"
