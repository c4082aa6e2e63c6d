-- The bound on retransmissions to the subscribers of a route with a limit on resends, and what is sent again without a
-- NAK on a route for libsrt callers.
use Rattle.std.specs.Prelude.{◌≡◌, ℕ, ◌+◌, ◌-◌, ◌*◌, ◌/◌, ◌≤◌, true, Some, List, find}
use Rattle.srt_types.specs.declared.shared.Callers.TheVariants.{Libsrt}
use Rattle.srt_types.specs.declared.shared.Mode.TheVariants.{Live}
use Rattle.srt_types.specs.Terms.{Terms}
use Rattle.srt_types.specs.Items.{Item}
use Rattle.srt_sub.specs.Counting.{resent_in, fresh_in}
use Rattle.srt_sub.specs.Subscribing.{Subscribing, presumed, tries}
use Rattle.srt_route.specs.declared.route.Route.{Route as TheRoute}
use Rattle.srt_route.specs.Past.{Subscribes}
use Rattle.srt_route.specs.Sessions.{Session, is_open_in, is_recent, terms_of, time_in}
use Rattle.srt_route.specs.Route.{after}
use Rattle.srt_route.specs.Stands.{stands}

-- at every time each packet that was sent to an open subscriber again is one of the first 64, one of the limit's share
-- of its new packets, or one for each 20 ms since its session opened
abbrev pub ResendsFew : TheRoute → Type 0
ResendsFew r =
    (e : Terms) (index slot percent : ℕ) (items : List Item) (s : Session) (m : Subscribing)
    → stands r e index items → e.rules.resend_percent ≡ Some percent
    → find (is_open_in slot) (after e index items).sessions ≡ Some s → s.past ≡ Subscribes m
    → 100 * resent_in m.notes ≤ 6_400 + percent * fresh_in m.notes + 100 * (((after e index items).clock - s.opening) / 20_000)

-- on a live route for libsrt callers, all packets in flight to a subscriber that sends periodic NAKs were sent again
-- without a NAK at most once since the last ACK that acknowledged more, or since its opening
abbrev pub ResendsAllOnce : TheRoute → Type 0
ResendsAllOnce r =
    (e : Terms) (index slot : ℕ) (items : List Item) (s : Session) (m : Subscribing)
    → stands r e index items → e.rules.callers ≡ Libsrt → e.mode ≡ Live → s.conclusion.periodic_nak ≡ true
    → find (is_open_in slot) (after e index items).sessions ≡ Some s → s.past ≡ Subscribes m
    → tries m.notes ≤ 1

-- on a route for libsrt callers, at the end of an event nothing becomes lost without a NAK in the session of a subscriber
-- that was heard last a second ago or longer
abbrev pub SilentAreSentNothing : Type 0
SilentAreSentNothing =
    (e : Terms) (clock : ℕ) (s : Session) (m : Subscribing) → e.rules.callers ≡ Libsrt → 1_000_000 ≤ clock - s.heard
    → presumed (terms_of e s).subscriber (time_in s clock) (is_recent s clock) m ≡ m
