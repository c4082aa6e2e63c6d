-- The routes at the end of a run, before and after they are settled.
use Rattle.std.specs.Prelude.{◌≡◌, ℕ, ◌+◌, List, [], ◌∷◌, length}
use Rattle.srt_types.specs.Terms.{Terms}
use Rattle.srt_route.specs.declared.route.Route.{Route}
use Rattle.srt_route.specs.Stands.{stands}
use Rattle.srt_mailbox.specs.declared.inbox_rule.InboxEntry.{InboxEntry}
use Rattle.srt_mailbox.specs.Inbox.{applied}
use Rattle.srt_mailbox.specs.Counts.{counted}
use Rattle.srt_mailbox.specs.declared.accounts.Account.{Account}
use Rattle.srt_mailbox.specs.Cells.{CellIdentity, AreEndsOf}
use Rattle.srt_mailbox.specs.Ends.{Producer}
use Rattle.srt_mailbox.specs.Settled.{Settles}
use Rattle.srt_poller.specs.declared.ends.Ends.{Ends}

-- the ends of each route are of its queues; there may be clock's ends after those
abbrev pub AreJoined : List CellIdentity → List Ends → List Producer → Type 0
AreJoined [] [] clocks = Unit {0}
AreJoined [] (e ∷ ends) clocks = ⊥
AreJoined (n ∷ routes) [] clocks = ⊥
AreJoined (n ∷ routes) (e ∷ ends) [] = ⊥
AreJoined (n ∷ routes) (e ∷ ends) (c ∷ clocks) = AreEndsOf n e.ingress c e.drain × AreJoined routes ends clocks

-- each account is that of its route
abbrev pub AreSettled : List Account → List CellIdentity → List Ends → List Producer → Type 0
AreSettled [] [] [] clocks = Unit {0}
AreSettled [] [] (e ∷ ends) clocks = ⊥
AreSettled [] (n ∷ routes) ends clocks = ⊥
AreSettled (a ∷ accounts) [] ends clocks = ⊥
AreSettled (a ∷ accounts) (n ∷ routes) [] clocks = ⊥
AreSettled (a ∷ accounts) (n ∷ routes) (e ∷ ends) [] = ⊥
AreSettled (a ∷ accounts) (n ∷ routes) (e ∷ ends) (c ∷ clocks) = Settles a n e.ingress c e.drain × AreSettled accounts routes ends clocks

-- A route was shown under this index after its last turn: it stands for as many items as its final counters have, and that many replies waited.
-- `shown` is what is known of a watcher once it was shown a route
pub record WasLastShown (shown : (index : ℕ) → Route → Type 0) (index : ℕ) (a : Account) : Type 0 where
  pub route : Route
  pub terms : Terms
  pub own : ℕ
  pub taken : List InboxEntry
  pub stands_for : stands route terms own (applied taken)
  pub taken_is : a.taken ≡ counted (length taken)
  pub shown_is : shown index route

-- so was the route of each of these accounts, under its index, from this one on
abbrev pub AreLastShown : (shown : (index : ℕ) → Route → Type 0) → (from : ℕ) → List Account → Type 0
AreLastShown shown from [] = Unit {0}
AreLastShown shown from (a ∷ accounts) = WasLastShown shown from a × AreLastShown shown (from + 1) accounts
