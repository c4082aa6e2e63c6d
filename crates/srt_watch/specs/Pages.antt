-- What a server of the status page was given to serve.
use Rattle.std.specs.Prelude.{◌≡◌, ◌⊎◌, ℕ, ◌+◌, ◌<◌, ◌≤◌, Bool, true, false, List, [], ◌∷◌, ◌++◌, map, length, Option, IfSome}
use Rattle.std.specs.List.{AllByRecursion}
use denote.Ref.{Bor}
use Rattle.std.specs.Prelude.{option_map}
use Rattle.srt_status.specs.declared.events.Event.{Event}
use Rattle.srt_status.specs.declared.gateway.GatewayStatus.{GatewayStatus}
use Rattle.srt_status.specs.declared.route_status.RouteStatus.{RouteStatus}
use Rattle.srt_status.specs.declared.gateway.ChangeCounts.{ChangeCounts}
use Rattle.srt_watch.specs.Facts.{MachineFacts}
use Rattle.srt_watch.specs.Log.{most}
use Rattle.srt_watch.specs.Overview.{gateway_of, changes_with}
use Rattle.srt_watch.specs.declared.overview.Overview.{Overview}
use Rattle.srt_watch.specs.declared.rests.Rests.{Rests}

-- the status of the gateway, those of its routes, and the last lines of its log
pub record ShownPage : Type 0 where
  pub gateway : GatewayStatus
  pub routes : List RouteStatus
  pub events : List Event

abbrev pub page : GatewayStatus → List RouteStatus → List Event → ShownPage
page gateway routes events = record { gateway = gateway; routes = routes; events = events }

-- more pages, where a server records what it shows
abbrev pub with_pages : Option (List ShownPage) → List ShownPage → Option (List ShownPage)
with_pages recorded more = option_map (λ pages. pages ++ more) recorded

-- The page at a time: the gateway as a whole, and the routes of the configuration in force, in its order. `counts` are those of changes,
-- `used` is the number of indexes that are used.
abbrev pub page_at : Overview → ChangeCounts → (version : Bor (List ℕ)) → (shown : List RouteStatus) → (used : ℕ) → List Event → (moment : ℕ) → ShownPage
page_at overview counts version shown used events moment =
    page (gateway_of overview version moment (length shown) (changes_with used counts)) shown events

-- the pages at these times
abbrev pub pages_at : Overview → ChangeCounts → (version : Bor (List ℕ)) → (shown : List RouteStatus) → (used : ℕ) → List Event → (moments : List ℕ)
    → List ShownPage
pages_at overview counts version shown used events moments = map (page_at overview counts version shown used events) moments

-- So many pages were shown, each at a time that the machine's clock returned
pub record ShowedPages (machine : MachineFacts) (number : ℕ) (before after : Option (List ShownPage)) (overview : Overview) (counts : ChangeCounts)
    (version : Bor (List ℕ)) (shown : List RouteStatus) (used : ℕ) (events : List Event) : Type 0 where
  pub moments : List ℕ
  pub number_is : length moments ≡ number
  pub were_moments : AllByRecursion machine.was_moment moments
  pub shown_is : after ≡ with_pages before (pages_at overview counts version shown used events moments)

-- A page was shown, at such a time
pub record ShowedPage (machine : MachineFacts) (before after : Option (List ShownPage)) (overview : Overview) (counts : ChangeCounts) (version : Bor (List ℕ))
    (shown : List RouteStatus) (used : ℕ) (events : List Event) : Type 0 where
  pub moment : ℕ
  pub was_moment : machine.was_moment moment
  pub shown_is : after ≡ with_pages before (page_at overview counts version shown used events moment ∷ [])

-- So much time passed between two moments of the machine's clock.
pub record HasPassed (machine : MachineFacts) (micros : ℕ) : Type 0 where
  pub began : ℕ
  pub was_beginning : machine.was_moment began
  pub ended : ℕ
  pub was_end : machine.was_moment ended
  pub is_over : most (began + micros) ≤ ended

-- How long a rest is by whether a client is connected: one without a page, or pauses, at least one, which end after 20 milliseconds or 20 of them.
abbrev pub IsRest : MachineFacts → (is_awaited : Bool) → Rests → Type 0
IsRest machine true rests = (rests.rests ≡ 0) × (0 < rests.pauses) × ((rests.pauses ≡ 20) ⊎ HasPassed machine 20_000)
IsRest machine false rests = (rests.rests ≡ 1) × (rests.pauses ≡ 0)

-- The watcher rested, and showed a page after each pause.
pub record HasRested (machine : MachineFacts) (awaits : Option Bool) (rests : Rests) (before after : Option (List ShownPage)) (overview : Overview)
    (counts : ChangeCounts) (version : Bor (List ℕ)) (shown : List RouteStatus) (used : ℕ) (events : List Event) : Type 0 where
  pub is_awaited : Bool
  pub awaited_is : IfSome awaits (λ a. is_awaited ≡ a)
  pub rests_are : IsRest machine is_awaited rests
  pub pages : ShowedPages machine rests.pauses before after overview counts version shown used events

-- It rested, with pages of what it had, and then one was shown of what it has
pub record ShowedTwice (machine : MachineFacts) (awaits : Option Bool) (rests : Rests) (before after : Option (List ShownPage)) (old new : Overview)
    (counts : ChangeCounts) (version : Bor (List ℕ)) (shown : List RouteStatus) (used : ℕ) (old_events new_events : List Event) : Type 0 where
  pub middle : Option (List ShownPage)
  pub first : HasRested machine awaits rests before middle old counts version shown used old_events
  pub last : ShowedPage machine middle after new counts version shown used new_events
