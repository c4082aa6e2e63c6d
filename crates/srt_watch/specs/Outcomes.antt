-- What a poll of the configuration's file does besides: the lines of the log, the counts of changes, and the routes that are watched.
use Rattle.std.specs.Prelude.{◌≡◌, ◌⊎◌, ℕ, Bool, true, List, [], ◌∷◌, ◌++◌, Option, None, Some, IfSome, is_some, Result, Ok, Err}
use Rattle.srt_status.specs.declared.gateway.ChangeCounts.{ChangeCounts}
use Rattle.srt_supervision.specs.Changes.{with_asked}
use Rattle.srt_supervision.specs.declared.changes.ChangeFault.{ChangeFault}
use Rattle.srt_watch.specs.ChangeLines.{one_taken, one_refused, not_taken_said, counted_not_taken, no_room_said, rejected_said, taken_calls, few_calls}
use Rattle.srt_watch.specs.Expecting.{IsExpecting}
use Rattle.srt_watch.specs.Files.{FileState}
use Rattle.srt_watch.specs.Following.{Record, IsTaken, IsFollowed, IsRefused, IsFoundConfig, IsFound, changes_no_route, opens_of, request_of}
use Rattle.srt_watch.specs.Holding.{held_calls, waits_for, look_of}
use Rattle.srt_watch.specs.Indexes.{numbers_of}
use Rattle.srt_watch.specs.Log.{LogCall, Always, Logged}
use Rattle.srt_watch.specs.Openings.{AreOpening}
use Rattle.srt_watch.specs.Preparing.{IsNoRoom}
use Rattle.srt_watch.specs.Polls.{FoundFile, news_of, after_look, held, kept_after}
use Rattle.srt_watch.specs.Requests.{config_of}
use Rattle.srt_watch.specs.Routes.{used_of}
use Rattle.srt_watch.specs.declared.following.Found.{Found}
use Rattle.srt_watch.specs.declared.in_force.InForce.{InForce}
use Rattle.srt_watch.specs.declared.in_force.NotTaken.{NotTaken}
use Rattle.srt_watch.specs.declared.in_force.Wanted.{Wanted}
use Rattle.srt_watch.specs.declared.log.LogPace.{LogPace}
use Rattle.srt_watch.specs.declared.log.When.{When}
use Rattle.srt_watch.specs.declared.prepared_change.NoRoom.{NoRoom}
use Rattle.srt_watch.specs.declared.watched_file.Polling.{Polling}
use Rattle.srt_watch.specs.declared.watched_routes.OpeningRoute.{OpeningRoute}
use Rattle.srt_watch.specs.declared.watched_routes.WatchedRoutes.{WatchedRoutes}

-- nothing is other among the routes that are watched
pub record SameRoutes (old new : WatchedRoutes) : Type 0 where
  pub routes_are : new.routes.items ≡ old.routes.items
  pub shown_are : new.shown ≡ old.shown

-- the lines of a change that the run made, whose routes opened from this index on
abbrev pub made_calls : When → InForce → Wanted → (first : ℕ) → (old new : WatchedRoutes) → List LogCall
made_calls when before wanted first old new =
    taken_calls when (numbers_of wanted.changes.gone.items wanted.changes.routes.items) (config_of before).entries.items wanted first
    ++ few_calls when (used_of old.routes.items) (used_of new.routes.items)

-- What becomes of a change that is requested of the run: the lines say what the run answered, the counts have it, and only a change that was made
-- changes the routes that are watched. A configuration that changes no route is in force without a line.
pub data IsAnnounced (before after : InForce) (wanted : Wanted) (asked_before asked_after : Record) (when : When) (old new : WatchedRoutes)
    (written_before written_after : Option (List ℕ)) (p q : LogPace) (c d : ChangeCounts) : Type 0 where
  Unchanged : (first : ℕ) (opening : List OpeningRoute) → AreOpening (opens_of wanted) opening →
      changes_no_route wanted ≡ true → IsTaken before after wanted first →
      asked_after ≡ asked_before →
      IsExpecting old new wanted.changes.routes.items after.indexes.items opening wanted.config.expected.items →
      written_after ≡ written_before → q ≡ p → d ≡ c →
      IsAnnounced before after wanted asked_before asked_after when old new written_before written_after p q c d
  Rejected : (fault : ChangeFault) (opening : List OpeningRoute) → AreOpening (opens_of wanted) opening → after ≡ before →
      asked_after ≡ with_asked asked_before (request_of before wanted (Err fault)) → new ≡ old →
      Logged written_before written_after p q (Always when (rejected_said opening fault) ∷ []) → d ≡ one_refused c →
      IsAnnounced before after wanted asked_before asked_after when old new written_before written_after p q c d
  Made : (first : ℕ) (opening : List OpeningRoute) → AreOpening (opens_of wanted) opening → IsTaken before after wanted first →
      asked_after ≡ with_asked asked_before (request_of before wanted (Ok first)) →
      IsExpecting old new wanted.changes.routes.items after.indexes.items opening wanted.config.expected.items →
      Logged written_before written_after p q (made_calls when before wanted first old new) → d ≡ one_taken c →
      IsAnnounced before after wanted asked_before asked_after when old new written_before written_after p q c d

-- What a poll does of what was found in the file: nothing, one line where a content isn't taken, waits, or has no room, or what becomes of its change.
pub data IsTold (found : Option FoundFile) (before after : InForce) (asked_before asked_after : Record) (when : When) (old new : WatchedRoutes)
    (written_before written_after : Option (List ℕ)) (p q : LogPace) (c d : ChangeCounts) : Type 0 where
  NoNews : found ≡ None → after ≡ before → asked_after ≡ asked_before → new ≡ old → written_after ≡ written_before → q ≡ p → d ≡ c →
      IsTold found before after asked_before asked_after when old new written_before written_after p q c d
  NotTold : (why : NotTaken) → IsRefused before found why → after ≡ before → asked_after ≡ asked_before → new ≡ old →
      Logged written_before written_after p q (Always when (not_taken_said why) ∷ []) → d ≡ counted_not_taken why c →
      IsTold found before after asked_before asked_after when old new written_before written_after p q c d
  Waits : (wanted : Wanted) (was_held : Bool) → IsFoundConfig found wanted.config → is_some (waits_for was_held old before wanted) ≡ true →
      after ≡ before → asked_after ≡ asked_before → new ≡ old →
      Logged written_before written_after p q (held_calls when old (waits_for was_held old before wanted)) → d ≡ c →
      IsTold found before after asked_before asked_after when old new written_before written_after p q c d
  NoMemory : (wanted : Wanted) (why : NoRoom) → IsFoundConfig found wanted.config → IsNoRoom (opens_of wanted) why → after ≡ before →
      asked_after ≡ asked_before → SameRoutes old new →
      Logged written_before written_after p q (Always when (no_room_said why) ∷ []) → d ≡ one_refused c →
      IsTold found before after asked_before asked_after when old new written_before written_after p q c d
  Requested : (wanted : Wanted) (ready : WatchedRoutes) → IsFoundConfig found wanted.config → SameRoutes old ready →
      IsAnnounced before after wanted asked_before asked_after when ready new written_before written_after p q c d →
      IsTold found before after asked_before asked_after when old new written_before written_after p q c d

-- A poll of a file found this, if the file says what it has: the content that is kept then, and what is returned.
pub record HasFound (says : Option FileState) (p : Polling) (kept now : Option (List ℕ)) (moment : ℕ) (in_force : InForce)
    (result : Option (Result Found NotTaken)) : Type 0 where
  pub file : Option FoundFile
  pub file_is : IfSome says (λ s. file ≡ news_of p moment kept s)
  pub kept_is : now ≡ kept_after file kept
  pub is_found : IsFound in_force file result

-- a file that is followed: what it says, when it is polled, the content that was kept, and the configuration in force
pub record FollowedFile : Type 0 where
  pub says : Option FileState
  pub polling : Polling
  pub kept : Option (List ℕ)
  pub in_force : InForce

abbrev pub file_with : Option FileState → Polling → (kept : Option (List ℕ)) → InForce → FollowedFile
file_with says p kept in_force = record { says = says; polling = p; kept = kept; in_force = in_force }

-- the polling after a poll, by which a content may be held
abbrev pub IsPolled : (moment : ℕ) → (p now : Polling) → Type 0
IsPolled moment p now = (now ≡ p) ⊎ (now ≡ held p moment)

-- A file was polled: what was new in it, if it says what it has; when it is polled next; and what became of it.
pub record HasTold (o n : FollowedFile) (asked_before asked_after : Record) (when : When) (old new : WatchedRoutes)
    (written_before written_after : Option (List ℕ)) (p q : LogPace) (c d : ChangeCounts) : Type 0 where
  pub found : Option FoundFile
  pub found_is : IfSome o.says (λ s. found ≡ news_of o.polling when.moment o.kept s)
  pub says_is : n.says ≡ o.says
  pub polling_is : IfSome o.says (λ s. IsPolled when.moment (after_look o.polling when.moment o.kept s) n.polling)
  pub kept_is : n.kept ≡ kept_after found o.kept
  pub told : IsTold found o.in_force n.in_force asked_before asked_after when old new written_before written_after p q c d

-- The file that is followed was polled, if there is one; otherwise nothing was done.
pub data HasPolled (before after : Option FollowedFile) (asked_before asked_after : Record) (when : When) (old new : WatchedRoutes)
    (written_before written_after : Option (List ℕ)) (p q : LogPace) (c d : ChangeCounts) : Type 0 where
  NoFile : before ≡ None → after ≡ None → asked_after ≡ asked_before → new ≡ old → written_after ≡ written_before → q ≡ p → d ≡ c →
      HasPolled before after asked_before asked_after when old new written_before written_after p q c d
  Polled : (o n : FollowedFile) → before ≡ Some o → after ≡ Some n →
      IsFollowed (look_of o.polling when.moment o.kept old) o.in_force n.in_force asked_before asked_after →
      HasTold o n asked_before asked_after when old new written_before written_after p q c d →
      HasPolled before after asked_before asked_after when old new written_before written_after p q c d
