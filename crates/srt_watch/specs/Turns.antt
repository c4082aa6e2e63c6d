-- What a watcher does in its turns: its first lines, the losses, a route that it is shown.
use Rattle.std.specs.Prelude.{◌≡◌, ℕ, ◌-◌, ◌^◌, min, Bool, true, false, List, [], ◌∷◌, ◌++◌, Option, None, Some, IfSome}
use Rattle.std.specs.Option.{unwrap_or}
use denote.Ref.{Bor}
use Rattle.srt_route.specs.declared.route.Route.{Route}
use Rattle.srt_log.specs.Repeats.{Caller}
use Rattle.srt_log.specs.declared.events.LogEvent.TheVariants.{Stopped}
use Rattle.srt_log.specs.declared.events.StopCause.{StopCause}
use Rattle.srt_log.specs.declared.events.StopCause.TheVariants.{Rounds}
use Rattle.srt_status.specs.declared.gateway.ProcessUse.{ProcessUse}
use Rattle.srt_supervision.specs.declared.watch.RunStatus.{RunStatus}
use Rattle.srt_watch.specs.Course.{begun, stop_of, after_stop}
use Rattle.srt_watch.specs.FirstLines.{first_calls}
use Rattle.srt_watch.specs.Log.{LogCall, Logged, IsTimeOf, Always, Missed, Polled, Looked, Closed, said}
use Rattle.srt_watch.specs.Losses.{loss_calls, after_losses, more_missed}
use Rattle.srt_watch.specs.Machines.{MachineState}
use Rattle.srt_watch.specs.Observing.{status_place, with_take_overs, with_ends, changed_if, HasObserved}
use Rattle.srt_watch.specs.RouteLines.{change_calls, limit_calls, absence_calls, take_overs_to}
use Rattle.srt_watch.specs.Repeating.{taken_to, repeat_calls}
use Rattle.srt_watch.specs.Routes.{name_of}
use Rattle.srt_watch.specs.Watching.{stop_calls}
use Rattle.srt_watch.specs.declared.course.Course.{Course}
use Rattle.srt_watch.specs.declared.first_lines.FirstLines.{FirstLines}
use Rattle.srt_watch.specs.declared.log.LogForm.{LogForm}
use Rattle.srt_watch.specs.declared.log.LogPace.{LogPace}
use Rattle.srt_watch.specs.declared.log.When.{When}
use Rattle.srt_watch.specs.declared.losses.Losses.{Losses}
use Rattle.srt_watch.specs.declared.overview.Overview.{Overview}
use Rattle.srt_watch.specs.declared.watched_routes.SnapshotPair.{SnapshotPair}
use Rattle.srt_watch.specs.declared.watched_routes.WatchedRoutes.{WatchedRoutes}

-- something was done at the time that a machine says
pub record ShowedAt (says : Option MachineState) (form : LogForm) (done : When → Type 0) : Type 0 where
  pub when : When
  pub now_is : IfSome says (λ s. IsTimeOf form s when)
  pub is_done : done when

-- The first lines were written, with the memory that the machine says.
pub record HasBegun (says : Option MachineState) (lines : FirstLines) (before after : Option (List ℕ)) (p q : LogPace) (when : When) (routes : ℕ) : Type 0 where
  pub memory : Option ℕ
  pub memory_is : IfSome says (λ s. memory ≡ s.memory)
  pub logged : Logged before after p q (first_calls lines.start lines.warnings.items when (min routes (2 ^ 32 - 1)) (unwrap_or memory 0))

-- The number of dropped datagrams was read, and what is new of it and of the socket's faults was logged.
pub record HasLost (says : Option MachineState) (o n : Overview) (old new : Losses) (before after : Option (List ℕ)) (p q : LogPace) (when : When) : Type 0
  where
    pub drops : Option ℕ
    pub drops_are : IfSome says (λ s. drops ≡ s.drops)
    pub overview_is : n ≡ record o { drops = drops }
    pub losses_are : new ≡ after_losses old drops
    pub logged : Logged before after p q (loss_calls old when drops)

-- A turn was made, of a run that lasts so long: the first lines were written, the refusals counted that weren't reported, the lines told that the
-- last second left out, it was looked whether lines wait or had no room, and why the gateway is to stop, if it is; in this order.
pub record HasTurned (says : Option MachineState) (lines : FirstLines) (losses : Losses) (lasts : Option ℕ) (old new : Course)
    (before after : Option (List ℕ)) (p q : LogPace) (when : When) (routes : ℕ) (status : RunStatus) : Type 0 where
  pub memory : Option ℕ
  pub memory_is : IfSome says (λ s. memory ≡ s.memory)
  pub requested : Bool
  pub requested_is : IfSome says (λ s. requested ≡ s.stops)
  pub course_is : new ≡ after_stop (begun old when.moment lasts) requested when.moment
  pub logged :
      Logged before after p q
      (first_calls lines.start lines.warnings.items when (min routes (2 ^ 32 - 1)) (unwrap_or memory 0)
      ++ (Missed (more_missed losses status.missed) ∷ Polled when ∷ Looked ∷ stop_calls when (stop_of (begun old when.moment lasts) requested when.moment)))

-- the gateway after a look at what its process uses, and at its socket's buffer
abbrev pub with_use : Overview → (memory : Option ℕ) → ProcessUse → (receive_buffer : Option ℕ) → Overview
with_use o memory process receive_buffer = record o { memory = memory; process = process; receive_buffer = receive_buffer }

-- It was read what the process uses, and how large the buffer of the socket is, as the machine says.
pub record HasUse (says : Option MachineState) (o n : Overview) : Type 0 where
  pub memory : Option ℕ
  pub process : ProcessUse
  pub receive_buffer : Option ℕ
  pub memory_is : IfSome says (λ s. memory ≡ s.memory)
  pub process_is : IfSome says (λ s. process ≡ s.process)
  pub receive_buffer_is : IfSome says (λ s. receive_buffer ≡ s.receive_buffer)
  pub overview_is : n ≡ with_use o memory process receive_buffer

-- If snapshots are due, what was lost was logged, and how often callers were refused again of which that is due, and it was read what the
-- process uses; otherwise nothing was done.
pub data HasLooked (says : Option MachineState) (o n : Overview) (old new : Losses) (known later : List Caller) (before after : Option (List ℕ))
    (p q : LogPace) (when : When) : (due : Bool) → Type 0 where
  Early : n ≡ o → new ≡ old → later ≡ known → after ≡ before → q ≡ p → HasLooked says o n old new known later before after p q when false
  Due : (drops : Option ℕ) → IfSome says (λ s. drops ≡ s.drops) → new ≡ after_losses old drops → later ≡ taken_to known when.moment 32 →
      HasUse says (record o { drops = drops }) n →
      Logged before after p q (loss_calls old when drops ++ repeat_calls when known when.moment 32) →
      HasLooked says o n old new known later before after p q when true

-- why a gateway ends that wasn't to stop
abbrev pub rounds_unless : (stopping : Bool) → Option StopCause
rounds_unless true = None
rounds_unless false = Some Rounds

-- The log was ended: after the cause, if it wasn't logged, what was lost, and each count of refusals that wasn't told, by what is left out and
-- the last line.
pub record HasEnded (says : Option MachineState) (stopping : Bool) (losses : Losses) (known : List Caller) (before after : Option (List ℕ))
    (p q : LogPace) (when : When) : Type 0 where
  pub drops : Option ℕ
  pub drops_are : IfSome says (λ s. drops ≡ s.drops)
  pub logged :
      Logged before after p q
      (stop_calls when (rounds_unless stopping)
      ++ (loss_calls losses when drops ++ (repeat_calls when known (2 ^ 64 - 1) 32 ++ (Closed when ∷ Always when (said Stopped) ∷ []))))

-- the lines of two snapshots of a route
abbrev pub pair_calls : When → Bor (List ℕ) → SnapshotPair → List LogCall
pair_calls when name pair = change_calls when name pair ++ limit_calls when name.now pair.grown ++ absence_calls when name.now pair.absent

-- what was logged and counted of two snapshots of the route with this index, if there are two
pub data HasTold (middle new : WatchedRoutes) (index : ℕ) (before after : Option (List ℕ)) (p q : LogPace) (when : When) : Option SnapshotPair → Type 0 where
  Nothing : new ≡ middle → after ≡ before → q ≡ p → HasTold middle new index before after p q when None
  Told : (pair : SnapshotPair) (name : Bor (List ℕ)) → name.now ≡ name_of middle index → Logged before after p q (pair_calls when name pair) →
      new.routes ≡ middle.routes →
      new.shown.items ≡ changed_if (with_ends pair) (changed_if (with_take_overs (take_overs_to pair.old pair.new 120)) middle.shown.items
      (status_place middle index)) (status_place middle index) →
      HasTold middle new index before after p q when (Some pair)

-- A route was shown: it was observed, and what has changed since the snapshot before was logged.
pub record HasShown (old new : WatchedRoutes) (index : ℕ) (route : Route) (stops : Bool) (before after : Option (List ℕ)) (p q : LogPace) (when : When) : Type 0
  where
    pub middle : WatchedRoutes
    pub pair : Option SnapshotPair
    pub observed : HasObserved old middle index route when.moment stops pair
    pub told : HasTold middle new index before after p q when pair
