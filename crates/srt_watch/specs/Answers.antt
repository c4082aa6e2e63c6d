-- What is known of each answer of a watcher: routes close and open as the configuration's file requests, and the run stops by a signal or after its time.
use Rattle.std.specs.Prelude.{◌≡◌, ℕ, Bool, true, nat_le, List, length, Option, Some, IfSome, slice_get}
use Rattle.std.specs.Option.{ForSome}
use Rattle.srt_types.specs.Terms.{Terms}
use Rattle.srt_supervision.specs.Answers.{Answer, AllClose, RunEnds, Closes, Opens}
use Rattle.srt_watch.specs.Configs.{IsConfigOf}
use Rattle.srt_watch.specs.Course.{later}
use Rattle.srt_watch.specs.Facts.{MachineFacts, FileFacts}
use Rattle.srt_watch.specs.Following.{IsWanted, IsTaken, closes_of, opens_of}
use Rattle.srt_watch.specs.Requests.{config_of, first_indexes}
use Rattle.srt_watch.specs.Stopping.{is_over}
use Rattle.srt_watch.specs.declared.course.Course.{Course}
use Rattle.srt_watch.specs.declared.in_force.InForce.{InForce}
use Rattle.srt_watch.specs.declared.in_force.Wanted.{Wanted}

-- the time of a run is over at this moment: it was to last so long from an earlier one on
pub record IsEnd (machine : MachineFacts) (ends_at : ℕ) : Type 0 where
  pub moment : ℕ
  pub lasts : ℕ
  pub was_moment : machine.was_moment moment
  pub was_lasting : machine.was_lasting lasts
  pub ends_is : ends_at ≡ later moment lasts

-- The run was to stop at this moment: a signal was pending, or its time was over.
pub data WasStopped (machine : MachineFacts) (moment : ℕ) : Type 0 where
  BySignal : machine.was_moment moment → machine.was_signalled → WasStopped machine moment
  ByTime : (ends_at : ℕ) → machine.was_moment moment → IsEnd machine ends_at → nat_le ends_at moment ≡ true → WasStopped machine moment

-- the course of a run on this machine
pub record IsSteered (machine : MachineFacts) (lasts : Option ℕ) (course : Course) : Type 0 where
  pub lasts_are : ForSome lasts machine.was_lasting
  pub ends_are : IfSome course.ends_at (IsEnd machine)
  pub stop_is : IfSome course.requested_at (WasStopped machine)

-- all routes may close
pub record IsStopping (machine : MachineFacts) : Type 0 where
  pub requested_at : ℕ
  pub stopped : WasStopped machine requested_at

-- the run may end: a second has passed, or a twentieth of one if the watcher takes the run for quiet, of which nothing is known here
pub record IsStopOver (machine : MachineFacts) : Type 0 where
  pub requested_at : ℕ
  pub moment : ℕ
  pub is_quiet : Bool
  pub stopped : WasStopped machine requested_at
  pub was_moment : machine.was_moment moment
  pub over : is_over requested_at moment is_quiet ≡ true

-- a configuration that was read from the file, and that may be taken
pub record WasRead (file : FileFacts) (in_force : InForce) (wanted : Wanted) : Type 0 where
  pub text : List ℕ
  pub was_read : file.was_read text
  pub config_is : IsConfigOf text wanted.config
  pub is_wanted : IsWanted in_force wanted

-- A configuration is in force: the one with which the run began, or one that was read from the file later and whose change the run made.
pub data WasInForce (file : FileFacts) : InForce → Type 0 where
  Began : (now : InForce) → file.was_first (config_of now) → now.indexes.items ≡ first_indexes (length (config_of now).entries.items) →
      WasInForce file now
  Reloaded : (before now : InForce) (wanted : Wanted) (first : ℕ) → WasInForce file before → WasRead file before wanted →
      IsTaken before now wanted first → WasInForce file now

-- The route with this index may close: a configuration that was read from the file requests it, while another one was in force.
pub record IsToClose (file : FileFacts) (route : ℕ) : Type 0 where
  pub in_force : InForce
  pub wanted : Wanted
  pub was_in_force : WasInForce file in_force
  pub was_read : WasRead file in_force wanted
  pub place : ℕ
  pub closes_at : slice_get (closes_of in_force wanted) place ≡ Some route

-- a route with these terms may open, likewise
pub record IsToOpen (file : FileFacts) (terms : Terms) : Type 0 where
  pub in_force : InForce
  pub wanted : Wanted
  pub was_in_force : WasInForce file in_force
  pub was_read : WasRead file in_force wanted
  pub place : ℕ
  pub opens_at : slice_get (opens_of wanted) place ≡ Some terms

-- what is known of the answers of a watcher on this machine, of this file
abbrev pub IsAnswer : MachineFacts → FileFacts → Answer → Type 0
IsAnswer machine file AllClose = ∥ IsStopping machine ∥₁
IsAnswer machine file RunEnds = ∥ IsStopOver machine ∥₁
IsAnswer machine file (Closes route) = ∥ IsToClose file route ∥₁
IsAnswer machine file (Opens terms) = ∥ IsToOpen file terms ∥₁
