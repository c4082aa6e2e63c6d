-- A round begins.
use Rattle.std.proofs.Common.{◌≡◌, ◌∙◌, refl, sym, ap, subst, ℕ, Bool, false, List, [], ◌∷◌, arith}
use Rattle.srt_types.specs.declared.shared.Schedule.{Schedule}
use Rattle.srt_lobby.specs.Names.{RouteName, AreDistinct}
use Rattle.srt_poller.specs.declared.ends.Ends.{Ends}
use Rattle.srt_poller.specs.Schedules.{opened_if, due, closed}
use Rattle.srt_poller.specs.History.{Begins, state}
use Rattle.srt_poller.specs.Pollers.{kept_in, begun_phase}
use Rattle.srt_poller.specs.Beginnings.{Rests, AreClosed, Began}
use Rattle.srt_poller.specs.Told.{Observer, setting_of}
use Rattle.srt_poller.proofs.Joined.{joined_none}
use Rattle.srt_poller.proofs.Steps.{unheard, are_later_none, went_once}

-- routes become visible, and then close
pub began_closing : (observer : Observer) (closes_all : Bool) (round latest : ℕ) (schedules : List Schedule) (old middle new : List RouteName)
    (before after : List Ends)
    → middle ≡ opened_if closes_all round schedules old → AreClosed closes_all latest round schedules middle new before after
    → Began observer closes_all round latest schedules old new before after
began_closing observer closes_all round latest schedules old middle new before after shown closing class source wire p phase over told =
    let offers = closing.0 in
    let done = closing.1 in
    went_once (setting_of class observer) schedules (Begins closes_all latest offers) 0 0 _ _ refl (omega arith)
    (over, refl, done.routes ∙ ap (λ (l : List RouteName). due closes_all round schedules l) shown, subst AreDistinct shown done.distinct)
    (unheard _ _ _ _ refl refl (sym (joined_none _)) (sym (joined_none _))) done.ends
    (ap (λ (l : List RouteName). state l (kept_in p) round (begun_phase p) latest) (done.names ∙ ap (closed offers) shown)) refl told

-- there was nothing to do
pub began_quietly : (observer : Observer) (round latest : ℕ) (schedules : List Schedule) (names : List RouteName) (ends : List Ends) → AreDistinct names →
    Rests round schedules names →
    Began observer false round latest schedules names names ends ends
began_quietly observer round latest schedules names ends distinct rests =
    began_closing observer false round latest schedules names names names ends ends (sym rests.0)
    ([], record { distinct = distinct; routes = sym rests.1; names = refl; ends = are_later_none (Begins false latest [] ∷ []) ends (λ r. refl) (λ r. refl) })
