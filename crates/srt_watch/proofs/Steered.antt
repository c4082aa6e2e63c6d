-- The course of a run on its machine.
use Rattle.std.proofs.Common.{◌≡◌, Bool, true, false, None, Some, refl, sym, subst}
use Rattle.std.proofs.Math.Logic.{∥∥₁_map}
use Rattle.std.specs.Prelude.{ℕ, Option, IfSome, is_some, nat_le, if◌then◌else◌}
use Rattle.srt_log.specs.declared.events.StopCause.TheVariants.{Duration}
use Rattle.srt_supervision.specs.Answers.{IsOrdered}
use Rattle.srt_supervision.specs.declared.order.Order.{Order}
use Rattle.srt_supervision.specs.declared.order.Order.TheVariants as orders
use Rattle.srt_watch.specs.Answers.{IsAnswer, IsEnd, WasStopped, BySignal, ByTime, IsSteered, IsStopping, IsStopOver}
use Rattle.srt_watch.specs.Course.{ending, is_due, later, after_due, cause_of, stop_of, after_stop}
use Rattle.srt_watch.specs.Facts.{MachineFacts, FileFacts}
use Rattle.srt_watch.specs.Stopping.{is_over, stop_step}
use Rattle.srt_watch.specs.declared.course.Course.{Course}
use Rattle.srt_watch.specs.declared.stopping.StopStep.TheVariants.{GoOn, Close, End}

begun_course : (m : MachineFacts) (n moment : ℕ) (course : Course) → m.was_moment moment → IsSteered m (Some n) course →
    IsSteered m None (ending course moment n)
begun_course m n moment course given k = record {
  lasts_are = λ x e. absurd (let bad : None ≡ Some x = e in cc);
  ends_are = record { moment = moment; lasts = n; was_moment = given; was_lasting = k.lasts_are n refl; ends_is = refl };
  stop_is = k.stop_is;
}

-- a run has begun that ends by itself
pub begun : (m : MachineFacts) (lasts left : Option ℕ) (n moment : ℕ) (course now : Course) → m.was_moment moment → lasts ≡ Some n → left ≡ None →
    now ≡ ending course moment n → ∥ IsSteered m lasts course ∥₁ → ∥ IsSteered m left now ∥₁
begun m lasts left n moment course now given is after ends known =
    subst (λ l. ∥ IsSteered m l now ∥₁) (sym after)
    (subst (λ c. ∥ IsSteered m None c ∥₁) (sym ends)
    (∥∥₁_map (subst (λ l. ∥ IsSteered m l course ∥₁) is known) (λ k. begun_course m n moment course given k)))

due_course : (m : MachineFacts) (lasts : Option ℕ) (course : Course) (moment : ℕ) → (due : Bool) → IsSteered m lasts course →
    IsSteered m lasts (if due then record course { next_snapshot = later moment 500_000 } else course)
due_course m lasts course moment true k = record { lasts_are = k.lasts_are; ends_are = k.ends_are; stop_is = k.stop_is }
due_course m lasts course moment false k = k

-- snapshots are due, or not
pub due : (m : MachineFacts) (lasts : Option ℕ) (course now : Course) (moment : ℕ) → now ≡ after_due course moment → ∥ IsSteered m lasts course ∥₁ →
    ∥ IsSteered m lasts now ∥₁
due m lasts course now moment is known =
    subst (λ c. ∥ IsSteered m lasts c ∥₁) (sym is) (∥∥₁_map known (due_course m lasts course moment (is_due course moment)))

by_time : (over : Bool) → is_some (if over then Some Duration else None) ≡ true → over ≡ true
by_time true h = refl
by_time false h = absurd (let bad : false ≡ true = h in cc)

-- a stop that was found was by a signal or by the time
found : (m : MachineFacts) (q e : Option ℕ) (requested : Bool) (moment : ℕ) → m.was_moment moment → (requested ≡ true → m.was_signalled) →
    IfSome e (IsEnd m) → is_some (if is_some q then None else cause_of requested e moment) ≡ true → WasStopped m moment
found m (Some t) e requested moment given signal ends h = absurd (let bad : false ≡ true = h in cc)
found m None e true moment given signal ends h = BySignal given (signal refl)
found m None None false moment given signal ends h = absurd (let bad : false ≡ true = h in cc)
found m None (Some end) false moment given signal ends h = ByTime end given ends (by_time (nat_le end moment) h)

stopped_course : (m : MachineFacts) (lasts : Option ℕ) (course : Course) (moment : ℕ) → (is : Bool) → (is ≡ true → WasStopped m moment) →
    IsSteered m lasts course → IsSteered m lasts (if is then record course { requested_at = Some moment } else course)
stopped_course m lasts course moment true stop k = record { lasts_are = k.lasts_are; ends_are = k.ends_are; stop_is = stop refl }
stopped_course m lasts course moment false stop k = k

-- it was looked whether the run is to stop
pub stopped : (m : MachineFacts) (lasts : Option ℕ) (course now : Course) (requested : Bool) (moment : ℕ) → m.was_moment moment →
    (requested ≡ true → m.was_signalled) → now ≡ after_stop course requested moment → ∥ IsSteered m lasts course ∥₁ → ∥ IsSteered m lasts now ∥₁
stopped m lasts course now requested moment given signal is known =
    subst (λ c. ∥ IsSteered m lasts c ∥₁) (sym is)
    (∥∥₁_map known (λ k. stopped_course m lasts course moment (is_some (stop_of course requested moment))
    (found m course.requested_at course.ends_at requested moment given signal k.ends_are) k))

close_step : (m : MachineFacts) (q : Option ℕ) (moment : ℕ) (quiet : Bool) → IfSome q (WasStopped m) → stop_step q moment quiet ≡ Close → IsStopping m
close_step m None moment quiet stop h = absurd (let bad : GoOn ≡ Close = h in cc)
close_step m (Some t) moment quiet stop h = record { requested_at = t; stopped = stop }

over_step : (over : Bool) → (if over then End else Close) ≡ End → over ≡ true
over_step true h = refl
over_step false h = absurd (let bad : Close ≡ End = h in cc)

end_step : (m : MachineFacts) (q : Option ℕ) (moment : ℕ) (quiet : Bool) → m.was_moment moment → IfSome q (WasStopped m) →
    stop_step q moment quiet ≡ End → IsStopOver m
end_step m None moment quiet given stop h = absurd (let bad : GoOn ≡ End = h in cc)
end_step m (Some t) moment quiet given stop h = record {
  requested_at = t;
  moment = moment;
  is_quiet = quiet;
  stopped = stop;
  was_moment = given;
  over = over_step (is_over t moment quiet) h;
}

-- the routes close, or the run ends
pub closes : (m : MachineFacts) (lasts : Option ℕ) (course : Course) (moment : ℕ) (quiet : Bool) → stop_step course.requested_at moment quiet ≡ Close →
    ∥ IsSteered m lasts course ∥₁ → ∥ IsStopping m ∥₁
closes m lasts course moment quiet h known = ∥∥₁_map known (λ k. close_step m course.requested_at moment quiet k.stop_is h)

pub ends : (m : MachineFacts) (lasts : Option ℕ) (course : Course) (moment : ℕ) (quiet : Bool) → m.was_moment moment →
    stop_step course.requested_at moment quiet ≡ End → ∥ IsSteered m lasts course ∥₁ → ∥ IsStopOver m ∥₁
ends m lasts course moment quiet given h known = ∥∥₁_map known (λ k. end_step m course.requested_at moment quiet given k.stop_is h)

-- an order says nothing of a file
pub ordered : (m : MachineFacts) (f g : FileFacts) (order : Order) → IsOrdered (IsAnswer m f) order → IsOrdered (IsAnswer m g) order
ordered m f g orders.GoOn k = k
ordered m f g orders.CloseAll k = k
ordered m f g orders.End k = k
