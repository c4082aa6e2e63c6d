use Rattle.std.proofs.Common.{ap, ◌∙◌, sym, subst, rules, w64, SFits, ℤ, Option}
use Rattle.std.specs.Option.{ForSome}
use Rattle.std.proofs.lemmas.Int.{to_z-of_z}
use Rattle.srt_timing.specs.Clock.{Sample, IsNear, sampled, closed_if_long, with_sample, lateness}
use Rattle.srt_timing.specs.declared.drift_windows.Window.{Window}
use Rattle.srt_timing.proofs.Clocks.{kept, taken}
use Rattle.srt_timing.proofs.session_drift.Drift.sample.Goals as goal

pub closed_if_long-requires-clause-near : goal.closed_if_long-requires-clause-near
closed_if_long-requires-clause-near c =
    let clock = c.args.self.now.clock in
    let s : Sample = record { time = c.args.time; stamp = c.args.stamp.word; round_trip = c.args.round_trip } in
    let fits : SFits w64 c.lateness-late.result = search rules in
    let window = simp to_z-of_z at c.with_sample-window.ensures c.args.stamp.word in
    let near = subst (λ (o : Option Window). ForSome o (λ w. IsNear w.lateness)) (sym c.unexpired-open.ensures)
    (kept (λ (w : Window). IsNear w.lateness) c.args.time clock.window c.args.self.now.bounded.window) in
    subst (λ (w : Window). IsNear w.lateness) (sym window)
    (taken IsNear c.lateness-late.result s c.unexpired-open.result c.lateness-late.ensures.near near)

pub returns : goal.returns
unfolding sampled
returns c =
    let clock = c.args.self.now.clock in
    let s : Sample = record { time = c.args.time; stamp = c.args.stamp.word; round_trip = c.args.round_trip } in
    let fits : SFits w64 c.lateness-late.result = search rules in
    let correction : SFits w64 clock.correction = search rules in
    let window = simp to_z-of_z at c.with_sample-window.ensures c.args.stamp.word in
    let late = simp to_z-of_z at c.lateness-late.ensures.value in
    c.closed_if_long.ensures.value ∙ ap (λ (w : Window). closed_if_long c.args.time w clock) window
    ∙ ap (λ (x : ℤ). closed_if_long c.args.time (with_sample x s c.unexpired-open.result) clock) late
    ∙ ap (λ (o : Option Window). closed_if_long c.args.time (with_sample (lateness clock.correction s) s o) clock) c.unexpired-open.ensures
