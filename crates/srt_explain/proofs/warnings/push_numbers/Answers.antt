use Rattle.std.proofs.Common.{refl}
use Rattle.srt_types.specs.Terms.{terms_of}
use Rattle.srt_explain.specs.declared.warnings.Warning.TheVariants.{OneSession}
use Rattle.srt_explain.specs.Warnings.{is_small_outbox, is_small_window, has_one_session, outbox_warning, window_warning}
use Rattle.srt_explain.proofs.Added.{three_given}
use Rattle.srt_explain.proofs.warnings.push_numbers.Goals as goal

pub returns : goal.returns
returns c =
    let t = terms_of c.args.entry.now in
    three_given c.args.list.now.items c.push_if.new.list.items c.push_if-2.new.list.items c.push_if-3.new.list.items
    c.is_small_outbox.result (is_small_outbox t) c.is_small_window.result (is_small_window t) c.has_one_session.result (has_one_session t)
    c.outbox_warning.result (outbox_warning c.args.route t) c.window_warning.result (window_warning c.args.route t)
    (OneSession c.args.route) (OneSession c.args.route)
    c.in_ok-push_if.ensures c.in_ok-push_if-2.ensures c.in_ok-push_if-3.ensures
    c.is_small_outbox.ensures c.outbox_warning.ensures c.is_small_window.ensures c.window_warning.ensures c.has_one_session.ensures refl
