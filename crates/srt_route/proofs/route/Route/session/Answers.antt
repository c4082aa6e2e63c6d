use Rattle.std.proofs.Common.{sym, subst}
use Rattle.srt_route.specs.Route.{after}
use Rattle.srt_route.specs.ShownKeys.{ShowsKeys}
use Rattle.srt_route.specs.Stages.{HasKeys}
use Rattle.srt_route.specs.Viewing.{ShowsSession}
use Rattle.srt_route.proofs.steps.Closing.{all_ended, none_shown, table_of}
use Rattle.srt_route.proofs.steps.Lengths.{keys_shown, session_shown}
use Rattle.srt_route.proofs.route.Route.session.Goals as goal

pub returns-in-Open-clause-session : goal.returns-in-Open-clause-session
returns-in-Open-clause-session c e index items h =
    let m = after e index items in
    let is = table_of e index c.args.self.now m c.in-Open.table _ _ h c.in-Open.is in
    subst (ShowsSession e index c.args.slot m.sessions) (sym c.with_key_length.ensures)
    (session_shown e index c.args.slot m.sessions c.key_length.result c.look.result (c.look.ensures e index c.args.self.now.clock m.sessions is))

pub returns-in-Open-clause-keys : goal.returns-in-Open-clause-keys
returns-in-Open-clause-keys c e index items h =
    let m = after e index items in
    let is = table_of e index c.args.self.now m c.in-Open.table _ _ h c.in-Open.is in
    let are = subst (λ stage. HasKeys e stage m.keys) c.in-Open.is h.keys_are in
    subst (ShowsKeys e c.args.slot m.keys) (sym c.with_key_length.ensures)
    (keys_shown e index c.args.self.now.clock c.in-Open.table m.sessions m.keys c.args.slot c.key_length.result c.look.result is
    (c.look.ensures e index c.args.self.now.clock m.sessions is) (c.key_length.ensures e m.keys are))

pub returns-in-Closed-clause-session : goal.returns-in-Closed-clause-session
returns-in-Closed-clause-session c e index items h =
    none_shown e index c.args.slot (after e index items).sessions (all_ended e index items c.args.self.now _ h c.in-Closed.is)
