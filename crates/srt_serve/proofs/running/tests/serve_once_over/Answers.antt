use Rattle.std.proofs.Common.{◌∙◌, sym, ap, map, length, arith}
use Rattle.std.proofs.lemmas.List.{length-map}
use denote.Param.Send.{sendable}
use Rattle.srt_types.specs.Terms.{terms_of}
use Rattle.srt_mailbox.proofs.inbox.ClockEnd.TheSendSync as clock_is
use Rattle.srt_mailbox.specs.Places.{arrived}
use Rattle.srt_serve.proofs.Added.{first_answered}
use Rattle.srt_serve.proofs.Indexed.{opened_indexed}
use Rattle.srt_serve.proofs.NamesAtStart.{are_ready}
use Rattle.srt_serve.proofs.Routes.{few_entries}
use Rattle.srt_serve.proofs.Sends.{places_sync, arrivals_send, clocks_send}
use Rattle.srt_serve.proofs.running.tests.serve_once_over.Goals as goal

pub open_routes-requires : goal.open_routes-requires
open_routes-requires g c =
    omega (arith, few_entries (map terms_of c.args.entries.now) c.requires.entries, length-map c.args.entries.now terms_of)

pub new-requires-clause-indexed : goal.new-requires-clause-indexed
new-requires-clause-indexed g c = opened_indexed _ _ c.in-Ok-open_routes.ensures.opened

pub new-requires-clause-answered : goal.new-requires-clause-answered
new-requires-clause-answered g c =
    first_answered (λ answer. ⊥) 511 _ (omega (
      arith,
      few_entries (map terms_of c.args.entries.now) c.requires.entries,
      length-map (arrived c.in-Ok-open_routes.opened.routes) (λ n. n.terms),
      ap length c.in-Ok-open_routes.ensures.entries,
    ))

pub serve_routes-requires-sync-C : goal.serve_routes-requires-sync-C
serve_routes-requires-sync-C g c κs within = search (sendable, places_sync)

pub serve_routes-requires-send-D : goal.serve_routes-requires-send-D
serve_routes-requires-send-D g c κs within = search (sendable, clocks_send, arrivals_send, clock_is.the_send) depth 12

pub serve_routes-requires-clause-ready : goal.serve_routes-requires-clause-ready
serve_routes-requires-clause-ready g c κs within =
    are_ready c.args.schedules.now _ _ _ _ c.requires.entries (c.requires.schedules ∙ sym (length-map c.args.entries.now terms_of))
    c.in-Ok.ensures.names c.in-Ok-open_routes.ensures.entries c.in-Ok-open_routes.ensures.opened
