use Rattle.std.proofs.Common.{◌≡◌, ◌++◌, ◌∷◌, [], map, length, sym, ap, ◌∙◌, subst}
use Rattle.std.proofs.lemmas.List.{length-append}
use Rattle.crossbeam_queue.specs.Fifo.{Held}
use Rattle.srt_types.specs.declared.shared.Item.{Item}
use Rattle.srt_types.specs.Items.{input_of}
use Rattle.srt_types.specs.Terms.{terms_of}
use Rattle.srt_route.specs.Route.{reply}
use Rattle.srt_route.specs.Stands.{stands, waiting}
use Rattle.srt_route.specs.Written.{written}
use Rattle.srt_mailbox.specs.Counts.{counted}
use Rattle.srt_mailbox.specs.Inbox.{applied, StoodAsTaken}
use Rattle.srt_mailbox.specs.Ends.{Consumer, consumer}
use Rattle.srt_mailbox.specs.Evidence.{EmptyOnceMore}
use Rattle.srt_mailbox.specs.Runs.{Run, run, but_for, waiting_at}
use Rattle.srt_mailbox.proofs.Turns.{reported_last, none_held, waits_next, applied_replays, counted_more}
use Rattle.srt_mailbox.proofs.running.Running.apply_item.Goals as goal

pub invariant_of-self : goal.invariant_of-self
invariant_of-self g c =
    let inside = c.self.inside in
    let e = terms_of inside.entry.value in
    let r = inside.index.value in
    let items = applied inside.receiver.taken in
    let x = c.in-Ok.entry in
    let none = ap (λ (w : Run). w.waiting) c.self.view_is ∙ c.requires in
    let taken = ap (λ (k : Consumer). applied k.taken) c.in-Ok.ensures.took ∙ reported_last [] inside.receiver.taken x in
    let stood : stands inside.route e r items = c.self.invariant.0 in
    let waits = waits_next e r items inside.held inside.route c.step-self-inside.new.self _ _ none
    (c.step-self-inside.ensures.replies e r items stood) c.into_item-item.ensures.item in (
      rw taken
          (subst (λ (i : Item). stands c.step-self-inside.new.self e r (input_of i ∷ items)) c.into_item-item.ensures.item
          (c.step-self-inside.ensures.stands e r items stood)),
      rw taken
          (applied_replays e r (map written inside.sender.put) (waiting_at inside.held inside.route)
          (waiting_at inside.held c.step-self-inside.new.self) items (input_of x.item) c.self.invariant.1 none waits),
      c.step-self-inside.ensures.count ∙ ap (λ l. length (l ++ waiting c.step-self-inside.new.self)) (sym (none_held inside.held inside.route none)),
      c.saturating_add-self-inside.ensures ∙ counted_more (length inside.receiver.taken) inside.taken c.self.invariant.3
          ∙ sym (ap counted (ap (λ (k : Consumer). length k.taken) c.in-Ok.ensures.took ∙ length-append inside.receiver.taken (x ∷ []))),
      c.discard_if_over.ensures.over e r (applied c.take.new.self.taken)
          (rw taken
          (subst (λ (i : Item). stands c.step-self-inside.new.self e r (input_of i ∷ items)) c.into_item-item.ensures.item
          (c.step-self-inside.ensures.stands e r items stood))),
    )

pub returns-in-Ok : goal.returns-in-Ok
returns-in-Ok g c =
    let inside = c.self.inside in
    let now = c.step-self-inside.new.self in
    let run_of = run (terms_of inside.entry.value) inside.index.value in
    let stood : stands inside.route (terms_of inside.entry.value) inside.index.value (applied inside.receiver.taken) = c.self.invariant.0 in
    let waits = waits_next (terms_of inside.entry.value) inside.index.value (applied inside.receiver.taken) inside.held inside.route now _ _
    (ap (λ (w : Run). w.waiting) c.self.view_is ∙ c.requires)
    (c.step-self-inside.ensures.replies (terms_of inside.entry.value) inside.index.value (applied inside.receiver.taken) stood)
    c.into_item-item.ensures.item in (
      c.in-Ok.entry,
      c.requires,
      subst
          (λ (w : Run). run_of c.take.new.self inside.sender (waiting_at inside.held now) inside.refusals
          ≡ run w.terms w.index (consumer w.inbox.queue w.inbox.capacity (w.inbox.taken ++ c.in-Ok.entry ∷ [])) w.outbox
          (reply w.terms w.index (input_of c.in-Ok.entry.item ∷ applied w.inbox.taken)) w.refusals)
          c.self.view_is
          (λ i. run_of (c.in-Ok.ensures.took i) inside.sender (waits i) inside.refusals),
    )

pub returns-in-Err : goal.returns-in-Err
returns-in-Err g c =
    let inside = c.self.inside in
    let empty = c.in-Err.ensures.took in
    let counts = c.note_empty.new.self in (
      c.requires,
      (λ i. run (terms_of inside.entry.value) inside.index.value (empty.0 i) inside.sender (waiting_at inside.held inside.route) counts)
          ∙ ap (λ (w : Run). but_for w counts) c.self.view_is,
      subst (λ (w : Run). Held 0 (StoodAsTaken w.inbox.taken)) c.self.view_is empty.1,
      subst (λ (w : Run). EmptyOnceMore w.refusals counts) c.self.view_is c.note_empty.ensures,
    )
