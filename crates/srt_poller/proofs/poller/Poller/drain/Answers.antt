use Rattle.std.proofs.Common.{◌≡◌, ◌∙◌, true, false, inl, inr, refl, sym, ap, arith, Option}
use Rattle.std.specs.Option.{is_some}
use Rattle.srt_types.proofs.Options.{none_if_not_some}
use Rattle.srt_poller.specs.declared.poller.KeptReply.{KeptReply}
use Rattle.srt_poller.proofs.Steps.{went_none, replies_more}
use Rattle.srt_poller.proofs.poller.Poller.drain.Goals as goal

pub returns-then-is_some-clause-went : goal.returns-then-is_some-clause-went
returns-then-is_some-clause-went g c =
    replies_more {a = 0} {b = 0} {c = 0} {d = 0} {m = 0} (omega arith) (λ same. omega arith) (omega arith)
    (λ class schedules t phase source up. (phase, up, went_none _ _ _ _))

pub returns-then-is_some-clause-checked : goal.returns-then-is_some-clause-checked
returns-then-is_some-clause-checked g c = c.new.ensures.all ∙ c.checks_all-all.ensures

pub returns-then-is_some-clause-left : goal.returns-then-is_some-clause-left
returns-then-is_some-clause-left g c =
    inr (λ none. let bad : false ≡ true = sym (ap (λ (o : Option KeptReply). is_some o) none) ∙ sym c.is_some.ensures ∙ c.if-is_some.true in cc, refl)

pub drain_all-visits-requires : goal.drain_all-visits-requires
drain_all-visits-requires g c = none_if_not_some _ (sym c.if-is_some.ensures)

pub returns-clause-checked : goal.returns-clause-checked
returns-clause-checked g c = c.drain_all-visits.ensures.all ∙ c.checks_all-all.ensures

pub returns-clause-left : goal.returns-clause-left
returns-clause-left g c = inl (c.is_left-self.ensures, c.drain_all-visits.ensures.through)
