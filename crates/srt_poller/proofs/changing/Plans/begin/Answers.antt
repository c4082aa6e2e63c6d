use Rattle.std.proofs.Common.{◌≡◌, ◌∙◌, inl, inr, refl, sym, ap, arith}
use Rattle.srt_lobby.specs.Names.{names_of}
use Rattle.srt_poller.specs.declared.latest.Latest.{Latest}
use Rattle.srt_poller.proofs.Starting.{names_differ}
use Rattle.srt_poller.proofs.Additions.{opens_known}
use Rattle.srt_poller.proofs.changing.Plans.begin.Goals as goal

pub returns-then-closes_all-clause-started : goal.returns-then-closes_all-clause-started
returns-then-closes_all-clause-started g c = inl (c.if-closes_all.true, c.close.ensures.plans, c.close.ensures.closed)

pub returns-then-round-self-clause-started : goal.returns-then-round-self-clause-started
returns-then-round-self-clause-started g c = inr (
  c.if-closes_all.false,
  inl (c.if-round-self.true, refl, refl, refl, names_differ c.args.names.now),
)

pub close-requires-2-clause-known : goal.close-requires-2-clause-known
close-requires-2-clause-known g c =
    let h = c.open.ensures.opens in
    h.as_many ∙ c.requires.known ∙ sym (opens_known c.requires.known h)

pub close-requires-2-clause-ends : goal.close-requires-2-clause-ends
close-requires-2-clause-ends g c = c.requires.ends ∙ sym (opens_known c.requires.known c.open.ensures.opens)

pub returns-clause-started : goal.returns-clause-started
returns-clause-started g c =
    let latest : c.open.new.self.latest.moment ≡ c.args.self.now.latest.moment = ap (λ (l : Latest). l.moment) c.open.ensures.latest in
    inr (
      c.if-closes_all.false,
      inr (
        names_of c.open.new.names,
        rw c.close-2.ensures.plans c.open.ensures.opens,
        rw c.close-2.ensures.plans (rw latest at c.close-2.ensures.closed),
      ),
    )

pub returns-then-round-self-clause-rest : goal.returns-then-round-self-clause-rest
returns-then-round-self-clause-rest g c = λ k from until. c.requires.rest k (omega (arith, from)) until
