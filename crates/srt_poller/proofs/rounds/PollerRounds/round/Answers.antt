use Rattle.std.proofs.Common.{◌≡◌, ◌∙◌, ℕ, ◌≤◌, sym, ap, subst}
use Rattle.srt_lobby.specs.Names.{names_of}
use Rattle.srt_poller.specs.declared.latest.Latest.{Latest}
use Rattle.srt_poller.specs.Changes.{plans_in}
use Rattle.srt_poller.specs.inside.Visits.{IsNoted}
use Rattle.srt_poller.proofs.Additions.{started_texts}
use Rattle.srt_poller.proofs.ShownInRound.{as_many}
use Rattle.srt_poller.proofs.rounds.PollerRounds.round.Goals as goal

pub make_round-requires : goal.make_round-requires
make_round-requires g c =
    c.begin.auto.ends ∙ c.requires.ends
    ∙ sym (as_many (names_of c.begin.new.names) (names_of c.args.names.now) (started_texts c.args.order.now.closes_all c.args.self.now.next
    c.args.self.now.plans.due c.args.self.now.plans.latest.moment (plans_in c.args.self.now.plans) (plans_in c.begin.new.self)
    (names_of c.args.names.now) (names_of c.begin.new.names) c.args.ends.now c.begin.new.ends c.begin.ensures.started))

pub returns-clause-went : goal.returns-clause-went
returns-clause-went g c =
    let latest : c.begin.new.self.latest.moment ≡ c.args.self.now.plans.latest.moment = ap (λ (l : Latest). l.moment) c.begin.ensures.latest in
    (c.begin.new.ends, c.begin.ensures.started, rw latest at c.make_round.ensures.made)

pub returns-clause-ends : goal.returns-clause-ends
returns-clause-ends g c =
    c.make_round.auto.ends ∙ c.begin.auto.ends ∙ c.requires.ends
    ∙ sym (as_many (names_of c.begin.new.names) (names_of c.args.names.now) (started_texts c.args.order.now.closes_all c.args.self.now.next
    c.args.self.now.plans.due c.args.self.now.plans.latest.moment (plans_in c.args.self.now.plans) (plans_in c.begin.new.self)
    (names_of c.args.names.now) (names_of c.begin.new.names) c.args.ends.now c.begin.new.ends c.begin.ensures.started))

pub returns-clause-visited : goal.returns-clause-visited
returns-clause-visited g c none = subst (λ (n : ℕ). n ≤ c.make_round.result.next) (sym c.make_round.auto.ends) (c.make_round.ensures.visited none)

pub returns-clause-left : goal.returns-clause-left
returns-clause-left g c =
    subst (λ (n : ℕ). IsNoted n c.args.self.now.poller.left c.make_round.new.self.kept c.make_round.result c.make_round.new.self.left)
    (sym c.make_round.auto.ends) c.make_round.ensures.left
