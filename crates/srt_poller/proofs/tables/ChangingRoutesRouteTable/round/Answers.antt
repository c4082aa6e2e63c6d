use Rattle.std.proofs.Common.{◌≡◌, ◌∙◌, List, ◌++◌, sym, ap, length, take, drop}
use Rattle.srt_lobby.specs.Names.{names_of}
use Rattle.srt_poller.specs.declared.ends.Ends.{Ends}
use Rattle.srt_poller.specs.declared.latest.Latest.{Latest}
use Rattle.srt_poller.specs.Changes.{plans_in}
use Rattle.srt_poller.proofs.Additions.{put_whole}
use Rattle.srt_poller.proofs.tables.ChangingRoutesRouteTable.round.Goals as goal

pub round-requires : goal.round-requires
round-requires g c = record {
  known = c.take_changes.ensures.took.3.known;
  ends = ap (λ (l : List Ends). length l) c.as_mut_slice.ensures.value ∙ c.take_changes.ensures.took.3.all_ends;
  rest = c.take_changes.ensures.rest;
  fits = c.requires.fits;
}

pub returns-clause-went : goal.returns-clause-went
returns-clause-went g c =
    let items : List Ends = c.take_changes.new.ends.items in
    let ends : List Ends = c.round.new.ends in
    let latest : c.take_changes.new.self.latest.moment ≡ c.args.rounds.now.plans.latest.moment = ap (λ (l : Latest). l.moment) c.take_changes.ensures.latest in
    let whole : take c.take_changes.new.ends.len (ends ++ drop (length ends) items) ≡ ends =
    put_whole items c.as_mut_slice.result.now ends c.take_changes.new.ends.len c.as_mut_slice.ensures.value c.as_mut_slice.ensures.len
    c.round.auto.ends in
    record {
      due = c.take_changes.new.self.due;
      between = plans_in c.take_changes.new.self;
      these = names_of c.take_changes.new.names;
      those = items;
      took = c.take_changes.ensures.took;
      taken = c.take_changes.ensures.taken;
      rests = c.take_changes.ensures.rest;
      went = rw (whole, sym latest) (rw c.as_mut_slice.ensures.value at c.round.ensures.went);
    }

pub returns-clause-ends : goal.returns-clause-ends
returns-clause-ends g c =
    ap (λ (l : List Ends). length l) (put_whole c.take_changes.new.ends.items c.as_mut_slice.result.now c.round.new.ends c.take_changes.new.ends.len
    c.as_mut_slice.ensures.value c.as_mut_slice.ensures.len c.round.auto.ends)
    ∙ c.round.ensures.ends

pub returns-clause-visited : goal.returns-clause-visited
returns-clause-visited g c none =
    rw (put_whole c.take_changes.new.ends.items c.as_mut_slice.result.now c.round.new.ends c.take_changes.new.ends.len c.as_mut_slice.ensures.value
    c.as_mut_slice.ensures.len c.round.auto.ends) (c.round.ensures.visited none)

pub returns-clause-left : goal.returns-clause-left
returns-clause-left g c =
    rw (put_whole c.take_changes.new.ends.items c.as_mut_slice.result.now c.round.new.ends c.take_changes.new.ends.len c.as_mut_slice.ensures.value
    c.as_mut_slice.ensures.len c.round.auto.ends) c.round.ensures.left
