-- The counts only grow.
use Rattle.std.proofs.Common.{ℕ, ◌+◌, ◌^◌, ◌-◌, ◌<◌, ◌≤◌, Bool, true, false, List, [], ◌∷◌, ◌++◌, sym, subst, arith}
use Rattle.std.proofs.lemmas.Grind.{fold-append}
use Rattle.std.proofs.Math.Nat.{le-min, min-le_right}
use Rattle.srt_supervision.specs.declared.report.Report.{Report}
use Rattle.srt_poller.specs.History.{Event}
use Rattle.srt_poller.specs.Reports.{one_more_if, nothing, counted_by, counted, CountsGrow, CountsOnlyGrow}
use Rattle.srt_poller.proofs.Sums.{HasRoom, Raised, none, raised_by, with_raised, counted_is, kept_raises, kept_is}

grown : (b : Bool) (n : ℕ) → n + 0 < 2 ^ 64 → n ≤ one_more_if b n
grown true n h = le-min (omega arith) (omega (arith, h))
grown false n h = omega arith

within : (b : Bool) (n : ℕ) → n + 0 < 2 ^ 64 → one_more_if b n + 0 < 2 ^ 64
within true n h = let most = min-le_right (n + 1) (2 ^ 64 - 1) in omega (arith, most)
within false n h = h

raised_grows : (n : Report) (b : Raised) → HasRoom n 0 → CountsGrow n (with_raised n b)
raised_grows n b h = record {
  read = grown b.read n.read h.read;
  answered = grown b.answered n.answered h.answered;
  accepted = grown b.accepted n.accepted h.accepted;
  full = grown b.full n.full h.full;
  dropped = grown b.dropped n.dropped h.dropped;
  not_allowed = grown b.not_allowed n.not_allowed h.not_allowed;
  memory = grown b.memory n.memory h.memory;
  sent = grown b.sent n.sent h.sent;
  lost = grown b.lost n.lost h.lost;
  faults = grown b.faults n.faults h.faults;
}

raised_within : (n : Report) (b : Raised) → HasRoom n 0 → HasRoom (with_raised n b) 0
raised_within n b h = record {
  read = within b.read n.read h.read;
  answered = within b.answered n.answered h.answered;
  accepted = within b.accepted n.accepted h.accepted;
  full = within b.full n.full h.full;
  dropped = within b.dropped n.dropped h.dropped;
  not_allowed = within b.not_allowed n.not_allowed h.not_allowed;
  memory = within b.memory n.memory h.memory;
  sent = within b.sent n.sent h.sent;
  lost = within b.lost n.lost h.lost;
  faults = within b.faults n.faults h.faults;
}

grow_then : (a b c : Report) → CountsGrow a b → CountsGrow b c → CountsGrow a c
grow_then a b c g h = record {
  read = omega (arith, g.read, h.read);
  answered = omega (arith, g.answered, h.answered);
  accepted = omega (arith, g.accepted, h.accepted);
  full = omega (arith, g.full, h.full);
  dropped = omega (arith, g.dropped, h.dropped);
  not_allowed = omega (arith, g.not_allowed, h.not_allowed);
  memory = omega (arith, g.memory, h.memory);
  sent = omega (arith, g.sent, h.sent);
  lost = omega (arith, g.lost, h.lost);
  faults = omega (arith, g.faults, h.faults);
}

all_within : (n : Report) (events : List Event) → HasRoom n 0 → HasRoom (counted n events) 0
all_within n [] h = h
all_within n (event ∷ events) h =
    all_within (counted_by n event) events
    (subst (λ (m : Report). HasRoom m 0) (sym (counted_is n event)) (raised_within n (raised_by event) h))

all_grow : (n : Report) (events : List Event) → HasRoom n 0 → CountsGrow n (counted n events)
all_grow n [] h = raised_grows n none h
all_grow n (event ∷ events) h =
    let is = sym (counted_is n event) in
    grow_then n (counted_by n event) (counted n (event ∷ events))
    (subst (λ (m : Report). CountsGrow n m) is (raised_grows n (raised_by event) h))
    (all_grow (counted_by n event) events (subst (λ (m : Report). HasRoom m 0) is (raised_within n (raised_by event) h)))

no_counts : HasRoom nothing 0
no_counts = record {
  read = omega arith;
  answered = omega arith;
  accepted = omega arith;
  full = omega arith;
  dropped = omega arith;
  not_allowed = omega arith;
  memory = omega arith;
  sent = omega arith;
  lost = omega arith;
  faults = omega arith;
}

pub counts_only_grow : CountsOnlyGrow
counts_only_grow events more k =
    let last = counted nothing (events ++ more) in
    let first = all_within nothing events no_counts in (
      subst (λ (m : Report). CountsGrow (counted nothing events) m) (sym (fold-append counted_by nothing events more))
          (all_grow (counted nothing events) more first),
      subst (λ (m : Report). CountsGrow last m) (sym (kept_is last k))
          (raised_grows last (kept_raises k) (all_within nothing (events ++ more) no_counts)),
    )
