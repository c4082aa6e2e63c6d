-- What a gate was asked for the turns of a route, and how many turns the route made.
use Rattle.std.specs.Prelude.{◌≡◌, ◌⊎◌, ℕ, true, false, Option, None, Some, List, ◌∷◌, ◌+◌, length, option_map}
use Rattle.srt_types.specs.declared.shared.Turned.TheVariants.{Moved, Applied, Blocked, Idle}
use Rattle.srt_mailbox.specs.declared.gates.Served.{Served}
use Rattle.srt_mailbox.specs.declared.gates.Served.TheVariants.{Turned, GateRefused, ClaimedElsewhere}
use Rattle.srt_mailbox.specs.declared.gates.Visit.{Visit}
use Rattle.srt_mailbox.specs.Queried.{Answer, answer, passes}
use Rattle.srt_mailbox.specs.Evidence.{EmptyOnceMore, FullOnceMore}
use Rattle.srt_mailbox.specs.Runs.{Run, TurnedAs}

-- the query for the last step of a batch, or for a single step, before the earlier answers
abbrev pub queried_last : (route : ℕ) → Served → List Answer → List Answer
queried_last r (Turned t) earlier = answer r true ∷ earlier
queried_last r GateRefused earlier = answer r false ∷ earlier
queried_last r ClaimedElsewhere earlier = earlier

abbrev pub queried_at_end : (route : ℕ) → Option Served → List Answer → List Answer
queried_at_end r None earlier = earlier
queried_at_end r (Some end) earlier = queried_last r end earlier

-- the queries in a batch: one for each step, and one for its end
abbrev pub queried_in : (route : ℕ) → Visit → List Answer → List Answer
queried_in r visit earlier = queried_at_end r visit.end (passes r visit.turns earlier)

-- the number of steps that a route has made: of messages received, and of replies put
abbrev pub turns_of : Run → ℕ
turns_of r = length r.inbox.taken + length r.outbox.put

-- one step was made, or none if the gate refused it
abbrev pub ServedAs : Served → Run → Run → Type 0
ServedAs (Turned t) a b = TurnedAs t a b
ServedAs GateRefused a b = b ≡ a
ServedAs ClaimedElsewhere a b = ⊥

-- what the end of a batch states about the refusals: the last step found the inbox empty or the outbox full, or
-- neither
abbrev pub EndedAs : Option Served → Run → Run → Type 0
EndedAs (Some (Turned Idle)) a b = EmptyOnceMore a.refusals b.refusals
EndedAs (Some (Turned Blocked)) a b = FullOnceMore a.refusals b.refusals
EndedAs (Some (Turned Applied)) a b = ⊥
EndedAs (Some (Turned Moved)) a b = ⊥
EndedAs (Some GateRefused) a b = b.refusals ≡ a.refusals
EndedAs (Some ClaimedElsewhere) a b = ⊥
EndedAs None a b = b.refusals ≡ a.refusals

-- the visit was of this route: it made as many turns and moved as many replies as it reports, and ended as it reports
abbrev pub VisitedAs : Visit → Run → Run → Type 0
VisitedAs v a b = (turns_of b ≡ turns_of a + v.turns) × (length b.outbox.put ≡ length a.outbox.put + v.moved) × EndedAs v.end a b

-- what the visit of a place reports that has no route
abbrev pub nothing_done : Visit
nothing_done = record { turns = 0; moved = 0; end = Some (Turned Idle) }

-- Each turn of the visit is one for which the gate was asked about one route; or the gate was asked nothing, and the visit is that of an empty place, as
-- the gate was told
abbrev pub QueriedOrEmpty : (nobody : Type 0) → Visit → (old new : Option (List Answer)) → Type 0
QueriedOrEmpty nobody v old new = ((r : ℕ) × (new ≡ option_map (queried_in r v) old)) ⊎ ((new ≡ old) × (v ≡ nothing_done) × nobody)

-- the same of one turn
abbrev pub QueriedOnceOrEmpty : (nobody : Type 0) → Served → (old new : Option (List Answer)) → Type 0
QueriedOnceOrEmpty nobody s old new = ((r : ℕ) × (new ≡ option_map (queried_last r s) old)) ⊎ ((new ≡ old) × (s ≡ Turned Idle) × nobody)
