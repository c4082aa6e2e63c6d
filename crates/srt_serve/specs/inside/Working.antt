-- What a worker did in a round, and what it does after it.
use Rattle.std.specs.Prelude.{ℕ, ◌<◌, ◌≤◌, ◌+◌, ◌-◌, ◌^◌, ◌%◌, ◌==◌, ◌&&◌, nat_lt, nat_le, min, max, Bool, true, false, if◌then◌else◌}
use Rattle.srt_mailbox.specs.declared.gates.Visit.{Visit}
use Rattle.srt_serve.specs.declared.working.Round.{Round}
use Rattle.srt_serve.specs.declared.working.Pause.{Pause}
use Rattle.srt_serve.specs.declared.working.Pause.TheVariants.{Doze, Share, GoOn, Rest, Nap}

-- nothing was done
abbrev pub round_first : Round
round_first = record { served = 0; most = 0; moved = 0 }

-- the same after one visit more; a count saturates
abbrev pub round_with : Visit → Round → Round
round_with visit round =
    record {
      served = if nat_lt 0 visit.turns then min (round.served + 1) (2 ^ 32 - 1) else round.served;
      most = max round.most visit.turns;
      moved = min (round.moved + visit.moved) (2 ^ 32 - 1);
    }

-- there was a little to do, at most 16 turns, at each of many routes, at least 32
abbrev pub is_thin : Round → Bool
is_thin round = nat_le 32 round.served && nat_le round.most 16

-- what a worker does after a round, before which it had slept or not: it wakes another one only after a round that moved 32 replies or more
abbrev pub pause_after : Round → (napped : Bool) → Pause
pause_after round napped =
    if is_thin round
    then Doze
    else (if nat_lt 0 round.served
    then (if nat_le 32 round.moved then Share else GoOn)
    else (if napped then Rest else Nap))

-- the worker has slept once it did this
abbrev pub sleeps : Pause → Bool
sleeps Doze = true
sleeps Share = false
sleeps GoOn = false
sleeps Rest = true
sleeps Nap = true

-- the route at which a worker begins each of its rounds
abbrev pub first_of : (worker routes : ℕ) → ℕ
first_of worker routes = if routes == 0 then 0 else worker % routes

-- a worker passed each route from one on and before another one, of this many routes: `passed` is what is known of one then
abbrev pub ArePassed : (passed : (route : ℕ) → Type 0) → (routes from to : ℕ) → Type 0
ArePassed passed routes from to = (route : ℕ) → from ≤ route → route < to → route < routes → passed route
