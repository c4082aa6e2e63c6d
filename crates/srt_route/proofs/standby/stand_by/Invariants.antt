use Rattle.std.proofs.Common.{◌≡◌, ℕ, ◌+◌, ◌-◌}
use Rattle.srt_pub.specs.Publishing as publishing
use Rattle.srt_pub.specs.Calls.{leaves}
use Rattle.srt_pub.specs.Stands as publishers
use Rattle.srt_pub.specs.declared.session.Publisher.{Publisher}
use Rattle.srt_route.proofs.standby.stand_by.Given as goal

-- the remaining calls lead to the same past as all calls
pub record IsLeaving (terms : publishing.Terms) (initial opening stamp caller time turn : ℕ) (p : Publisher) (m : publishing.Publishing) : Type 0 where
  pub done : publishing.Publishing
  pub stands : publishers.StandsFor terms initial opening stamp caller p done
  pub left_is : leaves terms time 0 (64 - turn) done ≡ leaves terms time 0 64 m

abbrev pub invariant-loop-turn : goal.invariant-loop-turn
invariant-loop-turn l =
    (terms : publishing.Terms) (initial opening stamp caller time : ℕ) (m : publishing.Publishing) → l.clock ≡ opening + time
    → publishers.StandsFor terms initial opening stamp caller l.fn.publisher m → IsLeaving terms initial opening stamp caller time l.turn l.publisher m
