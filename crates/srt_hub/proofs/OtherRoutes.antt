-- An event of one route is not a step of another.
use Rattle.std.proofs.Common.{◌≡◌, ◌≢◌, ℕ, Bool, true, false, eqb}
use Rattle.std.proofs.Common.{length, refl}
use Rattle.std.proofs.lemmas.Bool.{eq-eqb, ne_eqb}
use Rattle.srt_lobby.specs.declared.classes.Class.TheVariants.{Route}
use Rattle.srt_types.specs.Items.{Datagram, Close}
use Rattle.srt_hub.specs.World.{Arrives, Ticks, Turns, Sends, Opens, Closes, Sorting}
use Rattle.srt_hub.specs.World.{Nothing, World, is_shown_in, names_in, offer_if, own_step}
use Rattle.srt_hub.specs.Laws.{OthersStay}
use Rattle.srt_hub.proofs.Places.{below_of, opening_keeps, closing_keeps}
use Rattle.srt_hub.proofs.Happens.{no_step, other_way, tick_elsewhere, turn_elsewhere, send_elsewhere}
use Rattle.srt_hub.proofs.Happens.{refused_nowhere, arrival_elsewhere}

-- closings and openings are steps of no other route
pub close_elsewhere : (class : Sorting) (w : World) (r moment k : ℕ) → k ≢ r → own_step class w k (Closes r moment) ≡ Nothing
close_elsewhere class w r moment k other = rw (ne_eqb r k (other_way k r other)) refl

pub close_here : (class : Sorting) (w : World) (r moment : ℕ) → own_step class w r (Closes r moment) ≡ offer_if (is_shown_in w r) (Close moment)
close_here class w r moment = rw (eq-eqb r r refl) refl

arrives_elsewhere : (class : Sorting) (w : World) (d : Datagram) (moment s k : ℕ) (refused : Bool)
    → class (names_in w) d moment ≡ Route s → k ≢ s → own_step class w k (Arrives d moment refused) ≡ Nothing
arrives_elsewhere class w d moment s k true is other = refused_nowhere class w d moment s k is
arrives_elsewhere class w d moment s k false is other = arrival_elsewhere class w d moment s k is other

pub others_stay : OthersStay
others_stay class reply w r s other = (
  λ d moment refused is. no_step class w r (Arrives d moment refused) (arrives_elsewhere class w d moment s r refused is other),
  λ moment. no_step class w r (Ticks s moment) (tick_elsewhere class w s moment r other),
  no_step class w r (Turns s) (turn_elsewhere class w s r other),
  no_step class w r (Sends s) (send_elsewhere class w s r other),
  λ moment. (no_step class w r (Closes s moment) (close_elsewhere class w s moment r other), closing_keeps w s moment r other),
  λ e refused. (no_step class w r (Opens e refused) refl, λ there. opening_keeps w e refused r (below_of (length w.places) r there)),
)
