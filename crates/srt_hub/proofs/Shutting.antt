-- Calls that close routes are steps of the model.
use Rattle.std.proofs.Common.{◌≡◌, ℕ, zero, suc, Bool, true, false, List, [], ◌∷◌, map, refl, sym, ap, subst, ◌∙◌, inl, inr}
use Rattle.std.proofs.lemmas.Bool.{cases_eq}
use Rattle.srt_types.specs.Items.{Close}
use Rattle.srt_lobby.specs.Names.{RouteName, is_shown_at}
use Rattle.srt_lobby.specs.Changing as changing
use Rattle.srt_hub.specs.declared.answers.Closing.TheVariants as closings
use Rattle.srt_hub.specs.World.{Closes, Sorting, Nothing, Place, World, name_at, names_in, entry_in, is_shown_in, offer_if, own_step}
use Rattle.srt_hub.specs.World.{closing_of, closing, places_closed, places_after, has_room}
use Rattle.srt_hub.proofs.Places.{at}
use Rattle.srt_hub.proofs.Named.{hidden_names}
use Rattle.srt_hub.proofs.OtherRoutes.{close_here, close_elsewhere}

-- whether a route is visible to the lobby is what its place states
pub shown_is : (places : List Place) (r : ℕ) → is_shown_at (map name_at places) r ≡ (at places r).is_shown
shown_is [] r = refl
shown_is (p ∷ places) zero = refl
shown_is (p ∷ places) (suc r) = shown_is places r

pub shown_by : (w : World) (r : ℕ) (shows b : Bool) → shows ≡ is_shown_at (names_in w) r → shows ≡ b → is_shown_in w r ≡ b
shown_by w r shows b reported is = sym (shown_is w.places r) ∙ sym reported ∙ is

-- closing a hidden route returns `Closed`
pub closed_is : (w : World) (r : ℕ) → is_shown_in w r ≡ false → closing w r ≡ closings.Closed
closed_is w r shown = ap (λ (b : Bool). closing_of b (has_room (entry_in w r) (w.lane r))) shown

pub close_nowhere : (class : Sorting) (w : World) (r moment : ℕ) → is_shown_in w r ≡ false → (k : ℕ) → own_step class w k (Closes r moment) ≡ Nothing
close_nowhere class w r moment shown k = elim (cases_eq k r) [
  | inl here ↦ subst (λ (j : ℕ). own_step class w j (Closes r moment) ≡ Nothing) (sym here)
      (close_here class w r moment ∙ ap (λ (b : Bool). offer_if b (Close moment)) shown)
  | inr other ↦ close_elsewhere class w r moment k other
]

-- a visible route is closed if its inbox has room
pub shown_closing : (w : World) (r : ℕ) (room : Bool) → is_shown_in w r ≡ true → room ≡ has_room (entry_in w r) (w.lane r) → closing w r ≡ closing_of true room
shown_closing w r room shown took = ap (λ (b : Bool). closing_of b (has_room (entry_in w r) (w.lane r))) shown ∙ ap (closing_of true) (sym took)

-- the names after a closing
pub kept_names : (w : World) (r moment : ℕ) → closing w r ≡ closings.Closed → map name_at (places_after (Closes r moment) w) ≡ names_in w
kept_names w r moment is = ap (λ (ps : List Place). map name_at ps) (ap (places_closed r w.places) is)

pub fewer_names : (w : World) (r moment : ℕ)
    → closing w r ≡ closings.Accepted → map name_at (places_after (Closes r moment) w) ≡ changing.hidden_at r (names_in w)
fewer_names w r moment is = ap (λ (ps : List Place). map name_at ps) (ap (places_closed r w.places) is) ∙ hidden_names w.places r

-- hiding the name of a hidden route changes nothing
pub hidden_already : (names : List RouteName) (r : ℕ) → is_shown_at names r ≡ false → names ≡ changing.hidden_at r names
hidden_already [] r h = refl
hidden_already (n ∷ ns) zero h = ap (λ (b : Bool). record { text = n.text; is_shown = b; access = n.access } ∷ ns) h
hidden_already (n ∷ ns) (suc r) h = ap (λ (rest : List RouteName). n ∷ rest) (hidden_already ns r h)
