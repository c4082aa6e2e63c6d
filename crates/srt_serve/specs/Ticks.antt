-- What a ticking thread offers.
use Rattle.std.specs.Prelude.{◌≡◌, ◌⊎◌, ℕ, Option, List, [], ◌∷◌, ◌++◌, map}
use Rattle.srt_types.specs.declared.shared.Item.{Item}
use Rattle.srt_types.specs.declared.shared.Item.TheVariants.{Tick}
use Rattle.srt_mailbox.specs.Ends.{Producer, producer}
use Rattle.srt_poller.specs.Devices.{joined}

-- the first list is the second with some elements left out
abbrev pub IsWithin : {A : Type 0} → List A → List A → Type 0
IsWithin [] ys = Unit {0}
IsWithin (x ∷ xs) [] = ⊥
IsWithin (x ∷ xs) (y ∷ ys) = ((x ≡ y) × IsWithin xs ys) ⊎ IsWithin (x ∷ xs) ys

abbrev pub tick : (moment : ℕ) → Item
tick moment = Tick moment

-- the inbox once it has accepted ticks of these times in addition, or a tick of one time
abbrev pub accepts_all : (moments : List ℕ) → Producer → Producer
accepts_all moments a = producer a.queue a.capacity (a.offered ++ map tick moments)

abbrev pub accepts : (moment : ℕ) → Producer → Producer
accepts moment a = accepts_all (moment ∷ []) a

-- A tick of each of these times was offered to this end, in order and nothing else. The inbox accepted some of them. Of an end, `inbox` reports
-- what its inbox accepted and `tried` which ticks it was offered
abbrev pub WasTicked : {E : Type 0} → (inbox : E → Producer) → (tried : E → Option (List ℕ)) → (moments : List ℕ) → E → E → Type 0
WasTicked inbox tried moments a b =
    (tried b ≡ joined (tried a) moments)
    × (accepted : List ℕ) × IsWithin accepted moments × (inbox b ≡ accepts_all accepted (inbox a))

-- each of these ends was offered them
abbrev pub WereTicked : {E : Type 0} → (inbox : E → Producer) → (tried : E → Option (List ℕ)) → (moments : List ℕ) → List E → List E → Type 0
WereTicked inbox tried moments [] [] = Unit {0}
WereTicked inbox tried moments [] (b ∷ bs) = ⊥
WereTicked inbox tried moments (a ∷ more) [] = ⊥
WereTicked inbox tried moments (a ∷ more) (b ∷ bs) = WasTicked inbox tried moments a b × WereTicked inbox tried moments more bs

-- one tick: the ends added before it, and its time
pub record TickOf (E : Type 0) : Type 0 where
  pub added : List E
  pub moment : ℕ

-- the times of these ticks, of which the last is first, in their order
abbrev pub moments_of : {E : Type 0} → (ticks : List (TickOf E)) → List ℕ
moments_of [] = []
moments_of (t ∷ ticks) = moments_of ticks ++ t.moment ∷ []

-- the ends added before them, in their order
abbrev pub added_in : {E : Type 0} → (ticks : List (TickOf E)) → List E
added_in [] = []
added_in (t ∷ ticks) = added_in ticks ++ t.added

-- each of the ends that were there was offered a tick of each of these, and so was each end that was added, from the tick on before which it was added
abbrev pub WereTickedIn : {E : Type 0} → (inbox : E → Producer) → (tried : E → Option (List ℕ)) → (ticks : List (TickOf E)) → (old new : List E) → Type 0
WereTickedIn inbox tried [] old new = new ≡ old
WereTickedIn inbox tried (t ∷ ticks) old new =
    (earlier : List _) × WereTickedIn inbox tried ticks old earlier × WereTicked inbox tried (t.moment ∷ []) (earlier ++ t.added) new

-- the ticker returned some times, some ends were added, and each end was offered a tick of each time, or of each since it was added
abbrev pub Ticked : {E : Type 0} → (inbox : E → Producer) → (tried : E → Option (List ℕ)) → Option (List ℕ) → Option (List ℕ)
    → (added added' : List E) → (old new : List E) → Type 0
Ticked inbox tried gave given added added' old new =
    (ticks : List (TickOf _)) × (given ≡ joined gave (moments_of ticks)) × (added' ≡ added ++ added_in ticks) × WereTickedIn inbox tried ticks old new
