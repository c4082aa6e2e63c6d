-- A turn of the ticking thread.
use Rattle.std.specs.Prelude.{◌≡◌, ℕ, Option, List, [], ◌∷◌, ◌++◌}
use Rattle.srt_mailbox.specs.Ends.{Producer}
use Rattle.srt_poller.specs.Devices.{joined}
use Rattle.srt_serve.specs.Ticks.{WereTicked}

-- the ticker returned one time more, some ends were added, and each end was offered a tick of that time
abbrev pub TickedOnce : {E : Type 0} → (inbox : E → Producer) → (tried : E → Option (List ℕ)) → Option (List ℕ) → Option (List ℕ)
    → (added added' : List E) → (old new : List E) → Type 0
TickedOnce inbox tried gave given added added' old new =
    (moment : ℕ) × (more : List _) × (given ≡ joined gave (moment ∷ [])) × (added' ≡ added ++ more)
    × WereTicked inbox tried (moment ∷ []) (old ++ more) new
