-- A payload is queued, or isn't.
use Rattle.std.proofs.Common.{◌≡◌, ℕ, ◌<◌, true, false, List, refl, arith}
use Rattle.srt_types.specs.declared.shared.Mode.{Mode}
use Rattle.srt_types.specs.declared.shared.Mode.TheVariants.{Live, Buffer}
use Rattle.srt_sendbuf.specs.Sending.{Sending, room, queued}
use Rattle.srt_sub.specs.Subscribing.{Terms, Subscribing, expired_in, fits, fed}
use Rattle.srt_sub.proofs.Sound.{has_no_room}

-- in buffer mode, if there was room, there still is after expiry
roomy : (mode : Mode) (terms : Terms) (time : ℕ) (s : Sending) → mode ≡ Buffer → 0 < room terms.width s → 0 < room terms.width (expired_in mode terms time s)
roomy Live terms time s e some = absurd cc
roomy Buffer terms time s e some = some

-- in buffer mode no packet is too late, so without room before the expiry there is none after it
pub still_full : (mode : Mode) (terms : Terms) (time : ℕ) (s : Sending)
    → mode ≡ Buffer → room terms.width s ≡ 0 → room terms.width (expired_in mode terms time s) ≡ 0
still_full Live terms time s e none = absurd cc
still_full Buffer terms time s e none = none

-- no place is free
pub full : (mode : Mode) (terms : Terms) (time : ℕ) (payload : List ℕ) (s : Sending) → (mode ≡ Buffer → 0 < room terms.width s)
    → room terms.width (expired_in mode terms time s) ≡ 0
    → fits mode terms payload (expired_in mode terms time s) ≡ false
full Live terms time payload s some none = has_no_room terms payload (expired_in Live terms time s) none
full Buffer terms time payload s some none = let k = some refl in absurd (omega (arith, k, none))

-- a payload that fits is queued, and one that doesn't isn't
pub fed_if : (terms : Terms) (time : ℕ) (payload : List ℕ) (s : Subscribing)
    → fits terms.mode terms payload s.sending ≡ true → fed terms time payload s ≡ record s { sending = queued time payload s.sending }
fed_if terms time payload s e = rw e refl

pub not_fed_if : (terms : Terms) (time : ℕ) (payload : List ℕ) (s : Subscribing)
    → fits terms.mode terms payload s.sending ≡ false → fed terms time payload s ≡ s
not_fed_if terms time payload s e = rw e refl
