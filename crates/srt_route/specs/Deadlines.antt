-- When a publisher's packets are due.
use Rattle.std.specs.Prelude.{◌≡◌, ℕ, ◌^◌, ◌≤◌, ℤ, pos, ◌+ℤ◌, ◌<ℤ◌, ◌≤ℤ◌}
use Rattle.srt_types.specs.declared.shared.Mode.TheVariants.{Live}
use Rattle.srt_types.specs.Terms.{Terms}
use Rattle.srt_pub.specs.Publishing.{Publishing, correction_of, due_in}
use Rattle.srt_route.specs.Sessions.{Session, stamp_in, terms_of, time_in}

-- the time at which a packet with this timestamp is due that a publisher receives at this clock
abbrev pub due_at : Terms → (clock stamp : ℕ) → Session → Publishing → ℤ
due_at e clock stamp s p =
    let terms = (terms_of e s).publisher in
    pos s.opening +ℤ due_in terms.mode terms (correction_of terms p.notes) (time_in s clock) (stamp_in s stamp)

-- a due time is within 2^31 microseconds of one delay after the arrival
pub record IsDueNear (delay clock : ℕ) (due : ℤ) : Type 0 where
  pub above : (pos clock +ℤ pos delay) ≤ℤ (due +ℤ pos (2 ^ 31))
  pub below : due <ℤ (pos clock +ℤ pos delay +ℤ pos (2 ^ 31))

-- in live mode, whatever the packets of the publisher say, and so whatever the correction of its clock is
abbrev pub DeadlinesAreNear : Type 0
DeadlinesAreNear = (e : Terms) (clock stamp : ℕ) (s : Session) (p : Publishing)
    → e.mode ≡ Live → s.opening ≤ clock → IsDueNear (terms_of e s).publisher.delay clock (due_at e clock stamp s p)
