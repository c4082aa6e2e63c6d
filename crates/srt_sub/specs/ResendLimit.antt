-- The bound on the packets that a session sends again.
use Rattle.std.specs.Prelude.{◌≡◌, ℕ, ◌+◌, ◌-◌, ◌*◌, ◌/◌, ◌≤◌, Some}
use Rattle.srt_sub.specs.Counting.{resent_in, fresh_in}
use Rattle.srt_sub.specs.Stands.{ForWhatever}
use Rattle.srt_sub.specs.declared.session.Subscriber.{Subscriber}

-- in a session with a limit, each packet that was sent again is one of the first 64, one of the limit's share of the
-- new packets, or one for each 20 ms since the opening
abbrev pub KeepsResendLimit : Subscriber → Type 0
KeepsResendLimit s =
    ForWhatever s (λ terms initial opening caller last m. (percent : ℕ) → terms.resend_percent ≡ Some percent
    → 100 * resent_in m.notes ≤ 6_400 + percent * fresh_in m.notes + 100 * ((last - opening) / 20_000))
