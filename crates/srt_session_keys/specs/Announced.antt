-- When the next key of a subscriber's session was announced (our choice). Times are in microseconds.
use Rattle.std.specs.Prelude.{ℕ, ◌+◌, ◌-◌, Bool, true, false, nat_le, Option, Some, None}
use Rattle.srt_session_keys.specs.declared.announcement.Announcement.{Announcement}

-- how many keys were made: those that are confirmed, and one that was announced
abbrev pub made_with : (confirmed : ℕ) → Option Announcement → ℕ
made_with confirmed None = confirmed
made_with confirmed (Some a) = confirmed + 1

-- 50 ms have gone since the last announcement, if there was one
abbrev pub is_repeated : (now : ℕ) → Option Announcement → Bool
is_repeated now None = true
is_repeated now (Some a) = nat_le 50_000 (now - a.last)

-- the times after one more announcement
abbrev pub announced_at : (now : ℕ) → Option Announcement → Announcement
announced_at now None = record { first = now; last = now }
announced_at now (Some a) = record { first = a.first; last = now }

-- the announced key wasn't confirmed within five seconds
abbrev pub is_given_up : (now : ℕ) → Option Announcement → Bool
is_given_up now None = false
is_given_up now (Some a) = nat_le 5_000_000 (now - a.first)
