-- What reading a file up to a limit gives (our choice).
use Rattle.std.specs.Prelude.{◌⊎◌, ℕ, ◌≡◌, ◌<◌, List, length}
use Rattle.srt_config.specs.declared.files.Unread.{Unread}
use Rattle.srt_config.specs.declared.files.Unread.TheVariants as unread

-- the limit that is told is the one that was given
abbrev pub IsLimit : (limit : ℕ) → Unread → Type 0
IsLimit limit (unread.System error) = Unit {0}
IsLimit limit (unread.Large most) = most ≡ limit
IsLimit limit unread.Memory = Unit {0}

-- known bytes are told as too large only if they are
abbrev pub IsLarger : (limit : ℕ) (known : List ℕ) → Unread → Type 0
IsLarger limit known (unread.System error) = Unit {0}
IsLarger limit known (unread.Large most) = limit < length known
IsLarger limit known unread.Memory = Unit {0}

-- the limit that is told of a configuration's file is one of these two
abbrev pub IsConfigLimit : Unread → Type 0
IsConfigLimit why = IsLimit 65_536 why ⊎ IsLimit 1_048_576 why
