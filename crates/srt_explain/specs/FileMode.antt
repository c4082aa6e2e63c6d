-- The mode of a configuration's file (our choice): what it lets others do with keys and passphrases.
use Rattle.std.specs.Prelude.{ℕ, ◌==◌, Bool, not, List, is_some, bit_and, ◌&&◌, ◌||◌}
use Rattle.std.specs.List.{list_any}
use Rattle.srt_types.specs.Access.{RoleTerms}
use Rattle.srt_types.specs.Terms.{Terms}
use Rattle.srt_explain.specs.declared.warnings.Warning.{Warning}
use Rattle.srt_explain.specs.declared.warnings.Warning.TheVariants.{PublicFile}
use Rattle.srt_explain.specs.Warnings.{given}

-- the last three bits of a mode are about users who neither own the file nor are in its group
abbrev pub is_public : (mode : ℕ) → Bool
is_public mode = not (bit_and mode 7 == 0)

abbrev pub has_secret : RoleTerms → Bool
has_secret role = is_some role.key || is_some role.passphrase

abbrev pub keeps_secret : Terms → Bool
keeps_secret t = has_secret t.access.publish || has_secret t.access.request

-- the warning about the mode of a file with these routes
abbrev pub file_warnings : (mode : ℕ) → List Terms → List Warning
file_warnings mode routes = given (is_public mode && list_any keeps_secret routes) PublicFile
