-- Changed routes of which only the lists and keys differ: these may be replaced while a route is open (our choice).
use Rattle.std.specs.Prelude.{◌≡◌, ℕ, Bool, true, false, not, ◌&&◌, Option, None, Some, slice_get}
use Rattle.std.specs.Bool.{Decides}
use Rattle.std.specs.Str.{bytes_eq}
use Rattle.srt_types.specs.declared.shared.Schedule.{Schedule}
use Rattle.srt_types.specs.Access.{AccessTerms}
use Rattle.srt_types.specs.Terms.{Terms}
use Rattle.srt_lobby.specs.ListsAndKeys.{lists_and_keys, access_with}
use Rattle.srt_config.specs.declared.changes.RouteChange.TheVariants.{Reopens}
use Rattle.srt_config.specs.Config.{Settings}
use Rattle.srt_config.specs.SameKeys.{same_if, same_mode, same_length, same_numbers, same_rules}
use Rattle.srt_config.specs.Changes.{place_of, has_schedule, has_keys_at, change_of}

-- the same passphrases, and the same length of keys
abbrev pub same_secrets : AccessTerms → AccessTerms → Bool
same_secrets a b =
    same_if bytes_eq a.publish.passphrase b.publish.passphrase && same_if bytes_eq a.request.passphrase b.request.passphrase &&
    same_if same_length a.key_length b.key_length

-- two entries with the same keys besides the lists and the keys of roles
abbrev pub same_besides : Terms → Terms → Bool
same_besides a b =
    bytes_eq a.name b.name && same_mode a.mode b.mode && same_numbers a b && same_secrets a.access b.access && same_rules a.rules b.rules

-- there is an entry, and it has these keys besides them
abbrev pub has_terms_besides : Terms → Option Terms → Bool
has_terms_besides terms None = false
has_terms_besides terms (Some before) = same_besides before terms

-- the route at this place of a configuration has these keys besides them
abbrev pub has_keys_besides : (before : Settings) → (place : ℕ) → Terms → Schedule → Bool
has_keys_besides before place terms schedule =
    has_terms_besides terms (slice_get before.routes place) && has_schedule schedule (slice_get before.schedules place)

-- it has another list, or another key of a role, and no other difference
abbrev pub is_readmission : (before : Settings) → (place : ℕ) → Terms → Schedule → Bool
is_readmission before place terms schedule = has_keys_besides before place terms schedule && not (has_keys_at before place terms schedule)

-- a route with the lists and keys of another one in place of its own
abbrev pub readmitted : (new old : Terms) → Terms
readmitted new old = record old { access = access_with (lists_and_keys new.access) old.access }

-- the route at this place isn't the one of the file, and is once it has the lists and keys of that
abbrev pub IsReadmission : (before : Settings) → (place : ℕ) → Terms → Schedule → Type 0
IsReadmission before place terms schedule =
    (old : Terms) × (slice_get before.routes place ≡ Some old) × (readmitted terms old ≡ terms) ×
    (slice_get before.schedules place ≡ Some schedule) × (old ≡ terms → ⊥)

-- the test decides exactly that
abbrev pub ReadmissionsAreMeant : Type 0
ReadmissionsAreMeant =
    (before : Settings) (place : ℕ) (terms : Terms) (schedule : Schedule) →
    Decides (is_readmission before place terms schedule) (IsReadmission before place terms schedule)

-- such a route is one that closes and opens again
abbrev pub ReadmissionsReopen : Type 0
ReadmissionsReopen =
    (before : Settings) (place : ℕ) (terms : Terms) (schedule : Schedule) → place_of terms.name before.routes ≡ Some place →
    is_readmission before place terms schedule ≡ true → change_of before terms schedule ≡ Reopens place

-- two routes have the same passphrases, and the same length of keys
abbrev pub HaveSameSecrets : AccessTerms → AccessTerms → Type 0
HaveSameSecrets a b = (a.publish.passphrase ≡ b.publish.passphrase) × (a.request.passphrase ≡ b.request.passphrase) × (a.key_length ≡ b.key_length)

-- a route with another passphrase, or another length of keys, closes and opens again, and its lists and keys aren't replaced instead
abbrev pub OtherSecretsReopen : Type 0
OtherSecretsReopen =
    (before : Settings) (place : ℕ) (old terms : Terms) (schedule : Schedule) → place_of terms.name before.routes ≡ Some place →
    slice_get before.routes place ≡ Some old → (HaveSameSecrets old.access terms.access → ⊥) →
    (change_of before terms schedule ≡ Reopens place) × (is_readmission before place terms schedule ≡ false)
