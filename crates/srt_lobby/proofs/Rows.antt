-- Computed examples: which routes are found while names are hidden and reused.
use Rattle.std.proofs.Common.{◌≡◌, ℕ, false, List, [], ◌∷◌, None, Some, replicate, refl}
use Rattle.srt_types.specs.declared.shared.Mode.TheVariants.{Live}
use Rattle.srt_types.specs.declared.shared.OpenFault.TheVariants as faults
use Rattle.srt_types.specs.declared.shared.Peer.{Peer}
use Rattle.srt_types.specs.Access.{anyone}
use Rattle.srt_types.specs.Entries.{draft_rules}
use Rattle.srt_types.specs.Terms.{Terms}
use Rattle.srt_lobby.specs.declared.classes.Class.TheVariants.{Route, Dropped}
use Rattle.srt_lobby.specs.declared.classes.Cause.TheVariants as causes
use Rattle.srt_lobby.specs.Names.{RouteName, name_of, index_of}
use Rattle.srt_lobby.specs.Lobby.{to_session}
use Rattle.srt_lobby.specs.Changing.{hidden_at, shown_at, added, fault_of_adding}

abbrev entry : (name : List ℕ) → (latency_ms : ℕ) → Terms
entry name latency_ms = record {
  name = name;
  mode = Live;
  latency_ms = latency_ms;
  buffer = 32;
  sessions = 2;
  inbox = 16;
  outbox = 16;
  access = anyone;
  rules = draft_rules;
}

-- 192.0.2.7
abbrev caller : Peer
caller = record { ip = 0 ∷ 0 ∷ 0 ∷ 0 ∷ 0 ∷ 0 ∷ 0 ∷ 0 ∷ 0 ∷ 0 ∷ 255 ∷ 255 ∷ 192 ∷ 0 ∷ 2 ∷ 7 ∷ []; port = 5000 }

-- `studio` and `files`
abbrev studio : List ℕ
studio = 115 ∷ 116 ∷ 117 ∷ 100 ∷ 105 ∷ 111 ∷ []

abbrev files : List ℕ
files = 102 ∷ 105 ∷ 108 ∷ 101 ∷ 115 ∷ []

abbrev opened : List RouteName
opened = name_of (entry studio 120) ∷ name_of (entry files 120) ∷ []

abbrev hidden : List RouteName
hidden = hidden_at 0 opened

-- the name of a hidden route is reused, with another index
abbrev again : List RouteName
again = added (entry studio 120) hidden

names_are_found : (index_of opened studio ≡ Some 0) × (index_of hidden studio ≡ None) × (index_of hidden files ≡ Some 1) ×
    (index_of again studio ≡ Some 2) × (index_of (shown_at 0 hidden) studio ≡ Some 0)
names_are_found = (refl, refl, refl, refl, refl)

-- a session's ID of a hidden route is no visible route's
ids_are_found : (to_session opened caller 0x100000 ≡ Route 0) × (to_session hidden caller 0x100000 ≡ Dropped causes.UnknownId) ×
    (to_session hidden caller 0x2fffff ≡ Route 1) × (to_session hidden caller 0x300000 ≡ Dropped causes.UnknownId) ×
    (to_session again caller 0x100000 ≡ Dropped causes.UnknownId) × (to_session again caller 0x300000 ≡ Route 2) ×
    (to_session again caller 0xfffff ≡ Dropped causes.UnknownId)
ids_are_found = (refl, refl, refl, refl, refl, refl, refl)

-- faults of names take precedence over limits, and hidden routes count towards the 512th index
faults_are_reported : (fault_of_adding hidden (entry files 120) ≡ Some faults.Names) ×
    (fault_of_adding hidden (entry files 10) ≡ Some faults.Names) × (fault_of_adding hidden (entry [] 120) ≡ Some faults.Names) ×
    (fault_of_adding hidden (entry studio 10) ≡ Some faults.Limits) × (fault_of_adding hidden (entry studio 120) ≡ None)
faults_are_reported = (refl, refl, refl, refl, refl)

the_512th : (fault_of_adding (replicate 511 (record { text = files; is_shown = false; access = anyone })) (entry files 120) ≡ Some faults.Limits) ×
    (fault_of_adding (replicate 510 (record { text = files; is_shown = false; access = anyone })) (entry files 120) ≡ None)
the_512th = (refl, refl)
