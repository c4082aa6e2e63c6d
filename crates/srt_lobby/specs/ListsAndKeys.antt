-- The lists of networks and the keys of a route: the part of its access rules that may be replaced while the route is
-- open. Its passphrases and the length of its keys are the other part (our choice).
use Rattle.std.specs.Prelude.{ℕ, zero, suc, List, [], ◌∷◌, Option, string_bytes}
use Rattle.std.specs.Option.{option_map}
use Rattle.srt_types.specs.declared.shared.Network.{Network}
use Rattle.srt_types.specs.Access.{RoleTerms, AccessTerms}
use Rattle.srt_lobby.specs.declared.new_access.RoleRules.{RoleRules}
use Rattle.srt_lobby.specs.declared.new_access.NewAccess.{NewAccess}
use Rattle.srt_lobby.specs.declared.new_access.ReplacedAccess.{ReplacedAccess}
use Rattle.srt_lobby.specs.RouteNames.{RouteName}

-- whom a role admits: the allowed networks, or any address if none are given; the required key, or no key
pub record ListAndKey : Type 0 where
  pub from : Option (List Network)
  pub key : Option (List ℕ)

-- whom both roles of a route admit
pub record ListsAndKeys : Type 0 where
  pub publish : ListAndKey
  pub request : ListAndKey

-- the list and the key in the access rules of a role
abbrev pub list_and_key : RoleTerms → ListAndKey
list_and_key role = record { from = role.from; key = role.key }

-- the lists and the keys in the access rules of a route
abbrev pub lists_and_keys : AccessTerms → ListsAndKeys
lists_and_keys access = record { publish = list_and_key access.publish; request = list_and_key access.request }

-- the access rules of a role with this list and key in place of its own, and with its own passphrase
abbrev pub role_with : ListAndKey → RoleTerms → RoleTerms
role_with new role = record { from = new.from; key = new.key; passphrase = role.passphrase }

-- the access rules of a route with these lists and keys in place of its own, with its own passphrases and length of keys
abbrev pub access_with : ListsAndKeys → AccessTerms → AccessTerms
access_with new access =
    record { publish = role_with new.publish access.publish; request = role_with new.request access.request; key_length = access.key_length }

-- the names after the lists and keys of the route with this index, visible or hidden, are replaced
abbrev pub replaced_at : ListsAndKeys → (r : ℕ) → List RouteName → List RouteName
replaced_at new r [] = []
replaced_at new zero (name ∷ names) = record name { access = access_with new name.access } ∷ names
replaced_at new (suc r) (name ∷ names) = name ∷ replaced_at new r names

-- the list and the key that a value of the code represents
abbrev pub role_rules : RoleRules → ListAndKey
role_rules rules = record { from = option_map (λ networks. networks.items) rules.from; key = option_map string_bytes rules.key }

-- the lists and keys that are to replace those of a route
abbrev pub new_access : NewAccess → ListsAndKeys
new_access new = record { publish = role_rules new.publish; request = role_rules new.request }

-- the lists and keys that were replaced
abbrev pub replaced_access : ReplacedAccess → ListsAndKeys
replaced_access old = record { publish = role_rules old.publish; request = role_rules old.request }
