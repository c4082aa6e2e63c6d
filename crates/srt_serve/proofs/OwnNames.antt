-- Whether a datagram is a route's, by the route's own name, whatever names other routes have.
use Rattle.std.proofs.Common.{◌≡◌, ℕ, ◌<◌, true, false, List, length, Some, get_or, sym, ap, ◌∙◌, arith}
use Rattle.std.specs.List.{position_or_len}
use Rattle.std.proofs.lemmas.Bool.{false_from_ne_true}
use Rattle.std.proofs.lemmas.Bool.Decides.{nat_tests}
use Rattle.std.proofs.lemmas.List.Sums.{position_or_len_is}
use Rattle.std.proofs.lemmas.Option.{get_or_from_slice_get, slice_get-get_or, slice_get_within}
use Rattle.srt_packet.specs.Reading.{packet_in}
use Rattle.srt_lobby.specs.Names.{RouteName, is_requested, index_of, has_name}
use Rattle.srt_lobby.specs.Lobby.{class_of}
use Rattle.srt_lobby.proofs.Finds.{no_name, found_name}
use Rattle.srt_lobby.proofs.Kept.{IsFoundAgain, packet_follows}
use Rattle.srt_serve.specs.Unchanged.{HasOwnName, LobbySortsByOwnName}

-- a name that no other visible route has is found
other_before : (names : List RouteName) (r : ℕ) (name : RouteName) (requested : List ℕ)
    → HasOwnName names r name → is_requested requested name ≡ true → r < length names → (k : ℕ) → k < r
    → is_requested requested (get_or names k no_name) ≡ false
other_before names r name requested has is inside k below =
    false_from_ne_true _ (λ same.
    let e : k ≡ r = has.only k requested (ap (has_name requested) has.named ∙ is)
    (ap (has_name requested) (slice_get-get_or names k no_name (omega (arith, below, inside))) ∙ same) in
    omega (arith, e, below))

own_found : (names : List RouteName) (r : ℕ) (name : RouteName) (requested : List ℕ)
    → HasOwnName names r name → is_requested requested name ≡ true → index_of names requested ≡ Some r
own_found names r name requested has is =
    let inside : r < length names = slice_get_within names r name has.named in
    let here : is_requested requested (get_or names r no_name) ≡ true = ap (is_requested requested) (get_or_from_slice_get names r name no_name has.named)
    ∙ is in
    let at : position_or_len (is_requested requested) names ≡ r =
    position_or_len_is (is_requested requested) names r no_name (omega (arith, inside)) (other_before names r name requested has is inside) (λ w. here) in
    rw at (grind (arith, nat_tests))

own_found_again : (names others : List RouteName) (r : ℕ) (name : RouteName) → HasOwnName names r name → HasOwnName others r name
    → IsFoundAgain names others r
own_found_again names others r name has have = record {
  finds = λ requested h. own_found others r name requested have (found_name names r name requested has.named h);
  same = have.named ∙ sym has.named;
}

pub lobby_sorts_by_own_name : LobbySortsByOwnName
unfolding class_of
lobby_sorts_by_own_name secret names others r name has have datagram moment = (
  packet_follows secret names others r (own_found_again names others r name has have) datagram.peer moment (packet_in datagram.bytes),
  packet_follows secret others names r (own_found_again others names r name have has) datagram.peer moment (packet_in datagram.bytes),
)
