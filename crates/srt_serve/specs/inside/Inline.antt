-- What the polling thread does besides its rounds: which datagrams' routes it serves itself, and what it tells a watcher.
use Rattle.std.specs.Prelude.{◌≡◌, ◌⊎◌, ◌&&◌, ℕ, nat_lt, nat_le, Bool, true, None, Some, List, []}
use Rattle.srt_types.specs.declared.shared.Peer.{Peer}
use Rattle.srt_lobby.specs.Names.{RouteName}
use Rattle.srt_lobby.specs.Causes.{cause_of}
use Rattle.srt_supervision.specs.declared.refusal.Refusal.{Refusal}
use Rattle.srt_serve.specs.Refusals.{requested_name}
use Rattle.srt_serve.specs.inside.UpTo.{UpTo}

-- it serves those of fewer than 64 datagrams, if that are eight or fewer
abbrev pub serves_itself : (datagrams polled : ℕ) → Bool
serves_itself datagrams polled = nat_lt datagrams 64 && nat_le polled 8

-- each route that something was offered to was served, or all that still had its mark were left to the workers: `attended` is what is known of a
-- route that had no mark or was served, and `handed` once they were left
abbrev pub AreServed : (attended : (route : ℕ) → Type 0) → (handed : Type 0) → (routes : ℕ) → Type 0
AreServed attended handed routes = UpTo attended routes ⊎ handed

-- so it is of the routes of this many datagrams, if they are as few as the polling thread serves itself; or all were left to the workers, which were
-- notified of that many
abbrev pub IsServedInline : (attended counted : ℕ → Type 0) → (handed : Type 0) → (notified : ℕ → Type 0) → (routes datagrams : ℕ) → Type 0
IsServedInline attended counted handed notified routes datagrams =
    ((polled : ℕ) × counted polled × (serves_itself datagrams polled ≡ true) × AreServed attended handed routes) ⊎ (handed × notified datagrams)

-- this is the report of a conclusion that the lobby with these names refused
pub record IsLobbyRefusal (names : List RouteName) (peer : Peer) (conclusion : List ℕ) (code : ℕ) (r : Refusal) : Type 0 where
  pub route : r.route ≡ None
  pub peer_is : r.peer ≡ peer
  pub code_is : r.code ≡ code
  pub name : r.name.items ≡ requested_name conclusion
  pub cause : r.cause ≡ cause_of names (record { peer = peer; bytes = conclusion })

-- this is the report of one that the route with this index refused
pub record IsRouteRefusal (route : ℕ) (peer : Peer) (code : ℕ) (r : Refusal) : Type 0 where
  pub route_is : r.route ≡ Some route
  pub peer_is : r.peer ≡ peer
  pub code_is : r.code ≡ code
  pub name : r.name.items ≡ []
  pub cause : r.cause ≡ None

-- that was told, or there was no place: these are what is known then
abbrev pub ToldOfLobby : (missed : Type 0) → (told : Refusal → Type 0) → List RouteName → Peer → (conclusion : List ℕ) → (code : ℕ) → Type 0
ToldOfLobby missed told names peer conclusion code = missed ⊎ ((r : Refusal) × IsLobbyRefusal names peer conclusion code r × told r)

abbrev pub ToldOfRoute : (missed : Type 0) → (told : Refusal → Type 0) → (route : ℕ) → Peer → (code : ℕ) → Type 0
ToldOfRoute missed told route peer code = missed ⊎ ((r : Refusal) × IsRouteRefusal route peer code r × told r)
