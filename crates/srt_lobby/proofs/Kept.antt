-- The class of a datagram and the routes.
use Rattle.std.proofs.Common.{◌≡◌, ℕ, ◌-◌, ◌+◌, ◌/◌, ◌^◌, ◌<◌, ◌≤◌, Bool, true, false, cond, ◌&&◌, List, length, Option, None, Some, Result, slice_get}
use Rattle.std.proofs.Common.{Ok, Err, nat_lt, ◌==◌, refl, sym, ap, subst, ◌∙◌, arith}
use Rattle.std.proofs.lemmas.Bool.Decides.{nat_tests}
use Rattle.srt_types.specs.declared.shared.Peer.{Peer}
use Rattle.srt_types.specs.declared.shared.Role.{Role}
use Rattle.srt_packet.specs.declared.reading.PacketFault.{PacketFault}
use Rattle.srt_packet.specs.declared.reading.PacketFault.TheVariants as faults
use Rattle.srt_packet.specs.Grammar as packets
use Rattle.srt_packet.specs.Grammar.{Packet, Body}
use Rattle.srt_packet.specs.Reading.{packet_in}
use Rattle.srt_hs.specs.declared.handshake.HsKind.{HsKind}
use Rattle.srt_hs.specs.declared.handshake.HsKind.TheVariants as kinds
use Rattle.srt_hs.specs.declared.handshake.HsFault.{HsFault}
use Rattle.srt_hs.specs.declared.writing.AnswerKind.{AnswerKind}
use Rattle.srt_hs.specs.declared.refusal_codes.RefusalCode.{RefusalCode}
use Rattle.srt_hs.specs.declared.refusal_codes.RefusalCode.TheVariants as codes
use Rattle.srt_hs.specs.Grammar.{Handshake}
use Rattle.srt_hs.specs.KeyRequest.{Asked, key_request_in}
use Rattle.srt_hs.specs.Reading.{handshake_in}
use Rattle.srt_streamid.specs.declared.reading.Ask.{Ask}
use Rattle.srt_streamid.specs.declared.reading.AskFault.{AskFault}
use Rattle.srt_streamid.specs.Reading.{ask_in, key_of, name_of}
use Rattle.srt_cookie.specs.Cookie.{is_right}
use Rattle.srt_lobby.specs.declared.classes.Class.{Class}
use Rattle.srt_lobby.specs.declared.classes.Class.TheVariants.{Route, Dropped}
use Rattle.srt_lobby.specs.declared.classes.Cause.TheVariants as causes
use Rattle.srt_lobby.specs.declared.names.RequestedRole.{RequestedRole}
use Rattle.srt_lobby.specs.Names.{RouteName, index_of, shows, is_shown_at, knows_caller, knows_caller_at, admits_caller, secures}
use Rattle.srt_lobby.specs.Keys.{has_keys}
use Rattle.srt_lobby.specs.Lobby.{answered, refused, reason_of, role_of, role_named, role_requested, key_brought, if_keyed, of_role, by_reason, of_request}
use Rattle.srt_lobby.specs.Lobby.{of_conclusion, by_kind, of_handshake, of_body, if_known, by_place, to_session, of_packet, class_of}
use Rattle.srt_lobby.specs.Laws.{HasRoute, RouteIsItsOwn, RouteIsNamed, RouteIsShown, RouteHasHeader}
use Rattle.srt_lobby.proofs.Finds.{found_name, name_found, found_shown, shown_within}

-- if one class is route r, the other is too
abbrev Follows : (r : ℕ) → (x y : Class) → Type 0
Follows r x y = x ≡ Route r → y ≡ Route r

by_test : (r : ℕ) (b : Bool) (x y v w : Class) → Follows r x v → Follows r y w → Follows r (cond b x y) (cond b v w)
by_test r true x y v w p q = p
by_test r false x y v w p q = q

pub never_answered : (r : ℕ) (hs : Handshake) (what : AnswerKind) → answered hs what ≡ Route r → ⊥
unfolding answered
never_answered r hs what h = cc

-- a conclusion that is for route r: it requests a role of this route, which admits the caller and for which the keys are
-- right, and nothing else refuses it
pub record IsOfRole (peer : Peer) (keys : Asked) (hs : Handshake) (brought : Option (List ℕ)) (q : RequestedRole) (name : Option RouteName) (r : ℕ)
    : Type 0 where
  pub is : q.route ≡ r
  pub reason : reason_of (secures q.role name) hs ≡ None
  pub admits : admits_caller peer q.role brought name ≡ true
  pub keyed : has_keys q.role keys name ≡ true

role_is : (peer : Peer) (keys : Asked) (hs : Handshake) (brought : Option (List ℕ)) (q : RequestedRole) (name : Option RouteName) (r : ℕ)
    → by_reason hs (reason_of (secures q.role name) hs) (of_role peer keys hs brought q name) ≡ Route r → IsOfRole peer keys hs brought q name r
role_is peer keys hs brought q name r h =
    by (reason_of (secures q.role name) hs) refl (admits_caller peer q.role brought name) refl (has_keys q.role keys name) refl h
  where
    by : (reason : Option RefusalCode) → reason_of (secures q.role name) hs ≡ reason → (a : Bool) → admits_caller peer q.role brought name ≡ a
        → (k : Bool) → has_keys q.role keys name ≡ k
        → by_reason hs reason (cond a (if_keyed k hs q.route) (refused hs codes.Peer)) ≡ Route r
        → IsOfRole peer keys hs brought q name r
    by (Some code) e a admits k keyed h = absurd (never_answered r hs _ h)
    by None e true admits true keyed h = record { is = cc; reason = e; admits = admits; keyed = keyed }
    by None e true admits false keyed h = absurd (never_answered r hs _ h)
    by None e false admits k keyed h = absurd (never_answered r hs _ h)

pub request_is : (names : List RouteName) (peer : Peer) (keys : Asked) (hs : Handshake) (brought : Option (List ℕ)) (o : Option RequestedRole) (r : ℕ)
    → of_request names peer keys hs brought o ≡ Route r
    → (q : RequestedRole) × (o ≡ Some q) × IsOfRole peer keys hs brought q (slice_get names q.route) r
request_is names peer keys hs brought (Some q) r h = (q, refl, role_is peer keys hs brought q (slice_get names q.route) r h)
request_is names peer keys hs brought None r h = absurd (never (reason_of false hs) h)
  where
    never : (reason : Option RefusalCode) → by_reason hs reason (refused hs codes.Peer) ≡ Route r → ⊥
    never (Some code) h = never_answered r hs _ h
    never None h = never_answered r hs _ h

-- the role of a route that has an index, and that route
pub role_of_is : (role : Role) (s : ℕ) (q : RequestedRole) → role_of role (Some s) ≡ Some q → (s ≡ q.route) × (role ≡ q.role)
role_of_is role s q h =
    let given : RequestedRole = record { role = role; route = s } in
    let same : given ≡ q = cc in
    (ap (λ (z : RequestedRole). z.route) same, ap (λ (z : RequestedRole). z.role) same)

named_shown : (names : List RouteName) (bytes : List ℕ) (ask : Result Ask AskFault) (q : RequestedRole)
    → role_named names bytes ask ≡ Some q → is_shown_at names q.route ≡ true
named_shown names bytes (Ok ask) q h = by (index_of names (name_of bytes ask)) refl h
  where
    by : (o : Option ℕ) → index_of names (name_of bytes ask) ≡ o → role_of ask.role o ≡ Some q → is_shown_at names q.route ≡ true
    by (Some s) e h = ap (is_shown_at names) (sym (role_of_is ask.role s q h).0) ∙ found_shown names s (name_of bytes ask) e
    by None e h = cc
named_shown names bytes (Err fault) q h = cc

pub role_shown : (names : List RouteName) (id : Option (List ℕ)) (q : RequestedRole)
    → role_requested names id ≡ Some q → is_shown_at names q.route ≡ true
role_shown names (Some bytes) q h = named_shown names bytes (ask_in bytes) q h
role_shown names None q h = cc

-- a packet with destination 0 is for a route only if it is a handshake
pub only_a_handshake : (secret : List ℕ) (names : List RouteName) (peer : Peer) (moment r : ℕ) (body : Body)
    → of_body secret names peer moment body ≡ Route r → (info : List ℕ) × (body ≡ packets.Handshake info)
only_a_handshake secret names peer moment r (packets.Handshake info) h = (info, refl)
only_a_handshake secret names peer moment r (packets.Data number encryption payload) h = cc
only_a_handshake secret names peer moment r packets.KeepAlive h = cc
only_a_handshake secret names peer moment r (packets.Ack number info) h = cc
only_a_handshake secret names peer moment r (packets.Nak info) h = cc
only_a_handshake secret names peer moment r packets.CongestionWarning h = cc
only_a_handshake secret names peer moment r packets.Shutdown h = cc
only_a_handshake secret names peer moment r (packets.AckAck number) h = cc
only_a_handshake secret names peer moment r (packets.DropRequest message first last) h = cc
only_a_handshake secret names peer moment r packets.PeerError h = cc
only_a_handshake secret names peer moment r packets.UserDefined h = cc

pub record IsPlace (names : List RouteName) (peer : Peer) (place r : ℕ) : Type 0 where
  pub is : place ≡ r + 1
  pub is_there : is_shown_at names r ≡ true
  pub is_known : knows_caller_at names r peer ≡ true

abbrev placed : (a b k : Bool) → (r : ℕ) → Class
placed a b k r = cond (a && b) (if_known k r) (Dropped causes.UnknownId)

pub place_is : (names : List RouteName) (peer : Peer) (place r : ℕ) → by_place names peer place ≡ Route r → IsPlace names peer place r
place_is names peer place r h =
    by_cases (nat_lt 0 place) refl (is_shown_at names (place - 1)) refl (knows_caller_at names (place - 1) peer) refl h
  where
    by_cases : (a : Bool) → nat_lt 0 place ≡ a → (b : Bool) → is_shown_at names (place - 1) ≡ b → (k : Bool)
        → knows_caller_at names (place - 1) peer ≡ k → placed a b k (place - 1) ≡ Route r
        → IsPlace names peer place r
    by_cases true p true q true known h =
        let e : place - 1 ≡ r = cc in
        record {
          is = grind (arith, nat_tests);
          is_there = ap (is_shown_at names) (sym e) ∙ q;
          is_known = ap (λ (s : ℕ). knows_caller_at names s peer) (sym e) ∙ known;
        }
    by_cases true p true q false known h = cc
    by_cases true p false q k known h = cc
    by_cases false p b q k known h = cc

place_goes : (names : List RouteName) (peer : Peer) (place r : ℕ) → IsPlace names peer place r → by_place names peer place ≡ Route r
place_goes names peer place r h =
    let e : place - 1 ≡ r = omega (arith, h.is) in
    let some : nat_lt 0 place ≡ true = grind (arith, nat_tests, h.is) in
    ap (λ (b : Bool). placed b (is_shown_at names (place - 1)) (knows_caller_at names (place - 1) peer) (place - 1)) some
    ∙ ap (λ (s : ℕ). placed true (is_shown_at names s) (knows_caller_at names s peer) s) e
    ∙ ap (λ (b : Bool). placed true b (knows_caller_at names r peer) r) h.is_there
    ∙ ap (λ (k : Bool). placed true true k r) h.is_known

-- the route is the same in both lists, and each name that finds it in the first one finds it in the second one
pub record IsFoundAgain (names others : List RouteName) (r : ℕ) : Type 0 where
  pub finds : (requested : List ℕ) → index_of names requested ≡ Some r → index_of others requested ≡ Some r
  pub same : slice_get others r ≡ slice_get names r

module _ (secret : List ℕ) (names others : List RouteName) (r : ℕ) (again : IsFoundAgain names others r) (peer : Peer) (moment : ℕ) where
  named_follows : (bytes : List ℕ) (ask : Result Ask AskFault) (q : RequestedRole) → q.route ≡ r
      → role_named names bytes ask ≡ Some q → role_named others bytes ask ≡ Some q
  named_follows bytes (Ok ask) q is h = by (index_of names (name_of bytes ask)) refl h
    where
      by : (o : Option ℕ) → index_of names (name_of bytes ask) ≡ o → role_of ask.role o ≡ Some q
          → role_of ask.role (index_of others (name_of bytes ask)) ≡ Some q
      by (Some s) e h =
          let same : s ≡ r = (role_of_is ask.role s q h).0 ∙ is in
          ap (role_of ask.role) (again.finds (name_of bytes ask) (e ∙ ap Some same) ∙ ap Some (sym same)) ∙ h
      by None e h = cc
  named_follows bytes (Err fault) q is h = cc

  requested_follows : (id : Option (List ℕ)) (q : RequestedRole) → q.route ≡ r → role_requested names id ≡ Some q → role_requested others id ≡ Some q
  requested_follows (Some bytes) q is h = named_follows bytes (ask_in bytes) q is h
  requested_follows None q is h = cc

  conclusion_follows : (keys : Asked) (hs : Handshake) → Follows r (of_conclusion names peer keys hs) (of_conclusion others peer keys hs)
  unfolding of_conclusion
  conclusion_follows keys hs h =
      let brought = key_brought hs.blocks.stream_id in
      let was = request_is names peer keys hs brought (role_requested names hs.blocks.stream_id) r h in
      let same : slice_get others was.0.route ≡ slice_get names was.0.route =
      subst (λ (k : ℕ). slice_get others k ≡ slice_get names k) (sym was.2.is) again.same in
      ap (of_request others peer keys hs brought) (requested_follows hs.blocks.stream_id was.0 was.2.is was.1)
      ∙ ap (λ (n : Option RouteName). by_reason hs (reason_of (secures was.0.role n) hs) (of_role peer keys hs brought was.0 n)) same
      ∙ sym (ap (of_request names peer keys hs brought) was.1) ∙ h

  kind_follows : (keys : Asked) (hs : Handshake) (kind : HsKind)
      → Follows r (by_kind secret names peer moment keys hs kind) (by_kind secret others peer moment keys hs kind)
  kind_follows keys hs kinds.Induction h = h
  kind_follows keys hs kinds.WaveHand h = h
  kind_follows keys hs kinds.Conclusion h = by_test r (is_right secret peer moment hs.cookie) _ _ _ _ (conclusion_follows keys hs) (λ e. e) h
  kind_follows keys hs kinds.Agreement h = h
  kind_follows keys hs kinds.Done h = h
  kind_follows keys hs (kinds.Refusal number) h = h

  handshake_follows : (keys : Asked) (hs : Result Handshake HsFault)
      → Follows r (of_handshake secret names peer moment keys hs) (of_handshake secret others peer moment keys hs)
  handshake_follows keys (Ok hs) h = kind_follows keys hs hs.kind h
  handshake_follows keys (Err fault) h = h

  body_follows : (body : Body) → Follows r (of_body secret names peer moment body) (of_body secret others peer moment body)
  body_follows body h =
      let at = only_a_handshake secret names peer moment r body h in
      ap (of_body secret others peer moment) at.1
      ∙ handshake_follows (key_request_in at.0) (handshake_in at.0) (sym (ap (of_body secret names peer moment) at.1) ∙ h)

  session_follows : (dest : ℕ) → Follows r (to_session names peer dest) (to_session others peer dest)
  session_follows dest h =
      let place = place_is names peer (dest / 2 ^ 20) r h in
      place_goes others peer (dest / 2 ^ 20) r
      (record {
        is = place.is;
        is_there = ap shows again.same ∙ place.is_there;
        is_known = ap (knows_caller peer) again.same ∙ place.is_known;
      })

  pub packet_follows : (packet : Result Packet PacketFault) → Follows r (of_packet secret names peer moment packet) (of_packet secret others peer moment packet)
  packet_follows (Ok packet) h = by_test r (packet.dest == 0) _ _ _ _ (body_follows packet.body) (session_follows packet.dest) h
  packet_follows (Err fault) h = h

found_again : (names others : List RouteName) (r : ℕ) (name : RouteName) → HasRoute names r name → HasRoute others r name → IsFoundAgain names others r
found_again names others r name has have = record {
  finds = λ requested h. name_found others r name requested have.distinct have.named (found_name names r name requested has.named h);
  same = have.named ∙ sym has.named;
}

pub own : RouteIsItsOwn
unfolding class_of
own secret names others r name has have datagram moment = (
  packet_follows secret names others r (found_again names others r name has have) datagram.peer moment (packet_in datagram.bytes),
  packet_follows secret others names r (found_again others names r name have has) datagram.peer moment (packet_in datagram.bytes),
)

-- a datagram for a route is for a visible route, which therefore exists
abbrev Shown : (names : List RouteName) (r : ℕ) → Class → Type 0
Shown names r x = x ≡ Route r → is_shown_at names r ≡ true

either : (names : List RouteName) (r : ℕ) (b : Bool) (x y : Class) → Shown names r x → Shown names r y → Shown names r (cond b x y)
either names r true x y p q = p
either names r false x y p q = q

module _ (secret : List ℕ) (names : List RouteName) (r : ℕ) (peer : Peer) (moment : ℕ) where
  conclusion_shown : (keys : Asked) (hs : Handshake) → Shown names r (of_conclusion names peer keys hs)
  unfolding of_conclusion
  conclusion_shown keys hs h =
      let was = request_is names peer keys hs (key_brought hs.blocks.stream_id) (role_requested names hs.blocks.stream_id) r h in
      ap (is_shown_at names) (sym was.2.is) ∙ role_shown names hs.blocks.stream_id was.0 was.1

  kind_shown : (keys : Asked) (hs : Handshake) (kind : HsKind) → Shown names r (by_kind secret names peer moment keys hs kind)
  kind_shown keys hs kinds.Induction h = absurd (never_answered r hs _ h)
  kind_shown keys hs kinds.WaveHand h = cc
  kind_shown keys hs kinds.Conclusion h = either names r (is_right secret peer moment hs.cookie) _ _ (conclusion_shown keys hs) (λ e. cc) h
  kind_shown keys hs kinds.Agreement h = cc
  kind_shown keys hs kinds.Done h = cc
  kind_shown keys hs (kinds.Refusal number) h = cc

  handshake_shown : (keys : Asked) (hs : Result Handshake HsFault) → Shown names r (of_handshake secret names peer moment keys hs)
  handshake_shown keys (Ok hs) h = kind_shown keys hs hs.kind h
  handshake_shown keys (Err fault) h = cc

  body_shown : (body : Body) → Shown names r (of_body secret names peer moment body)
  body_shown body h =
      let at = only_a_handshake secret names peer moment r body h in
      handshake_shown (key_request_in at.0) (handshake_in at.0) (sym (ap (of_body secret names peer moment) at.1) ∙ h)

  packet_shown : (packet : Result Packet PacketFault) → Shown names r (of_packet secret names peer moment packet)
  packet_shown (Ok packet) h = either names r (packet.dest == 0) _ _ (body_shown packet.body) (λ e. (place_is names peer (packet.dest / 2 ^ 20) r e).is_there) h
  packet_shown (Err fault) h = cc

pub is_for_shown : RouteIsShown
unfolding class_of
is_for_shown secret names datagram moment r h = packet_shown secret names r datagram.peer moment (packet_in datagram.bytes) h

pub inside : RouteIsNamed
inside secret names datagram moment r h = shown_within names r (is_for_shown secret names datagram moment r h)

no_route : (secret : List ℕ) (names : List RouteName) (peer : Peer) (moment r : ℕ) (packet : Result Packet PacketFault)
    (fault : PacketFault)
    → packet ≡ Err fault → of_packet secret names peer moment packet ≡ Route r
    → ⊥
no_route secret names peer moment r packet fault e h =
    let dropped : of_packet secret names peer moment packet ≡ Dropped causes.Packet = ap (of_packet secret names peer moment) e in
    cc

packet_is_short : (bytes : List ℕ) → length bytes < 16 → packet_in bytes ≡ Err faults.Short
packet_is_short bytes h = grind (arith, nat_tests)

not_less : (n : ℕ) → (n < 16 → ⊥) → 16 ≤ n
not_less n f = omega (arith, f)

pub header : RouteHasHeader
unfolding class_of
header secret names datagram moment r h =
    not_less (length datagram.bytes)
    (λ short. no_route secret names datagram.peer moment r (packet_in datagram.bytes) faults.Short (packet_is_short datagram.bytes short) h)
