-- The access rules of a route admit the sender of each datagram for the route.
use Rattle.std.proofs.Common.{◌≡◌, ℕ, ◌/◌, ◌^◌, Bool, true, false, not, cond, ◌||◌, nat_le, is_some, List, Option, None, Some, Result, Ok, Err, ◌==◌, slice_get}
use Rattle.std.proofs.Common.{refl, sym, ap, ◌∙◌, subst}
use Rattle.std.proofs.lemmas.Bool.{and_parts, or_right}
use Rattle.srt_types.specs.declared.shared.Peer.{Peer}
use Rattle.srt_types.specs.declared.shared.Role.{Role}
use Rattle.srt_types.specs.declared.shared.Role.TheVariants.{Publish, Request}
use Rattle.srt_types.specs.declared.shared.KeyLength.{KeyLength}
use Rattle.srt_types.specs.Access.{AccessTerms, in_role, lists, is_right_key, is_secured, is_right_length}
use Rattle.srt_packet.specs.declared.reading.PacketFault.{PacketFault}
use Rattle.srt_packet.specs.Grammar as packets
use Rattle.srt_packet.specs.Grammar.{Packet, Body}
use Rattle.srt_packet.specs.Reading.{packet_in}
use Rattle.srt_hs.specs.declared.handshake.HsKind.{HsKind}
use Rattle.srt_hs.specs.declared.handshake.HsKind.TheVariants as kinds
use Rattle.srt_hs.specs.declared.handshake.HsFault.{HsFault}
use Rattle.srt_hs.specs.declared.refusal_codes.RefusalCode.{RefusalCode}
use Rattle.srt_hs.specs.declared.refusal_codes.RefusalCode.TheVariants as codes
use Rattle.srt_hs.specs.declared.key_message.KeyFault.{KeyFault}
use Rattle.srt_hs.specs.Grammar.{Handshake}
use Rattle.srt_hs.specs.KeyMessage.{KeyMessage, message_in}
use Rattle.srt_hs.specs.KeyRequest.{Asked, nothing, one, several, key_request_in}
use Rattle.srt_hs.specs.Reading.{handshake_in}
use Rattle.srt_streamid.specs.declared.reading.Ask.{Ask}
use Rattle.srt_streamid.specs.declared.reading.AskFault.{AskFault}
use Rattle.srt_streamid.specs.Reading.{ask_in, key_of, name_of}
use Rattle.srt_cookie.specs.Cookie.{is_right}
use Rattle.srt_lobby.specs.declared.classes.Class.TheVariants.{Route, Dropped}
use Rattle.srt_lobby.specs.declared.classes.Cause.TheVariants as causes
use Rattle.srt_lobby.specs.declared.names.RequestedRole.{RequestedRole}
use Rattle.srt_lobby.specs.Names.{RouteName, index_of, knows_caller, knows_caller_at, admits_caller, secures}
use Rattle.srt_lobby.specs.Keys.{has_keys, has_keys_in, is_right_message, is_right_request}
use Rattle.srt_lobby.specs.Lobby.{reason_of, role_of, role_named, role_requested, key_brought, of_conclusion, by_kind, of_handshake, of_body, to_session}
use Rattle.srt_lobby.specs.Lobby.{of_packet, class_of}
use Rattle.srt_lobby.specs.Laws.{RouteIsForCallers, BringsKeys, RouteIsKeyed}
use Rattle.srt_lobby.proofs.Kept.{never_answered, request_is, role_of_is, only_a_handshake, place_is}

first_or : (b c : Bool) → b ≡ true → (b || c) ≡ true
first_or true c h = refl
first_or false c h = cc

-- an admitted caller is known
known : (peer : Peer) (role : Role) (brought : Option (List ℕ)) (o : Option RouteName) → admits_caller peer role brought o ≡ true → knows_caller peer o ≡ true
known peer Publish brought (Some name) h =
    first_or (lists name.access.publish.from peer) (lists name.access.request.from peer)
    (and_parts (lists name.access.publish.from peer) (is_right_key name.access.publish.key brought) h).0
known peer Request brought (Some name) h =
    or_right (lists name.access.publish.from peer) (lists name.access.request.from peer)
    (and_parts (lists name.access.request.from peer) (is_right_key name.access.request.key brought) h).0
known peer role brought None h = cc

-- the Stream ID requests a role of the route that admits the caller; the conclusion has the keys that are right for the
-- role, and nothing else refuses it
abbrev Lets : List RouteName → Peer → (r : ℕ) → (keys : Asked) → Handshake → Option (List ℕ) → Type 0
Lets names peer r keys hs id =
    (bytes : List ℕ) × (ask : Ask) × (id ≡ Some bytes) × (ask_in bytes ≡ Ok ask)
    × (admits_caller peer ask.role (key_of bytes) (slice_get names r) ≡ true)
    × (has_keys ask.role keys (slice_get names r) ≡ true)
    × (reason_of (secures ask.role (slice_get names r)) hs ≡ None)

-- the same of a packet's body
abbrev LetsBody : List RouteName → Peer → (r : ℕ) → Body → Type 0
LetsBody names peer r body =
    (info : List ℕ) × (hs : Handshake) × (body ≡ packets.Handshake info) × (handshake_in info ≡ Ok hs) × (hs.kind ≡ kinds.Conclusion)
    × Lets names peer r (key_request_in info) hs hs.blocks.stream_id

-- the Stream ID that requests a role
record IsRequest (id : Option (List ℕ)) (q : RequestedRole) : Type 0 where
  bytes : List ℕ
  ask : Ask
  is : id ≡ Some bytes
  asks : ask_in bytes ≡ Ok ask
  role : ask.role ≡ q.role

named_is : (names : List RouteName) (bytes : List ℕ) (ask : Result Ask AskFault) (q : RequestedRole)
    → ask_in bytes ≡ ask → role_named names bytes ask ≡ Some q → IsRequest (Some bytes) q
named_is names bytes (Ok ask) q e h = by (index_of names (name_of bytes ask)) h
  where
    by : (o : Option ℕ) → role_of ask.role o ≡ Some q → IsRequest (Some bytes) q
    by (Some s) h = record { bytes = bytes; ask = ask; is = refl; asks = e; role = (role_of_is ask.role s q h).1 }
    by None h = cc
named_is names bytes (Err fault) q e h = cc

requested_is : (names : List RouteName) (id : Option (List ℕ)) (q : RequestedRole) → role_requested names id ≡ Some q → IsRequest id q
requested_is names (Some bytes) q h = named_is names bytes (ask_in bytes) q refl h
requested_is names None q h = cc

module _ (secret : List ℕ) (names : List RouteName) (r : ℕ) (peer : Peer) (moment : ℕ) where
  conclusion_lets : (keys : Asked) (hs : Handshake) → of_conclusion names peer keys hs ≡ Route r → Lets names peer r keys hs hs.blocks.stream_id
  unfolding of_conclusion
  conclusion_lets keys hs h =
      let was = request_is names peer keys hs (key_brought hs.blocks.stream_id) (role_requested names hs.blocks.stream_id) r h in
      let q = was.0 in
      let of = requested_is names hs.blocks.stream_id q was.1 in (
        of.bytes,
        of.ask,
        of.is,
        of.asks,
        ap (λ (role : Role). admits_caller peer role (key_of of.bytes) (slice_get names r)) of.role
            ∙ ap (λ (k : ℕ). admits_caller peer q.role (key_of of.bytes) (slice_get names k)) (sym was.2.is)
            ∙ ap (λ (id : Option (List ℕ)). admits_caller peer q.role (key_brought id) (slice_get names q.route)) (sym of.is) ∙ was.2.admits,
        ap (λ (role : Role). has_keys role keys (slice_get names r)) of.role
            ∙ ap (λ (k : ℕ). has_keys q.role keys (slice_get names k)) (sym was.2.is) ∙ was.2.keyed,
        ap (λ (role : Role). reason_of (secures role (slice_get names r)) hs) of.role
            ∙ ap (λ (k : ℕ). reason_of (secures q.role (slice_get names k)) hs) (sym was.2.is) ∙ was.2.reason,
      )

  kind_lets : (keys : Asked) (hs : Handshake) (kind : HsKind) → hs.kind ≡ kind → by_kind secret names peer moment keys hs kind ≡ Route r
      → (hs.kind ≡ kinds.Conclusion) × Lets names peer r keys hs hs.blocks.stream_id
  kind_lets keys hs kinds.Induction e h = absurd (never_answered r hs _ h)
  kind_lets keys hs kinds.WaveHand e h = cc
  kind_lets keys hs kinds.Conclusion e h = (e, by (is_right secret peer moment hs.cookie) h)
    where
      by : (b : Bool) → cond b (of_conclusion names peer keys hs) (Dropped causes.WrongCookie) ≡ Route r
          → Lets names peer r keys hs hs.blocks.stream_id
      by true h = conclusion_lets keys hs h
      by false h = cc
  kind_lets keys hs kinds.Agreement e h = cc
  kind_lets keys hs kinds.Done e h = cc
  kind_lets keys hs (kinds.Refusal number) e h = cc

  handshake_lets : (info : List ℕ) (hs : Result Handshake HsFault)
      → handshake_in info ≡ hs → of_handshake secret names peer moment (key_request_in info) hs ≡ Route r → LetsBody names peer r (packets.Handshake info)
  handshake_lets info (Ok hs) e h =
      let lets = kind_lets (key_request_in info) hs hs.kind refl h in
      (info, hs, refl, e, lets.0, lets.1)
  handshake_lets info (Err fault) e h = cc

  body_lets : (body : Body) → of_body secret names peer moment body ≡ Route r → LetsBody names peer r body
  body_lets body h =
      let at = only_a_handshake secret names peer moment r body h in
      subst (LetsBody names peer r) (sym at.1)
      (handshake_lets at.0 (handshake_in at.0) refl (sym (ap (of_body secret names peer moment) at.1) ∙ h))

  body_knows : (body : Body) → LetsBody names peer r body → knows_caller_at names r peer ≡ true
  body_knows body h = known peer h.5.1.role (key_of h.5.0) (slice_get names r) h.5.4

  packet_knows : (packet : Result Packet PacketFault) → of_packet secret names peer moment packet ≡ Route r → knows_caller_at names r peer ≡ true
  packet_knows (Ok packet) h = by (packet.dest == 0) h
    where
      by : (b : Bool) → cond b (of_body secret names peer moment packet.body) (to_session names peer packet.dest) ≡ Route r
          → knows_caller_at names r peer ≡ true
      by true h = body_knows packet.body (body_lets packet.body h)
      by false h = (place_is names peer (packet.dest / 2 ^ 20) r h).is_known
  packet_knows (Err fault) h = cc

-- a packet with destination 0 is classified by its body
to_body : (secret : List ℕ) (names : List RouteName) (peer : Peer) (moment r : ℕ) (packet : Packet) → packet.dest ≡ 0
    → of_packet secret names peer moment (Ok packet) ≡ Route r → of_body secret names peer moment packet.body ≡ Route r
to_body secret names peer moment r packet zero h =
    subst (λ (n : ℕ). cond (n == 0) (of_body secret names peer moment packet.body) (to_session names peer packet.dest) ≡ Route r) zero h

pub route_is_for_callers : RouteIsForCallers
unfolding class_of
route_is_for_callers secret names datagram moment r name there h = (
  ap (knows_caller datagram.peer) (sym there) ∙ packet_knows secret names r datagram.peer moment (packet_in datagram.bytes) h,
  λ packet is zero.
      let lets = body_lets secret names r datagram.peer moment packet.body
      (to_body secret names datagram.peer moment r packet zero (ap (of_packet secret names datagram.peer moment) (sym is) ∙ h)) in
      let requested = lets.5 in (
        requested.0,
        requested.1,
        record { says = (packet, lets.0, lets.1, is, lets.2, lets.3, lets.4, requested.2); asks = requested.3 },
        ap (admits_caller datagram.peer requested.1.role (key_of requested.0)) (sym there) ∙ requested.4,
      ),
)

-- without a reason to refuse it, a conclusion for a role that isn't secured has no KMREQ block
no_keys : (hs : Handshake) → reason_of false hs ≡ None → hs.blocks.has_kmreq ≡ false
unfolding reason_of
no_keys hs h =
    by (not (hs.version == 5)) (nat_le (2 ^ 31) hs.initial || not (is_some hs.blocks.hsreq)) hs.blocks.has_kmreq
    (cond hs.blocks.has_filter (Some codes.Filter) (cond hs.blocks.has_group (Some codes.Group) None)) h
  where
    by : (other rogue asks : Bool) (more : Option RefusalCode)
        → cond other (Some codes.Version) (cond rogue (Some codes.Rogue) (cond asks (Some codes.Unsecure) more)) ≡ None
        → asks ≡ false
    by true rogue asks more h = cc
    by false true asks more h = cc
    by false false true more h = cc
    by false false false more h = refl

-- right keys
right_message : (required : Option KeyLength) (contents : List ℕ) (read : Result KeyMessage KeyFault) → message_in contents ≡ read
    → is_right_message required read ≡ true
    → (message : KeyMessage) × (message_in contents ≡ Ok message) × (is_right_length required message.key_length ≡ true)
right_message required contents (Ok message) e h = (message, e, h)
right_message required contents (Err fault) e h = cc

right_request : (required : Option KeyLength) (keys : Asked) → is_right_request required keys ≡ true
    → (contents : List ℕ) × (message : KeyMessage) × (keys ≡ one contents) × (message_in contents ≡ Ok message)
    × (is_right_length required message.key_length ≡ true)
right_request required nothing h = cc
right_request required (one contents) h =
    let right = right_message required contents (message_in contents) refl h in
    (contents, right.0, refl, right.1, right.2)
right_request required several h = cc

brings : (access : AccessTerms) (role : Role) (hs : Handshake) (keys : Asked) (secured : Bool) → is_secured (in_role access role) ≡ secured
    → reason_of secured hs ≡ None → cond secured (is_right_request access.key_length keys) true ≡ true
    → BringsKeys access role hs.blocks.has_kmreq keys
brings access role hs keys true e reason right =
    record { plain = λ not. absurd (let wrong : true ≡ false = sym e ∙ not in cc); secured = λ is. right_request access.key_length keys right }
brings access role hs keys false e reason right =
    record { plain = λ not. no_keys hs reason; secured = λ is. absurd (let wrong : false ≡ true = sym e ∙ is in cc) }

pub route_is_keyed : RouteIsKeyed
unfolding class_of
route_is_keyed secret names datagram moment r name there h packet is zero =
    let lets = body_lets secret names r datagram.peer moment packet.body
    (to_body secret names datagram.peer moment r packet zero (ap (of_packet secret names datagram.peer moment) (sym is) ∙ h)) in
    let requested = lets.5 in
    let hs = lets.1 in
    let role = requested.1.role in
    let keys = key_request_in lets.0 in
    record {
      info = lets.0;
      hs = hs;
      bytes = requested.0;
      ask = requested.1;
      body = lets.2;
      reads = lets.3;
      stream_id = requested.2;
      asks = requested.3;
      brings = brings name.access role hs keys (is_secured (in_role name.access role)) refl
          (ap (λ (n : Option RouteName). reason_of (secures role n) hs) (sym there) ∙ requested.6)
          (ap (has_keys role keys) (sym there) ∙ requested.5);
    }
