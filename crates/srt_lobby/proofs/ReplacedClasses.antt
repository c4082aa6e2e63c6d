-- The classes of datagrams after the lists and keys of a route were replaced.
use Rattle.std.proofs.Common.{◌≡◌, ◌≢◌, ℕ, zero, suc, ◌-◌, ◌/◌, ◌^◌, ◌<◌, Bool, true, false, cond, ◌&&◌, ◌||◌, List, [], ◌∷◌, length, map, Option}
use Rattle.std.proofs.Common.{None, Some, Result, Ok, Err, slice_get, nat_lt, ◌==◌, get_or, refl, sym, ap, ◌∙◌, arith}
use Rattle.std.specs.Option.{option_map}
use Rattle.std.proofs.lemmas.Option.{slice_get-get_or}
use Rattle.srt_types.specs.declared.shared.Peer.{Peer}
use Rattle.srt_types.specs.Access.{lists}
use Rattle.srt_types.specs.Terms.{Terms}
use Rattle.srt_packet.specs.declared.reading.PacketFault.{PacketFault}
use Rattle.srt_packet.specs.Grammar as packets
use Rattle.srt_packet.specs.Grammar.{Packet, Body}
use Rattle.srt_packet.specs.Reading.{packet_in}
use Rattle.srt_hs.specs.declared.handshake.HsKind.{HsKind}
use Rattle.srt_hs.specs.declared.handshake.HsKind.TheVariants as kinds
use Rattle.srt_hs.specs.declared.handshake.HsFault.{HsFault}
use Rattle.srt_hs.specs.Grammar.{Handshake}
use Rattle.srt_hs.specs.KeyRequest.{Asked, key_request_in}
use Rattle.srt_hs.specs.Reading.{handshake_in}
use Rattle.srt_streamid.specs.declared.reading.Ask.{Ask}
use Rattle.srt_streamid.specs.declared.reading.AskFault.{AskFault}
use Rattle.srt_streamid.specs.Reading.{ask_in, name_of}
use Rattle.srt_cookie.specs.Cookie.{is_right}
use Rattle.srt_lobby.specs.declared.classes.Class.{Class}
use Rattle.srt_lobby.specs.declared.classes.Class.TheVariants.{Dropped}
use Rattle.srt_lobby.specs.declared.classes.Cause.TheVariants as causes
use Rattle.srt_lobby.specs.declared.names.RequestedRole.{RequestedRole}
use Rattle.srt_lobby.specs.RouteNames.{RouteName, is_shown_at, knows_caller, knows_caller_at, secures}
use Rattle.srt_lobby.specs.RouteNames.{name_of as opened_name}
use Rattle.srt_lobby.specs.ListsAndKeys.{ListsAndKeys, replaced_at}
use Rattle.srt_lobby.specs.Lobby.{reason_of, role_of, role_named, role_requested, key_brought, of_role, by_reason, of_request, of_conclusion, by_kind}
use Rattle.srt_lobby.specs.Lobby.{of_handshake, of_body, if_known, by_place, to_session, of_packet, class_of}
use Rattle.srt_lobby.specs.Replacing.{entries_with, ReplacedAsOpened, route_of_id, route_requested, route_in_body, route_in_packet, ReplacingKeepsClasses}
use Rattle.srt_lobby.specs.Replacing.{ReplacingKeepsOthers, ReplacedDecide, StrangersAreNotHeard, ReplacingKeepsNames, ReplacingAndMarkingCommute}
use Rattle.srt_lobby.specs.Replacing.{LaterReplacementCounts}
use Rattle.srt_lobby.proofs.Finds.{no_name}
use Rattle.srt_lobby.proofs.Kept.{own, inside}
use Rattle.srt_lobby.proofs.Callers.{route_is_for_callers}
use Rattle.srt_lobby.proofs.Replacing.{name_kept, mark_kept, other_kept, replaced_there, index_kept}

-- names and entries with the same change
opened_with : (entries : List Terms) (new : ListsAndKeys) (r : ℕ) → replaced_at new r (map opened_name entries) ≡ map opened_name (entries_with new r entries)
opened_with [] new r = refl
opened_with (e ∷ es) new zero = refl
opened_with (e ∷ es) new (suc r) = ap (λ (rest : List RouteName). opened_name e ∷ rest) (opened_with es new r)

pub replaced_as_opened : ReplacedAsOpened
replaced_as_opened secret entries new r datagram moment = ap (λ (names : List RouteName). class_of secret names datagram moment) (opened_with entries new r)

-- the other routes
module _ (secret : List ℕ) (names : List RouteName) (new : ListsAndKeys) (s : ℕ) (peer : Peer) (moment : ℕ) where
  abbrev after : List RouteName
  after = replaced_at new s names

  named_after : (bytes : List ℕ) (ask : Result Ask AskFault) → role_named after bytes ask ≡ role_named names bytes ask
  named_after bytes (Ok ask) = ap (role_of ask.role) (index_kept new names s (name_of bytes ask))
  named_after bytes (Err fault) = refl

  requested_after : (id : Option (List ℕ)) → role_requested after id ≡ role_requested names id
  requested_after (Some bytes) = named_after bytes (ask_in bytes)
  requested_after None = refl

  request_after : (keys : Asked) (hs : Handshake) (brought : Option (List ℕ)) (o : Option RequestedRole)
      → option_map (λ (q : RequestedRole). q.route) o ≢ Some s
      → of_request after peer keys hs brought o ≡ of_request names peer keys hs brought o
  request_after keys hs brought (Some q) apart =
      ap (λ (n : Option RouteName). by_reason hs (reason_of (secures q.role n) hs) (of_role peer keys hs brought q n))
      (other_kept new names s q.route (λ e. apart (ap Some e)))
  request_after keys hs brought None apart = refl

  conclusion_after : (keys : Asked) (hs : Handshake) → route_requested names (Ok hs) ≢ Some s
      → of_conclusion after peer keys hs ≡ of_conclusion names peer keys hs
  unfolding of_conclusion
  conclusion_after keys hs apart =
      let brought = key_brought hs.blocks.stream_id in
      ap (of_request after peer keys hs brought) (requested_after hs.blocks.stream_id)
      ∙ request_after keys hs brought (role_requested names hs.blocks.stream_id) apart

  kind_after : (keys : Asked) (hs : Handshake) (kind : HsKind) → route_requested names (Ok hs) ≢ Some s
      → by_kind secret after peer moment keys hs kind ≡ by_kind secret names peer moment keys hs kind
  kind_after keys hs kinds.Induction apart = refl
  kind_after keys hs kinds.WaveHand apart = refl
  kind_after keys hs kinds.Conclusion apart =
      ap (λ (c : Class). cond (is_right secret peer moment hs.cookie) c (Dropped causes.WrongCookie)) (conclusion_after keys hs apart)
  kind_after keys hs kinds.Agreement apart = refl
  kind_after keys hs kinds.Done apart = refl
  kind_after keys hs (kinds.Refusal number) apart = refl

  handshake_after : (keys : Asked) (hs : Result Handshake HsFault) → route_requested names hs ≢ Some s
      → of_handshake secret after peer moment keys hs ≡ of_handshake secret names peer moment keys hs
  handshake_after keys (Ok hs) apart = kind_after keys hs hs.kind apart
  handshake_after keys (Err fault) apart = refl

  body_after : (body : Body) → route_in_body names body ≢ Some s → of_body secret after peer moment body ≡ of_body secret names peer moment body
  body_after (packets.Data number encryption payload) apart = refl
  body_after (packets.Handshake info) apart = handshake_after (key_request_in info) (handshake_in info) apart
  body_after packets.KeepAlive apart = refl
  body_after (packets.Ack number info) apart = refl
  body_after (packets.Nak info) apart = refl
  body_after packets.CongestionWarning apart = refl
  body_after packets.Shutdown apart = refl
  body_after (packets.AckAck number) apart = refl
  body_after (packets.DropRequest message first last) apart = refl
  body_after packets.PeerError apart = refl
  body_after packets.UserDefined apart = refl

  place_after : (place : ℕ) → cond (nat_lt 0 place) (Some (place - 1)) None ≢ Some s → by_place after peer place ≡ by_place names peer place
  place_after place apart = by (nat_lt 0 place) apart
    where
      r : ℕ
      r = place - 1

      by : (b : Bool) → cond b (Some r) None ≢ Some s
          → cond (b && is_shown_at after r) (if_known (knows_caller_at after r peer) r) (Dropped causes.UnknownId)
          ≡ cond (b && is_shown_at names r) (if_known (knows_caller_at names r peer) r) (Dropped causes.UnknownId)
      by true other =
          ap (λ (m : Bool). cond m (if_known (knows_caller_at after r peer) r) (Dropped causes.UnknownId)) (mark_kept new names s r)
          ∙ ap (λ (n : Option RouteName). cond (is_shown_at names r) (if_known (knows_caller peer n) r) (Dropped causes.UnknownId))
          (other_kept new names s r (λ e. other (ap Some e)))
      by false other = refl

  packet_after : (packet : Result Packet PacketFault) → route_in_packet names packet ≢ Some s
      → of_packet secret after peer moment packet ≡ of_packet secret names peer moment packet
  packet_after (Ok packet) apart = by (packet.dest == 0) apart
    where
      by : (b : Bool) → cond b (route_in_body names packet.body) (route_of_id packet.dest) ≢ Some s
          → cond b (of_body secret after peer moment packet.body) (to_session after peer packet.dest)
          ≡ cond b (of_body secret names peer moment packet.body) (to_session names peer packet.dest)
      by true other = body_after packet.body other
      by false other = place_after (packet.dest / 2 ^ 20) other
  packet_after (Err fault) apart = refl

pub replacing_keeps_classes : ReplacingKeepsClasses
unfolding class_of
replacing_keeps_classes secret names new s d moment apart = packet_after secret names new s d.peer moment (packet_in d.bytes) apart

pub replacing_keeps_names : ReplacingKeepsNames
replacing_keeps_names names new s distinct i j text p q =
    distinct i j text (sym (name_kept new names s i text) ∙ p) (sym (name_kept new names s j text) ∙ q)

pub replacing_keeps_others : ReplacingKeepsOthers
replacing_keeps_others names new s r within apart distinct secret datagram moment =
    let there : slice_get names r ≡ Some (get_or names r no_name) = slice_get-get_or names r no_name within in
    own secret names (replaced_at new s names) r (get_or names r no_name) (record { named = there; distinct = distinct })
    (record { named = other_kept new names s r apart ∙ there; distinct = replacing_keeps_names names new s distinct }) datagram moment

-- the route itself
pub replaced_decide : ReplacedDecide
replaced_decide secret names new datagram moment r name there h =
    route_is_for_callers secret (replaced_at new r names) datagram moment r _ (replaced_there new names r name there) h

length_kept : (new : ListsAndKeys) (names : List RouteName) (s : ℕ) → length (replaced_at new s names) ≡ length names
length_kept new [] s = refl
length_kept new (n ∷ ns) zero = refl
length_kept new (n ∷ ns) (suc s) = ap suc (length_kept new ns s)

pub strangers_are_not_heard : StrangersAreNotHeard
strangers_are_not_heard secret names new datagram moment r publish request h =
    let within : r < length names = omega (arith, inside secret (replaced_at new r names) datagram moment r h, length_kept new names r) in
    let known = (replaced_decide secret names new datagram moment r (get_or names r no_name) (slice_get-get_or names r no_name within) h).0 in
    let bad : false ≡ true =
    sym (ap (λ (b : Bool). b || lists new.request.from datagram.peer) publish ∙ request) ∙ known in
    cc

pub replacing_and_marking_commute : ReplacingAndMarkingCommute
replacing_and_marking_commute [] new s r b = refl
replacing_and_marking_commute (n ∷ ns) new zero zero b = refl
replacing_and_marking_commute (n ∷ ns) new zero (suc r) b = refl
replacing_and_marking_commute (n ∷ ns) new (suc s) zero b = refl
replacing_and_marking_commute (n ∷ ns) new (suc s) (suc r) b =
    ap (λ (rest : List RouteName). n ∷ rest) (replacing_and_marking_commute ns new s r b)

pub later_replacement_counts : LaterReplacementCounts
later_replacement_counts [] old new r = refl
later_replacement_counts (n ∷ ns) old new zero = refl
later_replacement_counts (n ∷ ns) old new (suc r) = ap (λ (rest : List RouteName). n ∷ rest) (later_replacement_counts ns old new r)
