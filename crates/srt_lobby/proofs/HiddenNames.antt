-- Hidden names at the end change no class.
use Rattle.std.proofs.Common.{◌≡◌, ℕ, zero, suc, ◌-◌, ◌+◌, ◌/◌, ◌^◌, ◌<◌, ◌≤◌, Bool, true, false, not, cond, ◌&&◌, List, [], ◌∷◌, ◌++◌, length}
use Rattle.std.proofs.Common.{Option, None, Some, Result, Ok, Err, slice_get, nat_lt, eqb, ◌==◌, refl, sym, ap, ◌∙◌, arith}
use Rattle.std.specs.List.{prefix_len}
use Rattle.std.proofs.lemmas.Bool.{and_left}
use Rattle.std.proofs.lemmas.Bool.Decides.{nat_tests}
use Rattle.std.proofs.lemmas.List.{length-append}
use Rattle.std.proofs.lemmas.List.Folds.{prefix_len-append}
use Rattle.std.proofs.lemmas.List.Sums.{prefix_len-le-length}
use Rattle.srt_types.specs.declared.shared.Peer.{Peer}
use Rattle.srt_packet.specs.declared.reading.PacketFault.{PacketFault}
use Rattle.srt_packet.specs.Grammar as packets
use Rattle.srt_packet.specs.Grammar.{Packet, Body}
use Rattle.srt_packet.specs.Reading.{packet_in}
use Rattle.srt_hs.specs.declared.handshake.HsKind.{HsKind}
use Rattle.srt_hs.specs.declared.handshake.HsKind.TheVariants as kinds
use Rattle.srt_hs.specs.declared.handshake.HsFault.{HsFault}
use Rattle.srt_hs.specs.Grammar.{Handshake}
use Rattle.srt_hs.specs.KeyRequest.{Asked, key_request_in}
use Rattle.srt_hs.specs.Reading.{handshake_in}
use Rattle.srt_streamid.specs.declared.reading.Ask.{Ask}
use Rattle.srt_streamid.specs.declared.reading.AskFault.{AskFault}
use Rattle.srt_streamid.specs.Reading.{ask_in, key_of, name_of}
use Rattle.srt_cookie.specs.Cookie.{is_right}
use Rattle.srt_lobby.specs.declared.classes.Class.{Class}
use Rattle.srt_lobby.specs.declared.classes.Class.TheVariants.{Dropped}
use Rattle.srt_lobby.specs.declared.classes.Cause.TheVariants as causes
use Rattle.srt_lobby.specs.declared.names.RequestedRole.{RequestedRole}
use Rattle.srt_lobby.specs.Names.{RouteName, is_requested, index_of, is_shown_at, knows_caller, knows_caller_at, secures}
use Rattle.srt_lobby.specs.Lobby.{reason_of, role_of, role_named, role_requested, key_brought, of_role, by_reason, of_request, of_conclusion, by_kind}
use Rattle.srt_lobby.specs.Lobby.{of_handshake, of_body, if_known, by_place, to_session, of_packet, class_of}
use Rattle.srt_lobby.specs.Changing.{AreHidden, HiddenChangeNothing}
use Rattle.srt_lobby.proofs.Kept.{role_shown}

-- a place, if it is below this number
found : (place many : ℕ) → Option ℕ
found place many = cond (nat_lt place many) (Some place) None

found_none : (place many : ℕ) → many ≤ place → found place many ≡ None
unfolding found
found_none place many past =
    let test : nat_lt place many ≡ false = grind (arith, nat_tests, past) in
    ap (λ (b : Bool). cond b (Some place) None) test

found_some : (place many : ℕ) → place < many → found place many ≡ Some place
unfolding found
found_some place many within =
    let test : nat_lt place many ≡ true = grind (arith, nat_tests, within) in
    ap (λ (b : Bool). cond b (Some place) None) test

none_requested : (text : List ℕ) (more : List RouteName) → AreHidden more → prefix_len (λ n. not (is_requested text n)) more ≡ length more
none_requested text [] hidden = refl
none_requested text (name ∷ more) hidden =
    ap (λ (b : Bool). cond (not b) (1 + prefix_len (λ n. not (is_requested text n)) more) 0) (and_left name.is_shown _ hidden.0)
    ∙ ap (λ (n : ℕ). 1 + n) (none_requested text more hidden.1)
    ∙ (let sums : 1 + length more ≡ suc (length more) = omega arith in sums)

pub index_more : (names more : List RouteName) → AreHidden more → (text : List ℕ) → index_of (names ++ more) text ≡ index_of names text
unfolding found
index_more names more hidden text =
    by (eqb (prefix_len other names) (length names)) refl
  where
    other : RouteName → Bool
    other n = not (is_requested text n)

    by : (b : Bool) → eqb (prefix_len other names) (length names) ≡ b → index_of (names ++ more) text ≡ index_of names text
    by true same =
        let own : prefix_len other names ≡ length names = grind (arith, nat_tests, same) in
        let all : prefix_len other (names ++ more) ≡ length names + length more =
        prefix_len-append other names more
        ∙ ap (λ (b : Bool). cond b (length names + prefix_len other more) (prefix_len other names)) same
        ∙ ap (λ (n : ℕ). length names + n) (none_requested text more hidden) in
        found_none (prefix_len other (names ++ more)) (length (names ++ more)) (omega (arith, all, length-append names more))
        ∙ sym (found_none (prefix_len other names) (length names) (omega (arith, own)))
    by false differs =
        let before : prefix_len other names < length names = grind (arith, nat_tests, differs, prefix_len-le-length other names) in
        let all : prefix_len other (names ++ more) ≡ prefix_len other names =
        prefix_len-append other names more
        ∙ ap (λ (b : Bool). cond b (length names + prefix_len other more) (prefix_len other names)) differs in
        found_some (prefix_len other (names ++ more)) (length (names ++ more)) (omega (arith, all, before, length-append names more))
        ∙ ap Some all ∙ sym (found_some (prefix_len other names) (length names) before)

none_shown : (more : List RouteName) (r : ℕ) → AreHidden more → is_shown_at more r ≡ false
none_shown [] r hidden = refl
none_shown (name ∷ more) zero hidden = hidden.0
none_shown (name ∷ more) (suc r) hidden = none_shown more r hidden.1

shown_more : (names more : List RouteName) (r : ℕ) → AreHidden more → is_shown_at (names ++ more) r ≡ is_shown_at names r
shown_more [] more r hidden = none_shown more r hidden
shown_more (name ∷ names) more zero hidden = refl
shown_more (name ∷ names) more (suc r) hidden = shown_more names more r hidden

slice_more : (names more : List RouteName) (r : ℕ) → is_shown_at names r ≡ true → slice_get (names ++ more) r ≡ slice_get names r
slice_more [] more r shown = cc
slice_more (name ∷ names) more zero shown = refl
slice_more (name ∷ names) more (suc r) shown = slice_more names more r shown

module _ (secret : List ℕ) (names more : List RouteName) (hidden : AreHidden more) (peer : Peer) (moment : ℕ) where
  named_more : (bytes : List ℕ) (ask : Result Ask AskFault) → role_named (names ++ more) bytes ask ≡ role_named names bytes ask
  named_more bytes (Ok ask) = ap (role_of ask.role) (index_more names more hidden (name_of bytes ask))
  named_more bytes (Err fault) = refl

  requested_more : (id : Option (List ℕ)) → role_requested (names ++ more) id ≡ role_requested names id
  requested_more (Some bytes) = named_more bytes (ask_in bytes)
  requested_more None = refl

  request_more : (keys : Asked) (hs : Handshake) (brought : Option (List ℕ)) (o : Option RequestedRole)
      → ((q : RequestedRole) → o ≡ Some q → is_shown_at names q.route ≡ true)
      → of_request (names ++ more) peer keys hs brought o ≡ of_request names peer keys hs brought o
  request_more keys hs brought (Some q) shown =
      ap (λ (n : Option RouteName). by_reason hs (reason_of (secures q.role n) hs) (of_role peer keys hs brought q n))
      (slice_more names more q.route (shown q refl))
  request_more keys hs brought None shown = refl

  conclusion_more : (keys : Asked) (hs : Handshake) → of_conclusion (names ++ more) peer keys hs ≡ of_conclusion names peer keys hs
  unfolding of_conclusion
  conclusion_more keys hs =
      let brought = key_brought hs.blocks.stream_id in
      ap (of_request (names ++ more) peer keys hs brought) (requested_more hs.blocks.stream_id)
      ∙ request_more keys hs brought (role_requested names hs.blocks.stream_id) (role_shown names hs.blocks.stream_id)

  kind_more : (keys : Asked) (hs : Handshake) (kind : HsKind)
      → by_kind secret (names ++ more) peer moment keys hs kind ≡ by_kind secret names peer moment keys hs kind
  kind_more keys hs kinds.Induction = refl
  kind_more keys hs kinds.WaveHand = refl
  kind_more keys hs kinds.Conclusion =
      ap (λ (c : Class). cond (is_right secret peer moment hs.cookie) c (Dropped causes.WrongCookie)) (conclusion_more keys hs)
  kind_more keys hs kinds.Agreement = refl
  kind_more keys hs kinds.Done = refl
  kind_more keys hs (kinds.Refusal number) = refl

  handshake_more : (keys : Asked) (hs : Result Handshake HsFault)
      → of_handshake secret (names ++ more) peer moment keys hs ≡ of_handshake secret names peer moment keys hs
  handshake_more keys (Ok hs) = kind_more keys hs hs.kind
  handshake_more keys (Err fault) = refl

  body_more : (body : Body) → of_body secret (names ++ more) peer moment body ≡ of_body secret names peer moment body
  body_more (packets.Data number encryption payload) = refl
  body_more (packets.Handshake info) = handshake_more (key_request_in info) (handshake_in info)
  body_more packets.KeepAlive = refl
  body_more (packets.Ack number info) = refl
  body_more (packets.Nak info) = refl
  body_more packets.CongestionWarning = refl
  body_more packets.Shutdown = refl
  body_more (packets.AckAck number) = refl
  body_more (packets.DropRequest message first last) = refl
  body_more packets.PeerError = refl
  body_more packets.UserDefined = refl

  place_more : (place : ℕ) → by_place (names ++ more) peer place ≡ by_place names peer place
  place_more place =
      ap (λ (b : Bool). cond (nat_lt 0 place && b) (if_known (knows_caller_at (names ++ more) r peer) r) (Dropped causes.UnknownId))
      (shown_more names more r hidden)
      ∙ by (is_shown_at names r) refl
    where
      r : ℕ
      r = place - 1

      by : (b : Bool) → is_shown_at names r ≡ b →
          cond (nat_lt 0 place && b) (if_known (knows_caller_at (names ++ more) r peer) r) (Dropped causes.UnknownId)
          ≡ cond (nat_lt 0 place && b) (if_known (knows_caller_at names r peer) r) (Dropped causes.UnknownId)
      by true shown =
          ap (λ (n : Option RouteName). cond (nat_lt 0 place && true) (if_known (knows_caller peer n) r) (Dropped causes.UnknownId))
          (slice_more names more r shown)
      by false shown = neither (nat_lt 0 place)
        where
          neither : (a : Bool) → cond (a && false) (if_known (knows_caller_at (names ++ more) r peer) r) (Dropped causes.UnknownId)
              ≡ cond (a && false) (if_known (knows_caller_at names r peer) r) (Dropped causes.UnknownId)
          neither true = refl
          neither false = refl

  packet_more : (packet : Result Packet PacketFault) → of_packet secret (names ++ more) peer moment packet ≡ of_packet secret names peer moment packet
  packet_more (Ok packet) =
      ap (λ (c : Class). cond (packet.dest == 0) c (to_session (names ++ more) peer packet.dest)) (body_more packet.body)
      ∙ ap (λ (c : Class). cond (packet.dest == 0) (of_body secret names peer moment packet.body) c) (place_more (packet.dest / 2 ^ 20))
  packet_more (Err fault) = refl

-- the class of a datagram is the same
pub hidden_change_nothing : HiddenChangeNothing
unfolding class_of
hidden_change_nothing secret names more hidden d moment = packet_more secret names more hidden d.peer moment (packet_in d.bytes)
