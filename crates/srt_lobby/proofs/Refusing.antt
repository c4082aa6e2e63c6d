-- Which conclusions are refused with 1002, and why.
use Rattle.std.proofs.Common.{◌≡◌, ℕ, Bool, true, false, cond, ◌&&◌, List, Option, None, Some, Result, Ok, Err, slice_get, refl, ap, ◌∙◌}
use Rattle.srt_types.specs.declared.shared.Peer.{Peer}
use Rattle.srt_types.specs.declared.shared.Role.{Role}
use Rattle.srt_types.specs.Access.{lists, is_right_key, in_role}
use Rattle.srt_hs.specs.declared.refusal_codes.RefusalCode.{RefusalCode}
use Rattle.srt_hs.specs.declared.refusal_codes.RefusalCode.TheVariants as codes
use Rattle.srt_hs.specs.Grammar.{Handshake}
use Rattle.srt_hs.specs.KeyRequest.{Asked}
use Rattle.srt_streamid.specs.declared.reading.Ask.{Ask}
use Rattle.srt_streamid.specs.declared.reading.AskFault.{AskFault}
use Rattle.srt_streamid.specs.Reading.{ask_in, key_of, name_of}
use Rattle.srt_types.specs.declared.shared.NotAdmitted.{NotAdmitted}
use Rattle.srt_types.specs.declared.shared.NotAdmitted.TheVariants.{NoName, UnknownName, Address, Key}
use Rattle.srt_lobby.specs.declared.names.RequestedRole.{RequestedRole}
use Rattle.srt_lobby.specs.Names.{RouteName, index_of}
use Rattle.srt_lobby.specs.Keys.{has_keys}
use Rattle.srt_lobby.specs.Lobby.{reason_of, role_of, role_named, role_requested, key_brought, if_keyed, of_role, by_role, by_reason, of_conclusion, refused}
use Rattle.srt_lobby.specs.Causes.{cause_at_route, cause_by_index, cause_by_ask, cause_by_stream_id, cause_by_reason, cause_of_conclusion}
use Rattle.srt_lobby.specs.Causes.{requests_secured, CauseRefuses, RefusalHasCause}

module _ (peer : Peer) (keys : Asked) (hs : Handshake) (brought : Option (List ℕ)) (q : RequestedRole) where
  at_refuses : (cause : NotAdmitted) (name : Option RouteName)
      → cause_at_route peer q.role brought name ≡ Some cause → of_role peer keys hs brought q name ≡ refused hs codes.Peer
  at_refuses cause (Some name) h =
      by (lists (in_role name.access q.role).from peer) (is_right_key (in_role name.access q.role).key brought) h
    where
      by : (listed right : Bool) → cond listed (cond right None (Some (Key q.role))) (Some (Address q.role)) ≡ Some cause
          → cond (listed && right) (if_keyed (has_keys q.role keys (Some name)) hs q.route) (refused hs codes.Peer) ≡ refused hs codes.Peer
      by true true h = cc
      by true false h = refl
      by false right h = refl
  at_refuses cause None h = refl

  at_goes : (name : Option RouteName)
      → cause_at_route peer q.role brought name ≡ None → of_role peer keys hs brought q name ≡ if_keyed (has_keys q.role keys name) hs q.route
  at_goes (Some name) h =
      by (lists (in_role name.access q.role).from peer) (is_right_key (in_role name.access q.role).key brought) h
    where
      by : (listed right : Bool) → cond listed (cond right None (Some (Key q.role))) (Some (Address q.role)) ≡ None
          → cond (listed && right) (if_keyed (has_keys q.role keys (Some name)) hs q.route) (refused hs codes.Peer)
          ≡ if_keyed (has_keys q.role keys (Some name)) hs q.route
      by true true h = refl
      by true false h = cc
      by false right h = cc
  at_goes None h = cc

-- a role was requested, and without keys that are right for it the conclusion is refused with 1011
abbrev Goes : List RouteName → Peer → (keys : Asked) → Handshake → (brought : Option (List ℕ)) → Option RequestedRole → Type 0
Goes names peer keys hs brought o =
    (q : RequestedRole) × (o ≡ Some q)
    × (by_role names peer keys hs brought o ≡ if_keyed (has_keys q.role keys (slice_get names q.route)) hs q.route)

module _ (names : List RouteName) (peer : Peer) (keys : Asked) (hs : Handshake) where
  index_refuses : (cause : NotAdmitted) (role : Role) (brought : Option (List ℕ)) (found : Option ℕ)
      → cause_by_index names peer role brought found ≡ Some cause
      → by_role names peer keys hs brought (role_of role found) ≡ refused hs codes.Peer
  index_refuses cause role brought (Some r) h =
      at_refuses peer keys hs brought (record { role = role; route = r }) cause (slice_get names r) h
  index_refuses cause role brought None h = refl

  ask_refuses : (cause : NotAdmitted) (bytes : List ℕ) (ask : Result Ask AskFault) → cause_by_ask names peer bytes ask ≡ Some cause
      → by_role names peer keys hs (key_of bytes) (role_named names bytes ask) ≡ refused hs codes.Peer
  ask_refuses cause bytes (Ok ask) h = index_refuses cause ask.role (key_of bytes) (index_of names (name_of bytes ask)) h
  ask_refuses cause bytes (Err fault) h = refl

  id_refuses : (cause : NotAdmitted) (id : Option (List ℕ)) → cause_by_stream_id names peer id ≡ Some cause
      → by_role names peer keys hs (key_brought id) (role_requested names id) ≡ refused hs codes.Peer
  id_refuses cause (Some bytes) h = ask_refuses cause bytes (ask_in bytes) h
  id_refuses cause None h = refl

  refuses : (cause : NotAdmitted) (reason : Option RefusalCode) → cause_by_reason names peer hs reason ≡ Some cause
      → by_reason hs reason (by_role names peer keys hs (key_brought hs.blocks.stream_id) (role_requested names hs.blocks.stream_id))
      ≡ refused hs codes.Peer
  refuses cause (Some code) h = cc
  refuses cause None h = id_refuses cause hs.blocks.stream_id h

  index_goes : (role : Role) (brought : Option (List ℕ)) (found : Option ℕ)
      → cause_by_index names peer role brought found ≡ None → Goes names peer keys hs brought (role_of role found)
  index_goes role brought (Some r) h =
      let q : RequestedRole = record { role = role; route = r } in
      (q, refl, at_goes peer keys hs brought q (slice_get names r) h)
  index_goes role brought None h = cc

  ask_goes : (bytes : List ℕ) (ask : Result Ask AskFault)
      → cause_by_ask names peer bytes ask ≡ None → Goes names peer keys hs (key_of bytes) (role_named names bytes ask)
  ask_goes bytes (Ok ask) h = index_goes ask.role (key_of bytes) (index_of names (name_of bytes ask)) h
  ask_goes bytes (Err fault) h = cc

  id_goes : (id : Option (List ℕ)) → cause_by_stream_id names peer id ≡ None → Goes names peer keys hs (key_brought id) (role_requested names id)
  id_goes (Some bytes) h = ask_goes bytes (ask_in bytes) h
  id_goes None h = cc

  goes : (reason : Option RefusalCode) → reason ≡ None → cause_by_reason names peer hs reason ≡ None
      → Goes names peer keys hs (key_brought hs.blocks.stream_id) (role_requested names hs.blocks.stream_id)
  goes (Some code) e h = cc
  goes None e h = id_goes hs.blocks.stream_id h

pub cause_refuses : CauseRefuses
unfolding of_conclusion cause_of_conclusion
cause_refuses names peer keys hs cause h = refuses names peer keys hs cause (reason_of (requests_secured names hs.blocks.stream_id) hs) h

pub refusal_has_cause : RefusalHasCause
unfolding of_conclusion cause_of_conclusion
refusal_has_cause names peer keys hs e h =
    let found = goes names peer keys hs (reason_of (requests_secured names hs.blocks.stream_id) hs) e h in
    let other = by_role names peer keys hs (key_brought hs.blocks.stream_id) (role_requested names hs.blocks.stream_id) in
    (found.0, found.1, ap (λ (reason : Option RefusalCode). by_reason hs reason other) e ∙ found.2)
