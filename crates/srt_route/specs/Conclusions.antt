-- What a route reads from a conclusion (sections 3.2.1 and 4.3.1.2). The lobby has already checked the cookie, the
-- route's name, and the blocks for which a caller is refused at once, so they aren't read again.
use Rattle.std.specs.Prelude.{ℕ, ◌/◌, ◌%◌, ◌^◌, Bool, true, false, Option, None, Some, List, Result, Ok, Err, nat_lt, ◌==◌, ◌&&◌, if◌then◌else◌}
use Rattle.srt_types.specs.declared.shared.Role.{Role}
use Rattle.srt_hs.specs.declared.handshake.HsKind.{HsKind}
use Rattle.srt_hs.specs.declared.handshake.HsKind.TheVariants as kinds
use Rattle.srt_hs.specs.declared.handshake.HsReq.{HsReq}
use Rattle.srt_hs.specs.declared.handshake.HsFault.{HsFault}
use Rattle.srt_hs.specs.Grammar.{Handshake, has_periodic_nak}
use Rattle.srt_hs.specs.Reading.{handshake_in}
use Rattle.srt_hs.specs.View.{text_of}
use Rattle.srt_streamid.specs.declared.reading.Ask.{Ask}
use Rattle.srt_streamid.specs.declared.reading.AskFault.{AskFault}
use Rattle.srt_streamid.specs.Reading.{ask_in}
use Rattle.srt_route.specs.declared.conclusion_reading.Conclusion.{Conclusion}

-- the flag STREAM (section 3.2.1.1.1)
abbrev pub wants_stream : (flags : ℕ) → Bool
wants_stream flags = flags / 2 ^ 6 % 2 == 1

abbrev pub with_role : Handshake → HsReq → Role → Conclusion
with_role hs req role =
    record {
      initial = hs.initial;
      mtu = hs.mtu;
      window = hs.window;
      caller = hs.id;
      wants_stream = wants_stream req.flags;
      periodic_nak = has_periodic_nak req.flags;
      receiver_ms = req.receiver_ms;
      sender_ms = req.sender_ms;
      role = role;
      congestion = text_of hs.blocks.congestion;
    }

-- the role that a Stream ID requests, if it can be read (appendix B)
abbrev pub role_in : Result Ask AskFault → Option Role
role_in (Ok ask) = Some ask.role
role_in (Err fault) = None

abbrev pub role_requested : Option (List ℕ) → Option Role
role_requested None = None
role_requested (Some bytes) = role_in (ask_in bytes)

-- a conclusion needs an HSREQ and a Stream ID that can be read
abbrev pub with_blocks : Handshake → Option HsReq → Option Role → Option Conclusion
with_blocks hs (Some req) (Some role) = Some (with_role hs req role)
with_blocks hs (Some req) None = None
with_blocks hs None role = None

abbrev pub is_conclusion : HsKind → Bool
is_conclusion kinds.Conclusion = true
is_conclusion _ = false

-- a conclusion has version 5 and an initial sequence number below 2^31
unfoldable pub conclusion_of : Handshake → Option Conclusion
conclusion_of hs =
    if is_conclusion hs.kind && hs.version == 5 && nat_lt hs.initial (2 ^ 31)
    then with_blocks hs hs.blocks.hsreq (role_requested hs.blocks.stream_id) else None

abbrev pub conclusion_read : Result Handshake HsFault → Option Conclusion
conclusion_read (Ok hs) = conclusion_of hs
conclusion_read (Err fault) = None

-- the conclusion in the bytes after a packet's header
unfoldable pub conclusion_in : List ℕ → Option Conclusion
conclusion_in info = conclusion_read (handshake_in info)
