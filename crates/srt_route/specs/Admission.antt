-- The agreement with which a conclusion is admitted, or the first cause to refuse it.
use Rattle.std.specs.Prelude.{ℕ, Result, Ok, Err, List}
use Rattle.srt_types.specs.declared.shared.Peer.{Peer}
use Rattle.srt_types.specs.Terms.{Terms}
use Rattle.srt_route.specs.declared.refusals.RefusalCause.{RefusalCause}
use Rattle.srt_route.specs.declared.agreement.Agreement.{Agreement}
use Rattle.srt_route.specs.declared.admission.Admission.{Admission}
use Rattle.srt_route.specs.declared.conclusion_reading.Conclusion.{Conclusion}
use Rattle.srt_route.specs.Sessions.{Session, receiver_ms, sender_ms, agreed_mtu}
use Rattle.srt_route.specs.Route.{decision}

-- the negotiated parameters (sections 4.3.1.2 and 4.4) and the route's rules
abbrev pub agreement_of : Terms → Conclusion → Agreement
agreement_of e c =
    record { mode = e.mode; receiver_ms = receiver_ms e c; sender_ms = sender_ms e c; mtu = agreed_mtu c; rules = e.rules }

abbrev pub admitted_by : Terms → Conclusion → Result ℕ RefusalCause → Result Admission RefusalCause
admitted_by e c (Err cause) = Err cause
admitted_by e c (Ok slot) = Ok (record { at = slot; agreement = agreement_of e c })

abbrev pub admitted : Terms → Peer → List Session → Conclusion → Result Admission RefusalCause
admitted e peer sessions c = admitted_by e c (decision e peer c sessions)
