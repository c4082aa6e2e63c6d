-- Kinds of packets that change nothing for a session.
use Rattle.std.proofs.Common.{◌≡◌, ℕ, ◌≤◌, ◌<◌, true, false, List, length, refl, arith}
use Rattle.std.specs.Prelude.{nat_le}
use Rattle.std.specs.Borrow.{Bor}
use Rattle.std.proofs.lemmas.Bool.Decides.{nat_tests}
use Rattle.srt_packet.specs.declared.reading.Kind.{Kind}
use Rattle.srt_packet.specs.declared.reading.Kind.TheVariants as kinds
use Rattle.srt_packet.specs.View.{body_of}
use Rattle.srt_types.specs.declared.shared.PayloadRef.{PayloadRef}
use Rattle.srt_sub.specs.Heard.{Ack, Other, heard_from, more_of}
use Rattle.srt_sub.specs.Endings.{is_shutdown}
use Rattle.srt_types.specs.Window.{counted_from}
use Rattle.srt_types.specs.Words.{word_at}

pub record IsUnheard (initial : ℕ) (k : Kind) : Type 0 where
  pub heard : heard_from initial (body_of k) ≡ Other
  pub ends : false ≡ is_shutdown (body_of k)

pub unheard : (initial : ℕ) (k : Kind) → ((number : ℕ) (info : Bor (List ℕ)) → k ≡ kinds.Ack number info → ⊥)
    → ((info : Bor (List ℕ)) → k ≡ kinds.Nak info → ⊥) → (k ≡ kinds.Shutdown → ⊥)
    → ((number encryption : ℕ) (payload : PayloadRef) → k ≡ kinds.Data number encryption payload → ⊥)
    → IsUnheard initial k
unheard initial (kinds.Data number encryption payload) a n s d = absurd (d number encryption payload refl)
unheard initial (kinds.Handshake info) a n s d = record { heard = refl; ends = refl }
unheard initial kinds.KeepAlive a n s d = record { heard = refl; ends = refl }
unheard initial (kinds.Ack number info) a n s d = absurd (a number info refl)
unheard initial (kinds.Nak info) a n s d = absurd (n info refl)
unheard initial kinds.CongestionWarning a n s d = record { heard = refl; ends = refl }
unheard initial kinds.Shutdown a n s d = absurd (s refl)
unheard initial (kinds.AckAck number) a n s d = record { heard = refl; ends = refl }
unheard initial (kinds.DropRequest message first last) a n s d = record { heard = refl; ends = refl }
unheard initial kinds.PeerError a n s d = record { heard = refl; ends = refl }
unheard initial kinds.UserDefined a n s d = record { heard = refl; ends = refl }

-- an ACK with and without a whole first word
pub heard_ack : (initial number : ℕ) (info : Bor (List ℕ)) → 4 ≤ length info.now
    → heard_from initial (body_of (kinds.Ack number info)) ≡ Ack number (counted_from initial (word_at info.now 0)) (more_of info.now)
heard_ack initial number info le = let b : nat_le 4 (length info.now) ≡ true = grind (arith, nat_tests, le) in rw b refl

pub unheard_ack : (initial number : ℕ) (info : Bor (List ℕ)) → length info.now < 4 → heard_from initial (body_of (kinds.Ack number info)) ≡ Other
unheard_ack initial number info lt = let b : nat_le 4 (length info.now) ≡ false = grind (arith, nat_tests, lt) in rw b refl
