-- What a subscriber's session was sent last: only the end of an event sends numbers.
use Rattle.std.proofs.Common.{◌≡◌, ℕ, Bool, true, false, cond, Option, None, Some, List, refl, ap}
use Rattle.srt_types.specs.Runs.{Range}
use Rattle.srt_types.specs.declared.shared.Mode.{Mode}
use Rattle.srt_types.specs.declared.shared.Mode.TheVariants.{Live, Buffer}
use Rattle.srt_sendbuf.specs.Sending.{Mark, Sending, acknowledged_by, queued, sent_end}
use Rattle.srt_sub.specs.Heard.{Heard, Ack, Nak, Data, Other}
use Rattle.srt_sub.specs.Subscribing.{Terms, Subscribing, expired, expired_in, took, with_ack, with_nak}

expired_marks : (mode : Mode) (terms : Terms) (time : ℕ) (s : Sending) → (expired_in mode terms time s).marks ≡ s.marks
expired_marks Live terms time s = refl
expired_marks Buffer terms time s = refl

pub expired_sends : (terms : Terms) (time : ℕ) (s : Subscribing) → sent_end (expired terms time s).sending.marks ≡ sent_end s.sending.marks
expired_sends terms time s = ap (λ (marks : List Mark). sent_end marks) (expired_marks terms.mode terms time s.sending)

acked_end : (time : ℕ) (more : List ℕ) (o : Option ℕ) (s : Subscribing) → sent_end (with_ack time more o s).sending.marks ≡ sent_end s.sending.marks
acked_end time more None s = refl
acked_end time more (Some n) s = refl

asked_end : (o : Option (List Range)) (s : Subscribing) → sent_end (with_nak o s).sending.marks ≡ sent_end s.sending.marks
asked_end None s = refl
asked_end (Some ranges) s = refl

pub took_end : (time : ℕ) (h : Heard) (s : Subscribing) → sent_end (took time h s).sending.marks ≡ sent_end s.sending.marks
took_end time (Ack mark number more) s = acked_end time more (acknowledged_by number s.sending) s
took_end time (Nak o) s = asked_end o s
took_end time Data s = refl
took_end time Other s = refl

pub fed_end : (b : Bool) (time : ℕ) (payload : List ℕ) (s : Subscribing)
    → sent_end (cond b (record s { sending = queued time payload s.sending }) s).sending.marks ≡ sent_end s.sending.marks
fed_end true time payload s = refl
fed_end false time payload s = refl
