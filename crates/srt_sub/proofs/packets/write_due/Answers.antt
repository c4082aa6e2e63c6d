use Rattle.std.proofs.Common.{◌≡◌, ℕ, Bool, true, false, Option, List, [], ◌∷◌, length, refl, sym, ap, ◌∙◌, arith}
use Rattle.std.specs.Prelude.{map}
use Rattle.std.specs.Option.{option_to_list}
use Rattle.srt_types.specs.Given.{given}
use Rattle.srt_packet.specs.declared.encoded.EncodedPacket.{EncodedPacket}
use Rattle.srt_packet.specs.Encoded.{bytes_of}
use Rattle.srt_sendbuf.specs.Sending.{Due}
use Rattle.srt_sub.specs.inside.Turns.{next_in}
use Rattle.srt_sendbuf.specs.Outgoing.{Outgoing}
use Rattle.srt_sub.specs.Subscribing.{Media}
use Rattle.srt_sub.specs.Says.{says}
use Rattle.srt_sub.specs.inside.Turns.{texts}
use Rattle.srt_sub.proofs.Dues.{next_outgoing, none_outgoing_due, next_some}
use Rattle.srt_sub.proofs.packets.write_due.Goals as goal

-- a packet was written, since one that isn't written would have no bytes
said : (b : Bool) (p : EncodedPacket) (bytes : List ℕ) → (b ≡ true → bytes_of p ≡ bytes) → (b ≡ false → ⊥) → texts (given b p) ≡ bytes ∷ []
said true p bytes is never = ap (λ xs. xs ∷ []) (is refl)
said false p bytes is never = absurd (never refl)

pub returns-in-Some-clause-answer : goal.returns-in-Some-clause-answer
returns-in-Some-clause-answer c width initial time r h all =
    let outgoing = next_outgoing initial (next_in c.args.phase c.args.window r) _ (c.in-Some.ensures.answer width initial r h) in
    let d = outgoing.0 in
    said c.write.result c.write.new.packet _ (λ e. c.write.ensures.text e initial time d outgoing.2)
    (λ e. omega (arith, next_some c.args.phase c.args.window r d all outgoing.1, c.write.ensures.empty e, ap (λ (t : Outgoing). length t.payload) outgoing.2))
    ∙ sym (ap (λ (o : Option Due). map (λ (x : Due). says c.args.caller initial time (Media x.number x.again x.origin x.payload)) (option_to_list o))
    outgoing.1)

pub returns-in-None-clause-answer : goal.returns-in-None-clause-answer
returns-in-None-clause-answer c width initial time r h all =
    let none = none_outgoing_due initial (next_in c.args.phase c.args.window r) (c.in-None.ensures.answer width initial r h) in
    sym (ap (λ (o : Option Due). map (λ (d : Due). says c.args.caller initial time (Media d.number d.again d.origin d.payload)) (option_to_list o)) none)
