use Rattle.std.proofs.Common.{◌≡◌, take, ap, ◌∙◌, subst, sym, arith, List, ℕ}
use Rattle.std.proofs.lemmas.Grind.{common_steps}
use Rattle.srt_packet.specs.Grammar.{Spells}
use Rattle.srt_packet.specs.Reading.{packet_in}
use Rattle.srt_packet.specs.Sent.{sent, CanBeSent}
use Rattle.srt_packet.specs.Text.{text}
use Rattle.srt_packet.proofs.Sent.{sent_is_spelled, sent_is_read}
use Rattle.srt_packet.proofs.writing.encode.Goals as goal

can_be_sent : (c : goal.After-write_rest) → CanBeSent c.args.packet.now
can_be_sent c = record {
  stamp = omega arith;
  dest = omega arith;
  word1 = omega (arith, c.first_words-word0.ensures.second);
  rest = c.write_rest.ensures.fits;
  body = c.requires;
}

is_text : (c : goal.After-write_rest) → take c.write_rest.result c.write_rest.new.out ≡ text c.args.packet.now
is_text c = grind (arith, common_steps)

pub returns-clause-spelled : goal.returns-clause-spelled
returns-clause-spelled c =
    let P : List ℕ → Type 0 = λ bytes. Spells bytes (sent c.args.packet.now) in
    subst P (sym (is_text c)) (sent_is_spelled c.args.packet.now (can_be_sent c))

pub returns-clause-read : goal.returns-clause-read
returns-clause-read c = ap packet_in (is_text c) ∙ sent_is_read c.args.packet.now (can_be_sent c)

pub returns-clause-can_be_sent : goal.returns-clause-can_be_sent
returns-clause-can_be_sent c = can_be_sent c
