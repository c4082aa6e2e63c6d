use Rattle.std.proofs.Common.{◌∙◌, ℕ, ◌-◌, length, take, drop, sym, ap}
use Rattle.srt_aes.specs.Keys.{key_of}
use Rattle.srt_aes.specs.Counter.{counter_mode}
use Rattle.srt_packet.proofs.Encrypted.{placed}
use Rattle.srt_packet.proofs.encryption.encrypt_packet.Goals as goal

pub returns : goal.returns
returns c =
    placed c.args.encryption (key_of c.args.keys.now) c.args.salt.now c.args.bytes.now c.set_field.new.bytes c.apply.new.payload
    (sym c.is_in_clear.ensures ∙ c.if-not-is_in_clear.false) c.set_field.ensures.long c.set_field.ensures.front c.set_field.ensures.kept
    (c.apply.ensures ∙ ap (λ (n : ℕ). counter_mode (key_of c.args.keys.now) c.args.salt.now n
    (take (length c.set_field.new.bytes - 16) (drop 16 c.set_field.new.bytes))) c.read_word-number.ensures)
