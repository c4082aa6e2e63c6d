-- Key material messages in answers.
use Rattle.std.proofs.Common.{◌≡◌, ℕ, ◌+◌, ◌≤◌, arith}
use Rattle.std.proofs.lemmas.Bool.Decides.{nat_tests}
use Rattle.srt_hs.specs.KeyMessage.{IsKeyLength, wrapped_length}
use Rattle.srt_hs.specs.declared.key_message.SentKeys.{SentKeys}
use Rattle.srt_hs.specs.declared.key_message.SentKeys.TheVariants.{Even, Odd, Both}
use Rattle.srt_hs.specs.Text.{MessagesAreAnswered}

at_least : (keys : SentKeys) (n len : ℕ) → IsKeyLength n → len ≡ 32 + wrapped_length keys n → 56 ≤ len
at_least Even n len valid e = grind (arith, nat_tests, valid, e)
at_least Odd n len valid e = grind (arith, nat_tests, valid, e)
at_least Both n len valid e = grind (arith, nat_tests, valid, e)

at_most : (keys : SentKeys) (n len : ℕ) → IsKeyLength n → len ≡ 32 + wrapped_length keys n → len ≤ 104
at_most Even n len valid e = grind (arith, nat_tests, valid, e)
at_most Odd n len valid e = grind (arith, nat_tests, valid, e)
at_most Both n len valid e = grind (arith, nat_tests, valid, e)

pub messages_are_answered : MessagesAreAnswered
messages_are_answered =
    record {
      length = λ bytes message h.
          (at_least message.keys message.key_length _ h.valid h.length, at_most message.keys message.key_length _ h.valid h.length);
      encryption = λ bytes message h. omega (arith, h.key_length);
    }
