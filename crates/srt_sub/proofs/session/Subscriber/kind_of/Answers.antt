use Rattle.std.proofs.Common.{◌≡◌, ℕ, ◌+◌, ◌%◌, ◌^◌, ◌<◌, Some, IsNone, List, [], ◌∷◌, refl, ap, ◌∙◌, arith}
use Rattle.std.specs.Prelude.{if◌then◌else◌}
use Rattle.srt_types.specs.Words.{word_at, words}
use Rattle.srt_types.specs.Counts.{message_number}
use Rattle.srt_types.specs.Window.{number_word}
use Rattle.srt_sub.specs.Subscribing.{Report, Acked, Dropped, Media, KeepAlive}
use Rattle.srt_sub.specs.Says.{says}
use Rattle.srt_sub.specs.Payloads.{IsStored, emitted_as}
use Rattle.srt_sub.specs.declared.payloads.Emitted.TheVariants.{Data}
use Rattle.srt_sub.proofs.Carried.{first_word}
use Rattle.srt_sub.proofs.session.Subscriber.kind_of.Goals as goal

pub returns-in-Some : goal.returns-in-Some
returns-in-Some c terms initial opening caller time given t m report h few text stored emitted =
    by report (c.read_word-word.ensures ∙ ap (λ (bs : List ℕ). word_at bs 0) (c.bytes.ensures.value ∙ text)) stored emitted
  where
    by : (r : Report) → c.read_word-word.result ≡ word_at (says caller initial t r) 0 → IsStored m.sending r → (IsNone (emitted_as r) → ⊥)
        → Some (Data c.payload_with.result) ≡ emitted_as r
    by (Acked mark) w s e = absurd (e refl)
    by (Dropped run) w s e =
        absurd (omega (
          arith,
          w,
          c.in-Some.ensures.value,
          c.in-Some.number.small,
          first_word 0x8007_0000 (message_number run.low) (t % 2 ^ 32) caller (words (number_word initial run.low ∷ number_word initial run.high ∷ []))
              (omega arith),
        ))
    by (Media n again origin payload) w s e =
        let small : number_word initial n < 2 ^ 32 = omega arith in
        let first = first_word (number_word initial n) ((if again then 0xe400_0000 else 0xe000_0000) + message_number n) (origin % 2 ^ 32) caller payload
        small in
        ap (λ (k : ℕ). Some (Data k))
        (c.payload_with.ensures terms initial opening caller time given n m h few (c.in-Some.ensures.value ∙ w ∙ first) s.1 s.2)
    by KeepAlive w s e =
        absurd (omega (arith, w, c.in-Some.ensures.value, c.in-Some.number.small, first_word 0x8001_0000 0 (t % 2 ^ 32) caller [] (omega arith)))
