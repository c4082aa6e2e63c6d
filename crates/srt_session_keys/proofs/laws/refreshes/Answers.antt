use Rattle.std.proofs.Common.{◌≡◌, ℕ, List, Bool, true, false, Option, Some, None, option_map, Result, Ok, Err, refl, ap}
use Rattle.std.proofs.Common.{if◌then◌else◌, length}
use Rattle.srt_hs.specs.KeyMessage.{KeyMessage}
use Rattle.srt_hs.specs.declared.key_message.SentKeys.TheVariants.{Even, Odd}
use Rattle.srt_hs.specs.declared.key_message.KeyFault.{KeyFault}
use Rattle.srt_keys.specs.Wrap.{unwrap}
use Rattle.srt_session_keys.specs.Wrapping.{StreamKeys, fits, brings, keys_in_text}
use Rattle.srt_session_keys.specs.Publisher.{Publisher, newer, replaced, answer_by, keys_by, answer_to, keys_after, with_message}
use Rattle.srt_session_keys.specs.declared.publisher.KeyAnswer.TheVariants.{Taken, NoSecret}
use Rattle.srt_session_keys.proofs.laws.refreshes.Goals as goal

newer_twice : (brought before : Option (List ℕ)) → newer brought (newer brought before) ≡ newer brought before
newer_twice None before = refl
newer_twice (Some key) before = refl

replaced_twice : (brought before : StreamKeys) → replaced brought (replaced brought before) ≡ replaced brought before
replaced_twice brought before =
    rw (newer_twice brought.even before.even, newer_twice brought.odd before.odd) refl

-- the keys after a message that fits or doesn't, and brings these
abbrev taken : Bool → Option StreamKeys → StreamKeys → StreamKeys
taken fitting brought before = if fitting then keys_by brought before else before

taken_twice : (fitting : Bool) (brought : Option StreamKeys) (before : StreamKeys) →
    taken fitting brought (taken fitting brought before) ≡ taken fitting brought before
taken_twice false brought before = refl
taken_twice true None before = refl
taken_twice true (Some keys) before = replaced_twice keys before

not_taken : (fitting : Bool) (brought : Option StreamKeys) (before : StreamKeys) →
    ((if fitting then answer_by brought else NoSecret) ≡ Taken → ⊥) → taken fitting brought before ≡ before
not_taken false brought before differs = refl
not_taken true None before differs = refl
not_taken true (Some keys) before differs = absurd (differs refl)

odd_stays : (fitting : Bool) (size : ℕ) (text : Option (List ℕ)) (before : StreamKeys) →
    (taken fitting (option_map (keys_in_text Even size) text) before).odd ≡ before.odd
odd_stays false size text before = refl
odd_stays true size None before = refl
odd_stays true size (Some bytes) before = refl

even_stays : (fitting : Bool) (size : ℕ) (text : Option (List ℕ)) (before : StreamKeys) →
    (taken fitting (option_map (keys_in_text Odd size) text) before).even ≡ before.even
even_stays false size text before = refl
even_stays true size None before = refl
even_stays true size (Some bytes) before = refl

abbrev with_keys : Publisher → StreamKeys → Publisher
with_keys p keys = record { kek = p.kek; salt = p.salt; keys = keys }

repeated : (p : Publisher) (message : Result KeyMessage KeyFault) →
    (answer_to (with_message message p) message ≡ answer_to p message) ×
    (with_message message (with_message message p) ≡ with_message message p)
repeated p (Err fault) = (refl, refl)
repeated p (Ok message) = (
  refl,
  ap (λ (keys : StreamKeys). with_keys p keys)
      (taken_twice (fits p.kek p.salt (length p.kek) message) (brings p.kek message) p.keys),
)

refused : (p : Publisher) (message : Result KeyMessage KeyFault) → (answer_to p message ≡ Taken → ⊥) → keys_after p message ≡ p.keys
refused p (Err fault) differs = refl
refused p (Ok message) differs = not_taken (fits p.kek p.salt (length p.kek) message) (brings p.kek message) p.keys differs

pub returns : goal.returns
returns c = record {
  repeated = repeated;
  refused = refused;
  other = record {
    odd = λ p message is.
        rw is (odd_stays (fits p.kek p.salt (length p.kek) message) message.key_length (unwrap p.kek message.wrapped) p.keys);
    even = λ p message is.
        rw is (even_stays (fits p.kek p.salt (length p.kek) message) message.key_length (unwrap p.kek message.wrapped) p.keys);
  };
}
