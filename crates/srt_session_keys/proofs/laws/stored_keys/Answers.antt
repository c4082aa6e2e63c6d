use Rattle.std.proofs.Common.{◌≡◌, ℕ, List, Bool, true, false, ◌+◌, ◌/◌, ◌^◌, ◌≤◌, ◌<◌, Option, Some, None, arith, refl}
use Rattle.std.specs.Str.{bytes_eq}
use Rattle.std.proofs.lemmas.Bool.Decides.{nat_tests}
use Rattle.srt_session_keys.specs.declared.announcement.Announcement.{Announcement}
use Rattle.srt_session_keys.specs.Announced.{made_with}
use Rattle.srt_session_keys.specs.Source.{Source, own_message}
use Rattle.srt_session_keys.specs.Subscriber.{Subscriber, made, is_due, with_response, may_send, index_of}
use Rattle.srt_session_keys.proofs.laws.stored_keys.Goals as goal

due_before : (s : Subscriber) (queued now : ℕ) → is_due s queued now ≡ true → s.confirmed ≤ (queued + 65_536) / 2 ^ 24
due_before s queued now e = grind (arith, nat_tests, e)

-- a confirmed key was made before
same_made : (source : Source) (confirmed : ℕ) (announced : Option Announcement) (contents : List ℕ) (b : Bool) →
    bytes_eq contents (own_message source confirmed) ≡ b →
    made (with_response contents (record { source = source; confirmed = confirmed; announced = announced })) ≡ made_with confirmed announced
same_made source confirmed None contents b e = refl
same_made source confirmed (Some a) contents true e = rw e refl
same_made source confirmed (Some a) contents false e = rw e refl

confirmed_before : (confirmed : ℕ) (announced : Option Announcement) → confirmed ≤ made_with confirmed announced
confirmed_before confirmed None = omega arith
confirmed_before confirmed (Some a) = omega arith

confirmed_below : (s : Subscriber) (payload : ℕ) → may_send s payload ≡ true → index_of payload < s.confirmed
confirmed_below s payload e = grind (arith, nat_tests, e)

pub returns : goal.returns
returns c = record {
  ahead = record {
    opened = λ source queued. omega arith;
    announced = λ s queued now h e. let d = due_before s queued now e in omega arith;
    response = λ s queued contents h. let e = same_made s.source s.confirmed s.announced contents _ refl in omega (arith, e, h);
    queued = λ s queued later le h. omega arith;
  };
  window = λ s queued payload h le e.
      let below = confirmed_below s payload e in
      let before = confirmed_before s.confirmed s.announced in
      (omega arith, omega arith);
  encrypted = λ s queued payload h le e.
      let below = confirmed_below s payload e in
      let before = confirmed_before s.confirmed s.announced in
      let one : index_of payload < made s = omega arith in
      let two : made s ≤ index_of payload + 2 = omega arith in
      grind (arith, nat_tests, one, two);
  used = λ s payload e. (grind (arith, nat_tests, e), grind (arith, nat_tests, e));
}
