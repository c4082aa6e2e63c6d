use Rattle.std.proofs.Common.{◌≡◌, ℕ, ◌+◌, ◌/◌, ◌%◌, ◌^◌, ◌≤◌, ◌==◌, Bool, true, false, Option, Some, None, arith, refl, is_some}
use Rattle.std.proofs.lemmas.Bool.Decides.{nat_tests}
use Rattle.srt_session_keys.specs.declared.announcement.Announcement.{Announcement}
use Rattle.srt_session_keys.specs.Announced.{is_repeated}
use Rattle.srt_session_keys.specs.Source.{name_of}
use Rattle.srt_session_keys.specs.Subscriber.{Subscriber, is_due, may_send, index_of}
use Rattle.srt_session_keys.proofs.laws.announcements.Goals as goal

not_repeated : (now : ℕ) (announced : Option Announcement) → is_repeated now announced ≡ false → is_some announced ≡ true
not_repeated now None e = cc
not_repeated now (Some a) e = refl

before : (s : Subscriber) (queued now payload : ℕ) → payload ≤ queued + 65_536 → may_send s payload ≡ false →
    is_due s queued now ≡ false → is_some s.announced ≡ true
before s queued now payload near later_key due =
    let later : s.confirmed ≤ index_of payload = grind (arith, nat_tests, later_key) in
    let least : s.confirmed ≤ (queued + 65_536) / 2 ^ 24 = omega (arith, later, near) in
    not_repeated now s.announced (grind (arith, nat_tests, least, due))

alternate : (index : ℕ) (parity : Bool) → (index % 2 == 0) ≡ parity → name_of (index + 1) ≡ name_of index → ⊥
alternate index parity e same = grind (arith, nat_tests, e, same)

pub returns : goal.returns
returns c = record { names = λ index same. alternate index _ refl same; before = before }
