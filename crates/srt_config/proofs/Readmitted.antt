-- Routes of which only the lists and keys differ.
use Rattle.std.proofs.Common.{◌≡◌, ℕ, ◌&&◌, Bool, true, false, not, cond, Option, None, Some, refl, sym, ap, ◌∙◌}
use Rattle.std.proofs.Common.{slice_get}
use Rattle.std.specs.Bool.{Decides}
use Rattle.std.specs.Str.{bytes_eq}
use Rattle.std.proofs.lemmas.Bool.{and_parts, false≢true}
use Rattle.std.proofs.lemmas.Bool.Decides.{Decides-and, Decides-like}
use Rattle.std.proofs.lemmas.Slice.Eq.{bytes_eq-Decides}
use Rattle.srt_types.specs.declared.shared.Schedule.{Schedule}
use Rattle.srt_types.specs.Access.{AccessTerms}
use Rattle.srt_types.specs.Terms.{Terms}
use Rattle.srt_config.specs.declared.changes.RouteChange.{RouteChange}
use Rattle.srt_config.specs.declared.changes.RouteChange.TheVariants.{Stays, Reopens}
use Rattle.srt_config.specs.Config.{Settings}
use Rattle.srt_config.specs.SameKeys.{same_length}
use Rattle.srt_config.specs.Changes.{place_of, has_terms, has_schedule, has_keys_at, change_at, change_of}
use Rattle.srt_config.specs.Readmission.{same_secrets, same_besides, has_terms_besides, has_keys_besides, is_readmission, readmitted}
use Rattle.srt_config.specs.Readmission.{IsReadmission, ReadmissionsAreMeant, ReadmissionsReopen, HaveSameSecrets, OtherSecretsReopen}
use Rattle.srt_config.proofs.Changed.{same_route, same_rounds, both}
use Rattle.srt_config.proofs.Sameness.{if_decides, mode_decides, length_decides, numbers_decide, rules_decide, terms_decide, schedules_decide}

secrets_decide : (a b : AccessTerms) →
    Decides (same_secrets a b)
    (((a.publish.passphrase ≡ b.publish.passphrase) × (a.request.passphrase ≡ b.request.passphrase)) × (a.key_length ≡ b.key_length))
secrets_decide a b =
    Decides-and _ _
    (Decides-and _ _ (if_decides bytes_eq bytes_eq-Decides a.publish.passphrase b.publish.passphrase)
    (if_decides bytes_eq bytes_eq-Decides a.request.passphrase b.request.passphrase))
    (if_decides same_length length_decides a.key_length b.key_length)

besides_decide : (a b : Terms) → Decides (same_besides a b) (readmitted b a ≡ b)
besides_decide a b =
    Decides-like (same_besides a b)
    (λ h i. record {
      name = h.0.0.0.0 i;
      mode = h.0.0.0.1 i;
      latency_ms = h.0.0.1.0.0.0.0 i;
      buffer = h.0.0.1.0.0.0.1 i;
      sessions = h.0.0.1.0.0.1 i;
      inbox = h.0.0.1.0.1 i;
      outbox = h.0.0.1.1 i;
      access =
          record {
            publish = record { from = b.access.publish.from; key = b.access.publish.key; passphrase = h.0.1.0.0 i };
            request = record { from = b.access.request.from; key = b.access.request.key; passphrase = h.0.1.0.1 i };
            key_length = h.0.1.1 i;
          };
      rules = h.1 i;
    })
    (λ p. (
      (
        (
          (ap (λ (e : Terms). e.name) p, ap (λ (e : Terms). e.mode) p),
          (
            (
              ((ap (λ (e : Terms). e.latency_ms) p, ap (λ (e : Terms). e.buffer) p), ap (λ (e : Terms). e.sessions) p),
              ap (λ (e : Terms). e.inbox) p,
            ),
            ap (λ (e : Terms). e.outbox) p,
          ),
        ),
        (
          (ap (λ (e : Terms). e.access.publish.passphrase) p, ap (λ (e : Terms). e.access.request.passphrase) p),
          ap (λ (e : Terms). e.access.key_length) p,
        ),
      ),
      ap (λ (e : Terms). e.rules) p,
    ))
    (Decides-and _ _
    (Decides-and _ _
    (Decides-and _ _
    (Decides-and _ _ (bytes_eq-Decides a.name b.name) (mode_decides a.mode b.mode))
    (numbers_decide a b))
    (secrets_decide a.access b.access))
    (rules_decide a.rules b.rules))

found_besides : (terms : Terms) (old : Option Terms) → has_terms_besides terms old ≡ true → (e : Terms) × (old ≡ Some e) × (readmitted terms e ≡ terms)
found_besides terms None h = absurd (false≢true h)
found_besides terms (Some old) h = (old, refl, (besides_decide old terms).0 h)

not_both : (b : Bool) → not b ≡ true → b ≡ true → ⊥
not_both true h e = false≢true h
not_both false h e = false≢true e

is_false : (b : Bool) → not b ≡ true → b ≡ false
is_false true h = absurd (false≢true h)
is_false false h = refl

some_is : (a b : Terms) → Some a ≡ Some b → a ≡ b
some_is a b h = cc

module _ (before : Settings) (place : ℕ) (terms : Terms) (schedule : Schedule) where
  has_same : (old : Terms) → slice_get before.routes place ≡ Some old → slice_get before.schedules place ≡ Some schedule → old ≡ terms →
      has_keys_at before place terms schedule ≡ true
  has_same old there then same =
      both (has_terms terms (slice_get before.routes place)) (has_schedule schedule (slice_get before.schedules place))
      (ap (has_terms terms) there ∙ (terms_decide old terms).1 same)
      (ap (has_schedule schedule) then ∙ (schedules_decide schedule schedule).1 refl)

  means : is_readmission before place terms schedule ≡ true → IsReadmission before place terms schedule
  means h =
      let parts = and_parts (has_keys_besides before place terms schedule) (not (has_keys_at before place terms schedule)) h in
      let besides = and_parts (has_terms_besides terms (slice_get before.routes place)) (has_schedule schedule (slice_get before.schedules place)) parts.0 in
      let found = found_besides terms (slice_get before.routes place) besides.0 in
      let then = same_rounds schedule (slice_get before.schedules place) besides.1 in (
        found.0,
        found.1,
        found.2,
        then,
        λ same. not_both (has_keys_at before place terms schedule) parts.1 (has_same found.0 found.1 then same),
      )

  differs : (old : Terms) → slice_get before.routes place ≡ Some old → (old ≡ terms → ⊥) → (b : Bool) →
      has_keys_at before place terms schedule ≡ b → not b ≡ true
  differs old there other true h =
      let parts = and_parts (has_terms terms (slice_get before.routes place)) (has_schedule schedule (slice_get before.schedules place)) h in
      absurd (other (some_is old terms (sym there ∙ same_route terms (slice_get before.routes place) parts.0)))
  differs old there other false h = refl

  meant : IsReadmission before place terms schedule → is_readmission before place terms schedule ≡ true
  meant (old, there, besides, then, other) =
      both (has_keys_besides before place terms schedule) (not (has_keys_at before place terms schedule))
      (both (has_terms_besides terms (slice_get before.routes place)) (has_schedule schedule (slice_get before.schedules place))
      (ap (has_terms_besides terms) there ∙ (besides_decide old terms).1 besides)
      (ap (has_schedule schedule) then ∙ (schedules_decide schedule schedule).1 refl))
      (differs old there other (has_keys_at before place terms schedule) refl)

  reopens : place_of terms.name before.routes ≡ Some place → is_readmission before place terms schedule ≡ true →
      change_of before terms schedule ≡ Reopens place
  unfolding change_of
  reopens at h =
      let parts = and_parts (has_keys_besides before place terms schedule) (not (has_keys_at before place terms schedule)) h in
      ap (change_at before terms schedule) at
      ∙ ap (λ (b : Bool). cond b (Stays place) (Reopens place)) (is_false (has_keys_at before place terms schedule) parts.1)

pub readmissions_are_meant : ReadmissionsAreMeant
readmissions_are_meant before place terms schedule = (means before place terms schedule, meant before place terms schedule)

pub readmissions_reopen : ReadmissionsReopen
readmissions_reopen before place terms schedule at h = reopens before place terms schedule at h

-- a route with other secrets is neither one that stays nor one that is readmitted
module _ (before : Settings) (place : ℕ) (old terms : Terms) (schedule : Schedule) (there : slice_get before.routes place ≡ Some old)
    (other : HaveSameSecrets old.access terms.access → ⊥) where
  not_the_same : (b : Bool) → has_keys_at before place terms schedule ≡ b → cond b (Stays place) (Reopens place) ≡ Reopens place
  not_the_same true h =
      let parts = and_parts (has_terms terms (slice_get before.routes place)) (has_schedule schedule (slice_get before.schedules place)) h in
      let same = some_is old terms (sym there ∙ same_route terms (slice_get before.routes place) parts.0) in
      absurd (other (
        ap (λ (e : Terms). e.access.publish.passphrase) same,
        ap (λ (e : Terms). e.access.request.passphrase) same,
        ap (λ (e : Terms). e.access.key_length) same,
      ))
  not_the_same false h = refl

  not_readmitted : (b : Bool) → is_readmission before place terms schedule ≡ b → b ≡ false
  not_readmitted false h = refl
  not_readmitted true h =
      let (found, at, besides, then, differs) = means before place terms schedule h in
      let same : readmitted terms old ≡ terms =
      ap (λ (e : Terms). readmitted terms e) (some_is old found (sym there ∙ at)) ∙ besides in
      absurd (other (
        ap (λ (e : Terms). e.access.publish.passphrase) same,
        ap (λ (e : Terms). e.access.request.passphrase) same,
        ap (λ (e : Terms). e.access.key_length) same,
      ))

  reopens_with_secrets : place_of terms.name before.routes ≡ Some place → change_of before terms schedule ≡ Reopens place
  unfolding change_of
  reopens_with_secrets at = ap (change_at before terms schedule) at ∙ not_the_same (has_keys_at before place terms schedule) refl

pub other_secrets_reopen : OtherSecretsReopen
other_secrets_reopen before place old terms schedule at there other =
    (reopens_with_secrets before place old terms schedule there other at, not_readmitted before place old terms schedule there other _ refl)
