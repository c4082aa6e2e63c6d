-- Two routes have the same keys exactly where the test says so.
use Rattle.std.proofs.Common.{◌≡◌, ℕ, ◌==◌, ◌&&◌, Bool, Option, None, Some, List, refl, ap, nat_eq}
use Rattle.std.specs.Bool.{Decides}
use Rattle.std.specs.Str.{bytes_eq}
use Rattle.std.proofs.lemmas.Bool.Decides.{Decides-and, Decides-like, Decides-eqb}
use Rattle.std.proofs.lemmas.Slice.Eq.{bytes_eq-Decides, slice_eq-Decides}
use Rattle.srt_types.specs.declared.shared.Callers.{Callers}
use Rattle.srt_types.specs.declared.shared.Callers.TheVariants.{Draft, Libsrt}
use Rattle.srt_types.specs.declared.shared.Mode.{Mode}
use Rattle.srt_types.specs.declared.shared.Mode.TheVariants.{Live, Buffer}
use Rattle.srt_types.specs.declared.shared.Network.{Network}
use Rattle.srt_types.specs.declared.shared.Network.TheVariants.{V4, V6}
use Rattle.srt_types.specs.declared.shared.Rules.{Rules}
use Rattle.srt_types.specs.declared.shared.Schedule.{Schedule}
use Rattle.srt_types.specs.declared.shared.KeyLength.{KeyLength}
use Rattle.srt_types.specs.declared.shared.KeyLength.TheVariants.{Aes128, Aes192, Aes256}
use Rattle.srt_types.specs.Access.{RoleTerms, AccessTerms}
use Rattle.srt_types.specs.Terms.{Terms}
use Rattle.srt_config.specs.SameKeys.{same_if, same_mode, same_callers, same_network, same_networks, same_role, same_access, same_rules}
use Rattle.srt_config.specs.SameKeys.{same_length}
use Rattle.srt_config.specs.SameKeys.{same_numbers, same_terms, same_schedule}

pub if_decides : {A : Type 0} (same : A → A → Bool) → ((a b : A) → Decides (same a b) (a ≡ b)) → (a b : Option A) → Decides (same_if same a b) (a ≡ b)
if_decides same each None None = (λ e. refl, λ p. refl)
if_decides same each None (Some b) = (λ e. cc, λ p. cc)
if_decides same each (Some a) None = (λ e. cc, λ p. cc)
if_decides same each (Some a) (Some b) =
    Decides-like (same a b) (ap Some) (λ p. let equal : a ≡ b = cc in equal) (each a b)

pub mode_decides : (a b : Mode) → Decides (same_mode a b) (a ≡ b)
mode_decides Live Live = (λ e. refl, λ p. refl)
mode_decides Live Buffer = (λ e. cc, λ p. cc)
mode_decides Buffer Live = (λ e. cc, λ p. cc)
mode_decides Buffer Buffer = (λ e. refl, λ p. refl)

callers_decides : (a b : Callers) → Decides (same_callers a b) (a ≡ b)
callers_decides Draft Draft = (λ e. refl, λ p. refl)
callers_decides Draft Libsrt = (λ e. cc, λ p. cc)
callers_decides Libsrt Draft = (λ e. cc, λ p. cc)
callers_decides Libsrt Libsrt = (λ e. refl, λ p. refl)

number_decides : (a b : Option ℕ) → Decides (same_if nat_eq a b) (a ≡ b)
number_decides = if_decides nat_eq Decides-eqb

network_decides : (a b : Network) → Decides (same_network a b) (a ≡ b)
network_decides (V4 first size) (V4 other many) =
    Decides-like (first == other && size == many) (λ h i. V4 (h.0 i) (h.1 i))
    (λ p. let firsts : first ≡ other = cc in let sizes : size ≡ many = cc in (firsts, sizes))
    (Decides-and (first == other) (size == many) (Decides-eqb first other) (Decides-eqb size many))
network_decides (V4 first size) (V6 other prefix) = (λ e. cc, λ p. cc)
network_decides (V6 first prefix) (V4 other size) = (λ e. cc, λ p. cc)
network_decides (V6 first prefix) (V6 other many) =
    Decides-like (first == other && prefix == many) (λ h i. V6 (h.0 i) (h.1 i))
    (λ p. let firsts : first ≡ other = cc in let prefixes : prefix ≡ many = cc in (firsts, prefixes))
    (Decides-and (first == other) (prefix == many) (Decides-eqb first other) (Decides-eqb prefix many))

networks_decide : (a b : List Network) → Decides (same_networks a b) (a ≡ b)
networks_decide a b = slice_eq-Decides network_decides a b (same_networks a b) refl

role_decides : (a b : RoleTerms) → Decides (same_role a b) (a ≡ b)
role_decides a b =
    Decides-like (same_role a b) (λ h i. record { from = h.0.0 i; key = h.0.1 i; passphrase = h.1 i })
    (λ p. ((ap (λ (r : RoleTerms). r.from) p, ap (λ (r : RoleTerms). r.key) p), ap (λ (r : RoleTerms). r.passphrase) p))
    (Decides-and _ _
    (Decides-and _ _ (if_decides same_networks networks_decide a.from b.from) (if_decides bytes_eq bytes_eq-Decides a.key b.key))
    (if_decides bytes_eq bytes_eq-Decides a.passphrase b.passphrase))

pub length_decides : (a b : KeyLength) → Decides (same_length a b) (a ≡ b)
length_decides Aes128 Aes128 = (λ e. refl, λ p. refl)
length_decides Aes128 Aes192 = (λ e. cc, λ p. cc)
length_decides Aes128 Aes256 = (λ e. cc, λ p. cc)
length_decides Aes192 Aes128 = (λ e. cc, λ p. cc)
length_decides Aes192 Aes192 = (λ e. refl, λ p. refl)
length_decides Aes192 Aes256 = (λ e. cc, λ p. cc)
length_decides Aes256 Aes128 = (λ e. cc, λ p. cc)
length_decides Aes256 Aes192 = (λ e. cc, λ p. cc)
length_decides Aes256 Aes256 = (λ e. refl, λ p. refl)

access_decides : (a b : AccessTerms) → Decides (same_access a b) (a ≡ b)
access_decides a b =
    Decides-like (same_access a b) (λ h i. record { publish = h.0.0 i; request = h.0.1 i; key_length = h.1 i })
    (λ p. ((ap (λ (r : AccessTerms). r.publish) p, ap (λ (r : AccessTerms). r.request) p), ap (λ (r : AccessTerms). r.key_length) p))
    (Decides-and _ _ (Decides-and _ _ (role_decides a.publish b.publish) (role_decides a.request b.request))
    (if_decides same_length length_decides a.key_length b.key_length))

pub rules_decide : (a b : Rules) → Decides (same_rules a b) (a ≡ b)
rules_decide a b =
    Decides-like (same_rules a b)
    (λ h i. record {
      callers = h.0.0.0.0 i;
      reserved = h.0.0.0.1 i;
      sessions_per_address = h.0.0.1 i;
      takeover_ms = h.0.1 i;
      resend_percent = h.1 i;
    })
    (λ p. (
      (
        ((ap (λ (r : Rules). r.callers) p, ap (λ (r : Rules). r.reserved) p), ap (λ (r : Rules). r.sessions_per_address) p),
        ap (λ (r : Rules). r.takeover_ms) p,
      ),
      ap (λ (r : Rules). r.resend_percent) p,
    ))
    (Decides-and _ _
    (Decides-and _ _
    (Decides-and _ _
    (Decides-and _ _ (callers_decides a.callers b.callers) (Decides-eqb a.reserved b.reserved))
    (number_decides a.sessions_per_address b.sessions_per_address))
    (number_decides a.takeover_ms b.takeover_ms))
    (number_decides a.resend_percent b.resend_percent))

-- the five numbers of two routes are the same
abbrev Numbers : Terms → Terms → Type 0
Numbers a b =
    (((((a.latency_ms ≡ b.latency_ms) × (a.buffer ≡ b.buffer)) × (a.sessions ≡ b.sessions)) × (a.inbox ≡ b.inbox)) × (a.outbox ≡ b.outbox))

pub numbers_decide : (a b : Terms) → Decides (same_numbers a b) (Numbers a b)
numbers_decide a b =
    Decides-and _ _
    (Decides-and _ _
    (Decides-and _ _
    (Decides-and _ _ (Decides-eqb a.latency_ms b.latency_ms) (Decides-eqb a.buffer b.buffer))
    (Decides-eqb a.sessions b.sessions))
    (Decides-eqb a.inbox b.inbox))
    (Decides-eqb a.outbox b.outbox)

pub terms_decide : (a b : Terms) → Decides (same_terms a b) (a ≡ b)
terms_decide a b =
    Decides-like (same_terms a b)
    (λ h i. record {
      name = h.0.0.0.0 i;
      mode = h.0.0.0.1 i;
      latency_ms = h.0.0.1.0.0.0.0 i;
      buffer = h.0.0.1.0.0.0.1 i;
      sessions = h.0.0.1.0.0.1 i;
      inbox = h.0.0.1.0.1 i;
      outbox = h.0.0.1.1 i;
      access = h.0.1 i;
      rules = h.1 i;
    })
    (λ p. (
      (
        (
          (ap (λ (e : Terms). e.name) p, ap (λ (e : Terms). e.mode) p),
          (
            (
              ((ap (λ (e : Terms). e.latency_ms) p, ap (λ (e : Terms). e.buffer) p), ap (λ (e : Terms). e.sessions) p),
              ap (λ (e : Terms). e.inbox) p,
            ),
            ap (λ (e : Terms). e.outbox) p,
          ),
        ),
        ap (λ (e : Terms). e.access) p,
      ),
      ap (λ (e : Terms). e.rules) p,
    ))
    (Decides-and _ _
    (Decides-and _ _
    (Decides-and _ _
    (Decides-and _ _ (bytes_eq-Decides a.name b.name) (mode_decides a.mode b.mode))
    (numbers_decide a b))
    (access_decides a.access b.access))
    (rules_decide a.rules b.rules))

pub schedules_decide : (a b : Schedule) → Decides (same_schedule a b) (a ≡ b)
schedules_decide a b =
    Decides-like (same_schedule a b) (λ h i. record { open_round = h.0 i; close_round = h.1 i })
    (λ p. (ap (λ (s : Schedule). s.open_round) p, ap (λ (s : Schedule). s.close_round) p))
    (Decides-and _ _ (Decides-eqb a.open_round b.open_round) (number_decides a.close_round b.close_round))
