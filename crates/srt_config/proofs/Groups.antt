-- The text of an IPv6 address, read whole.
use Rattle.std.proofs.Common.{◌≡◌, ℕ, ◌==◌, List, [], ◌++◌, length, Option, Some, None, refl, sym, ap, ◌∙◌, subst, ⊎_elim, append-nil, arith}
use Rattle.std.specs.Net.Grammar.{IsColonHex}
use Rattle.std.specs.Net.Reader.{whole_value, read_ipv6}
use Rattle.std.proofs.lemmas.Bool.{cases_Bool}
use Rattle.std.proofs.lemmas.Bool.Decides.{nat_tests}
use Rattle.std.proofs.lemmas.List.{nil_from_length}
use Rattle.std.proofs.NetLemmas.Ipv6.{read_ipv6_complete, read_ipv6_sound, EndsGroups-nil}

pub read_whole : (text groups : List ℕ) → IsColonHex text groups → whole_value (read_ipv6 text) ≡ Some groups
read_whole text groups spelled =
    ap whole_value (ap read_ipv6 (sym (append-nil text)) ∙ read_ipv6_complete text groups [] spelled EndsGroups-nil)

pub not_read : (text : List ℕ) → ((groups : List ℕ) → ¬ (IsColonHex text groups)) → whole_value (read_ipv6 text) ≡ None
not_read text never = by (read_ipv6 text) refl
  where
    by : (o : Option (List ℕ × List ℕ)) → read_ipv6 text ≡ o → whole_value o ≡ None
    by None is = refl
    by (Some some) is =
        let sound = read_ipv6_sound text some.0 some.1 is in
        ⊎_elim
        (λ ended.
        let whole = sound.1 ∙ ap (λ (r : List ℕ). sound.0 ++ r) (nil_from_length some.1 (grind (arith, nat_tests))) ∙ append-nil sound.0 in
        absurd (never some.0 (subst (λ (t : List ℕ). IsColonHex t some.0) (sym whole) sound.2)))
        (λ more. rw more)
        (cases_Bool (length some.1 == 0))
