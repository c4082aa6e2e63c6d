use Rattle.std.proofs.Common.{◌≡◌, ◌∙◌, ℕ, List, ◌++◌, refl, sym, ap, length, map, slice_index}
use Rattle.std.specs.List.{range_with_len}
use Rattle.std.proofs.lemmas.List.FromFn.{fill_by_all}
use Rattle.srt_keys.proofs.derive.joined.Goals as goal

item_by_item : (bytes : List ℕ) → length bytes ≡ 20 → bytes ≡ map (λ k. slice_index bytes k) (range_with_len 0 20)
item_by_item bytes long = fill_by_all (λ k. slice_index bytes k) bytes 20 0 long (λ k below. refl)

both : (first second : List ℕ) → length first ≡ 20 → length second ≡ 20 →
    map (λ k. slice_index first k) (range_with_len 0 20) ++ map (λ k. slice_index second k) (range_with_len 0 20) ≡ first ++ second
both first second a b =
    sym (ap (λ (v : List ℕ). v ++ second) (item_by_item first a) ∙
    ap (λ (v : List ℕ). map (λ k. slice_index first k) (range_with_len 0 20) ++ v) (item_by_item second b))

pub returns-clause-value : goal.returns-clause-value
returns-clause-value c = both c.args.first.now c.args.second.now c.told-first c.told-second
