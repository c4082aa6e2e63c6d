-- Slots put one after the other.
use Rattle.std.proofs.Common.{◌≡◌, ℕ, ◌+◌, ◌<◌, ◌≤◌, Bool, ◌&&◌, List, [], ◌++◌, Option, length, drop, get_or, refl, ap, sym, ◌∙◌}
use Rattle.std.proofs.Common.{append_assoc, append-nil, drop-cons, add-one}
use Rattle.std.specs.Prelude.{is_none}
use Rattle.std.proofs.lemmas.List.{drop_all}
use Rattle.srt_route.specs.declared.view.SessionView.{SessionView}
use Rattle.srt_status.specs.Json.{slot_json, slots_json}

pub next_slot : (moment : ℕ) (first : Bool) (slots : List (Option SessionView)) (i : ℕ) (d : Option SessionView) → i < length slots
    → slots_json moment first (drop i slots)
    ≡ slot_json moment first (get_or slots i d) ++ slots_json moment (first && is_none (get_or slots i d)) (drop (i + 1) slots)
unfolding slots_json
next_slot moment first slots i d within = rw (add-one, drop-cons slots i d) refl

pub no_slot_left : (moment : ℕ) (first : Bool) (slots : List (Option SessionView)) (n : ℕ) → length slots ≤ n → slots_json moment first (drop n slots) ≡ []
unfolding slots_json
no_slot_left moment first slots n passed = rw (drop_all n slots passed) refl

-- one slot more is put
pub moved : (moment : ℕ) (first next : Bool) (slots : List (Option SessionView)) (i : ℕ) (d : Option SessionView) (x y z : List ℕ)
    → i < length slots → y ++ slots_json moment first (drop i slots) ≡ x → z ≡ y ++ slot_json moment first (get_or slots i d)
    → next ≡ (first && is_none (get_or slots i d))
    → z ++ slots_json moment next (drop (i + 1) slots) ≡ x
moved moment first next slots i d x y z within before put after =
    ap (λ (l : List ℕ). l ++ slots_json moment next (drop (i + 1) slots)) put
    ∙ append_assoc y (slot_json moment first (get_or slots i d)) (slots_json moment next (drop (i + 1) slots))
    ∙ ap (λ (b : Bool). y ++ (slot_json moment first (get_or slots i d) ++ slots_json moment b (drop (i + 1) slots))) after
    ∙ ap (λ (l : List ℕ). y ++ l) (sym (next_slot moment first slots i d within)) ∙ before

-- no slot is left
pub ended : (moment : ℕ) (first : Bool) (slots : List (Option SessionView)) (n : ℕ) (x y : List ℕ)
    → length slots ≤ n → y ++ slots_json moment first (drop n slots) ≡ x → y ≡ x
ended moment first slots n x y passed before =
    sym (append-nil y) ∙ ap (λ (l : List ℕ). y ++ l) (sym (no_slot_left moment first slots n passed)) ∙ before
