-- How many seats have a publisher.
use Rattle.std.proofs.Common.{◌≡◌, ℕ, ◌+◌, ◌<◌, ◌≤◌, Bool, true, false, cond, Option, None, Some, List, [], ◌∷◌, length, get_or, set, suc}
use Rattle.std.proofs.Common.{refl, sym, ap, ◌∙◌, arith}
use Rattle.std.specs.Prelude.{count_by}
use Rattle.std.specs.Option.{option_map}
use Rattle.std.proofs.lemmas.List.Sums.{count_by-le-length, get_or-le-sum_by, sum_by-cons, sum_by-set}
use Rattle.srt_types.specs.Capped.{one_if}
use Rattle.srt_route.specs.declared.seat.Session.{Session as TheSession}
use Rattle.srt_route.specs.declared.seat.Seat.{Seat}
use Rattle.srt_route.specs.Sessions.{publishes}
use Rattle.srt_route.specs.Parts.{role_of}
use Rattle.srt_route.specs.Seats.{has_publisher, session_passes}
use Rattle.srt_route.specs.Tables.{heard_at, stored_after, stored_end}
use Rattle.srt_route.specs.inside.Delivery.{AreFed}
use Rattle.srt_route.proofs.stored.Parts.{after_role, end_role}

one_is : (b : Bool) → cond b 1 0 ≡ one_if b
one_is true = refl
one_is false = refl

-- one seat changes
pub now_counted : (xs : List Seat) (at : ℕ) (x y : Seat) (n m : ℕ)
    → n ≡ count_by has_publisher xs → at < length xs → x ≡ get_or xs at x → m + one_if (has_publisher x) ≡ n + one_if (has_publisher y)
    → m ≡ count_by has_publisher (set xs at y)
now_counted xs at x y n m was below there moved =
    let here : one_if (has_publisher x) ≡ one_if (has_publisher (get_or xs at x)) = ap (λ (z : Seat). one_if (has_publisher z)) there in
    let changed : count_by has_publisher (set xs at y) + cond (has_publisher (get_or xs at x)) 1 0 ≡ count_by has_publisher xs + cond (has_publisher y) 1 0 =
    sum_by-set (λ z. cond (has_publisher z) 1 0) xs at y x below in
    omega (arith, was, here, changed, moved, one_is (has_publisher (get_or xs at x)), one_is (has_publisher y))

pub still_counted : (xs : List Seat) (at : ℕ) (x y : Seat) (n : ℕ)
    → n ≡ count_by has_publisher xs → at < length xs → x ≡ get_or xs at x → has_publisher y ≡ has_publisher x
    → n ≡ count_by has_publisher (set xs at y)
still_counted xs at x y n was below there same =
    now_counted xs at x y n n was below there (ap (λ (b : Bool). n + one_if b) (sym same))

pub some_counted : (xs : List Seat) (at : ℕ) (x : Seat) (n : ℕ)
    → n ≡ count_by has_publisher xs → at < length xs → x ≡ get_or xs at x → one_if (has_publisher x) ≤ n
some_counted xs at x n was below there =
    let here : one_if (has_publisher x) ≡ one_if (has_publisher (get_or xs at x)) = ap (λ (z : Seat). one_if (has_publisher z)) there in
    let within : cond (has_publisher (get_or xs at x)) 1 0 ≤ count_by has_publisher xs = get_or-le-sum_by (λ z. cond (has_publisher z) 1 0) xs at x below in
    omega (arith, was, here, within, one_is (has_publisher (get_or xs at x)))

pub few_counted : (xs : List Seat) (n : ℕ) → n ≡ count_by has_publisher xs → length xs ≤ 17 → n ≤ 17
few_counted xs n was few = omega (arith, was, few, count_by-le-length has_publisher xs)

-- the stored session of a seat changes
abbrev Publishes : Option TheSession → Bool
Publishes o = session_passes (λ t. publishes (role_of t.part)) o

pub heard_publishes : (clock : ℕ) (o : Option TheSession) → Publishes (option_map (heard_at clock) o) ≡ Publishes o
heard_publishes clock None = refl
heard_publishes clock (Some t) = refl

pub end_publishes : (b : Bool) (o : Option TheSession) → Publishes (option_map (stored_end b) o) ≡ Publishes o
end_publishes b None = refl
end_publishes b (Some t) = ap publishes (end_role b t.part)

pub after_publishes : (ends : Bool) (clock : ℕ) (o : Option TheSession) → Publishes o ≡ false → Publishes (stored_after ends None clock o) ≡ false
after_publishes ends clock None h = refl
after_publishes true clock (Some t) h = refl
after_publishes false clock (Some t) h = ap publishes (after_role None t.part) ∙ h

pub served_publishes : (whole : Bool) (x y : Seat) → (whole ≡ true → y.session ≡ None) → (whole ≡ false → y.session ≡ x.session)
    → (whole ≡ true → has_publisher x ≡ false) → has_publisher y ≡ has_publisher x
served_publishes true x y ends stays reads = ap Publishes (ends refl) ∙ sym (reads refl)
served_publishes false x y ends stays reads = ap Publishes (stays refl)

-- all seats keep their sessions
count_more : (x : Seat) (xs : List Seat) → count_by has_publisher (x ∷ xs) ≡ one_if (has_publisher x) + count_by has_publisher xs
count_more x xs = sum_by-cons (λ z. cond (has_publisher z) 1 0) x xs ∙ ap (λ (n : ℕ). n + count_by has_publisher xs) (one_is (has_publisher x))

alike_counted : (xs ys : List Seat) → length ys ≡ length xs
    → ((at : ℕ) (d : Seat) → at < length xs → (get_or ys at d).session ≡ (get_or xs at d).session)
    → count_by has_publisher ys ≡ count_by has_publisher xs
alike_counted [] [] same_length same = refl
alike_counted [] (y ∷ ys) same_length same = absurd (omega (arith, same_length))
alike_counted (x ∷ xs) [] same_length same = absurd (omega (arith, same_length))
alike_counted (x ∷ xs) (y ∷ ys) same_length same =
    let here : one_if (has_publisher y) ≡ one_if (has_publisher x) = ap (λ (o : Option TheSession). one_if (Publishes o)) (same 0 x (omega arith)) in
    let rest = alike_counted xs ys (omega (arith, same_length)) (λ at d below. same (suc at) d (omega (arith, below))) in
    omega (arith, here, rest, count_more x xs, count_more y ys)

pub fed_counted : (clock : ℕ) (payload : List ℕ) (old new : List Seat) → AreFed clock payload old new
    → count_by has_publisher new ≡ count_by has_publisher old
fed_counted clock payload old new h = alike_counted old new h.same_length (λ at d below. (h.fed at d below).session_is)
