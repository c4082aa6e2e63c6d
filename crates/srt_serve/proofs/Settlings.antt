-- Routes are settled one after another.
use Rattle.std.proofs.Common.{◌≡◌, ◌↔◌, true, false, ℕ, zero, suc, ◌+◌, ◌<◌, ◌≤◌, Option, None, Some, IsSome}
use Rattle.std.proofs.Common.{List, [], ◌∷◌, ◌++◌, length, map, take, drop, get_or, slice_get, refl, sym, ap, subst, ◌∙◌}
use Rattle.std.proofs.Common.{append_assoc, append-nil, arith}
use Rattle.std.proofs.lemmas.List.{length-map, length-take}
use Rattle.std.proofs.lemmas.Option.{slice_get-get_or}
use Rattle.srt_mailbox.proofs.Tokens.{lock_of}
use Rattle.srt_mailbox.specs.declared.accounts.Account.{Account}
use Rattle.srt_mailbox.specs.Cells.{CellIdentity, AreEndsOf}
use Rattle.srt_mailbox.specs.Ends.{Producer}
use Rattle.srt_mailbox.specs.Settled.{Settles}
use Rattle.srt_poller.specs.declared.ends.Ends.{Ends}
use Rattle.srt_serve.specs.Settled.{AreJoined, AreSettled}

drop_next : {X : Type 0} (xs : List X) (r : ℕ) (x : X) → slice_get xs r ≡ Some x → drop r xs ≡ x ∷ drop (suc r) xs
drop_next [] r x h = cc
drop_next (y ∷ xs) zero x h = cc
drop_next (y ∷ xs) (suc r) x h = drop_next xs r x h

-- what is left of a list at one of its elements
pub drop_at : {X : Type 0} (xs : List X) (r : ℕ) (x : X) → slice_get xs r ≡ Some x → drop r xs ≡ x ∷ drop (r + 1) xs
drop_at {X = X} xs r x h =
    let one : suc r ≡ r + 1 = omega arith in
    subst (λ (n : ℕ). drop r xs ≡ x ∷ drop n xs) one (drop_next xs r x h)

drop_none : {X : Type 0} (r : ℕ) → drop {A = X} r [] ≡ []
drop_none zero = refl
drop_none (suc r) = refl

drop_all : {X : Type 0} (xs : List X) (r : ℕ) → length xs ≤ r → drop r xs ≡ []
drop_all [] r h = drop_none r
drop_all (x ∷ xs) zero h = absurd (omega (arith, h))
drop_all (x ∷ xs) (suc r) h = drop_all xs r (omega (arith, h))

pub joined_first : (routes : List CellIdentity) (r : ℕ) (n : CellIdentity) (ends ends' : List Ends) (clocks clocks' : List Producer) (e : Ends)
    (c : Producer)
    → slice_get routes r ≡ Some n → ends ≡ e ∷ ends' → clocks ≡ c ∷ clocks' → AreJoined (drop r routes) ends clocks
    → AreEndsOf n e.ingress c e.drain × AreJoined (drop (r + 1) routes) ends' clocks'
joined_first routes r n ends ends' clocks clocks' e c at he hc h = rw (drop_at routes r n at, he, hc) at h

-- each route that is left has ends
pub ends_left : (routes : List CellIdentity) (r : ℕ) (ends : List Ends) (clocks : List Producer)
    → r < length routes → AreJoined (drop r routes) ends clocks → (0 < length ends) × (0 < length clocks)
ends_left [] r ends clocks below h = absurd (omega (arith, below))
ends_left (n ∷ routes) zero [] clocks below h = absurd h
ends_left (n ∷ routes) zero (e ∷ ends) [] below h = absurd h
ends_left (n ∷ routes) zero (e ∷ ends) (c ∷ clocks) below h = (omega arith, omega arith)
ends_left (n ∷ routes) (suc r) ends clocks below h = ends_left routes r ends clocks (omega (arith, below)) h

pub one_settled : (routes : List CellIdentity) (r : ℕ) (n : CellIdentity) (accounts accounts' : List Account) (ends ends' alls : List Ends)
    (clocks clocks' allc : List Producer) (a : Account) (e : Ends) (c : Producer)
    → slice_get routes r ≡ Some n → ends ≡ e ∷ ends' → clocks ≡ c ∷ clocks' → accounts' ≡ accounts ++ a ∷ []
    →
    Settles a n e.ingress c e.drain →
    ((more : List Account) → AreSettled more (drop r routes) ends clocks → AreSettled (accounts ++ more) routes alls allc) →
    (more : List Account) → AreSettled more (drop (r + 1) routes) ends' clocks' → AreSettled (accounts' ++ more) routes alls allc
one_settled routes r n accounts accounts' ends ends' alls clocks clocks' allc a e c at he hc ha s before more h =
    rw (ha, append_assoc accounts (a ∷ []) more) (before (a ∷ more) (rw (drop_at routes r n at, he, hc) (s, h)))

none_left : (ends : List Ends) (clocks : List Producer) → AreJoined [] ends clocks → AreSettled [] [] ends clocks
none_left [] clocks h = tt
none_left (e ∷ ends) clocks h = absurd h

pub all_settled : (routes : List CellIdentity) (r : ℕ) (accounts : List Account) (ends alls : List Ends) (clocks allc : List Producer)
    → length routes ≤ r → AreJoined (drop r routes) ends clocks →
    ((more : List Account) → AreSettled more (drop r routes) ends clocks → AreSettled (accounts ++ more) routes alls allc)
    → AreSettled accounts routes alls allc
all_settled routes r accounts ends alls clocks allc over h before =
    let none = drop_all routes r over in
    rw (append-nil accounts) at (before [] (rw none (none_left ends clocks (rw none at h))))

same_next : (routes others : List CellIdentity) (r : ℕ) → slice_get routes r ≡ slice_get others r → r < length routes
    → take r routes ≡ take r others → take (suc r) routes ≡ take (suc r) others
same_next [] others r at below h = absurd (omega (arith, below))
same_next (n ∷ routes) [] zero at below h = cc
same_next (n ∷ routes) [] (suc r) at below h = cc
same_next (n ∷ routes) (m ∷ others) zero at below h =
    let same : n ≡ m = cc in
    ap (λ k. k ∷ []) same
same_next (n ∷ routes) (m ∷ others) (suc r) at below h =
    let heads : n ≡ m = cc in
    let tails : take r routes ≡ take r others = cc in
    ap (λ k. k ∷ take (suc r) routes) heads ∙ ap (λ ks. m ∷ ks) (same_next routes others r at (omega (arith, below)) tails)

-- one route more is the same in both lists
pub same_so_far : (routes others : List CellIdentity) (r : ℕ) → slice_get routes r ≡ slice_get others r → r < length routes
    → take r routes ≡ take r others → take (r + 1) routes ≡ take (r + 1) others
same_so_far routes others r at below h =
    let one : suc r ≡ r + 1 = omega arith in
    subst (λ (n : ℕ). take n routes ≡ take n others) one (same_next routes others r at below h)

-- if they are the same up to the end of the first, the other has the first, and perhaps more
pub has_all : (routes others : List CellIdentity) (r : ℕ) → length routes ≤ r → r ≤ length others → length routes ≡ r
    → take r routes ≡ take r others → others ≡ routes ++ drop r others
has_all [] others zero over within same h = refl
has_all [] others (suc r) over within same h = absurd (omega (arith, same))
has_all (n ∷ routes) others zero over within same h = absurd (omega (arith, same))
has_all (n ∷ routes) [] (suc r) over within same h = absurd (omega (arith, within))
has_all (n ∷ routes) (m ∷ others) (suc r) over within same h =
    let heads : n ≡ m = cc in
    let tails : take r routes ≡ take r others = cc in
    ap (λ k. k ∷ others) (sym heads)
    ∙ ap (λ ks. n ∷ ks) (has_all routes others r (omega (arith, over)) (omega (arith, within)) (omega (arith, same)) tails)

-- what a token shows is the lock of the place with its index
pub lock_at : {T S : Type 0} (of : T → ℕ) (id : S → ℕ) (ts : List T) (places : List S) (i : ℕ) (t : T)
    → map of ts ≡ take (length ts) (map id places) → i < length ts → t ≡ get_or ts i t → slice_get (map id places) i ≡ Some (of t)
lock_at of id ts places i t shown within there =
    let inside : i < length (map id places) =
    omega (arith, ap length shown, length-map ts of, length-take (length ts) (map id places), within) in
    slice_get-get_or (map id places) i 0 inside ∙ ap Some (sym (lock_of of id ts places shown i t within there))

-- an iterator that has something left gives it
pub some_given : {X : Type 0} (count : ℕ) (items : List X) (r : Option X)
    → count ≡ length items → (IsSome r ↔ (0 < count)) → r ≡ None → 0 < length items → ⊥
some_given count items None h k none left =
    let bad : false ≡ true = k.1 (omega (arith, h, left)) in
    cc
some_given count items (Some y) h k none left = cc
