-- What is expected of all routes, one by one.
use Rattle.std.proofs.Common.{◌≡◌, ℕ, zero, suc, ◌+◌, ◌<◌, Bool, false, List, [], ◌∷◌, length, set, get_or, refl, ap, ◌∙◌, arith, add-one}
use Rattle.srt_status.specs.declared.route_status.RouteStatus.{RouteStatus}
use Rattle.srt_watch.specs.Expecting.{is_expected, expecting, all_expecting}

-- the first n routes are expected to be on air, or aren't
unfoldable pub expecting_to : (n : ℕ) → (expected : List Bool) → List RouteStatus → List RouteStatus
expecting_to zero expected statuses = statuses
expecting_to (suc n) expected [] = []
expecting_to (suc n) [] (status ∷ statuses) = expecting false status ∷ expecting_to n [] statuses
expecting_to (suc n) (flag ∷ expected) (status ∷ statuses) = expecting flag status ∷ expecting_to n expected statuses

pub expecting_none : (expected : List Bool) (statuses : List RouteStatus) → expecting_to 0 expected statuses ≡ statuses
unfolding expecting_to
expecting_none expected statuses = refl

pub expecting_length : (n : ℕ) (expected : List Bool) (statuses : List RouteStatus) → length (expecting_to n expected statuses) ≡ length statuses
unfolding expecting_to
expecting_length zero expected statuses = refl
expecting_length (suc n) expected [] = refl
expecting_length (suc n) [] (status ∷ statuses) = ap suc (expecting_length n [] statuses)
expecting_length (suc n) (flag ∷ expected) (status ∷ statuses) = ap suc (expecting_length n expected statuses)

expecting_set : (n : ℕ) (expected : List Bool) (statuses : List RouteStatus) (d : RouteStatus) → n < length statuses →
    set (expecting_to n expected statuses) n (expecting (is_expected expected n) (get_or (expecting_to n expected statuses) n d))
    ≡ expecting_to (suc n) expected statuses
unfolding expecting_to
expecting_set n expected [] d within = absurd (omega arith)
expecting_set zero [] (status ∷ statuses) d within = refl
expecting_set zero (flag ∷ expected) (status ∷ statuses) d within = refl
expecting_set (suc n) [] (status ∷ statuses) d within =
    ap (λ l. expecting false status ∷ l) (expecting_set n [] statuses d (omega (arith, within)))
expecting_set (suc n) (flag ∷ expected) (status ∷ statuses) d within =
    ap (λ l. expecting flag status ∷ l) (expecting_set n expected statuses d (omega (arith, within)))

pub expecting_next : (n : ℕ) (expected : List Bool) (statuses now : List RouteStatus) (d next : RouteStatus) (flag : Bool) → n < length statuses →
    now ≡ expecting_to n expected statuses → flag ≡ is_expected expected n → next ≡ expecting flag (get_or now n d) →
    set now n next ≡ expecting_to (n + 1) expected statuses
expecting_next n expected statuses now d next flag within is flagged made =
    ap (λ s. set now n s) (made ∙ ap (λ f. expecting f (get_or now n d)) flagged)
    ∙ (λ i. set (is i) n (expecting (is_expected expected n) (get_or (is i) n d))) ∙ expecting_set n expected statuses d within ∙ rw add-one refl

pub expecting_all : (expected : List Bool) (statuses : List RouteStatus) → expecting_to (length statuses) expected statuses ≡ all_expecting expected statuses
unfolding expecting_to
expecting_all expected [] = refl
expecting_all [] (status ∷ statuses) = ap (λ l. expecting false status ∷ l) (expecting_all [] statuses)
expecting_all (flag ∷ expected) (status ∷ statuses) = ap (λ l. expecting flag status ∷ l) (expecting_all expected statuses)
