-- The routes that close, and their lines.
use Rattle.std.proofs.Common.{◌≡◌, ℕ, ◌+◌, ◌<◌, List, [], ◌∷◌, length, take, drop, get_or, Option, None, Some, option_map, slice_get}
use Rattle.std.proofs.Common.{refl, sym, ap, ◌∙◌, subst, arith, if◌then◌else◌}
use Rattle.std.specs.List.{flat_map}
use denote.Ref.{Bor}
use Rattle.srt_types.specs.declared.shared.Entry.{Entry}
use Rattle.srt_types.specs.Terms.{terms_of}
use Rattle.srt_log.specs.declared.config_events.CloseCause.{CloseCause}
use Rattle.srt_watch.proofs.Appended.{flat_mapped}
use Rattle.srt_watch.proofs.Logging.{logged_both}
use Rattle.srt_watch.specs.ChangeLines.{close_call, closing_call}
use Rattle.srt_watch.specs.Holding.{is_used_at, first_used}
use Rattle.srt_watch.specs.Indexes.{index_at}
use Rattle.srt_watch.specs.Log.{LogCall, Logged}
use Rattle.srt_watch.specs.declared.log.LogPace.{LogPace}
use Rattle.srt_watch.specs.declared.log.When.{When}
use Rattle.srt_watch.specs.declared.watched_routes.WatchedRoutes.{WatchedRoutes}

terms_at : (found : Option (Bor Entry)) → option_map (λ e. terms_of e.now) found ≡ option_map terms_of (option_map (λ e. e.now) found)
terms_at None = refl
terms_at (Some entry) = refl

-- the line of the entry that was found at a place
pub closed_at : (a b : Option (List ℕ)) (p q : LogPace) (when : When) (cause : CloseCause) (before : List Entry) (place : ℕ) (found : Option (Bor Entry)) →
    option_map (λ e. e.now) found ≡ slice_get before place → Logged a b p q (close_call when cause (option_map (λ e. terms_of e.now) found)) →
    Logged a b p q (closing_call when cause before place)
closed_at a b p q when cause before place found is l =
    subst (λ x. Logged a b p q (close_call when cause x)) (terms_at found ∙ ap (option_map terms_of) is) l

-- the first of the routes that are gone, and the others
pub used_step : (routes : WatchedRoutes) (indexes gone : List ℕ) (place : ℕ) → 0 < length gone →
    first_used routes indexes gone
    ≡ (if is_used_at routes (index_at indexes (get_or gone 0 place)) then Some (index_at indexes (get_or gone 0 place))
    else first_used routes indexes (drop 1 gone))
used_step routes indexes [] place some = absurd (omega arith)
used_step routes indexes (x ∷ gone) place some = refl

pub used_end : (routes : WatchedRoutes) (indexes gone : List ℕ) → length gone ≡ 0 → first_used routes indexes gone ≡ None
used_end routes indexes [] none = refl
used_end routes indexes (x ∷ gone) none = cc

-- the calls of a list's items, and of one more
pub logged_flat : {A : Type 0} (f : A → List LogCall) (d : A) (xs : List A) (i : ℕ) (a b c : Option (List ℕ)) (p q r : LogPace) → i < length xs →
    Logged a b p q (flat_map f (take i xs)) → Logged b c q r (f (get_or xs i d)) → Logged a c p r (flat_map f (take (i + 1) xs))
logged_flat f d xs i a b c p q r within l m =
    subst (λ t. Logged a c p r t) (sym (flat_mapped f d xs i within)) (logged_both a b c p q r _ _ l m)
