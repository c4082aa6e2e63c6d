-- Pages that were shown.
use Rattle.std.proofs.Common.{◌≡◌, ℕ, ◌+◌, ◌<◌, List, [], ◌∷◌, ◌++◌, length, Option, None, Some, refl, sym, ap, ◌∙◌, subst, append-nil, append_assoc}
use Rattle.std.proofs.Common.{length-append, ◌≤◌, Bool, true, false, IfSome, inl, inr, arith}
use Rattle.std.proofs.lemmas.List.{map-append}
use Rattle.std.specs.List.{AllByRecursion}
use denote.Ref.{Bor}
use Rattle.srt_status.specs.declared.events.Event.{Event}
use Rattle.srt_status.specs.declared.gateway.ChangeCounts.{ChangeCounts}
use Rattle.srt_status.specs.declared.route_status.RouteStatus.{RouteStatus}
use Rattle.srt_watch.specs.Facts.{MachineFacts}
use Rattle.srt_watch.specs.Pages.{ShownPage, with_pages, page_at, pages_at, ShowedPage, ShowedPages, HasPassed, IsRest, HasRested}
use Rattle.srt_watch.specs.Log.{most}
use Rattle.srt_watch.specs.Rests.{no_rests, with_rest, with_pause}
use Rattle.srt_watch.specs.declared.overview.Overview.{Overview}
use Rattle.srt_watch.specs.declared.rests.Rests.{Rests}

none_more : (r : Option (List ShownPage)) → r ≡ with_pages r []
none_more None = refl
none_more (Some pages) = ap Some (sym (append-nil pages))

both_more : (r : Option (List ShownPage)) (x y : List ShownPage) → with_pages (with_pages r x) y ≡ with_pages r (x ++ y)
both_more None x y = refl
both_more (Some pages) x y = ap Some (append_assoc pages x y)

all_both : (P : ℕ → Type 0) (xs ys : List ℕ) → AllByRecursion P xs → AllByRecursion P ys → AllByRecursion P (xs ++ ys)
all_both P [] ys f g = g
all_both P (x ∷ xs) ys f g = (f.0, all_both P xs ys f.1 g)

pub showed_none : (m : MachineFacts) (r : Option (List ShownPage)) (o : Overview) (n : ChangeCounts) (v : Bor (List ℕ)) (s : List RouteStatus) (u : ℕ)
    (e : List Event) → ShowedPages m 0 r r o n v s u e
showed_none m r o n v s u e = record { moments = []; number_is = refl; were_moments = tt; shown_is = none_more r }

one_longer : (xs : List ℕ) (x : ℕ) → length (xs ++ x ∷ []) ≡ length xs + 1
one_longer xs x = length-append xs (x ∷ [])

pub showed_next : (m : MachineFacts) (k : ℕ) (a b c : Option (List ShownPage)) (o : Overview) (n : ChangeCounts) (v : Bor (List ℕ)) (s : List RouteStatus)
    (u : ℕ) (e : List Event) → ShowedPages m k a b o n v s u e → ShowedPage m b c o n v s u e → ShowedPages m (k + 1) a c o n v s u e
showed_next m k a b c o n v s u e x y = record {
  moments = x.moments ++ y.moment ∷ [];
  number_is = one_longer x.moments y.moment ∙ ap (λ l. l + 1) x.number_is;
  were_moments = all_both m.was_moment x.moments (y.moment ∷ []) x.were_moments (y.was_moment, tt);
  shown_is =
      y.shown_is ∙ ap (λ r. with_pages r (pages_at o n v s u e (y.moment ∷ []))) x.shown_is
      ∙ both_more a (pages_at o n v s u e x.moments) (pages_at o n v s u e (y.moment ∷ []))
      ∙ ap (with_pages a) (sym (map-append (page_at o n v s u e) x.moments (y.moment ∷ [])));
}

-- one rest, without a page
pub rested_once : (m : MachineFacts) (w : Option Bool) (x : Rests) (r : Option (List ShownPage)) (o : Overview) (n : ChangeCounts) (v : Bor (List ℕ))
    (s : List RouteStatus) (u : ℕ) (e : List Event) (a : Bool) → IfSome w (λ b. a ≡ b) → a ≡ false → x ≡ with_rest no_rests →
    HasRested m w x r r o n v s u e
rested_once m w x r o n v s u e a says is made = record {
  is_awaited = a;
  awaited_is = says;
  rests_are = subst (λ b. IsRest m b x) (sym is) (ap (λ y. y.rests) made, ap (λ y. y.pauses) made);
  pages = subst (λ k. ShowedPages m k r r o n v s u e) (sym (ap (λ y. y.pauses) made)) (showed_none m r o n v s u e);
}

-- pauses, with a page after each: as many as there may be, or until their time is over
pub rested_by_number : (m : MachineFacts) (w : Option Bool) (x : Rests) (r q : Option (List ShownPage)) (o : Overview) (n : ChangeCounts) (v : Bor (List ℕ))
    (s : List RouteStatus) (u : ℕ) (e : List Event) (a : Bool) → IfSome w (λ b. a ≡ b) → a ≡ true → x.rests ≡ 0 → x.pauses ≡ 20 →
    ShowedPages m x.pauses r q o n v s u e → HasRested m w x r q o n v s u e
rested_by_number m w x r q o n v s u e a says is none number shown = record {
  is_awaited = a;
  awaited_is = says;
  rests_are = subst (λ b. IsRest m b x) (sym is) (none, omega (arith, number), inl number);
  pages = shown;
}

pub rested_by_time : (m : MachineFacts) (w : Option Bool) (x y : Rests) (r p q : Option (List ShownPage)) (o : Overview) (n : ChangeCounts)
    (v : Bor (List ℕ)) (s : List RouteStatus) (u : ℕ) (e : List Event) (a : Bool) (began ends moment : ℕ) → IfSome w (λ b. a ≡ b) → a ≡ true →
    x.rests ≡ 0 → y ≡ with_pause x → m.was_moment began → m.was_moment moment → ends ≡ most (began + 20_000) → ends ≤ moment →
    ShowedPages m x.pauses r p o n v s u e → ShowedPage m p q o n v s u e → HasRested m w y r q o n v s u e
rested_by_time m w x y r p q o n v s u e a began ends moment says is none paused at then bound over shown last = record {
  is_awaited = a;
  awaited_is = says;
  rests_are =
      subst (λ b. IsRest m b y) (sym is) (
        ap (λ z. z.rests) paused ∙ none,
        omega (arith, ap (λ z. z.pauses) paused),
        inr (record { began = began; was_beginning = at; ended = moment; was_end = then; is_over = subst (λ t. t ≤ moment) bound over }),
      );
  pages = subst (λ k. ShowedPages m k r q o n v s u e) (sym (ap (λ z. z.pauses) paused)) (showed_next m x.pauses r p q o n v s u e shown last);
}
