-- Each operation preserves the rule of the inbox.
use Rattle.std.proofs.Common.{◌≡◌, ℕ, Bool, true, false, List, [], ◌∷◌, ◌++◌, sym, refl, ap, ◌∙◌, append_assoc, append-nil}
use Rattle.crossbeam_queue.specs.Fifo.{Pushes, Pops, Forks, Merges, Learns}
use Rattle.srt_types.specs.declared.shared.Item.{Item}
use Rattle.srt_mailbox.specs.declared.inbox_rule.InboxEntry.{InboxEntry}
use Rattle.srt_mailbox.specs.declared.inbox_rule.InboxView.{InboxView}
use Rattle.srt_mailbox.specs.Inbox.{keep, skip, polled_of, ticked_of, view_of, fresh, nobody, without_poller, poller, with_poller}
use Rattle.srt_mailbox.specs.Inbox.{without_clock, clock, with_clock, Knows, Kept, Polled, Ticked, Took, StoodAsPolled, StoodAsTicked}
use Rattle.srt_mailbox.specs.Inbox.{StoodAsTaken, KnowsAll}
use Rattle.srt_mailbox.proofs.Rights.{never, all_one, before, used, kept, given, held, returned, outlasts}

keep_append : (b : Bool) (i : Item) (xs ys : List Item) → keep b i (xs ++ ys) ≡ keep b i xs ++ ys
keep_append true i xs ys = refl
keep_append false i xs ys = refl

skip_append : (b : Bool) (i : Item) (xs ys : List Item) → skip b i (xs ++ ys) ≡ skip b i xs ++ ys
skip_append true i xs ys = refl
skip_append false i xs ys = refl

polled_append : (xs ys : List InboxEntry) → polled_of (xs ++ ys) ≡ polled_of xs ++ polled_of ys
polled_append [] ys = refl
polled_append (m ∷ ms) ys = ap (keep m.polled m.item) (polled_append ms ys) ∙ keep_append m.polled m.item (polled_of ms) (polled_of ys)

ticked_append : (xs ys : List InboxEntry) → ticked_of (xs ++ ys) ≡ ticked_of xs ++ ticked_of ys
ticked_append [] ys = refl
ticked_append (m ∷ ms) ys = ap (skip m.polled m.item) (ticked_append ms ys) ∙ skip_append m.polled m.item (ticked_of ms) (ticked_of ys)

-- the effect of a message at the end
polled_snoc : (taken items : List InboxEntry) (x : InboxEntry) → polled_of (taken ++ (items ++ x ∷ [])) ≡ polled_of (taken ++ items) ++ keep x.polled x.item []
polled_snoc taken items x = ap polled_of (sym (append_assoc taken items (x ∷ []))) ∙ polled_append (taken ++ items) (x ∷ [])

ticked_snoc : (taken items : List InboxEntry) (x : InboxEntry) → ticked_of (taken ++ (items ++ x ∷ [])) ≡ ticked_of (taken ++ items) ++ skip x.polled x.item []
ticked_snoc taken items x = ap ticked_of (sym (append_assoc taken items (x ∷ []))) ∙ ticked_append (taken ++ items) (x ∷ [])

-- the three rights, and which operations each pass knows were performed with them
abbrev polls_of : InboxView → Bool
polls_of v = v.polls

abbrev polled_in : InboxView → List Item
polled_in v = v.polled

abbrev ticks_of : InboxView → Bool
ticks_of v = v.ticks

abbrev ticked_in : InboxView → List Item
ticked_in v = v.ticked

abbrev takes_of : InboxView → Bool
takes_of v = v.takes

abbrev taken_in : InboxView → List InboxEntry
taken_in v = v.taken

pub begins : Kept [] (fresh ∷ [])
begins = (0, 0, 0, [], all_one (Knows 0 0 0 [] []) fresh ((λ _. (refl, refl)), (λ _. (refl, refl)), λ _. (refl, refl)))

-- a push by the poller
pub polls : (n pass : ℕ) (v : InboxView) (x : InboxEntry) → v.polls ≡ true → x.polled ≡ true → Pushes Kept n pass v x (Polled v x)
polls n pass v x may mark items views room h at =
    let w : InboxView = view_of v.polls v.ticks v.takes (v.polled ++ x.item ∷ []) v.ticked v.taken in
    let taken = h.3 in
    let ps : polled_of (taken ++ (items ++ x ∷ [])) ≡ polled_of (taken ++ items) ++ x.item ∷ [] =
    polled_snoc taken items x ∙ ap (λ b. polled_of (taken ++ items) ++ keep b x.item []) mark in
    let ts : ticked_of (taken ++ (items ++ x ∷ [])) ≡ ticked_of (taken ++ items) =
    ticked_snoc taken items x ∙ ap (λ b. ticked_of (taken ++ items) ++ skip b x.item []) mark ∙ append-nil (ticked_of (taken ++ items)) in
    let knows = ap (λ l. l ++ x.item ∷ []) ((h.4 pass v at).0 may).1 ∙ sym ps in (
      w,
      (
        h.0,
        h.1,
        h.2,
        taken,
        λ j u e. (
          used polls_of polled_in h.0 _ _ views pass v w (λ k y f. (h.4 k y f).0) at may knows j u e,
          kept ticks_of ticked_in h.1 _ _ views pass v w (λ k y f. (h.4 k y f).1) at (sym ts) refl refl j u e,
          kept takes_of taken_in h.2 _ _ views pass v w (λ k y f. (h.4 k y f).2) at refl refl refl j u e,
        ),
      ),
      refl,
    )

-- a push by the clock
pub ticks : (n pass : ℕ) (v : InboxView) (x : InboxEntry) → v.ticks ≡ true → x.polled ≡ false → Pushes Kept n pass v x (Ticked v x)
ticks n pass v x may mark items views room h at =
    let w : InboxView = view_of v.polls v.ticks v.takes v.polled (v.ticked ++ x.item ∷ []) v.taken in
    let taken = h.3 in
    let ps : polled_of (taken ++ (items ++ x ∷ [])) ≡ polled_of (taken ++ items) =
    polled_snoc taken items x ∙ ap (λ b. polled_of (taken ++ items) ++ keep b x.item []) mark ∙ append-nil (polled_of (taken ++ items)) in
    let ts : ticked_of (taken ++ (items ++ x ∷ [])) ≡ ticked_of (taken ++ items) ++ x.item ∷ [] =
    ticked_snoc taken items x ∙ ap (λ b. ticked_of (taken ++ items) ++ skip b x.item []) mark in
    let knows = ap (λ l. l ++ x.item ∷ []) ((h.4 pass v at).1 may).1 ∙ sym ts in (
      w,
      (
        h.0,
        h.1,
        h.2,
        taken,
        λ j u e. (
          kept polls_of polled_in h.0 _ _ views pass v w (λ k y f. (h.4 k y f).0) at (sym ps) refl refl j u e,
          used ticks_of ticked_in h.1 _ _ views pass v w (λ k y f. (h.4 k y f).1) at may knows j u e,
          kept takes_of taken_in h.2 _ _ views pass v w (λ k y f. (h.4 k y f).2) at refl refl refl j u e,
        ),
      ),
      refl,
    )

-- a pop
pub takes : (pass : ℕ) (v : InboxView) → v.takes ≡ true → Pops Kept pass v (Took v)
takes pass v may x items views h at =
    let w : InboxView = view_of v.polls v.ticks v.takes v.polled v.ticked (v.taken ++ x ∷ []) in
    let same : h.3 ++ x ∷ items ≡ (h.3 ++ x ∷ []) ++ items = sym (append_assoc h.3 (x ∷ []) items) in
    let knows = ap (λ l. l ++ x ∷ []) ((h.4 pass v at).2 may).1 in (
      w,
      (
        h.0,
        h.1,
        h.2,
        h.3 ++ x ∷ [],
        λ j u e. (
          kept polls_of polled_in h.0 _ _ views pass v w (λ k y f. (h.4 k y f).0) at (ap polled_of same) refl refl j u e,
          kept ticks_of ticked_in h.1 _ _ views pass v w (λ k y f. (h.4 k y f).1) at (ap ticked_of same) refl refl j u e,
          used takes_of taken_in h.2 _ _ views pass v w (λ k y f. (h.4 k y f).2) at may knows j u e,
        ),
      ),
      refl,
    )

-- lessons
pub learns_polled : (pass : ℕ) (v : InboxView) → v.polls ≡ true → Learns Kept pass v (StoodAsPolled v.polled)
learns_polled pass v may items views h at = (views, pass, v, h, at, (may, refl))

pub learns_ticked : (pass : ℕ) (v : InboxView) → v.ticks ≡ true → Learns Kept pass v (StoodAsTicked v.ticked)
learns_ticked pass v may items views h at = (views, pass, v, h, at, (may, refl))

pub learns_rest : (pass : ℕ) (v : InboxView) → v.takes ≡ true → Learns Kept pass v (StoodAsTaken v.taken)
learns_rest pass v may items views h at = (views, pass, v, h, at, (may, refl))

-- a new pass receives one right
pub forks_poller : (pass : ℕ) (v : InboxView) → v.polls ≡ true → Forks Kept pass v (without_poller v) (poller v)
forks_poller pass v may items views h at = (
  _,
  h.1,
  h.2,
  h.3,
  λ j u e. (
    given polls_of polled_in h.0 _ views pass v (without_poller v) (poller v) (λ k y f. (h.4 k y f).0) at may never refl j u e,
    held ticks_of ticked_in h.1 _ views pass v (without_poller v) (poller v) (λ k y f. (h.4 k y f).1) at refl refl never j u e,
    held takes_of taken_in h.2 _ views pass v (without_poller v) (poller v) (λ k y f. (h.4 k y f).2) at refl refl never j u e,
  ),
)

pub forks_clock : (pass : ℕ) (v : InboxView) → v.ticks ≡ true → Forks Kept pass v (without_clock v) (clock v)
forks_clock pass v may items views h at = (
  h.0,
  _,
  h.2,
  h.3,
  λ j u e. (
    held polls_of polled_in h.0 _ views pass v (without_clock v) (clock v) (λ k y f. (h.4 k y f).0) at refl refl never j u e,
    given ticks_of ticked_in h.1 _ views pass v (without_clock v) (clock v) (λ k y f. (h.4 k y f).1) at may never refl j u e,
    held takes_of taken_in h.2 _ views pass v (without_clock v) (clock v) (λ k y f. (h.4 k y f).2) at refl refl never j u e,
  ),
)

-- the right is returned
pub merges_poller : (pass : ℕ) (v : InboxView) (other : ℕ) (u : InboxView) → u.polls ≡ true → Merges Kept pass v other u (with_poller v u) nobody
merges_poller pass v other u may items views h at apart there =
    let was = before views pass (with_poller v u) other u apart there in (
      pass,
      h.1,
      h.2,
      h.3,
      λ j y e. (
        returned polls_of polled_in h.0 _ views pass other u (with_poller v u) nobody (λ k z f. (h.4 k z f).0) was may refl never j y e,
        outlasts ticks_of ticked_in h.1 _ views pass other v (with_poller v u) nobody (λ k z f. (h.4 k z f).1) at refl refl never j y e,
        outlasts takes_of taken_in h.2 _ views pass other v (with_poller v u) nobody (λ k z f. (h.4 k z f).2) at refl refl never j y e,
      ),
    )

pub merges_clock : (pass : ℕ) (v : InboxView) (other : ℕ) (u : InboxView) → u.ticks ≡ true → Merges Kept pass v other u (with_clock v u) nobody
merges_clock pass v other u may items views h at apart there =
    let was = before views pass (with_clock v u) other u apart there in (
      h.0,
      pass,
      h.2,
      h.3,
      λ j y e. (
        outlasts polls_of polled_in h.0 _ views pass other v (with_clock v u) nobody (λ k z f. (h.4 k z f).0) at refl refl never j y e,
        returned ticks_of ticked_in h.1 _ views pass other u (with_clock v u) nobody (λ k z f. (h.4 k z f).1) was may refl never j y e,
        outlasts takes_of taken_in h.2 _ views pass other v (with_clock v u) nobody (λ k z f. (h.4 k z f).2) at refl refl never j y e,
      ),
    )

pub settles : (pass : ℕ) (v : InboxView) → v.polls ≡ true → v.ticks ≡ true → v.takes ≡ true → Learns Kept pass v (KnowsAll v)
settles pass v a b c items views h at =
    let mine = h.4 pass v at in
    let same = ap (λ l. l ++ items) (mine.2 c).1 in ((mine.0 a).1 ∙ ap polled_of (sym same), (mine.1 b).1 ∙ ap ticked_of (sym same))
