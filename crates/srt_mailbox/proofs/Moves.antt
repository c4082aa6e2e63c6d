-- Each operation preserves the rule of the outbox.
use Rattle.std.proofs.Common.{◌≡◌, ℕ, Bool, true, List, [], ◌∷◌, ◌++◌, sym, refl, ap, ◌∙◌, append_assoc}
use Rattle.crossbeam_queue.specs.Fifo.{Pushes, Pops, Forks, Merges, Learns}
use Rattle.std.specs.Global.{Box}
use Rattle.srt_route.specs.declared.replies.Reply.{Reply}
use Rattle.srt_mailbox.specs.declared.outbox_rule.OutboxView.{OutboxView}
use Rattle.srt_mailbox.specs.Outbox.{replies_in, view_of, fresh, without_drain, drain, with_drain, nobody, Knows, Kept, Put, Drained}
use Rattle.srt_mailbox.specs.Outbox.{StoodAsPut, StoodAsDrained, KnowsAll}
use Rattle.srt_mailbox.proofs.Rights.{never, all_one, before, used, kept, given, held, returned, outlasts}

-- the two rights, and which operations each pass knows were performed with them
abbrev puts_of : OutboxView → Bool
puts_of v = v.puts

abbrev put_in : OutboxView → List (Box Reply)
put_in v = v.put

abbrev drains_of : OutboxView → Bool
drains_of v = v.drains

abbrev drained_in : OutboxView → List (Box Reply)
drained_in v = v.drained

pub begins : Kept [] (fresh ∷ [])
begins = (0, 0, [], all_one (Knows 0 0 [] []) fresh ((λ _. (refl, refl)), λ _. (refl, refl)))

pub puts : (n pass : ℕ) (v : OutboxView) (x : Box Reply) → v.puts ≡ true → Pushes Kept n pass v x (Put v x)
puts n pass v x may items views room h at =
    let w : OutboxView = view_of v.puts v.drains (v.put ++ x ∷ []) v.drained in
    let knows = ap (λ l. l ++ x ∷ []) ((h.3 pass v at).0 may).1 ∙ append_assoc h.2 items (x ∷ []) in (
      w,
      (
        h.0,
        h.1,
        h.2,
        λ j u e. (
          used puts_of put_in h.0 _ _ views pass v w (λ k y f. (h.3 k y f).0) at may knows j u e,
          kept drains_of drained_in h.1 _ _ views pass v w (λ k y f. (h.3 k y f).1) at refl refl refl j u e,
        ),
      ),
      refl,
    )

pub drains : (pass : ℕ) (v : OutboxView) → v.drains ≡ true → Pops Kept pass v (Drained v)
drains pass v may x items views h at =
    let w : OutboxView = view_of v.puts v.drains v.put (v.drained ++ x ∷ []) in
    let same : h.2 ++ x ∷ items ≡ (h.2 ++ x ∷ []) ++ items = sym (append_assoc h.2 (x ∷ []) items) in
    let knows = ap (λ l. l ++ x ∷ []) ((h.3 pass v at).1 may).1 in (
      w,
      (
        h.0,
        h.1,
        h.2 ++ x ∷ [],
        λ j u e. (
          kept puts_of put_in h.0 _ _ views pass v w (λ k y f. (h.3 k y f).0) at same refl refl j u e,
          used drains_of drained_in h.1 _ _ views pass v w (λ k y f. (h.3 k y f).1) at may knows j u e,
        ),
      ),
      refl,
    )

pub learns_put : (pass : ℕ) (v : OutboxView) → v.puts ≡ true → Learns Kept pass v (StoodAsPut (replies_in v.put))
learns_put pass v may items views h at = (views, pass, v, h, at, (may, refl))

pub learns_drained : (pass : ℕ) (v : OutboxView) → v.drains ≡ true → Learns Kept pass v (StoodAsDrained (replies_in v.drained))
learns_drained pass v may items views h at = (views, pass, v, h, at, (may, refl))

pub settles : (pass : ℕ) (v : OutboxView) → v.puts ≡ true → v.drains ≡ true → Learns Kept pass v (KnowsAll v)
settles pass v a b items views h at = let mine = h.3 pass v at in (mine.0 a).1 ∙ ap (λ l. l ++ items) (sym (mine.1 b).1)

pub forks : (pass : ℕ) (v : OutboxView) → v.drains ≡ true → Forks Kept pass v (without_drain v) (drain v)
forks pass v may items views h at = (
  h.0,
  _,
  h.2,
  λ j u e. (
    held puts_of put_in h.0 _ views pass v (without_drain v) (drain v) (λ k y f. (h.3 k y f).0) at refl refl never j u e,
    given drains_of drained_in h.1 _ views pass v (without_drain v) (drain v) (λ k y f. (h.3 k y f).1) at may never refl j u e,
  ),
)

pub merges : (pass : ℕ) (v : OutboxView) (other : ℕ) (u : OutboxView) → u.drains ≡ true → Merges Kept pass v other u (with_drain v u) nobody
merges pass v other u may items views h at apart there =
    let was = before views pass (with_drain v u) other u apart there in (
      h.0,
      pass,
      h.2,
      λ j y e. (
        outlasts puts_of put_in h.0 _ views pass other v (with_drain v u) nobody (λ k z f. (h.3 k z f).0) at refl refl never j y e,
        returned drains_of drained_in h.1 _ views pass other u (with_drain v u) nobody (λ k z f. (h.3 k z f).1) was may refl never j y e,
      ),
    )
