-- What is known of the clocks, and of the rounds that were made, at the end of a run.
use Rattle.std.proofs.Common.{◌≡◌, ◌⊎◌, ◌≤◌, ℕ, Bool, Option, List, ◌++◌, refl, sym, ap, subst, ◌∙◌, true, false, inl, inr}
use Rattle.srt_types.specs.declared.shared.Schedule.{Schedule}
use Rattle.srt_types.specs.Terms.{Terms}
use Rattle.srt_mailbox.specs.declared.accounts.Account.{Account}
use Rattle.srt_mailbox.specs.Cells.{CellIdentity}
use Rattle.srt_mailbox.specs.Ends.{Producer}
use Rattle.srt_supervision.specs.declared.report.Report.{Report}
use Rattle.srt_poller.specs.History.{Sorting}
use Rattle.srt_poller.specs.Openings.{RouteReports}
use Rattle.srt_poller.specs.Pumped.{Before, After}
use Rattle.srt_serve.specs.Opened.{new_clocks}
use Rattle.srt_serve.specs.inside.Polled.{Polled}
use Rattle.srt_serve.specs.Ran.{Ran, RanUnder, Recorded}
use Rattle.srt_serve.specs.Ticks.{Ticked, moments_of, added_in}
use Rattle.srt_serve.proofs.Moments.{itself, unrecorded, HaveTicks, have_ticks, have_further}

-- the ends that the clock had, those added while it ticked, and those added after it, have ticks of the times
pub all_ticked : (routes routes' routes'' : List CellIdentity) (clocks clocks' clocks'' more : List Producer) (reported reported' : Option (List ℕ))
    (ticked : Ticked itself unrecorded reported reported' (new_clocks routes) (new_clocks routes') clocks clocks')
    → clocks ≡ new_clocks routes → new_clocks routes'' ≡ new_clocks routes' ++ more → clocks'' ≡ clocks' ++ more
    → HaveTicks (moments_of ticked.0) (new_clocks routes'') clocks''
all_ticked routes routes' routes'' clocks clocks' clocks'' more reported reported' ticked first added taken =
    let all : clocks ++ added_in ticked.0 ≡ new_clocks routes' = ap (λ (cs : List Producer). cs ++ added_in ticked.0) first ∙ sym ticked.2 in
    let were : HaveTicks (moments_of ticked.0) (new_clocks routes') clocks' =
    subst (λ (cs : List Producer). HaveTicks (moments_of ticked.0) cs clocks') all (have_ticks ticked.0 clocks clocks' ticked.3) in
    rw (added, taken) (have_further (moments_of ticked.0) (new_clocks routes') clocks' more were)

-- two tests of which each holds if the other one does
pub same_test : (a b : Bool) → (a ≡ true → b ≡ true) → (b ≡ true → a ≡ true) → a ≡ b
same_test true b there back = sym (there refl)
same_test false true there back = back refl
same_test false false there back = refl

-- what is known of the rounds that were made
pub rounds_for : (watched closes stops : Type 0) (class : Sorting) (schedules : List Schedule) (rounds made : ℕ) (reported reported' : RouteReports)
    (before : Before) (after : After)
    → Polled watched closes stops class schedules rounds made reported reported' before after → (made ≤ rounds) × ((made ≡ rounds) ⊎ stops)
unfolding Polled
rounds_for watched closes stops class schedules rounds made reported reported' before after polled = (polled.1, polled.2)

-- nobody watched: all rounds were made, and none closed all
pub all_made : (class : Sorting) (schedules : List Schedule) (entries : List Terms) (rounds made : ℕ) (old new : Recorded) (report : Report)
    (accounts : List Account)
    →
    (made ≤ rounds) × ((made ≡ rounds) ⊎ ⊥) → RanUnder ⊥ class schedules entries made old new report accounts
    → Ran class schedules entries rounds old new report accounts
all_made class schedules entries rounds made old new report accounts whole ran =
    let same : made ≡ rounds = elim whole.1 [
      | inl all ↦ all
      | inr bad ↦ absurd bad
    ] in
    subst (λ (n : ℕ). Ran class schedules entries n old new report accounts) same (
      ran.0,
      ran.1,
      ran.2,
      elim ran.3 [
        | inl none ↦ none
        | inr bad ↦ absurd bad
      ],
    )
