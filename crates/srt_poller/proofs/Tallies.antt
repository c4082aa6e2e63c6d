-- The sums of a report are those of the devices' records.
use Rattle.std.proofs.Common.{◌≡◌, ℕ, ◌+◌, Option, None, Some, List, [], ◌∷◌, ◌++◌, refl, sym, ap, ◌∙◌, arith}
use Rattle.std.proofs.lemmas.List.Sums.{sum_by-append, sum_by-cons}
use Rattle.srt_poller.specs.declared.devices.Sent.TheVariants.{Taken, Later, Failed}
use Rattle.srt_supervision.specs.declared.report.Report.{Report}
use Rattle.srt_poller.specs.History.{Event, Begins, Waits, WaitFails, ReadsNothing, ReadFails, Answers, Accepts, Overflows, Refuses, Drops}
use Rattle.srt_poller.specs.History.{Sends, Resends, Kept, kept_after, calls_by, calls, attempts_by, attempts}
use Rattle.srt_poller.specs.Reports.{part, total}
use Rattle.srt_poller.specs.Tallies.{gives, given_in, fails, faults_in, takes, taken_in, loses, failed_in, gives_up, put_off_in, one_kept, TalliesWith}

-- one event
record IsPart (e : Event) : Type 0 where
  pub read : (part e).read ≡ given_in (calls_by e)
  pub sent : (part e).sent ≡ taken_in (attempts_by e)
  pub faults : (part e).faults ≡ faults_in (calls_by e) + failed_in (attempts_by e)
  pub lost : (part e).lost ≡ gives_up e + failed_in (attempts_by e)

is_part : (e : Event) → IsPart e
is_part (Begins b m os) = record { read = refl; sent = refl; faults = refl; lost = refl }
is_part Waits = record { read = refl; sent = refl; faults = refl; lost = refl }
is_part WaitFails = record { read = refl; sent = refl; faults = refl; lost = refl }
is_part ReadsNothing = record { read = refl; sent = refl; faults = refl; lost = refl }
is_part ReadFails = record { read = refl; sent = refl; faults = refl; lost = refl }
is_part (Answers a b Taken) = record { read = refl; sent = refl; faults = refl; lost = refl }
is_part (Answers a b Later) = record { read = refl; sent = refl; faults = refl; lost = refl }
is_part (Answers a b Failed) = record { read = refl; sent = refl; faults = refl; lost = refl }
is_part (Accepts a r) = record { read = refl; sent = refl; faults = refl; lost = refl }
is_part (Overflows a r) = record { read = refl; sent = refl; faults = refl; lost = refl }
is_part (Refuses a r) = record { read = refl; sent = refl; faults = refl; lost = refl }
is_part (Drops a c) = record { read = refl; sent = refl; faults = refl; lost = refl }
is_part (Sends r d Taken) = record { read = refl; sent = refl; faults = refl; lost = refl }
is_part (Sends r d Later) = record { read = refl; sent = refl; faults = refl; lost = refl }
is_part (Sends r d Failed) = record { read = refl; sent = refl; faults = refl; lost = refl }
is_part (Resends r d Taken) = record { read = refl; sent = refl; faults = refl; lost = refl }
is_part (Resends r d Later) = record { read = refl; sent = refl; faults = refl; lost = refl }
is_part (Resends r d Failed) = record { read = refl; sent = refl; faults = refl; lost = refl }

-- all events, and what is kept at the end
record AreParts (events : List Event) (k : Option Kept) : Type 0 where
  pub read : (total events k).read ≡ given_in (calls events)
  pub sent : (total events k).sent ≡ taken_in (attempts events)
  pub faults : (total events k).faults ≡ faults_in (calls events) + failed_in (attempts events)
  pub lost : (total events k).lost ≡ put_off_in events + failed_in (attempts events) + one_kept k

sorted : (a b c d : ℕ) → a + b + (c + d) ≡ a + c + (b + d)
sorted a b c d = omega arith

sorted_too : (a b c d k : ℕ) → a + b + (c + d + k) ≡ a + c + (b + d) + k
sorted_too a b c d k = omega arith

are_parts : (events : List Event) (k : Option Kept) → AreParts events k
are_parts [] None = record { read = refl; sent = refl; faults = refl; lost = refl }
are_parts [] (Some k) = record { read = refl; sent = refl; faults = refl; lost = refl }
are_parts (e ∷ es) k =
    let here = is_part e in
    let there = are_parts es k in
    let rest : Report = total es k in
    record {
      read = ap (λ n. n + rest.read) here.read ∙ ap (λ n. given_in (calls_by e) + n) there.read ∙ sym (sum_by-append gives (calls_by e) (calls es));
      sent = ap (λ n. n + rest.sent) here.sent ∙ ap (λ n. taken_in (attempts_by e) + n) there.sent ∙ sym (sum_by-append takes (attempts_by e) (attempts es));
      faults =
          ap (λ n. n + rest.faults) here.faults ∙ ap (λ n. faults_in (calls_by e) + failed_in (attempts_by e) + n) there.faults
          ∙ sorted (faults_in (calls_by e)) (failed_in (attempts_by e)) (faults_in (calls es)) (failed_in (attempts es))
          ∙ ap (λ n. n + (failed_in (attempts_by e) + failed_in (attempts es))) (sym (sum_by-append fails (calls_by e) (calls es)))
          ∙ ap (λ n. faults_in (calls_by e ++ calls es) + n) (sym (sum_by-append loses (attempts_by e) (attempts es)));
      lost =
          ap (λ n. n + rest.lost) here.lost ∙ ap (λ n. gives_up e + failed_in (attempts_by e) + n) there.lost
          ∙ sorted_too (gives_up e) (failed_in (attempts_by e)) (put_off_in es) (failed_in (attempts es)) (one_kept k)
          ∙ ap (λ n. gives_up e + put_off_in es + n + one_kept k) (sym (sum_by-append loses (attempts_by e) (attempts es)))
          ∙ ap (λ n. n + failed_in (attempts_by e ++ attempts es) + one_kept k) (sym (sum_by-cons gives_up e es));
    }

pub tallied : (events : List Event) (report : Report) → report ≡ total events (kept_after None events) → TalliesWith events report
tallied events report is =
    let parts = are_parts events (kept_after None events) in
    record {
      read = ap (λ (r : Report). r.read) is ∙ parts.read;
      sent = ap (λ (r : Report). r.sent) is ∙ parts.sent;
      faults = ap (λ (r : Report). r.faults) is ∙ parts.faults;
      lost = ap (λ (r : Report). r.lost) is ∙ parts.lost;
    }
