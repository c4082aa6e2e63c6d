-- The count of the datagrams that a round reads.
use Rattle.std.proofs.Common.{◌≡◌, inl, inr, refl, Option, Some, None, ℕ, ◌≤◌}
use Rattle.std.specs.Prelude.{IfSome, IfNone}
use Rattle.srt_supervision.specs.declared.report.Report.{Report}
use Rattle.srt_poller.specs.declared.devices.Sent.{Sent}
use Rattle.srt_poller.specs.declared.devices.Sent.TheVariants.{Taken, Later, Failed}
use Rattle.srt_poller.specs.Reports.{one_more, with_reply, with_answer}
use Rattle.srt_poller.specs.inside.Served.{more_by, IsServed, IsAttended}

pub reply_reads_none : (n : Report) (sent : Sent) → (with_reply n sent).read ≡ n.read
reply_reads_none n Taken = refl
reply_reads_none n Later = refl
reply_reads_none n Failed = refl

pub answer_reads_one : (n : Report) (sent : Sent) → (with_answer n sent).read ≡ one_more n.read
answer_reads_one n Taken = refl
answer_reads_one n Later = refl
answer_reads_one n Failed = refl

-- what a round's wait and reads returned, and what the inline service was told of it
pub served_as : {served : ℕ → Type 0} {fault : Type 0} (reads : Option ℕ) (old new : ℕ) →
    IfSome reads (λ n. (n ≤ 256) × (new ≡ more_by n old)) → IfNone reads ((new ≡ old) × fault) → IfSome reads served →
    IsServed served fault old new
served_as (Some n) old new number failed told = inl (n, number.0, number.1, told)
served_as None old new number failed told = inr failed

-- after a round's wait and reads the service was told, or a fault was reported
pub attended : {served : ℕ → Type 0} {fault : Type 0} (reads : Option ℕ) (old new : ℕ) →
    IfNone reads ((new ≡ old) × fault) → IfSome reads served → IsAttended served fault
attended (Some n) old new failed told = inl (n, told)
attended None old new failed told = inr failed.1
