-- What a run did, watched or not.
use Rattle.std.specs.Prelude.{List, Result, IfOk}
use Rattle.srt_types.specs.declared.shared.Schedule.{Schedule}
use Rattle.srt_types.specs.Terms.{Terms}
use Rattle.srt_supervision.specs.Answers.{Answer, AllClose}
use Rattle.srt_poller.specs.History.{Sorting}
use Rattle.srt_serve.specs.declared.running.RunFault.{RunFault}
use Rattle.srt_serve.specs.declared.running.Watched.{Watched}
use Rattle.srt_serve.specs.Ran.{RanChanging, RanUnder, Recorded}

module _ {K T : Type 0} where
  -- if it succeeded, it did what a run does that is watched, if `watched` is known, and else what one does that isn't. The devices had recorded `old`
  -- before it, and `new` after it, with the ticker that it returned
  abbrev pub Did : (watched : Type 0) → (answered : Answer → Type 0) → Sorting → List Schedule → List Terms → (old : Recorded) → (new : K → Recorded)
      → Result (Watched K T) RunFault → Type 0
  Did watched answered class schedules entries old new result =
      ((watched → ⊥) → IfOk result (λ r. RanUnder (answered AllClose) class schedules entries r.rounds old (new r.ticker) r.report r.accounts.items))
      × (watched → IfOk result (λ r. RanChanging answered class schedules entries r.rounds old (new r.ticker) r.report r.accounts.items))
