-- Notices of the watching thread to the polling one.
use Rattle.std.specs.Prelude.{◌≡◌, ◌<◌, ◌≤◌, ℕ, ◌+◌, ◌%◌, ◌^◌, Result, IfOk, IfErr, length}
use Rattle.srt_wakeups.specs.Marks.{routes_of}
use Rattle.srt_serve.specs.declared.arrivals.RouteNotices.{RouteNotices}
use Rattle.srt_serve.specs.declared.evidence.Marked.{Marked}
use Rattle.srt_serve.specs.declared.evidence.MarkedBefore.{MarkedBefore}
use Rattle.srt_serve.specs.declared.arrivals.CloseNotice.{CloseNotice}
use Rattle.srt_serve.specs.declared.arrivals.CloseNotice.TheVariants.{Left, Repeated, NoSuchRoute}
use Rattle.srt_serve.specs.declared.arrivals.NoneToClose.{NoneToClose}
use Rattle.srt_serve.specs.declared.arrivals.NoneToClose.TheVariants.{Unmarked, Wordless, Unstated}

-- the mark of this route was set, or had been
abbrev pub IsMarked : {S : Type 0} → (route : ℕ) → Result (Marked S) (MarkedBefore S) → Type 0
IsMarked route found = IfOk found (λ m. m.route ≡ route) × IfErr found (λ m. m.route ≡ route)

module _ {A : Type 0} where
  -- they have two marks and a word for each of this many routes
  pub record AreFor (routes : ℕ) (notices : RouteNotices A) : Type 0 where
    pub requested : routes_of notices.requested.marks ≡ routes
    pub closings : routes_of notices.closings.marks ≡ routes
    pub words : length notices.words.items ≡ routes

  -- at this look none was to close among this many routes; one that has no word is beyond those that have one
  abbrev pub HasNoneAt : RouteNotices A → (routes look : ℕ) → NoneToClose → Type 0
  HasNoneAt notices routes look (Unmarked none) = none.look ≡ look
  HasNoneAt notices routes look (Wordless index) = (index < routes) × (length notices.words.items ≤ index)
  HasNoneAt notices routes look (Unstated none) = none.look ≡ look

  -- what became of a request to close this route: its word states one more than its index, and its mark is set; or that was so before; or it has no word
  abbrev pub IsNoticed : RouteNotices A → (route : ℕ) → CloseNotice A → Type 0
  IsNoticed notices route (Left left) = (left.word.number ≡ (route + 1) % 2 ^ 64) × IsMarked route left.marked
  IsNoticed notices route (Repeated before) = before.route ≡ route
  IsNoticed notices route NoSuchRoute = length notices.words.items ≤ route
