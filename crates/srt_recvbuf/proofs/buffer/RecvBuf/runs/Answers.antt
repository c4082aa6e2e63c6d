use Rattle.std.proofs.Common.{◌≡◌, ◌+◌, ap, sym, ◌∙◌, map, take, min}
use Rattle.srt_types.specs.Window.{word_of, counted_from, in_window}
use Rattle.srt_types.specs.Runs.{runs}
use Rattle.srt_recvbuf.specs.Receiving.{is_missing, end_of, runs_from}
use Rattle.srt_recvbuf.specs.Stands.{run_words, words_of}
use Rattle.srt_recvbuf.proofs.Buffers.{own_none, own_some, cell_missing}
use Rattle.srt_recvbuf.proofs.Runs.{from_point}
use Rattle.srt_recvbuf.proofs.buffer.RecvBuf.runs.Goals as goal

pub returns-in-Some : goal.returns-in-Some
returns-in-Some c width initial origin r h =
    let s = c.args.self.now in
    let w : c.width.result + 1 ≡ width + 1 = ap (λ x. x + 1) (c.width.ensures.value ∙ h.0) in
    let o = own_some initial r.front (c.width.result + 1) (word_of c.args.from) (word_of s.front) c.in-Some.offset h.1.front_is c.in-Some.ensures.value in
    let e = ap (λ x. in_window (counted_from initial (word_of c.args.from)) r.front x) (sym w) ∙ o in
    let missing = cell_missing width initial origin _ _ _ _ r h.1 in
    let said = c.runs_at.ensures initial r.front (is_missing width r) h.1.front_is missing in
    let start = from_point (is_missing width r) r.front c.in-Some.offset c.min.result s.point s.end (end_of r.arrivals) h.1.end_is
    (c.min.ensures ∙ ap (λ x. min x s.end) c.max.ensures) (λ d lt. missing d ∙ h.1.not_missing d lt) in
    said ∙ sym (ap (λ x. map (run_words initial) (runs_from width x r)) e ∙ ap (λ x. map (run_words initial) (take 32 (runs x))) start)

pub returns-in-None : goal.returns-in-None
returns-in-None c width initial origin r h =
    let s = c.args.self.now in
    let w : c.width.result + 1 ≡ width + 1 = ap (λ x. x + 1) (c.width.ensures.value ∙ h.0) in
    let o = own_none initial r.front (c.width.result + 1) (word_of c.args.from) (word_of s.front) h.1.front_is c.in-None.ensures.value in
    let e = ap (λ x. in_window (counted_from initial (word_of c.args.from)) r.front x) (sym w) ∙ o in
    ap words_of c.new.ensures ∙ sym (ap (λ x. map (run_words initial) (runs_from width x r)) e)
