use Rattle.std.proofs.Common.{◌≡◌, ℕ, ◌+◌, ◌-◌, ◌≤◌, ◌++◌, Bool, length, take, map}
use Rattle.std.specs.Prelude.{filter}
use Rattle.srt_types.specs.Window.{word_of, number_word}
use Rattle.srt_types.specs.Runs.{runs, numbers_from}
use Rattle.srt_recvbuf.specs.Cells.{cell_at, cell_is_missing}
use Rattle.srt_recvbuf.specs.Stands.{run_words, words_of}
use Rattle.srt_recvbuf.proofs.buffer.RecvBuf.runs_at.Given as goal

abbrev pub invariant-loop : goal.invariant-loop
invariant-loop l = record {
  inside : l.at ≤ l.self.end;
  many : length l.runs.items ≡ l.counter;
  so_far : (initial front : ℕ) (test : ℕ → Bool) → word_of l.self.front ≡ number_word initial front
      → ((d : ℕ) → test (front + d) ≡ cell_is_missing (cell_at l.self.window d))
      → words_of l.runs.items
      ++ map (run_words initial) (take (32 - l.counter) (runs (filter test (numbers_from (front + l.at) (l.self.end - l.at)))))
      ≡ map (run_words initial) (take 32 (runs (filter test (numbers_from (front + l.fn.from) (l.self.end - l.fn.from)))));
}
