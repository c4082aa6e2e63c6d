use Rattle.std.proofs.Common.{◌≡◌, ◌≤◌, take, count_by}
use Rattle.srt_route.specs.Tables.{is_of_sort}
use Rattle.srt_route.proofs.seat.count.Given as goal

-- the seats below `at` are counted
abbrev pub invariant-loop-at : goal.invariant-loop-at
invariant-loop-at l = record {
  counted : l.count ≡ count_by (is_of_sort l.sort) (take l.at l.seats);
  few : l.count ≤ l.at;
}
