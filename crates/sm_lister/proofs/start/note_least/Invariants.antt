use Rattle.std.proofs.Common.{◌≡◌, ℕ, ◌≤◌, ◌<◌, length, slice_index}
use Rattle.sm_lister.proofs.start.note_least.Given as goal

-- from position i on each has its least proposer, and the least of them all is the lowest
abbrev pub invariant-positions : goal.invariant-positions
invariant-positions l = record {
  least_each : length l.least ≡ length l.initial.least;
  within : l.i ≤ length l.course.board.leaves;
  bound : (j : ℕ) → l.i ≤ j → j < length l.course.order → l.lowest ≤ slice_index l.course.order j;
  least : (k j : ℕ) → l.i ≤ k → k ≤ j → j < length l.course.order → slice_index l.least k ≤ slice_index l.course.order j;
}

abbrev pub decreases-positions : goal.decreases-positions
decreases-positions l = l.i
