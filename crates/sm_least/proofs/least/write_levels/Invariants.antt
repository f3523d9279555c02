use Rattle.std.proofs.Common.{◌≡◌, ℕ, ◌<◌, length, slice_index}
use Rattle.sm_board.specs.Board.{level}
use Rattle.sm_least.proofs.least.write_levels.Given as goal

abbrev pub invariant-loop-p : goal.invariant-loop-p
invariant-loop-p l = record {
  level_each : length l.into ≡ length l.initial.into;
  levels : (q : ℕ) → q < l.p → slice_index l.into q ≡ level l.board l.members q;
}
