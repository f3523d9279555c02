use Rattle.std.proofs.Common.{◌≡◌, ℕ, ◌<◌, ◌+◌, length, slice_index}
use Rattle.sm_board.specs.Board.{leave, stay_level}
use Rattle.sm_board.proofs.course.mark_changes.Given as goal

abbrev pub invariant-loop-a : goal.invariant-loop-a
invariant-loop-a l = record {
  first_each : length l.first ≡ length l.initial.first;
  marked : (c : ℕ) → c + 1 < l.a → stay_level l.board l.p c < stay_level l.board l.p (c + 1) → slice_index l.first (leave l.board l.p c) ≡ l.number;
  others : (x : ℕ) → ((c : ℕ) → c + 1 < l.a → leave l.board l.p c ≡ x → ¬ (stay_level l.board l.p c < stay_level l.board l.p (c + 1))) → slice_index l.first x ≡ slice_index l.initial.first x;
}
