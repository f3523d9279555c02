use Rattle.std.proofs.Common.{◌≡◌, ℕ, ◌<◌, length}
use Rattle.sm_check_net.specs.Moves.{move_at, IsMoveOf, IsOnList}
use Rattle.sm_check_net.proofs.moves.moves_of.Given as goal

abbrev pub invariant-loop-i : goal.invariant-loop-i
invariant-loop-i l = record {
  one_each : length l.moves.items ≡ l.i;
  on_lists : (j : ℕ) → j < l.i → IsOnList l.market (move_at l.moves.items j);
  each : (j : ℕ) → j < l.i → IsMoveOf l.market l.pairs j (move_at l.moves.items j);
}
