use Rattle.std.proofs.Common.{◌^◌, ◌≡◌, ◌*◌, pos, neg_ℤ, ◌≤ℤ◌}
use Rattle.sm_theory.specs.Sizes.{weights_in}
use Rattle.sm_theory.specs.Weights.{total}
use Rattle.sm_check_net.specs.Moves.{move_at, move_gain}
use Rattle.sm_check_net.proofs.moves.gain.Given as goal

-- the gain so far, and how great its size can be
abbrev pub invariant-loop-i : goal.invariant-loop-i
invariant-loop-i l = record {
  gain : l.gain ≡ total (λ i. move_gain (weights_in l.weights) (move_at l.moves i)) l.i;
  below : neg_ℤ (pos (2 ^ 31 * l.i)) ≤ℤ l.gain;
  above : l.gain ≤ℤ pos (2 ^ 31 * l.i);
}
