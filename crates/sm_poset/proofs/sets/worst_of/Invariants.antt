use Rattle.std.proofs.Common.{◌≡◌, ℕ, ◌<◌, ◌≤◌, ◌⊎◌, length}
use Rattle.sm_theory.specs.ClosedSets.{IsMember}
use Rattle.sm_poset.specs.Moves.{rotation_of, place_to}
use Rattle.sm_poset.proofs.sets.worst_of.Given as goal

abbrev pub invariant-loop-rotation : goal.invariant-loop-rotation
invariant-loop-rotation l = record {
  first_no_worse : l.first ≤ l.worst;
  none_worse : (a : ℕ) → a < l.rotation-index → IsMember l.members (rotation_of l.moves a) → place_to l.moves a ≤ l.worst;
  attained : (l.worst ≡ l.first) ⊎ ((a : ℕ) × (a < length l.moves) × IsMember l.members (rotation_of l.moves a) × (place_to l.moves a ≡ l.worst));
}
