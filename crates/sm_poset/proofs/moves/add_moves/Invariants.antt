use Rattle.std.proofs.Common.{◌≡◌, ℕ, ◌<◌, slice_index}
use Rattle.sm_market.specs.Lists.{place_of}
use Rattle.sm_theory.specs.Rotations.{proposer_at, target_at}
use Rattle.sm_poset.specs.Kept.{AreMovesAfter, ArePlacesOf}
use Rattle.sm_poset.specs.Moves.{moves_at, moves_in}
use Rattle.sm_poset.proofs.moves.add_moves.Given as goal

abbrev pub invariant-loop-i : goal.invariant-loop-i
invariant-loop-i l = record {
  places : ArePlacesOf l.market l.at;
  there : (j : ℕ) → j < l.i → slice_index l.at (proposer_at l.rotation j) ≡ place_of l.market.proposers (proposer_at l.rotation j) (target_at l.rotation j);
  moved : (q : ℕ) → AreMovesAfter l.market l.k l.rotation l.i q (moves_at (moves_in l.initial.moves) q) (moves_at (moves_in l.moves) q);
}
