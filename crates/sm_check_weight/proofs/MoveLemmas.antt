-- The moves of the rotations of a chain, on the tables of an instance.
use Rattle.std.proofs.Common.{ℕ, ◌<◌, ◌^◌, arith, sym, ◌∙◌, List, length, ℤ}
use Rattle.sm_agents.specs.Written.{Written}
use Rattle.sm_theory.specs.Sizes.{AreWeights}
use Rattle.sm_seats.specs.SeatMarket.{seat_market}
use Rattle.sm_seats.proofs.MarketLaws.{length-proposers}
use Rattle.sm_check_net.specs.declared.moves.Move.{Move}
use Rattle.sm_check_net.specs.Moves.{move_at, row_of_moves}
use Rattle.sm_check_net.proofs.MoveLemmas.{moves_have_weights}
use Rattle.sm_lists.proofs.Counting.{one_to_one-le}
use Rattle.sm_check_clauses.specs.Walks.{AreChainMoves}
use Rattle.sm_check_weight.specs.Gains.{CanBeWeighed}

-- a rotation has no more pairs than there are proposers
pub can_be_weighed : (w : Written) {rotations : List (List (ℕ × ℕ))} {rows : List (List Move)} (weights : List (List ℤ)) → AreWeights (seat_market w) weights → length w.proposers < 2 ^ 24 → AreChainMoves (seat_market w) rotations rows
    → CanBeWeighed weights rows
can_be_weighed w {rotations} {rows} weights are many moves = record {
  small = are.small;
  have = λ k less. moves_have_weights (seat_market w) weights (row_of_moves rows k) are (moves.on_lists k);
  few = λ k less.
      let is = moves.moves.each k (omega (arith, less, moves.moves.one_each)) in
      let one = one_to_one-le (length (row_of_moves rows k)) (length w.proposers) (λ i. (move_at (row_of_moves rows k) i).proposer)
      (λ i on. let there = (moves.on_lists k i on).proposer in omega (arith, there, length-proposers w))
      (λ i j less on same. is.distinct i j less (omega (arith, on, is.one_each)) (sym (is.each i (omega (arith, less, on, is.one_each))).proposer ∙ same ∙ (is.each j (omega (arith, on, is.one_each))).proposer)) in
      omega (arith, one, many);
}
