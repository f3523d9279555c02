-- The moves of a rotation, on the lists, and its gain by them.
use Rattle.std.proofs.Common.{◌≡◌, ℕ, ◌<◌, arith, ap, ◌∙◌, List, length, ℤ, ◌-ℤ◌}
use Rattle.sm_market.specs.Lists.{Lists}
use Rattle.sm_theory.specs.Weights.{total, weight_at, gain_of}
use Rattle.sm_theory.proofs.Weighing.Totals.{total_same}
use Rattle.sm_market.specs.Matching.{Places, IsMatching}
use Rattle.sm_market.proofs.PairingLemmas.{held_in_range}
use Rattle.sm_theory.specs.Rotations.{proposer_at, IsExposed}
use Rattle.sm_check_net.specs.Laws.{MovesHaveWeights, MovesHaveLevels}
use Rattle.sm_check_net.specs.declared.moves.Move.{Move}
use Rattle.sm_check_net.specs.Moves.{move_at, move_gain, moves_gain, IsMoveOf, IsOnList, AreRotationMoves}

-- the sum over the moves is the gain
pub moves_gain-gain_of : {l : Lists} {rotation : List (ℕ × ℕ)} {moves : List Move} (weights : List (List ℤ)) → AreRotationMoves l rotation moves → moves_gain weights moves ≡ gain_of l weights rotation
moves_gain-gain_of {l} {rotation} {moves} weights m =
    ap (total (λ i. move_gain weights (move_at moves i))) m.one_each
    ∙ total_same (length rotation) _ _ (λ i less. let one = m.each i less in (λ t. weight_at weights (one.proposer t) (one.to t) -ℤ weight_at weights (one.proposer t) (one.from t)))

-- a move of an exposed rotation leads from a place of a list to one of it
pub on_list : {l : Lists} {m : Places} {rotation : List (ℕ × ℕ)} {step : Move} (i : ℕ) → IsMatching l m → IsExposed l m rotation → i < length rotation → IsMoveOf l rotation i step → IsOnList l step
on_list {l} {m} {rotation} {step} i h x less is = record {
  proposer = omega (arith, is.proposer, held_in_range h.proposers (proposer_at rotation i) _ (x.paired i less));
  from = rw (is.proposer, is.from) (h.proposers.on_list (proposer_at rotation i) _ (x.paired i less));
  to = rw (is.proposer, is.to) (x.next i less).on_list;
}

-- where there are weights and levels for all places, moves on the lists have them
pub moves_have_weights : MovesHaveWeights
moves_have_weights l weights moves w on = record {
  proposers = λ i less. omega (arith, w.one_each, (on i less).proposer);
  from = λ i less. omega (arith, w.per_place _ (on i less).proposer, (on i less).from);
  to = λ i less. omega (arith, w.per_place _ (on i less).proposer, (on i less).to);
}

-- and so with levels
pub moves_have_levels : MovesHaveLevels
moves_have_levels l levels moves w on = record {
  proposers = λ i less. omega (arith, w.one_each, (on i less).proposer);
  from = λ i less. omega (arith, w.per_place _ (on i less).proposer, (on i less).from);
  to = λ i less. omega (arith, w.per_place _ (on i less).proposer, (on i less).to);
}
