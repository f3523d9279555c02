-- The moves of three proposers who go round in a cycle.
use Rattle.std.proofs.Common.{◌≡◌, ◌≢◌, ℕ, zero, suc, ◌<◌, arith, refl}
use Rattle.sm_theory.specs.Rotations.{proposer_at}
use Rattle.sm_theory.specs.Chains.{rotation_at}
use Rattle.sm_theory.specs.Witnesses.{three_cycle, three_cycle_chain}
use Rattle.sm_theory.specs.FlowLines.{line_at}
use Rattle.sm_check_net.specs.Moves.{move_at, row_of_moves, IsMoveOf, AreRotationMoves, AreMovesByRotation}
use Rattle.sm_check_net.specs.Witnesses.{three_cycle_moves, four_lines, LastIsRepeated}

each_first : (i : ℕ) → i < 3 → IsMoveOf three_cycle (rotation_at three_cycle_chain 0) i (move_at (row_of_moves three_cycle_moves 0) i)
each_first zero less = record { proposer = refl; from = refl; to = refl }
each_first (suc zero) less = record { proposer = refl; from = refl; to = refl }
each_first (suc (suc zero)) less = record { proposer = refl; from = refl; to = refl }
each_first (suc (suc (suc i))) less = absurd (omega arith)

each_second : (i : ℕ) → i < 3 → IsMoveOf three_cycle (rotation_at three_cycle_chain 1) i (move_at (row_of_moves three_cycle_moves 1) i)
each_second zero less = record { proposer = refl; from = refl; to = refl }
each_second (suc zero) less = record { proposer = refl; from = refl; to = refl }
each_second (suc (suc zero)) less = record { proposer = refl; from = refl; to = refl }
each_second (suc (suc (suc i))) less = absurd (omega arith)

first_is : (i : ℕ) → i < 3 → proposer_at (rotation_at three_cycle_chain 0) i ≡ i
first_is zero less = refl
first_is (suc zero) less = refl
first_is (suc (suc zero)) less = refl
first_is (suc (suc (suc i))) less = absurd (omega arith)

second_is : (i : ℕ) → i < 3 → proposer_at (rotation_at three_cycle_chain 1) i ≡ i
second_is zero less = refl
second_is (suc zero) less = refl
second_is (suc (suc zero)) less = refl
second_is (suc (suc (suc i))) less = absurd (omega arith)

-- these are the moves of the rotations of that chain
pub moves_are : AreMovesByRotation three_cycle three_cycle_chain three_cycle_moves
moves_are = record { one_each = refl; each = each }
  where
    each : (k : ℕ) → k < 2 → AreRotationMoves three_cycle (rotation_at three_cycle_chain k) (row_of_moves three_cycle_moves k)
    each zero less = record { one_each = refl; each = each_first; distinct = λ i j before few e. omega (arith, e, first_is i (omega arith), first_is j few) }
    each (suc zero) less = record { one_each = refl; each = each_second; distinct = λ i j before few e. omega (arith, e, second_is i (omega arith), second_is j few) }
    each (suc (suc k)) less = absurd (omega arith)

-- the last of the four lines has the ends of an earlier one, and the second has not
pub last_is_repeated : LastIsRepeated
last_is_repeated = (record { at = 0; earlier = omega arith; same = (refl, refl) }, (λ w. other w.at w.earlier w.same.0))
  where
    other : (a : ℕ) → a < 1 → (line_at four_lines a).from ≢ 1
    other zero less = λ e. omega (arith, e)
    other (suc a) less = absurd (omega arith)
