use Rattle.std.proofs.Common.{ℕ, zero, suc, ◌<◌, [], ◌∷◌, arith, refl, length, slice_index}
use Rattle.sm_market.specs.Lists.{row}
use Rattle.sm_market.specs.Matching.{standing}
use Rattle.sm_theory.specs.Rotations.{WouldTake}
use Rattle.sm_theory.specs.Chains.{stage}
use Rattle.sm_theory.specs.Witnesses.{passed_seat, passed_seat_first, passed_seat_chain}
use Rattle.sm_successors.proofs.witnesses.seat_is_passed.Goals as goal

-- at place 1 of the list of each of four proposers, and at no other
at_first : (p i : ℕ) → standing passed_seat.proposers passed_seat_first.proposers p < i → i < length (row passed_seat.proposers p) → i < slice_index (1 ∷ 1 ∷ 1 ∷ 1 ∷ []) p → ¬ WouldTake passed_seat passed_seat_first p i
at_first zero i a on b w = omega (arith, a, b)
at_first (suc zero) i a on b w = omega (arith, a, b)
at_first (suc (suc zero)) i a on b w = omega (arith, a, b)
at_first (suc (suc (suc zero))) i a on b w = omega (arith, a, b)
at_first (suc (suc (suc (suc p)))) i a on b w = omega (arith, a, b)

then : (p i : ℕ) → standing passed_seat.proposers (stage passed_seat passed_seat_first passed_seat_chain 1).proposers p < i → i < length (row passed_seat.proposers p) → i < slice_index (1 ∷ 1 ∷ 2 ∷ 1 ∷ []) p
    → ¬ WouldTake passed_seat (stage passed_seat passed_seat_first passed_seat_chain 1) p i
then zero i a on b w = omega (arith, a, b)
then (suc zero) i a on b w = omega (arith, a, b)
then (suc (suc zero)) zero a on b w = omega (arith, a)
then (suc (suc zero)) (suc zero) a on b w = omega (arith, w)
then (suc (suc zero)) (suc (suc i)) a on b w = omega (arith, b)
then (suc (suc (suc zero))) i a on b w = omega (arith, a, b)
then (suc (suc (suc (suc p)))) i a on b w = omega (arith, a, b)

pub returns : goal.returns
returns c = (
  record { one_each = refl; passed = at_first },
  (λ w. w.passed 2 1 (omega arith) (omega arith) (omega arith) (omega arith)),
  record { one_each = refl; passed = then },
)
