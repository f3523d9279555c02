-- The markets of specs/Witnesses.antt.
use Rattle.std.proofs.Common.{◌≡◌, ℕ, zero, suc, ◌<◌, ◌≤◌, arith, refl, sym, ◌∙◌, slice_index_or, [], ◌∷◌, true, false, inr}
use Rattle.sm_market.specs.Lists.{IsMarket}
use Rattle.sm_market.specs.Matching.{Places}
use Rattle.sm_market.proofs.CheckLemmas.{stable_from_test}
use Rattle.sm_theory.specs.Rotations.{IsSuccessor, IsExposed, proposer_at}
use Rattle.sm_theory.specs.Chains.{rotation_at, stage, IsCompleteChain, MakesItPass, IsNeededBy}
use Rattle.sm_theory.specs.ClosedSets.{IsMember}
use Rattle.sm_theory.specs.Witnesses.{three_cycle, three_cycle_first, three_cycle_chain, ThreeCycle, passed_seat, passed_seat_first, passed_seat_chain, PassedSeat, left_over, left_over_first, left_over_chain, left_over_last, LeftOver}
use Rattle.sm_theory.proofs.Chains.Rotations.{nothing_exposed, predecessor_is_earlier, printed_of}
use Rattle.sm_theory.proofs.Tests.Pairs.{market_pass, matching_pass, firsts_best, exposed_pass, none_pass, firsts_or_none_best}

-- a number below 2
pub below_two : (P : ℕ → Type 0) → P 0 → P 1 → (i : ℕ) → i < 2 → P i
below_two P a b zero h = a
below_two P a b (suc zero) h = b
below_two P a b (suc (suc i)) h = absurd (omega arith)

-- and one below 1
below_one : (P : ℕ → Type 0) → P 0 → (i : ℕ) → i < 1 → P i
below_one P a zero h = a
below_one P a (suc i) h = absurd (omega arith)

three_cycle_complete : IsCompleteChain three_cycle three_cycle_first three_cycle_chain
three_cycle_complete = record {
  from_best = firsts_best three_cycle three_cycle_first (matching_pass three_cycle three_cycle_first refl) refl;
  exposed = below_two (λ k. IsExposed three_cycle (stage three_cycle three_cycle_first three_cycle_chain k) (rotation_at three_cycle_chain k))
      (exposed_pass three_cycle three_cycle_first (rotation_at three_cycle_chain 0) refl)
      (exposed_pass three_cycle (stage three_cycle three_cycle_first three_cycle_chain 1) (rotation_at three_cycle_chain 1) refl);
  complete = none_pass three_cycle (stage three_cycle three_cycle_first three_cycle_chain 2) refl;
}

-- what is said of the market of three proposers holds
pub three_cycle_is : ThreeCycle
three_cycle_is = (
  market_pass three_cycle refl,
  printed_of three_cycle_complete (below_two _ (λ other x i h. omega arith) (λ other x i h. omega arith)),
  record { pair = 0; pair_in = omega arith; other = 0; other_in = omega arith; same_proposer = refl; same_reviewer = refl },
  (nothing_exposed three_cycle last (market_pass three_cycle refl) (stable_from_test three_cycle last (matching_pass three_cycle last refl) refl) (none_pass three_cycle last refl)).0,
  (refl, refl, refl),
)
  where
    last : Places
    last = stage three_cycle three_cycle_first three_cycle_chain 2

-- the other market
passed_seat_complete : IsCompleteChain passed_seat passed_seat_first passed_seat_chain
passed_seat_complete = record {
  from_best = firsts_best passed_seat passed_seat_first (matching_pass passed_seat passed_seat_first refl) refl;
  exposed = below_two (λ k. IsExposed passed_seat (stage passed_seat passed_seat_first passed_seat_chain k) (rotation_at passed_seat_chain k))
      (exposed_pass passed_seat passed_seat_first (rotation_at passed_seat_chain 0) refl)
      (exposed_pass passed_seat (stage passed_seat passed_seat_first passed_seat_chain 1) (rotation_at passed_seat_chain 1) refl);
  complete = none_pass passed_seat (stage passed_seat passed_seat_first passed_seat_chain 2) refl;
}

-- proposers 0 and 1 have the last on their lists once the first rotation is eliminated
settled : (p i : ℕ) → IsSuccessor passed_seat (stage passed_seat passed_seat_first passed_seat_chain 1) p i → 2 ≤ p
settled zero i w = absurd (omega (arith, w.on_list, w.behind))
settled (suc zero) i w = absurd (omega (arith, w.on_list, w.behind))
settled (suc (suc p)) i w = omega arith

market : IsMarket passed_seat
market = market_pass passed_seat refl

false_true : false ≡ true → ⊥
false_true e = grind arith

apart : (i j : ℕ) → i < 2 → j < 2 → proposer_at (rotation_at passed_seat_chain 0) i ≡ proposer_at (rotation_at passed_seat_chain 1) j → ⊥
apart i j a b e = omega (arith, low i a, high j b, e)
  where
    low : (i : ℕ) → i < 2 → proposer_at (rotation_at passed_seat_chain 0) i < 2
    low = below_two (λ i. proposer_at (rotation_at passed_seat_chain 0) i < 2) (omega arith) (omega arith)

    high : (j : ℕ) → j < 2 → 2 ≤ proposer_at (rotation_at passed_seat_chain 1) j
    high = below_two (λ j. 2 ≤ proposer_at (rotation_at passed_seat_chain 1) j) (omega arith) (omega arith)

second_needs_first : MakesItPass passed_seat (rotation_at passed_seat_chain 0) (rotation_at passed_seat_chain 1)
second_needs_first = record { pair = 1; pair_in = omega arith; other = 0; other_in = omega arith; behind = omega arith; before = omega arith; gains = omega arith; loses = omega arith }

-- what is said of the market with the reviewer that is passed holds
pub passed_seat_is : PassedSeat
passed_seat_is = (
  market,
  printed_of passed_seat_complete (below_two _ (λ other x i h. omega arith) (λ other x i h. settled _ _ (x.next i h))),
  second_needs_first,
  (λ w. apart w.pair w.other w.pair_in w.other_in w.same_proposer),
  record { one_each = refl; closed = λ i j a b member need. absurd (false_true (sym (below_two (λ j. slice_index_or (false ∷ false ∷ []) j false ≡ false) refl refl j b) ∙ member)) },
  record { one_each = refl; closed = λ i j a b member need. first_alone i j a b member need },
  record { one_each = refl; closed = λ i j a b member need. below_two (λ i. IsMember (true ∷ true ∷ []) i) refl refl i a },
  (λ c. false_true (c.closed 0 1 (omega arith) (omega arith) refl (inr second_needs_first))),
)
  where
    first_alone : (i j : ℕ) → i < 2 → j < 2 → IsMember (true ∷ false ∷ []) j → IsNeededBy passed_seat (rotation_at passed_seat_chain i) (rotation_at passed_seat_chain j) → IsMember (true ∷ false ∷ []) i
    first_alone i zero a b member need = absurd (omega (arith, predecessor_is_earlier passed_seat passed_seat_first passed_seat_chain i 0 market passed_seat_complete a b need))
    first_alone i (suc zero) a b member need = absurd (false_true member)
    first_alone i (suc (suc j)) a b member need = absurd (omega arith)

-- the market with unmatched agents
left_over_market : IsMarket left_over
left_over_market = market_pass left_over refl

left_over_complete : IsCompleteChain left_over left_over_first left_over_chain
left_over_complete = record {
  from_best = firsts_or_none_best left_over left_over_first left_over_market (stable_from_test left_over left_over_first (matching_pass left_over left_over_first refl) refl) refl;
  exposed = below_one (λ k. IsExposed left_over (stage left_over left_over_first left_over_chain k) (rotation_at left_over_chain k)) (exposed_pass left_over left_over_first (rotation_at left_over_chain 0) refl);
  complete = none_pass left_over left_over_last refl;
}

-- what is said of the market with unmatched agents holds
pub left_over_is : LeftOver
left_over_is = (
  left_over_market,
  printed_of left_over_complete (below_one _ (λ other x i h. omega arith)),
  refl,
  (nothing_exposed left_over left_over_last left_over_market (stable_from_test left_over left_over_last (matching_pass left_over left_over_last refl) refl) (none_pass left_over left_over_last refl)).0,
  record { outside = false_true; prepared = λ i a need. absurd (omega (arith, predecessor_is_earlier left_over left_over_first left_over_chain i 0 left_over_market left_over_complete a (omega arith) need)) },
)
