-- The markets of specs/Witnesses.antt.
use Rattle.std.proofs.Common.{◌≡◌, ℕ, zero, suc, ◌<◌, ◌≤◌, inl, inr, arith, refl, List, [], ◌∷◌}
use Rattle.sm_market.specs.Lists.{place_of}
use Rattle.sm_theory.specs.Rotations.{IsSuccessor, IsExposed, proposer_at, reviewer_at, target_at}
use Rattle.sm_theory.specs.Chains.{rotation_at, stage, IsCompleteChain, IsNeededBy}
use Rattle.sm_theory.specs.Net.{IsPath}
use Rattle.sm_theory.specs.WitnessesListing.{two_pairs, two_pairs_chain}
use Rattle.sm_theory.proofs.Chains.Rotations.{printed_of}
use Rattle.sm_theory.proofs.Tests.Pairs.{market_pass, matching_pass, firsts_best, exposed_pass, none_pass}
use Rattle.sm_theory.proofs.Tests.Markets.{below_two, passed_seat_is}
use Rattle.sm_theory.proofs.Vectors.Witness.{none_needed}
use Rattle.sm_law_order.specs.Order.{IsPredecessor}
use Rattle.sm_law_order.specs.Witnesses.{in_a_row, in_a_row_first, in_a_row_chain, InARow, OverASeat, Apart}

-- a number below 3
below_three : (P : ℕ → Type 0) → P 0 → P 1 → P 2 → (i : ℕ) → i < 3 → P i
below_three P a b c zero h = a
below_three P a b c (suc zero) h = b
below_three P a b c (suc (suc zero)) h = c
below_three P a b c (suc (suc (suc i))) h = absurd (omega arith)

complete : IsCompleteChain in_a_row in_a_row_first in_a_row_chain
complete = record {
  from_best = firsts_best in_a_row in_a_row_first (matching_pass in_a_row in_a_row_first refl) refl;
  exposed = below_three (λ k. IsExposed in_a_row (stage in_a_row in_a_row_first in_a_row_chain k) (rotation_at in_a_row_chain k))
      (exposed_pass in_a_row in_a_row_first (rotation_at in_a_row_chain 0) refl)
      (exposed_pass in_a_row (stage in_a_row in_a_row_first in_a_row_chain 1) (rotation_at in_a_row_chain 1) refl)
      (exposed_pass in_a_row (stage in_a_row in_a_row_first in_a_row_chain 2) (rotation_at in_a_row_chain 2) refl);
  complete = none_pass in_a_row (stage in_a_row in_a_row_first in_a_row_chain 3) refl;
}

-- who has the last on its list once one rotation is eliminated, and once two are
settled_one : (p i : ℕ) → IsSuccessor in_a_row (stage in_a_row in_a_row_first in_a_row_chain 1) p i → 1 ≤ p
settled_one zero i w = absurd (omega (arith, w.on_list, w.behind))
settled_one (suc p) i w = omega arith

settled_two : (p i : ℕ) → IsSuccessor in_a_row (stage in_a_row in_a_row_first in_a_row_chain 2) p i → 2 ≤ p
settled_two zero i w = absurd (omega (arith, w.on_list, w.behind))
settled_two (suc zero) i w = absurd (omega (arith, w.on_list, w.behind))
settled_two (suc (suc p)) i w = omega arith

first_needed : IsPredecessor in_a_row in_a_row_chain 0 1
first_needed = record { early_in = omega arith; late_in = omega arith; needed = inl (record { pair = 1; pair_in = omega arith; other = 0; other_in = omega arith; same_proposer = refl; same_reviewer = refl }) }

second_needed : IsPredecessor in_a_row in_a_row_chain 1 2
second_needed = record { early_in = omega arith; late_in = omega arith; needed = inl (record { pair = 1; pair_in = omega arith; other = 0; other_in = omega arith; same_proposer = refl; same_reviewer = refl }) }

-- the first moves other proposers than the third, which passes nobody over
none_shared : (i j : ℕ) → i < 2 → j < 2 → proposer_at (rotation_at in_a_row_chain 0) i ≡ proposer_at (rotation_at in_a_row_chain 2) j → ⊥
none_shared i j a b e = omega (arith, low i a, high j b, e)
  where
    low : (i : ℕ) → i < 2 → proposer_at (rotation_at in_a_row_chain 0) i < 2
    low = below_two (λ i. proposer_at (rotation_at in_a_row_chain 0) i < 2) (omega arith) (omega arith)

    high : (j : ℕ) → j < 2 → 2 ≤ proposer_at (rotation_at in_a_row_chain 2) j
    high = below_two (λ j. 2 ≤ proposer_at (rotation_at in_a_row_chain 2) j) (omega arith) (omega arith)

none_between : (x j : ℕ) → j < 2
    → place_of in_a_row.proposers (proposer_at (rotation_at in_a_row_chain 2) j) (reviewer_at (rotation_at in_a_row_chain 2) j) < x
    → x < place_of in_a_row.proposers (proposer_at (rotation_at in_a_row_chain 2) j) (target_at (rotation_at in_a_row_chain 2) j) → ⊥
none_between x = below_two _ (λ a b. omega (arith, a, b)) (λ a b. omega (arith, a, b))

not_needed : IsNeededBy in_a_row (rotation_at in_a_row_chain 0) (rotation_at in_a_row_chain 2) → ⊥
not_needed (inl w) = none_shared w.pair w.other w.pair_in w.other_in w.same_proposer
not_needed (inr w) = none_between (place_of in_a_row.proposers (proposer_at (rotation_at in_a_row_chain 2) w.other) (target_at (rotation_at in_a_row_chain 0) w.pair)) w.other w.other_in w.behind w.before

-- what is said of the market with three rotations holds
pub in_a_row_is : InARow
in_a_row_is = (
  market_pass in_a_row refl,
  printed_of complete (below_three _ (λ other x i h. omega arith) (λ other x i h. settled_one _ _ (x.next i h)) (λ other x i h. settled_two _ _ (x.next i h))),
  first_needed,
  second_needed,
  (λ w. not_needed w.needed),
  record { path = 1 ∷ 2 ∷ []; is = (first_needed, (second_needed, refl)) },
)

-- what is said of the market with a reviewer that is passed holds
pub over_a_seat_is : OverASeat
over_a_seat_is = (record { path = 1 ∷ []; is = (record { early_in = omega arith; late_in = omega arith; needed = inr passed_seat_is.2 }, refl) }, passed_seat_is.3)

-- a path between different rotations has a first step
no_path : (i j : ℕ) → (i ≡ j → ⊥) → (path : List ℕ) → IsPath (IsPredecessor two_pairs two_pairs_chain) i path j → ⊥
no_path i j apart [] w = apart w
no_path i j apart (k ∷ path) w = none_needed i k w.0.early_in w.0.late_in w.0.needed

-- what is said of the market with two rotations holds
pub apart_is : Apart
apart_is = (λ w. no_path 0 1 (λ e. omega arith) w.path w.is, λ w. no_path 1 0 (λ e. omega arith) w.path w.is)
