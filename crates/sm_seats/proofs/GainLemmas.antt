-- The gain of a rotation by what its pairs weigh is its gain by the weights of the places.
use Rattle.std.proofs.Common.{◌≡◌, ℕ, ◌<◌, List, [], length, get_or, Option, Some, ℤ, pos, ◌-ℤ◌, inl, inr, sym, ap, ◌∙◌, true}
use Rattle.std.proofs.lemmas.List.{get_or_past}
use Rattle.sm_lists.proofs.Counting.{lt_or_le}
use Rattle.sm_lists.proofs.RowLemmas.{row_in_range}
use Rattle.sm_agents.specs.Written.{Written}
use Rattle.sm_agents.specs.declared.kinds.Measure.{Measure}
use Rattle.sm_instance.specs.Ranks.{pair_second}
use Rattle.sm_market.specs.Lists.{Lists, row, place_of}
use Rattle.sm_market.specs.Matching.{Places, IsMatching}
use Rattle.sm_theory.specs.Rotations.{proposer_at, reviewer_at, target_at, IsExposed}
use Rattle.sm_theory.specs.Chains.{rotation_at}
use Rattle.sm_theory.specs.Weights.{weight_at, gain_of}
use Rattle.sm_theory.proofs.Weighing.Totals.{total_same}
use Rattle.sm_seats.specs.Seating.{Seating}
use Rattle.sm_seats.specs.Correspondence.{weights_by}
use Rattle.sm_seats.specs.Levels.{has_two_levels, seconds_by}
use Rattle.sm_seats.specs.ShownNet.{seat_weight, gain_by}
use Rattle.sm_seats.proofs.SeatingLemmas.{at_place_is, written_place-place_of}
use Rattle.sm_seats.proofs.PlaceLemmas.{weights_at}
use Rattle.sm_seats.proofs.LevelLemmas.{in_two_levels}

-- the pairs of a rotation before and after it are on the lists
pub record IsOnLists (l : Lists) (rotation : List (ℕ × ℕ)) : Type 0 where
  pub before : (i : ℕ) → i < length rotation → place_of l.proposers (proposer_at rotation i) (reviewer_at rotation i) < length (row l.proposers (proposer_at rotation i))
  pub after : (i : ℕ) → i < length rotation → place_of l.proposers (proposer_at rotation i) (target_at rotation i) < length (row l.proposers (proposer_at rotation i))

-- so it is where it is exposed at a matching
pub exposed_on_lists : {l : Lists} {m : Places} {rotation : List (ℕ × ℕ)} → IsMatching l m → IsExposed l m rotation → IsOnLists l rotation
exposed_on_lists {l} {m} {rotation} f x = record {
  before = λ i less. f.proposers.on_list (proposer_at rotation i) _ (x.paired i less);
  after = λ i less. (x.next i less).on_list;
}

module _ (weigh : ℕ → Option ℕ → ℤ) (s : Seating) where
  -- what a pair weighs stands at the place of its seat
  seat_weight_is : (p seat : ℕ) → place_of s.market.proposers p seat < length (row s.market.proposers p) → seat_weight weigh s p seat ≡ weight_at (weights_by weigh s) p (place_of s.market.proposers p seat)
  seat_weight_is p seat on =
      ap (λ i. weigh p (Some i)) (sym (written_place-place_of s p seat on))
      ∙ sym (at_place_is s (λ p i. weigh p (Some i)) (pos 0) p (place_of s.market.proposers p seat) on)
      ∙ sym (ap (λ (list : List ℤ). get_or list (place_of s.market.proposers p seat) (pos 0)) (weights_at weigh s p (row_in_range s.market.proposers p _ on)))

  -- so both gains of a rotation are the same
  pub gain_is : (rotation : List (ℕ × ℕ)) → IsOnLists s.market rotation → gain_by weigh s rotation ≡ gain_of s.market (weights_by weigh s) rotation
  gain_is rotation on = total_same (length rotation) _ _ (λ i less.
      let p = proposer_at rotation i in
      let after = seat_weight_is p (target_at rotation i) (on.after i less) in
      let before = seat_weight_is p (reviewer_at rotation i) (on.before i less) in
      (λ t. after t -ℤ before t))

  -- and those of each rotation of a chain; there is nothing to gain past the last one
  pub gain_at_is : (rotations : List (List (ℕ × ℕ))) → ((k : ℕ) → k < length rotations → IsOnLists s.market (rotation_at rotations k))
      → (k : ℕ) → gain_by weigh s (rotation_at rotations k) ≡ gain_of s.market (weights_by weigh s) (rotation_at rotations k)
  gain_at_is rotations on k = elim (lt_or_le k (length rotations)) [
    | inl less ↦ gain_is (rotation_at rotations k) (on k less)
    | inr past ↦
        let none : rotation_at rotations k ≡ [] = get_or_past rotations k [] past in
        ap (gain_by weigh s) none ∙ sym (ap (gain_of s.market (weights_by weigh s)) none)
  ]

-- in two levels the gains by the second weights of the pairs are those by the second weights of the places
pub second_gain_at_is : (by : Measure) (w : Written) (s : Seating) → has_two_levels by w ≡ true → (rotations : List (List (ℕ × ℕ))) → ((k : ℕ) → k < length rotations → IsOnLists s.market (rotation_at rotations k))
    → (k : ℕ) → gain_by (pair_second w) s (rotation_at rotations k) ≡ gain_of s.market (seconds_by by w s) (rotation_at rotations k)
second_gain_at_is by w s two rotations on k =
    gain_at_is (pair_second w) s rotations on k
    ∙ ap (λ (weights : List (List ℤ)). gain_of s.market weights (rotation_at rotations k)) (in_two_levels by w s two)
