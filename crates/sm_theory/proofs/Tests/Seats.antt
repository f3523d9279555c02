-- The market of specs/WitnessesSeats.antt.
use Rattle.std.proofs.Common.{◌≡◌, ℕ, zero, suc, ◌<◌, ◌||◌, arith, refl, sym, ap, ◌∙◌, inl, inr, Bool, not, eqb, eqb-true, eq-eqb, length, slice_index, [], ◌∷◌}
use Rattle.sm_market.specs.Lists.{row, entry}
use Rattle.sm_lists.proofs.Counting.{lt_or_le}
use Rattle.sm_market.proofs.CheckLemmas.{stable_from_test}
use Rattle.sm_theory.specs.WitnessesSeats.{seats, seats_levels, seats_turned, seats_exchanged, Seats}
use Rattle.sm_theory.proofs.Bridge.Places.{row_past}
use Rattle.sm_theory.proofs.Net.Tests.{or_parts}
use Rattle.sm_theory.proofs.Tests.Pairs.{all_below, passes, not_true, market_pass, matching_pass, levels_pass}

-- the first seat of a seat's hospital, which has the same list
abbrev first_seat : ℕ → ℕ
first_seat zero = 0
first_seat (suc zero) = 0
first_seat (suc (suc r)) = suc (suc r)

same_list : (r : ℕ) → row seats.reviewers r ≡ row seats.reviewers (first_seat r)
same_list zero = refl
same_list (suc zero) = refl
same_list (suc (suc r)) = refl

abbrev seat_of : ℕ → ℕ → ℕ
seat_of p i = first_seat (entry seats.proposers p i)

abbrev level_test : ℕ → ℕ → ℕ → Bool
level_test p i j = not (eqb (slice_index (row seats_levels p) i) (slice_index (row seats_levels p) j)) || eqb (seat_of p i) (seat_of p j)

abbrev places_test : ℕ → ℕ → Bool
places_test p i = all_below (length (row seats.proposers p)) (level_test p i)

abbrev resident_test : ℕ → Bool
resident_test p = all_below (length (row seats.proposers p)) (places_test p)

one_hospital : (p i j : ℕ) → i < length (row seats.proposers p) → j < length (row seats.proposers p) → slice_index (row seats_levels p) i ≡ slice_index (row seats_levels p) j → seat_of p i ≡ seat_of p j
one_hospital p i j h g e = elim (lt_or_le p 5) [
  | inl k ↦ elim (or_parts (not (eqb (slice_index (row seats_levels p) i) (slice_index (row seats_levels p) j))) (eqb (seat_of p i) (seat_of p j)) (passes (length (row seats.proposers p)) (level_test p i) (passes (length (row seats.proposers p)) (places_test p) (passes 5 resident_test refl p k) i h) j g)) [
    | inl x ↦ absurd (not_true _ x (eq-eqb _ _ e))
    | inr x ↦ eqb-true _ _ x
  ]
  | inr k ↦ absurd (omega (arith, h, row_past seats.proposers p k))
]

-- what is said of the market of seats holds
pub seats_are : Seats
seats_are = (
  market_pass seats refl,
  levels_pass seats seats_levels refl,
  stable_from_test seats seats_turned (matching_pass seats seats_turned refl) refl,
  stable_from_test seats seats_exchanged (matching_pass seats seats_exchanged refl) refl,
  refl,
  refl,
  record { at = 1; within = omega arith; smaller = omega arith; alike = λ j h. first_alike j h },
  record { at = 0; within = omega arith; smaller = omega arith; alike = λ j h. absurd (omega arith) },
  (λ p i j h g e. same_list (entry seats.proposers p i) ∙ ap (row seats.reviewers) (one_hospital p i j h g e) ∙ sym (same_list (entry seats.proposers p j))),
)
  where
    first_alike : (j : ℕ) → j < 1 → slice_index (1 ∷ 1 ∷ 1 ∷ 2 ∷ 2 ∷ []) (slice_index (0 ∷ 1 ∷ 2 ∷ 3 ∷ 4 ∷ []) j) ≡ slice_index (1 ∷ 2 ∷ 2 ∷ 1 ∷ 1 ∷ []) (slice_index (0 ∷ 1 ∷ 2 ∷ 3 ∷ 4 ∷ []) j)
    first_alike zero h = refl
    first_alike (suc j) h = absurd (omega arith)
