-- The gain of a rotation, read of what its proposers hold before and after.
use Rattle.std.proofs.Common.{◌≡◌, ℕ, zero, suc, ◌<◌, inl, inr, arith, refl, ap, ◌∙◌, List, length, Option, None, Some, IsSome, ℤ, ◌-ℤ◌}
use Rattle.std.proofs.lemmas.Int.{ints}
use Rattle.std.proofs.lemmas.List.{get_or_past}
use Rattle.sm_lists.proofs.Counting.{lt_or_le}
use Rattle.sm_market.specs.Lists.{Lists, place_of, IsMarket}
use Rattle.sm_market.specs.Matching.{Places, held, IsMatching}
use Rattle.sm_market.specs.Stable.{IsStable}
use Rattle.sm_market.proofs.PairingLemmas.{held_in_range}
use Rattle.sm_theory.specs.Rotations.{proposer_at, target_at, place_after, IsExposed, eliminated}
use Rattle.sm_theory.specs.Weights.{total, weight_at, weight_of_place, gain_of}
use Rattle.sm_theory.proofs.Bridge.Places.{held_map}
use Rattle.sm_theory.proofs.Bridge.Rotation.{after_in}
use Rattle.sm_theory.proofs.Weighing.Totals.{total_same}
use Rattle.sm_weight.specs.Sizes.{AreWeights, ArePlaces, weight_held}

total_less : (f g : ℕ → ℤ) (n : ℕ) → total f n -ℤ total g n ≡ total (λ i. f i -ℤ g i) n
total_less f g zero = omega (arith, ints)
total_less f g (suc n) = let before = total_less f g n in omega (arith, ints)

-- the places of a matching have weights
pub places_weighed : {l : Lists} {m : Places} {weights : List (List ℤ)} → AreWeights l weights → IsMatching l m → ArePlaces weights m.proposers
places_weighed w m p i e = let on = m.proposers.on_list p i e in omega (arith, w.per_place p (held_in_range m.proposers p i e))

-- who is said to hold a place holds some place
some_held : (places : List (Option ℕ)) (p i : ℕ) → held places p ≡ Some i → IsSome (held places p)
some_held places p i e = rw e refl

-- who holds a place is in range
pub some_in_range : (places : List (Option ℕ)) (p : ℕ) → IsSome (held places p) → p < length places
some_in_range places p some = elim (lt_or_le p (length places)) [
  | inl less ↦ less
  | inr past ↦ absurd (let none = get_or_past places p None past in grind arith)
]

module _ {l : Lists} (h : IsMarket l) {m : Places} (s : IsStable l m) {rotation : List (ℕ × ℕ)} (x : IsExposed l m rotation) where
  after_is : (i : ℕ) → i < length rotation → held (eliminated l m rotation).proposers (proposer_at rotation i) ≡ Some (place_of l.proposers (proposer_at rotation i) (target_at rotation i))
  after_is i b =
      held_map l.proposers (place_after l m.proposers rotation) (proposer_at rotation i) (held_in_range s.matching.proposers (proposer_at rotation i) _ (x.paired i b))
      ∙ after_in h s.matching x i b

  -- each proposer of the rotation is matched behind it
  pub held_after : (i : ℕ) → i < length rotation → IsSome (held (eliminated l m rotation).proposers (proposer_at rotation i))
  held_after i b = some_held (eliminated l m rotation).proposers (proposer_at rotation i) _ (after_is i b)

  -- the weight of what they hold behind it less that of what they held before is the rotation's gain
  pub gain_is : (weights : List (List ℤ)) → weight_held weights (eliminated l m rotation).proposers rotation (length rotation) -ℤ weight_held weights m.proposers rotation (length rotation) ≡ gain_of l weights rotation
  gain_is weights =
      total_less _ _ (length rotation)
      ∙ total_same (length rotation) _ _ (λ i b.
      ap (λ o. weight_of_place weights (proposer_at rotation i) o -ℤ weight_of_place weights (proposer_at rotation i) (held m.proposers (proposer_at rotation i))) (after_is i b)
      ∙ ap (λ o. weight_at weights (proposer_at rotation i) (place_of l.proposers (proposer_at rotation i) (target_at rotation i)) -ℤ weight_of_place weights (proposer_at rotation i) o) (x.paired i b))
