-- What the rotations of a complete chain move.
use Rattle.std.proofs.Common.{◌≡◌, ℕ, suc, ◌<◌, arith, refl, sym, ap, ◌∙◌, List, Some, length, eqb-true, ◌==◌}
use Rattle.std.proofs.lemmas.List.Sums.{passes_at_first}
use Rattle.sm_market.specs.Lists.{Lists, row, place_of, IsMarket}
use Rattle.sm_market.specs.Matching.{Places, held, standing}
use Rattle.sm_market.proofs.Bridge.{standing-some}
use Rattle.sm_market.proofs.PairingLemmas.{held_in_range}
use Rattle.sm_theory.specs.Rotations.{proposer_at, target_at, pair_of, place_after}
use Rattle.sm_theory.specs.Chains.{rotation_at, stage, IsCompleteChain}
use Rattle.sm_theory.proofs.Core.Cycle.{Moves, moves_at}
use Rattle.sm_theory.proofs.Core.Chain.{up_at, rise, way_of}
use Rattle.sm_theory.proofs.Bridge.Places.{held_map}
use Rattle.sm_theory.proofs.Bridge.Rotation.{cycle_of, pair_at_is, after_in}
use Rattle.sm_theory.proofs.Bridge.Chain.{chain_of, stage_stable}
use Rattle.sm_poset.specs.Moves.{IsMove}

-- the pair of p is p's
pub proposer_at-pair_of : (rotation : List (ℕ × ℕ)) (p : ℕ) → pair_of rotation p < length rotation → proposer_at rotation (pair_of rotation p) ≡ p
proposer_at-pair_of rotation p h = eqb-true _ _ (passes_at_first (λ pair. pair.0 == p) rotation (0, 0) h)

module _ {l : Lists} (h : IsMarket l) {first : Places} {rotations : List (List (ℕ × ℕ))} (chain : IsCompleteChain l first rotations) where
  -- the proposers of the rotations are in range
  pub in_range : (k i : ℕ) → k < length rotations → i < length (rotation_at rotations k) → proposer_at (rotation_at rotations k) i < length l.proposers
  in_range k i a b = held_in_range (stage_stable h chain k (omega arith)).matching.proposers (proposer_at (rotation_at rotations k) i) _ ((chain.exposed k a).paired i b)

  -- who is moved holds the place to which it is moved
  pub holds_after : (k i : ℕ) → k < length rotations → i < length (rotation_at rotations k)
      → held (stage l first rotations (suc k)).proposers (proposer_at (rotation_at rotations k) i) ≡ Some (place_of l.proposers (proposer_at (rotation_at rotations k) i) (target_at (rotation_at rotations k) i))
  holds_after k i a b =
      held_map l.proposers (place_after l (stage l first rotations k).proposers (rotation_at rotations k)) (proposer_at (rotation_at rotations k) i) (in_range k i a b)
      ∙ after_in h (stage_stable h chain k (omega arith)).matching (chain.exposed k a) i b

  -- whom rotation k moves to place i holds this place behind it
  pub move_holds : (p k i : ℕ) → k < length rotations → IsMove l rotations p k i → held (stage l first rotations (suc k)).proposers p ≡ Some i
  move_holds p k i a w =
      let there : held (stage l first rotations (suc k)).proposers p ≡ Some (place_of l.proposers p (target_at (rotation_at rotations k) (pair_of (rotation_at rotations k) p))) =
      rw (proposer_at-pair_of (rotation_at rotations k) p w.moved) at (holds_after k (pair_of (rotation_at rotations k) p) a w.moved) in
      there ∙ ap Some (sym w.place)

  -- and so it stands
  pub move_stands : (p k i : ℕ) → k < length rotations → IsMove l rotations p k i → standing l.proposers (stage l first rotations (suc k)).proposers p ≡ i
  move_stands p k i a w = standing-some l.proposers (stage l first rotations (suc k)).proposers p i (move_holds p k i a w)

  -- a move leads to a place on the list
  pub move_on_list : (p k i : ℕ) → k < length rotations → IsMove l rotations p k i → i < length (row l.proposers p)
  move_on_list p k i a w = (stage_stable h chain (suc k) a).matching.proposers.on_list p i (move_holds p k i a w)

  -- a move in terms of cycles
  pub moves_of_move : (p k i : ℕ) → IsMove l rotations p k i → Moves (cycle_of (rotation_at rotations k)) p
  moves_of_move p k i w = rw (proposer_at-pair_of (rotation_at rotations k) p w.moved) at (moves_at (cycle_of (rotation_at rotations k)) (pair_of (rotation_at rotations k) p) w.moved)

  -- later moves lead further down
  pub further : (p j k a b : ℕ) → j < k → k < length rotations → IsMove l rotations p j a → IsMove l rotations p k b → a < b
  further p j k a b less g w v = omega (
    arith,
    move_stands p j a (omega arith) w,
    move_stands p k b g v,
    rise (way_of (chain_of h chain)) p (suc j) k less (omega arith),
    up_at (way_of (chain_of h chain)) k p g (moves_of_move p k b v),
  )

  -- the pair of a proposer of a rotation
  pub pair_at : (k i : ℕ) → k < length rotations → i < length (rotation_at rotations k) → pair_of (rotation_at rotations k) (proposer_at (rotation_at rotations k) i) ≡ i
  pair_at k i a b = pair_at_is h (stage_stable h chain k (omega arith)).matching (chain.exposed k a) i b

  -- a rotation moves the proposer of each of its pairs
  pub move_at : (k i : ℕ) → k < length rotations → i < length (rotation_at rotations k)
      → IsMove l rotations (proposer_at (rotation_at rotations k) i) k (place_of l.proposers (proposer_at (rotation_at rotations k) i) (target_at (rotation_at rotations k) i))
  move_at k i a b = record { moved = rw (pair_at k i a b) b; place = rw (pair_at k i a b) refl }
