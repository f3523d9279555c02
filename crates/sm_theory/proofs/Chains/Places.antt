-- The places of a proposer in stable matchings.
use Rattle.std.proofs.Common.{◌≡◌, ℕ, suc, ◌<◌, ◌⊎◌, inl, inr, arith, sym, ap, ◌∙◌, List, length}
use Rattle.sm_market.specs.Lists.{Lists, place_of, IsMarket}
use Rattle.sm_market.specs.Matching.{Places, standing}
use Rattle.sm_market.proofs.Bridge.{stand_of}
use Rattle.sm_theory.specs.Rotations.{target_at, pair_of, reviewer_after}
use Rattle.sm_theory.specs.Chains.{rotation_at, stage, IsCompleteChain}
use Rattle.sm_theory.specs.ClosedSets.{IsMember, matching_of}
use Rattle.sm_theory.proofs.Core.Cycle.{Moves}
use Rattle.sm_theory.proofs.Core.Chain.{IsOf}
use Rattle.sm_theory.proofs.Bridge.Rotation.{cycle_of, pair_at_is}
use Rattle.sm_theory.proofs.Bridge.Chain.{chain_of, stage_stable}
use Rattle.sm_theory.proofs.Bridge.Sets.{set_is_of}
use Rattle.sm_theory.proofs.Chains.Rotations.{sets_are_matchings}
use Rattle.sm_theory.proofs.Chains.Sets.{moves_by, does_move}
use Rattle.sm_theory.specs.StablePlaces.{IsStablePlace, IsMovedTo}
use Rattle.sm_theory.specs.LawsPairs.{StablePlaces}

-- whom a rotation moves stands at the reviewer to which it is moved
stands_after : {l : Lists} (h : IsMarket l) {first : Places} {rotations : List (List (ℕ × ℕ))} (chain : IsCompleteChain l first rotations) (k p : ℕ) → k < length rotations → Moves (cycle_of (rotation_at rotations k)) p
    → standing l.proposers (stage l first rotations (suc k)).proposers p ≡ place_of l.proposers p (reviewer_after (rotation_at rotations k) p)
stands_after {l} h {first} {rotations} chain k p g mv =
    let pair : pair_of (rotation_at rotations k) p ≡ mv.at = rw mv.holds at (pair_at_is h (stage_stable h chain k (omega arith)).matching (chain.exposed k g) mv.at mv.below) in
    let there : standing l.proposers (stage l first rotations (suc k)).proposers p ≡ place_of l.proposers p (target_at (rotation_at rotations k) mv.at) = rw mv.holds at (((chain_of h chain).onward k g).moved mv.at mv.below) in
    there ∙ ap (λ j. place_of l.proposers p (target_at (rotation_at rotations k) j)) (sym pair)

-- by the closed set of the matching, and back by the stages of the chain
pub stable_places : StablePlaces
stable_places l first rotations p i h chain = (there, back)
  where
    there : IsStablePlace l p i → (standing l.proposers first.proposers p ≡ i) ⊎ IsMovedTo l rotations p i
    there w =
        let s = (sets_are_matchings l first rotations h chain).all w.matching w.stable in
        let is : standing l.proposers (matching_of l first rotations s.0).proposers p ≡ i = ap (λ (n : Places). standing l.proposers n.proposers p) s.2 ∙ w.stands in
        let of : IsOf (length rotations) (λ k. stand_of l (stage l first rotations k)) (λ k. cycle_of (rotation_at rotations k)) (IsMember s.0) (stand_of l (matching_of l first rotations s.0)) = set_is_of h chain s.0 in
        elim (of.attained p) [
          | inl first_is ↦ inl (sym first_is ∙ is)
          | inr x ↦ inr (record {
            rotation = x.at;
            within = x.below;
            moves = does_move h chain x.at p x.below x.moves;
            place = sym (stands_after h chain x.at p x.below x.moves) ∙ sym x.is ∙ is;
          })
        ]

    back : (standing l.proposers first.proposers p ≡ i) ⊎ IsMovedTo l rotations p i → IsStablePlace l p i
    back (inl first_is) = record { matching = first; stable = chain.from_best.stable; stands = first_is }
    back (inr x) = record {
      matching = stage l first rotations (suc x.rotation);
      stable = stage_stable h chain (suc x.rotation) x.within;
      stands = stands_after h chain x.rotation p x.within (moves_by (rotation_at rotations x.rotation) p x.moves) ∙ x.place;
    }
