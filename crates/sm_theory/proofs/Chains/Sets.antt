-- Closed sets in the order of their matchings, and the moves of one proposer.
use Rattle.std.proofs.Common.{◌≡◌, ℕ, ◌<◌, ◌==◌, inl, inr, arith, sym, ap, ◌∙◌, List, length, Some, eqb-true}
use Rattle.std.proofs.lemmas.Bool.{eqb-false}
use Rattle.std.proofs.lemmas.List.Sums.{passes_at_first, fails_before_first}
use Rattle.sm_market.specs.Lists.{Lists, place_of, IsMarket}
use Rattle.sm_market.specs.Matching.{Places, held}
use Rattle.sm_market.proofs.Core.{Pair}
use Rattle.sm_market.proofs.Bridge.{sides_of, stand_of, held_at}
use Rattle.sm_theory.specs.Rotations.{proposer_at, pair_of, DoesMove, reviewer_before, reviewer_after}
use Rattle.sm_theory.specs.Chains.{rotation_at, IsCompleteChain}
use Rattle.sm_theory.specs.LawsListing.{SetsAreOrdered, MovesFollow, NextMoveIsIn}
use Rattle.sm_theory.proofs.Core.Cycle.{Moves, moves_at}
use Rattle.sm_theory.proofs.Core.Chain.{way_of, handed_on, handed_first, next_inside}
use Rattle.sm_theory.proofs.Core.Closed.{of_more, differ}
use Rattle.sm_theory.proofs.Bridge.Rotation.{cycle_of, pair_at_is}
use Rattle.sm_theory.proofs.Bridge.Chain.{chain_of, stage_stable, closed_of, Decided-member}
use Rattle.sm_theory.proofs.Bridge.Sets.{set_is_of}

-- a move in terms of cycles
abbrev pub moves_by : (rotation : List (ℕ × ℕ)) (p : ℕ) → DoesMove rotation p → Moves (cycle_of rotation) p
moves_by rotation p h = record {
  at = pair_of rotation p;
  below = h;
  holds = eqb-true _ _ (passes_at_first (λ pair. pair.0 == p) rotation (0, 0) h);
  earlier = λ j less e. eqb-false _ _ (fails_before_first (λ pair. pair.0 == p) rotation j (0, 0) less) e;
}

module _ {l : Lists} (h : IsMarket l) {first : Places} {rotations : List (List (ℕ × ℕ))} (chain : IsCompleteChain l first rotations) where
  -- and back, from cycles
  pub does_move : (k p : ℕ) → k < length rotations → Moves (cycle_of (rotation_at rotations k)) p → DoesMove (rotation_at rotations k) p
  does_move k p g mv =
      let e : pair_of (rotation_at rotations k) p ≡ mv.at = rw mv.holds at (pair_at_is h (stage_stable h chain k (omega arith)).matching (chain.exposed k g) mv.at mv.below) in
      omega (arith, e, mv.below)

-- a rotation in one set and not in the other makes its proposers differ
pub sets_are_ordered : SetsAreOrdered
sets_are_ordered l first rotations set other h chain c d = (
  (λ inside p. of_more (chain_of h chain) (set_is_of h chain set) (set_is_of h chain other) inside p),
  (λ worse k g member. elim (Decided-member other k) [
    | inl w ↦ w
    | inr out ↦
        let p : ℕ = proposer_at (rotation_at rotations k) 0 in
        absurd (omega (
          arith,
          worse p,
          differ (chain_of h chain) (closed_of h d) (set_is_of h chain set) (set_is_of h chain other) k g member out p (moves_at (cycle_of (rotation_at rotations k)) 0 (chain.exposed k g).not_empty),
        ))
  ]),
)

-- by `next_inside`, over cycles
pub next_move_is_in : NextMoveIsIn
next_move_is_in l first rotations set other p k h chain c d less g mv before = elim (Decided-member other k) [
  | inl w ↦ w
  | inr out ↦ absurd (next_inside (way_of (chain_of h chain)) (closed_of h d) (set_is_of h chain other) (set_is_of h chain set) k p g (moves_by (rotation_at rotations k) p mv)
      (λ j a w. before j a (does_move h chain j p (omega arith) w)) less out)
]

-- by `handed_first` and `handed_on`, over cycles
pub moves_follow : MovesFollow
moves_follow l first rotations p k h chain g mv = (at_first, between)
  where
    now : Moves (cycle_of (rotation_at rotations k)) p
    now = moves_by (rotation_at rotations k) p mv

    at_first : ((j : ℕ) → j < k → ¬ DoesMove (rotation_at rotations j) p) → held first.proposers p ≡ Some (place_of l.proposers p (reviewer_before (rotation_at rotations k) p))
    at_first none =
        let w : Pair (sides_of l h) (stand_of l first) p (reviewer_before (rotation_at rotations k) p) = handed_first (way_of (chain_of h chain)) p k g now (λ j a x. none j a (does_move h chain j p (omega arith) x)) in
        held_at l.proposers first.proposers p w.matched ∙ ap Some (sym w.place_is)

    between : (j : ℕ) → j < k → DoesMove (rotation_at rotations j) p → ((i : ℕ) → j < i → i < k → ¬ DoesMove (rotation_at rotations i) p) → reviewer_after (rotation_at rotations j) p ≡ reviewer_before (rotation_at rotations k) p
    between j a m none = handed_on (way_of (chain_of h chain)) p k g now (record { at = j; below = a; holds = moves_by (rotation_at rotations j) p m; later = λ i x y w. none i x y (does_move h chain i p (omega arith) w) })
