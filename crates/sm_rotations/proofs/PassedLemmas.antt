-- Which rotations of a chain a stable matching has passed, and which are exposed there.
use Rattle.std.proofs.Common.{◌≡◌, ◌≢◌, ℕ, suc, ◌<◌, inl, inr, arith, List, length}
use Rattle.std.proofs.lemmas.Bool.{le-leb, leb-true}
use Rattle.sm_market.specs.Lists.{Lists, IsMarket}
use Rattle.sm_market.specs.Matching.{Places, standing}
use Rattle.sm_market.specs.Stable.{IsStable}
use Rattle.sm_lists.proofs.Counting.{by_contradiction, search_below, Decided-not, Decided-true}
use Rattle.sm_market.proofs.Bridge.{stand_of, stable_of}
use Rattle.sm_theory.specs.Rotations.{proposer_at, IsExposed, eliminated}
use Rattle.sm_theory.specs.Chains.{rotation_at, stage, IsCompleteChain, IsNeededBy}
use Rattle.sm_theory.proofs.Core.Cycle.{moves_at}
use Rattle.sm_theory.proofs.Core.Chain.{up_at, rise, needs_lower, way_of}
use Rattle.sm_theory.proofs.Core.Correspondence.{Reaches, reaches_of, reaches_closed}
use Rattle.sm_theory.proofs.Bridge.Rotation.{cycle_of, exposed_of, exposed_back, elim_of, eliminated_stable}
use Rattle.sm_theory.proofs.Bridge.Chain.{chain_of, needs_of, needs_back}
use Rattle.sm_rotations.specs.Ordering.{is_passed, IsPassed}
use Rattle.sm_theory.proofs.Core.Correspondence.{InChain, all_in_chain}
use Rattle.sm_rotations.proofs.OrderLemmas.{reached_by, exposed_is_ready, ready_is_exposed, still_reached, now_reached, no_other}

-- a pair has p
pub record HasProposer (rotation : List (ℕ × ℕ)) (p : ℕ) : Type 0 where
  pub pair : ℕ
  pub pair_in : pair < length rotation
  pub is : proposer_at rotation pair ≡ p

-- a rotation of the chain that a matching hasn't passed, with all its needs passed, has the proposers of another rotation
pub record IsReadyOne (l : Lists) (first : Places) (rotations : List (List (ℕ × ℕ))) (m : Places) (other : List (ℕ × ℕ)) : Type 0 where
  pub at : ℕ
  pub below : at < length rotations
  pub out : ¬ IsPassed l first rotations m at
  pub prepared : (i : ℕ) → i < length rotations → IsNeededBy l (rotation_at rotations i) (rotation_at rotations at) → IsPassed l first rotations m i
  pub among : (i : ℕ) → i < length other → HasProposer (rotation_at rotations at) (proposer_at other i)

module _ {l : Lists} (h : IsMarket l) {first : Places} {rotations : List (List (ℕ × ℕ))} (chain : IsCompleteChain l first rotations) where
  to_reached : {m : Places} → IsStable l m → (k : ℕ) → k < length rotations → IsPassed l first rotations m k → Reaches (chain_of h chain) (stand_of l m) k
  to_reached {m} s k g e =
      let p : ℕ = proposer_at (rotation_at rotations k) 0 in
      let mv = moves_at (cycle_of (rotation_at rotations k)) 0 (chain.exposed k g).not_empty in
      let le = leb-true (standing l.proposers (stage l first rotations (suc k)).proposers p) (standing l.proposers m.proposers p) e in
      reached_by (chain_of h chain) (stable_of h s) k p g mv (omega (arith, le, up_at (way_of (chain_of h chain)) k p g mv))

  of_reached : {m : Places} → IsStable l m → (k : ℕ) → k < length rotations → Reaches (chain_of h chain) (stand_of l m) k → IsPassed l first rotations m k
  of_reached {m} s k g r =
      let p : ℕ = proposer_at (rotation_at rotations k) 0 in
      let mv = moves_at (cycle_of (rotation_at rotations k)) 0 (chain.exposed k g).not_empty in
      le-leb (standing l.proposers (stage l first rotations (suc k)).proposers p) (standing l.proposers m.proposers p) ((reaches_of (chain_of h chain) (stable_of h s)).reach p k g r mv)

  -- nothing is passed at first
  pub none_passed : (k : ℕ) → k < length rotations → ¬ IsPassed l first rotations first k
  none_passed k g e =
      let ch = chain_of h chain in
      let p : ℕ = proposer_at (rotation_at rotations k) 0 in
      let le = leb-true (standing l.proposers (stage l first rotations (suc k)).proposers p) (standing l.proposers first.proposers p) e in
      omega (arith, le, up_at (way_of ch) k p g (moves_at (cycle_of (rotation_at rotations k)) 0 (chain.exposed k g).not_empty), rise (way_of ch) p 0 k (omega arith) (omega arith))

  module _ {m : Places} (s : IsStable l m) where
    -- what is passed has all its needs passed
    pub passed_needs : (i j : ℕ) → i < length rotations → j < length rotations → IsPassed l first rotations m j → IsNeededBy l (rotation_at rotations i) (rotation_at rotations j) → IsPassed l first rotations m i
    passed_needs i j a b e need = of_reached s i a (reaches_closed (chain_of h chain) (stable_of h s) i j a b (to_reached s j b e) (needs_of h need))

    -- what isn't passed and has all its needs passed is exposed
    pub ready_exposed : (k : ℕ) → k < length rotations → ¬ IsPassed l first rotations m k
        → ((i : ℕ) → i < length rotations → IsNeededBy l (rotation_at rotations i) (rotation_at rotations k) → IsPassed l first rotations m i)
        → IsExposed l m (rotation_at rotations k)
    ready_exposed k g out ready = exposed_back h (rotation_at rotations k)
        (ready_is_exposed (chain_of h chain) (stable_of h s) k g (λ r. out (of_reached s k g r))
        (λ i a need. to_reached s i a (ready i a (needs_back h (rotation_at rotations i) (rotation_at rotations k) need))))

    -- and what is exposed is one of these, with its pairs
    pub exposed_ready_one : (other : List (ℕ × ℕ)) → IsExposed l m other → IsReadyOne l first rotations m other
    exposed_ready_one other x =
        let w : InChain (chain_of h chain) (stand_of l m) (cycle_of other) = all_in_chain (chain_of h chain) (stable_of h s) (exposed_of h s.matching x) in
        let v = exposed_is_ready (chain_of h chain) (stable_of h s) w.at w.below w.exposed in
        record {
          at = w.at;
          below = w.below;
          out = λ e. v.0 (to_reached s w.at w.below e);
          prepared = λ i a need. of_reached s i a (v.1 i a (needs_of h need));
          among = λ i a. let u = w.there i a in record { pair = u.at; pair_in = u.below; is = u.who_is };
        }

    -- where nothing is ready all is passed
    pub all_passed : ((k : ℕ) → k < length rotations → ¬ IsPassed l first rotations m k
        → ((i : ℕ) → i < length rotations → IsNeededBy l (rotation_at rotations i) (rotation_at rotations k) → IsPassed l first rotations m i) → ⊥)
        → (k : ℕ) → k < length rotations → IsPassed l first rotations m k
    all_passed none k g = elim (search_below (length rotations) (λ k. ¬ IsPassed l first rotations m k) (λ k _. Decided-not (Decided-true (is_passed l first rotations m k)))) [
      | inr all ↦ by_contradiction (Decided-true (is_passed l first rotations m k)) (all k g)
      | inl w ↦ absurd (none w.at w.below w.holds (λ i a need. by_contradiction (Decided-true (is_passed l first rotations m i))
          (w.earlier i (needs_lower (way_of (chain_of h chain)) i w.at a w.below (needs_of h need)))))
    ]

    -- eliminating one of the chain's rotations passes that one in addition, and no other
    module _ (k : ℕ) (g : k < length rotations) (x : IsExposed l m (rotation_at rotations k)) where
      -- the rotation that was eliminated is passed
      pub now_passed : IsPassed l first rotations (eliminated l m (rotation_at rotations k)) k
      now_passed = of_reached (eliminated_stable h s x) k g (now_reached (chain_of h chain) (stable_of h s) (stable_of h (eliminated_stable h s x)) k g (exposed_of h s.matching x) (elim_of h s.matching x))

      -- what was passed is passed still
      pub still_passed : (j : ℕ) → j < length rotations → IsPassed l first rotations m j → IsPassed l first rotations (eliminated l m (rotation_at rotations k)) j
      still_passed j a e = of_reached (eliminated_stable h s x) j a (still_reached (chain_of h chain) (stable_of h s) (stable_of h (eliminated_stable h s x)) k g (exposed_of h s.matching x) (elim_of h s.matching x) j a (to_reached s j a e))

      -- and no other is passed now
      pub no_other_passed : (j : ℕ) → j < length rotations → j ≢ k → IsPassed l first rotations (eliminated l m (rotation_at rotations k)) j → IsPassed l first rotations m j
      no_other_passed j a ne e = of_reached s j a (no_other (chain_of h chain) (stable_of h s) (stable_of h (eliminated_stable h s x)) k g (exposed_of h s.matching x) (elim_of h s.matching x) j a ne (to_reached (eliminated_stable h s x) j a e))
