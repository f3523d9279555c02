-- The law on the weight of a closed set's matching.
use Rattle.std.proofs.Common.{◌≡◌, ℕ, ◌<◌, ◌≤◌, inl, inr, arith, refl, sym, ap, ap₂, ◌∙◌, List, length, cond, pos, ℤ, ◌+ℤ◌, ◌-ℤ◌, nat_lt, lt-ltb, le-ltb}
use Rattle.sm_market.specs.Lists.{Lists, row, place_of, IsMarket}
use Rattle.sm_market.specs.Matching.{Places, held, standing}
use Rattle.sm_market.specs.Stable.{IsStable}
use Rattle.sm_market.proofs.Bridge.{sides_of, stand_of, held_cases}
use Rattle.sm_theory.specs.Rotations.{proposer_at, reviewer_at, target_at, IsExposed}
use Rattle.sm_theory.specs.ClosedSets.{is_member}
use Rattle.sm_theory.specs.Weights.{weight_at, weight_of_place, weight_of, gain_of}
use Rattle.sm_theory.specs.Laws.{WeightIsSumOfGains}
use Rattle.sm_theory.proofs.Core.Weights.{weight, gain, weight_of_set}
use Rattle.sm_theory.proofs.Weighing.Totals.{total_same}
use Rattle.sm_theory.proofs.Bridge.Rotation.{cycle_of, exposed_of}
use Rattle.sm_theory.proofs.Bridge.Chain.{chain_of, stage_stable, closed_of, Decided-member}
use Rattle.sm_theory.proofs.Bridge.Sets.{set_is_of, set_stable}

-- the weight of a standing
weigh : Lists → List (List ℤ) → ℕ → ℕ → ℤ
weigh l weights p i = cond (nat_lt i (length (row l.proposers p))) (weight_at weights p i) (pos 0)

weigh_on : (l : Lists) (weights : List (List ℤ)) (p i : ℕ) → i < length (row l.proposers p) → weigh l weights p i ≡ weight_at weights p i
unfolding weigh
weigh_on l weights p i h = rw (lt-ltb i (length (row l.proposers p)) h) refl

weigh_past : (l : Lists) (weights : List (List ℤ)) (p i : ℕ) → length (row l.proposers p) ≤ i → weigh l weights p i ≡ pos 0
unfolding weigh
weigh_past l weights p i h = rw (le-ltb i (length (row l.proposers p)) h) refl

weight_is : {l : Lists} (h : IsMarket l) (weights : List (List ℤ)) {m : Places} → IsStable l m → weight_of l weights m ≡ weight (sides_of l h) (weigh l weights) (stand_of l m)
weight_is {l} h weights {m} s = total_same (length l.proposers) (λ p. weight_of_place weights p (held m.proposers p)) (λ p. weigh l weights p (standing l.proposers m.proposers p)) (λ p _. elim (held_cases l.proposers m.proposers p) [
  | inl w ↦ ap (weight_of_place weights p) w.held_is ∙ sym (weigh_past l weights p (standing l.proposers m.proposers p) (omega (arith, w.standing_is)))
  | inr w ↦ ap (weight_of_place weights p) w.held_is ∙ sym (ap (weigh l weights p) w.standing_is ∙ weigh_on l weights p w.place (s.matching.proposers.on_list p w.place w.held_is))
])

gain_is : {l : Lists} (h : IsMarket l) (weights : List (List ℤ)) {m : Places} {rotation : List (ℕ × ℕ)} → IsStable l m → IsExposed l m rotation → gain_of l weights rotation ≡ gain (sides_of l h) (weigh l weights) (cycle_of rotation)
gain_is {l} h weights {m} {rotation} s x =
    let y = exposed_of h s.matching x in
    total_same (length rotation) _ _ (λ i a.
    let p : ℕ = proposer_at rotation i in
    let pair = y.paired i a in
    ap₂ ◌-ℤ◌ (sym (weigh_on l weights p (place_of l.proposers p (target_at rotation i)) (y.next i a).on))
    (sym (weigh_on l weights p (place_of l.proposers p (reviewer_at rotation i)) (omega (arith, pair.place_is, pair.matched)))))

-- a closed set's matching weighs what the first one weighs and the gains of the members
pub weight_is_sum_of_gains : WeightIsSumOfGains
weight_is_sum_of_gains l first rotations set weights h chain closed =
    weight_is h weights (set_stable h chain set closed)
    ∙ weight_of_set (chain_of h chain) (weigh l weights) (is_member set) (closed_of h closed) (λ k _. Decided-member set k) (set_is_of h chain set)
    ∙ ap₂ ◌+ℤ◌ (sym (weight_is h weights chain.from_best.stable))
    (sym (total_same (length rotations) _ _ (λ k g. ap (λ z. cond (is_member set k) z (pos 0)) (gain_is h weights (stage_stable h chain k (omega arith)) (chain.exposed k g)))))
