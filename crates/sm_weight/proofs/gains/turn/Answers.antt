use Rattle.std.proofs.Common.{◌^◌, ◌≡◌, ℕ, ◌*◌, arith, ap, ◌∙◌, List, length, ◌-ℤ◌, to_z, of_z, w64}
use Rattle.std.proofs.lemmas.Int.{ints}
use Rattle.sm_market.specs.Matching.{Places}
use Rattle.sm_theory.specs.Rotations.{eliminated}
use Rattle.sm_theory.specs.Weights.{gain_of}
use Rattle.sm_weight.specs.Sizes.{weights_in, weight_held}
use Rattle.sm_theory.proofs.Weighing.Sizes.{above_of, below_of}
use Rattle.sm_weight.proofs.GainLemmas.{held_after, places_weighed, gain_is}
use Rattle.sm_weight.proofs.gains.turn.Goals as goal

pub weight_held-requires-clause-matched : goal.weight_held-requires-clause-matched
weight_held-requires-clause-matched c =
    rw (c.eliminate.ensures.moved, c.deref-2.ensures.value) (held_after c.requires.market c.requires.stable c.requires.exposed)

pub weight_held-requires-clause-places : goal.weight_held-requires-clause-places
weight_held-requires-clause-places c = places_weighed c.requires.weights c.eliminate.ensures.made.matching

pub returns-clause-gain : goal.returns-clause-gain
returns-clause-gain c =
    let pairs : List (ℕ × ℕ) = c.args.rotation.now.pairs.items in
    let w = weights_in c.args.weights.now in
    let many = ap length c.deref.ensures.value in
    let many_after = ap length c.deref-2.ensures.value in
    let low = above_of c.weight_held-before.result (2 ^ 30 * length c.deref.result.now) c.weight_held-before.ensures.small in
    let high = below_of c.weight_held-before.result (2 ^ 30 * length c.deref.result.now) c.weight_held-before.ensures.small in
    let low_after = above_of c.weight_held.result (2 ^ 30 * length c.deref-2.result.now) c.weight_held.ensures.small in
    let high_after = below_of c.weight_held.result (2 ^ 30 * length c.deref-2.result.now) c.weight_held.ensures.small in
    let before : c.weight_held-before.result ≡ weight_held w c.args.m.now.places.proposers pairs (length pairs) = c.weight_held-before.ensures.weight ∙ ap (λ (xs : List (ℕ × ℕ)). weight_held w c.args.m.now.places.proposers xs (length xs)) c.deref.ensures.value in
    let after : c.weight_held.result ≡ weight_held w (eliminated c.args.market.now c.args.m.now.places pairs).proposers pairs (length pairs) =
    c.weight_held.ensures.weight ∙ ap (λ (xs : List (ℕ × ℕ)). weight_held w c.eliminate.new.m.places.proposers xs (length xs)) c.deref-2.ensures.value
    ∙ ap (λ (n : Places). weight_held w n.proposers pairs (length pairs)) c.eliminate.ensures.moved in
    let gain : c.weight_held.result -ℤ c.weight_held-before.result ≡ gain_of c.args.market.now w pairs =
    ap (λ z. z -ℤ c.weight_held-before.result) after ∙ ap (λ z. weight_held w (eliminated c.args.market.now c.args.m.now.places pairs).proposers pairs (length pairs) -ℤ z) before
    ∙ gain_is c.requires.market c.requires.stable c.requires.exposed w in
    let few = c.requires.few in
    let same : to_z w64 (of_z w64 (to_z w64 (of_z w64 c.weight_held.result) -ℤ to_z w64 (of_z w64 c.weight_held-before.result))) ≡ c.weight_held.result -ℤ c.weight_held-before.result = omega (arith, ints) in
    same ∙ gain
