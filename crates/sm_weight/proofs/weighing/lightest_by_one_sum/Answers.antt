use Rattle.std.proofs.Common.{◌≡◌, ℕ, List, ap, ◌∙◌, arith, length, replicate, pos}
use Rattle.std.specs.List.{sum_by}
use Rattle.std.specs.Int.RustNames.{unsigned_abs}
use Rattle.std.proofs.lemmas.List.{length-map, length-replicate}
use Rattle.sm_theory.specs.declared.rotations.Rotation.{Rotation}
use Rattle.sm_weight.proofs.ZeroLemmas.{zero_gains, zeros_small}
use Rattle.sm_weight.proofs.weighing.lightest_by_one_sum.Goals as goal

pub with_second_gains-requires-clause-each : goal.with_second_gains-requires-clause-each
with_second_gains-requires-clause-each c =
    let values = c.chain.result.now.rotations.items in
    omega (arith, ap length (c.in_ok-no_gains.ensures.items_if_clones_equal (λ y e. e)), length-replicate c.len.result (pos 0), c.len.ensures, length-map values (λ (r : Rotation). r.pairs.items), ap (λ (r : List (List (ℕ × ℕ))). length r) c.chain.ensures.rotations)

pub with_second_gains-requires-clause-small : goal.with_second_gains-requires-clause-small
with_second_gains-requires-clause-small c =
    omega (arith, ap (sum_by unsigned_abs) (c.in_ok-no_gains.ensures.items_if_clones_equal (λ y e. e)), zeros_small c.len.result)

pub returns : goal.returns
returns c = λ seconds none.
    let poset = c.args.poset.now in
    let values = c.chain.result.now.rotations.items in
    let long : c.len.result ≡ length poset.rotations = omega (arith, c.len.ensures, length-map values (λ (r : Rotation). r.pairs.items), ap (λ (r : List (List (ℕ × ℕ))). length r) c.chain.ensures.rotations) in
    c.with_second_gains.ensures seconds
    (c.in_ok-no_gains.ensures.items_if_clones_equal (λ y e. e) ∙ ap (λ n. replicate n (pos 0)) long ∙ zero_gains poset.lists seconds poset.rotations none)
