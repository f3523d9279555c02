use Rattle.std.proofs.Common.{◌≡◌, ℕ, ◌<◌, ◌++◌, ◌∷◌, [], ◌∙◌, arith, rules, sym, ap, subst, List, ℤ, length, map, FitsSigned, w64}
use Rattle.std.proofs.lemmas.Int.{to_z-of_z}
use Rattle.std.proofs.lemmas.List.{length-map, map_more, take_all}
use Rattle.sm_theory.specs.Chains.{rotation_at}
use Rattle.sm_theory.specs.Sizes.{weights_in}
use Rattle.sm_theory.specs.Weights.{gain_of}
use Rattle.sm_check_net.specs.Moves.{moves_in, AreRotationMoves}
use Rattle.sm_check_weight.proofs.gains.gains_of.Goals as goal

pub loop-k-preserved : goal.loop-k-preserved
loop-k-preserved c l rotations m =
    let k : ℕ = c.loop-k.k in
    let f = gain_of l (weights_in c.args.weights.now) in
    let fits : FitsSigned w64 c.gain.result = search rules in
    let long : length (moves_in c.args.moves.now) ≡ length c.args.moves.now = length-map c.args.moves.now (λ v. v.items) in
    let inside : k < length rotations = omega (arith, c.loop-k-test.true, long, m.one_each) in
    let gain : c.gain.result ≡ f (rotation_at rotations k) = c.gain.ensures l (rotation_at rotations k) (subst (AreRotationMoves l (rotation_at rotations k)) (sym c.moves_at.ensures) (m.each k inside)) in
    c.in_ok-push.ensures.items
    ∙ ap (λ (z : ℤ). c.loop-k.gains.items ++ z ∷ []) (to_z-of_z w64 c.gain.result fits ∙ gain)
    ∙ ap (λ (xs : List ℤ). xs ++ f (rotation_at rotations k) ∷ []) (c.loop-k.invariant l rotations m)
    ∙ sym (map_more f rotations k [] inside)

pub returns : goal.returns
returns c l rotations m =
    let long : length (moves_in c.args.moves.now) ≡ length c.args.moves.now = length-map c.args.moves.now (λ v. v.items) in
    c.loop-k.invariant l rotations m
    ∙ ap (map (gain_of l (weights_in c.args.weights.now))) (take_all c.loop-k.k rotations (omega (arith, c.loop-k-test.false, c.loop-k.auto.k-end, long, m.one_each)))
