use Rattle.std.proofs.Common.{◌≡◌, ℕ, ◌-◌, ◌<◌, ◌∙◌, arith, rules, sym, ap, subst, length, FitsSigned, w64}
use Rattle.std.proofs.lemmas.Int.{to_z-of_z}
use Rattle.std.proofs.lemmas.List.{length-map}
use Rattle.sm_theory.specs.Chains.{rotation_at}
use Rattle.sm_check_net.specs.Moves.{moves_in, row_of_moves, AreRotationMoves}
use Rattle.sm_check_weight.proofs.gains.last_gain.Goals as goal

pub returns : goal.returns
returns c l rotations m =
    let fits : FitsSigned w64 c.gain.result = search rules in
    let rows = moves_in c.args.moves.now in
    let long : length rows ≡ length c.args.moves.now = length-map c.args.moves.now (λ v. v.items) in
    let last : ℕ = length rotations - 1 in
    let same : length c.args.moves.now - 1 ≡ last = omega (arith, long, m.one_each) in
    let some : 0 < length c.args.moves.now = search rules in
    let inside : last < length rotations = omega (arith, some, long, m.one_each) in
    to_z-of_z w64 c.gain.result fits
    ∙ c.gain.ensures l (rotation_at rotations last)
    (subst (AreRotationMoves l (rotation_at rotations last)) (sym (c.moves_at.ensures ∙ ap (row_of_moves rows) same)) (m.each last inside))
