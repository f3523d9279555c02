use Rattle.std.proofs.Common.{length, ap, arith}
use Rattle.sm_agents.specs.Written.{Written}
use Rattle.sm_instance.proofs.instance.Instance.build.Goals as goal

pub checked-requires-clause-few : goal.checked-requires-clause-few
checked-requires-clause-few c =
    let weights = ap (λ (w : Written). length w.weights) c.in_ok-parts.ensures in
    let forced = ap (λ (w : Written). length w.forced) c.in_ok-parts.ensures in
    let forbidden = ap (λ (w : Written). length w.forbidden) c.in_ok-parts.ensures in
    omega (arith, weights, forced, forbidden, c.requires.few)

pub of_checked-requires-clause-few : goal.of_checked-requires-clause-few
of_checked-requires-clause-few c =
    let weights = ap (λ (w : Written). length w.weights) c.in_ok-parts.ensures in
    let forced = ap (λ (w : Written). length w.forced) c.in_ok-parts.ensures in
    let forbidden = ap (λ (w : Written). length w.forbidden) c.in_ok-parts.ensures in
    omega (arith, weights, forced, forbidden, c.requires.few)
