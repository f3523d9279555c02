use Rattle.sm_theory.proofs.Chains.Links.{exposed_end}
use Rattle.std.proofs.Common.{arith}
use Rattle.sm_theory.proofs.rotations.is_exposed.Goals as goal

pub returns : goal.returns
returns c =
    exposed_end c.args.market.now c.args.m.now.places c.as_slice-pairs.result.now c.args.rotation.now.pairs.items c.loop-i.i c.is_empty.result
    c.requires.made.matching c.as_slice-pairs.ensures.value (omega (arith, c.loop-i-test.false))
    c.loop-i.invariant.0 c.loop-i.invariant.1 c.loop-i.invariant.2 c.is_empty.ensures
