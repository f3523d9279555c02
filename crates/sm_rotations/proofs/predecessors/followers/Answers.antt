use Rattle.std.proofs.Common.{arith}
use Rattle.sm_rotations.proofs.CountLemmas.{few_eliminable}
use Rattle.sm_rotations.proofs.NeedsLemmas.{as_many}
use Rattle.sm_rotations.proofs.predecessors.followers.Goals as goal

pub returns-clause-few : goal.returns-clause-few
returns-clause-few c =
    let few = few_eliminable c.proposers.ensures.market c.proposers.ensures.limits c.requires.made.matching c.requires.eliminable in
    omega (arith, few, as_many c.args.chain.now.rotations.items)
