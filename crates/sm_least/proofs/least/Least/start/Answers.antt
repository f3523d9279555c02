use Rattle.std.proofs.Common.{arith}
use Rattle.sm_least.proofs.SearchLemmas.{board_made, proposers_for}
use Rattle.sm_least.proofs.least.Least.start.Goals as goal

pub new-requires : goal.new-requires
new-requires c = board_made c.in_ok-board.ensures

pub nothing-requires : goal.nothing-requires
nothing-requires c = board_made c.in_ok-board.ensures

pub new-requires-2-clause-board : goal.new-requires-2-clause-board
new-requires-2-clause-board c = board_made c.in_ok-board.ensures

pub new-requires-2-clause-few : goal.new-requires-2-clause-few
new-requires-2-clause-few c = omega (arith, proposers_for c.in_ok-board.ensures, c.chain-chain.ensures.poset.limits.proposers)
