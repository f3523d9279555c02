use Rattle.std.proofs.Common.{arith}
use Rattle.sm_board.proofs.held.set_stay.Goals as goal

pub level-requires-clause-proposer : goal.level-requires-clause-proposer
level-requires-clause-proposer c = omega (arith, c.requires.board.levels_each, c.requires.proposer)

pub level-requires-clause-stay : goal.level-requires-clause-stay
level-requires-clause-stay c = omega (arith, c.requires.board.long c.args.p c.requires.proposer, c.requires.stay)
