use Rattle.std.proofs.Common.{arith}
use Rattle.sm_least.proofs.StepLemmas.{read_in}
use Rattle.sm_lister.proofs.bars.missing.Goals as goal

pub has-requires : goal.has-requires
has-requires c =
    let few = c.needs-y-items.ensures.course.board.needs_in_range c.args.x _ (read_in c.loop-y.y-index c.needs-y-items.ensures.needs c.loop-y-test.true) in
    omega (arith, few, c.requires.held.logged.one_each)
