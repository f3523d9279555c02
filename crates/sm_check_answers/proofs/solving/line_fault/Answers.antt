use Rattle.sm_check_answers.proofs.SolvingLemmas.{pair_holds}
use Rattle.sm_check_answers.proofs.solving.line_fault.Goals as goal

pub returns-else-not-joins : goal.returns-else-not-joins
returns-else-not-joins c = λ said k.
    let j = c.if-not-joins.ensures said k in
    rw c.in-Pair.is (pair_holds c.args.instance.now c.args.side said c.in-Pair.p c.in-Pair.r j.free, j.held)
