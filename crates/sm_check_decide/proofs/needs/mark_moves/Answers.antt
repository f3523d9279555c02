use Rattle.sm_theory.proofs.Chains.Marking.{marked_step}
use Rattle.sm_check_decide.proofs.needs.mark_moves.Goals as goal

pub loop-i-preserved : goal.loop-i-preserved
loop-i-preserved c =
    let span = c.passed_span-reviewer.result in
    let passed = c.passed_span-reviewer.ensures in
    marked_step passed.market span.reviewer span.better span.worse passed.reviewer passed.better passed.worse passed.on_list c.loop-i.invariant c.in_ok-mark_span.ensures
