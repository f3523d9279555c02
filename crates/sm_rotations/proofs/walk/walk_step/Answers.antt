use Rattle.std.proofs.Common.{sym, ◌∙◌, ◌-◌, ◌<◌, length, arith, rules}
use Rattle.sm_rotations.proofs.FoundLemmas.{found_kept, found_all}
use Rattle.sm_rotations.proofs.WalkSteps.{over_at_end, over_before}
use Rattle.sm_rotations.proofs.walk.walk_step.Goals as goal

pub returns-in_default-clause-step : goal.returns-in_default-clause-step
returns-in_default-clause-step c =
    let some : 0 < length c.args.trail.now.stack.items = search rules in
    over_at_end c.requires.market c.requires.stable (length c.args.trail.now.stack.items - 1) (omega arith) (rw c.top-top.ensures at c.in_default.ensures.next)

pub returns-then-is_finished-clause-step : goal.returns-then-is_finished-clause-step
returns-then-is_finished-clause-step c =
    let some : 0 < length c.args.trail.now.stack.items = search rules in
    over_before c.requires.market c.requires.stable (length c.args.trail.now.stack.items - 1) (omega arith) c.in-Some.q (rw c.top-top.ensures at c.in-Some.ensures.next) (c.requires.at_worst c.in-Some.q (sym c.is_finished.ensures ∙ c.if-is_finished.true))

pub returns-in_default-clause-found : goal.returns-in_default-clause-found
returns-in_default-clause-found c =
    let some : 0 < length c.args.trail.now.stack.items = search rules in
    found_kept c.requires.stack c.requires.found (length c.args.trail.now.stack.items - 1) (omega arith) c.top-top.ensures c.next_proposer.ensures.others

pub returns-then-is_finished-clause-found : goal.returns-then-is_finished-clause-found
returns-then-is_finished-clause-found c =
    let some : 0 < length c.args.trail.now.stack.items = search rules in
    found_kept c.requires.stack c.requires.found (length c.args.trail.now.stack.items - 1) (omega arith) c.top-top.ensures c.next_proposer.ensures.others

pub returns-in-None-clause-found : goal.returns-in-None-clause-found
returns-in-None-clause-found c =
    let some : 0 < length c.args.trail.now.stack.items = search rules in
    found_all c.requires.stack c.requires.found (length c.args.trail.now.stack.items - 1) (omega arith) c.top-top.ensures c.next_proposer.ensures.others (c.next_proposer.ensures.found c.in-Some.q c.in-Some.is)

pub returns-in-Some-spot-clause-found : goal.returns-in-Some-spot-clause-found
returns-in-Some-spot-clause-found c =
    let some : 0 < length c.args.trail.now.stack.items = search rules in
    found_all c.requires.stack c.requires.found (length c.args.trail.now.stack.items - 1) (omega arith) c.top-top.ensures c.next_proposer.ensures.others (c.next_proposer.ensures.found c.in-Some.q c.in-Some.is)
