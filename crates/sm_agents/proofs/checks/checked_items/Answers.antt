use Rattle.std.proofs.Common.{arith, length}
use Rattle.sm_agents.specs.Checks.{IsItemFault}
use Rattle.sm_agents.specs.Sound.{items_of}
use Rattle.sm_agents.proofs.ItemLemmas.{length-items, sound_forbidden, bad_forced, bad_forbidden}
use Rattle.sm_agents.proofs.FaultLemmas.{on_err, weights_faulty}
use Rattle.sm_agents.proofs.checks.checked_items.Goals as goal

pub returns-in_err-pairs-clause-fault : goal.returns-in_err-pairs-clause-fault
returns-in_err-pairs-clause-fault c =
    on_err (IsItemFault c.args.proposers c.args.reviewers c.args.weights.now (items_of c.args.weights.now c.args.forced.now c.args.forbidden.now)) c.in_err-pairs.field-0.0 c.from_residual.result c.from_residual.ensures.1
    (weights_faulty c.args.weights.now c.args.forced.now c.args.forbidden.now c.args.proposers c.args.reviewers c.in_err-pairs.field-0.0 c.in_err-pairs.ensures.fault)

pub returns-in-Some-clause-fault : goal.returns-in-Some-clause-fault
returns-in-Some-clause-fault c =
    bad_forced c.args.weights.now c.args.forced.now c.args.forbidden.now c.args.proposers c.args.reviewers c.in_ok-pairs.ensures.sound c.in-Some.n c.in-Some.ensures

pub returns-in-Some-first_bad_pair-clause-fault : goal.returns-in-Some-first_bad_pair-clause-fault
returns-in-Some-first_bad_pair-clause-fault c =
    bad_forbidden c.args.weights.now c.args.forced.now c.args.forbidden.now c.args.proposers c.args.reviewers c.in_ok-pairs.ensures.sound c.in_default.ensures c.in-Some-first_bad_pair.n c.in-Some-first_bad_pair.ensures

pub returns-clause-sound : goal.returns-clause-sound
returns-clause-sound c =
    λ n l. let all = length-items c.args.weights.now c.args.forced.now c.args.forbidden.now in
    sound_forbidden c.args.weights.now c.args.forced.now c.args.forbidden.now c.args.proposers c.args.reviewers c.in_ok-pairs.ensures.sound c.in_default.ensures (length c.args.forbidden.now) c.in_default-first_bad_pair.ensures n (omega arith)
