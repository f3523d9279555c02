use Rattle.std.proofs.Common.{◌∙◌, get_or, pos, rules, w64}
use Rattle.std.proofs.lemmas.Int.{to_z-of_z}
use Rattle.std.specs.Int.RustNames.{FitsSigned}
use Rattle.sm_instance_lines.proofs.ItemLemmas.{weight_text, force_text, forbid_text, last_text, weight_there, force_there, forbid_there}
use Rattle.sm_instance_lines.proofs.finding.item_line_at.Goals as goal

pub returns-then-place-weights-clause-text : goal.returns-then-place-weights-clause-text
returns-then-place-weights-clause-text c =
    let weights = c.weights-weights.result.now in
    let seconds = c.seconds.result.now in
    let fits : FitsSigned w64 (get_or weights c.args.place (0, 0, pos 0)).2 = search rules in
    let further : FitsSigned w64 (get_or seconds c.args.place (pos 0)) = search rules in
    rw (to_z-of_z, to_z-of_z) (weight_text c.args.instance.now c.seconds.ensures.each weights seconds c.weights-weights.ensures c.seconds.ensures.seconds c.args.place c.if-place-weights.true)

pub returns-then-place-weights-clause-agents : goal.returns-then-place-weights-clause-agents
returns-then-place-weights-clause-agents c =
    let there = weight_there c.args.instance.now c.forced-forced.ensures.instance.seconds_each c.forced-forced.ensures.instance c.weights-weights.result.now c.weights-weights.ensures c.args.place c.if-place-weights.true in
    (there.proposer, there.reviewer)

pub returns-then-place-forced-clause-text : goal.returns-then-place-forced-clause-text
returns-then-place-forced-clause-text c =
    force_text c.args.instance.now c.forced-forced.ensures.instance.seconds_each c.weights-weights.result.now c.forced-forced.result.now c.weights-weights.ensures c.forced-forced.ensures.pairs c.args.place
    c.if-place-weights.false c.if-place-forced.true

pub returns-then-place-forced-clause-agents : goal.returns-then-place-forced-clause-agents
returns-then-place-forced-clause-agents c =
    let there = force_there c.args.instance.now c.forced-forced.ensures.instance.seconds_each c.forced-forced.ensures.instance c.forced-forced.result.now c.forced-forced.ensures.pairs _ c.if-place-forced.true in
    (there.proposer, there.reviewer)

pub returns-then-place-forbidden-clause-text : goal.returns-then-place-forbidden-clause-text
returns-then-place-forbidden-clause-text c =
    forbid_text c.args.instance.now c.forced-forced.ensures.instance.seconds_each c.weights-weights.result.now c.forced-forced.result.now c.forbidden-forbidden.result.now c.weights-weights.ensures c.forced-forced.ensures.pairs
    c.forbidden-forbidden.ensures.pairs c.args.place c.if-place-weights.false c.if-place-forced.false c.if-place-forbidden.true

pub returns-then-place-forbidden-clause-agents : goal.returns-then-place-forbidden-clause-agents
returns-then-place-forbidden-clause-agents c =
    let there = forbid_there c.args.instance.now c.forced-forced.ensures.instance.seconds_each c.forced-forced.ensures.instance c.forbidden-forbidden.result.now c.forbidden-forbidden.ensures.pairs _ c.if-place-forbidden.true in
    (there.proposer, there.reviewer)

pub returns-clause-text : goal.returns-clause-text
returns-clause-text c =
    c.last_line_at.ensures.text
    ∙ last_text c.args.instance.now c.forced-forced.ensures.instance.seconds_each c.weights-weights.result.now c.forced-forced.result.now c.forbidden-forbidden.result.now c.weights-weights.ensures
    c.forced-forced.ensures.pairs c.forbidden-forbidden.ensures.pairs c.args.place c.if-place-weights.false c.if-place-forced.false c.if-place-forbidden.false
