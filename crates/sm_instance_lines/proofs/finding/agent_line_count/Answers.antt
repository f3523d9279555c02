use Rattle.std.proofs.Common.{sym, ap, ◌∙◌, arith, length, true, false}
use Rattle.sm_instance_lines.proofs.CountLemmas.{lines_counted}
use Rattle.sm_instance_lines.proofs.finding.agent_line_count.Goals as goal

pub returns-then-has_own_order-clause-count : goal.returns-then-has_own_order-clause-count
returns-then-has_own_order-clause-count c =
    let w = c.args.instance.now in
    let all = lines_counted w c.has_own_order.ensures.instance.seconds_each true (sym c.if-has_own_order.true ∙ c.has_own_order.ensures.own) in
    let left = c.proposer_count.ensures.count in
    let right = c.reviewer_count.ensures.count in
    omega (arith, all, left, right, ap length c.weights-weights.ensures, ap length c.forced-forced.ensures.pairs, ap length c.forbidden-forbidden.ensures.pairs)

pub returns-else-has_own_order-clause-count : goal.returns-else-has_own_order-clause-count
returns-else-has_own_order-clause-count c =
    let w = c.args.instance.now in
    let all = lines_counted w c.has_own_order.ensures.instance.seconds_each false (sym c.if-has_own_order.false ∙ c.has_own_order.ensures.own) in
    let left = c.proposer_count.ensures.count in
    let right = c.reviewer_count.ensures.count in
    omega (arith, all, left, right, ap length c.weights-weights.ensures, ap length c.forced-forced.ensures.pairs, ap length c.forbidden-forbidden.ensures.pairs)
