use Rattle.sm_instance_lines.proofs.FormatLemmas.{own_order}
use Rattle.sm_instance_lines.proofs.formats.has_own_order.Goals as goal

pub returns-clause-own : goal.returns-clause-own
returns-clause-own c = own_order c.args.instance.now c.order.ensures.instance c.order.result.now c.are_counted.result c.order.ensures.order c.are_counted.ensures
