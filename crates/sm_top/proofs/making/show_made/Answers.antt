use Rattle.std.proofs.Common.{[]}
use Rattle.sm_top.proofs.KindLemmas.{text_made}
use Rattle.sm_top.proofs.making.show_made.Goals as goal

pub returns-then-is_summary-clause-leaves : goal.returns-then-is_summary-clause-leaves
returns-then-is_summary-clause-leaves g c = rw c.if-is_summary.true c.summarize.ensures.leaves

pub returns-clause-leaves : goal.returns-clause-leaves
returns-clause-leaves g c = rw c.if-is_summary.false (text_made [] c.args.input.now _ _ _ _ _ _ c.instance_lines.ensures.right c.write.ensures)
