use Rattle.sm_serve.proofs.WritingLemmas.{wrote_given}
use Rattle.sm_serve.specs.declared.status.Status.TheVariants.{Done}
use Rattle.sm_top.proofs.performing.solve.Goals as goal

pub returns : goal.returns
returns g c = rw (← c.in_ok-solution.ensures.side) (wrote_given Done _ _ _ _ _ _ _ c.solution_lines-lines.ensures.right c.write.ensures)
