use Rattle.sm_serve.proofs.WritingLemmas.{wrote_given}
use Rattle.sm_serve.specs.declared.status.Status.TheVariants.{Done}
use Rattle.sm_top.proofs.performing.list.Goals as goal

pub returns-clause-leaves : goal.returns-clause-leaves
returns-clause-leaves g c = wrote_given Done _ _ _ _ _ _ _ c.in_ok-lines.ensures.right c.write.ensures
