use Rattle.sm_text.specs.Lines.{texts_from}
use Rattle.sm_serve.specs.declared.status.Status.TheVariants.{Done}
use Rattle.sm_serve.proofs.WritingLemmas.{wrote_given}
use Rattle.sm_top.proofs.choosing.choose.Goals as goal

pub returns-clause-leaves : goal.returns-clause-leaves
returns-clause-leaves g c = wrote_given Done _ _ _ _ _ _ _ (c.chosen_lines-lines.ensures.right (texts_from c.args.bytes.now c.args.given.now.read.now.rest) c.in_ok-two.ensures.given) c.write.ensures
