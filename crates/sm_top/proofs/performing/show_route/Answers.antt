use Rattle.sm_text.specs.Lines.{texts_from}
use Rattle.sm_answer_route.proofs.SeatedLemmas.{left_stable, right_stable}
use Rattle.sm_serve.specs.declared.status.Status.TheVariants.{Done}
use Rattle.sm_serve.proofs.WritingLemmas.{wrote_given}
use Rattle.sm_top.proofs.performing.show_route.Goals as goal

pub find_route-requires-clause-left : goal.find_route-requires-clause-left
find_route-requires-clause-left g c = left_stable c.in_ok-ends.ensures.given

pub find_route-requires-clause-right : goal.find_route-requires-clause-right
find_route-requires-clause-right g c = right_stable c.in_ok-ends.ensures.given

pub returns-clause-leaves : goal.returns-clause-leaves
returns-clause-leaves g c =
    wrote_given Done _ _ _ _ _ _ _ (c.route_lines-lines.ensures.right (texts_from c.args.bytes.now c.args.given.now.read.now.rest) c.in_ok-ends.ensures.given) c.write.ensures
