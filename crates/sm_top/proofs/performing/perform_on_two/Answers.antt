use Rattle.std.proofs.Common.{[], ap, sym, subst}
use Rattle.sm_text.specs.Lines.{texts_from}
use Rattle.sm_words.specs.Takes.{takes_text}
use Rattle.sm_reader.specs.InstanceText.{read_of}
use Rattle.sm_serve.proofs.WritingLemmas.{leaves_for}
use Rattle.sm_words.specs.Jobs.{JobData, Solve, Reduced, Rotations, Pairs, Regret, Weight, Meet, Join, Survey, Median, Route}
use Rattle.sm_answer_rotations.specs.Reduction.{IsReduction}
use Rattle.sm_answer_rotations.specs.RotationAnswer.{IsRotationAnswer}
use Rattle.sm_answer_list.specs.ListAnswer.{IsListAnswer}
use Rattle.sm_answer_list.specs.Started.{cursor_in}
use Rattle.sm_answer_pairs.specs.PairsAnswer.{IsPairsAnswer}
use Rattle.sm_theory.specs.declared.choice.Choice.TheVariants.{Better, Worse}
use Rattle.sm_answer_given.specs.Chosen.{IsChosenAnswer}
use Rattle.sm_answer_route.specs.RouteAnswer.{IsRouteAnswer}
use Rattle.sm_instance.specs.declared.inputs.Input.{Input}
use Rattle.sm_top.specs.Outcome.{IsSolved, IsAnyList, IsRegretted, IsWeighed, IsMiddle}
use Rattle.sm_serve.specs.declared.status.Status.TheVariants.{Done}
use Rattle.sm_words.specs.Jobs.{job_of}
use Rattle.sm_top.proofs.RunLemmas.{wrote_answer, wrote_answer_by, wrote_as}
use Rattle.sm_top.proofs.KindLemmas.{answer_over, two_solved, wrote_export}
use Rattle.sm_top.proofs.performing.perform_on_two.Goals as goal

pub returns-in_ok-solve-in-Solve-clause-leaves : goal.returns-in_ok-solve-in-Solve-clause-leaves
returns-in_ok-solve-in-Solve-clause-leaves g c = λ text kept accepted.
    let ok = rw c.in-Solve.is at accepted in
    let given = c.args.given.now in
    rw c.in-Solve.is (answer_over (Solve c.in-Solve.side) text (read_of given.read.now) (IsSolved c.in-Solve.side) _ _ _ _ _ ok (two_solved c.in-Solve.side given.read.now.input given.instance.now _ _ _ _ _ c.args.given.now.counted.two c.in_ok-solve-in-Solve.ensures))

pub returns-in_ok-reduce-in-Reduced-clause-leaves : goal.returns-in_ok-reduce-in-Reduced-clause-leaves
returns-in_ok-reduce-in-Reduced-clause-leaves g c = λ text kept accepted.
    let ok = rw c.in-Reduced.is at accepted in
    let given = c.args.given.now in
    rw c.in-Reduced.is (wrote_answer Reduced text (read_of given.read.now) given.instance.now IsReduction Done _ _ _ _ _ ok c.args.given.now.counted.two c.in_ok-reduce-in-Reduced.ensures)

pub returns-in_ok-show_rotations-in-Rotations-clause-leaves : goal.returns-in_ok-show_rotations-in-Rotations-clause-leaves
returns-in_ok-show_rotations-in-Rotations-clause-leaves g c = λ text kept accepted.
    let ok = rw c.in-Rotations.is at accepted in
    let given = c.args.given.now in
    rw c.in-Rotations.is (wrote_answer Rotations text (read_of given.read.now) given.instance.now IsRotationAnswer Done _ _ _ _ _ ok c.args.given.now.counted.two c.in_ok-show_rotations-in-Rotations.ensures)

pub returns-in-List-clause-leaves : goal.returns-in-List-clause-leaves
returns-in-List-clause-leaves g c = λ text kept accepted.
    let ok = rw c.in-List.is at accepted in
    let given = c.args.given.now in
    let after = cursor_in c.in-List.after in
    rw c.in-List.is (leaves_for c.list.result _ _ (λ status w. wrote_as (JobData.List after c.in-List.limit) text (read_of given.read.now) (IsListAnswer after c.in-List.limit given.instance.now) (IsAnyList after c.in-List.limit) Done _ _ _ _ status ok
    (λ answer h. subst (λ (input : Input). IsAnyList after c.in-List.limit input answer) (sym c.args.given.now.counted.two) h) w) c.list.ensures.leaves)

pub returns-in_ok-show_pairs-in-Pairs-clause-leaves : goal.returns-in_ok-show_pairs-in-Pairs-clause-leaves
returns-in_ok-show_pairs-in-Pairs-clause-leaves g c = λ text kept accepted.
    let ok = rw c.in-Pairs.is at accepted in
    let given = c.args.given.now in
    rw c.in-Pairs.is (wrote_answer Pairs text (read_of given.read.now) given.instance.now IsPairsAnswer Done _ _ _ _ _ ok c.args.given.now.counted.two c.in_ok-show_pairs-in-Pairs.ensures)

pub returns-in_ok-show_regret-in-Regret-clause-leaves : goal.returns-in_ok-show_regret-in-Regret-clause-leaves
returns-in_ok-show_regret-in-Regret-clause-leaves g c = λ text kept accepted.
    let ok = rw c.in-Regret.is at accepted in
    rw c.in-Regret.is (answer_over Regret text (read_of c.args.given.now.read.now) IsRegretted _ _ _ _ _ ok c.in_ok-show_regret-in-Regret.ensures)

pub choose-requires : goal.choose-requires
choose-requires g c = c.requires.few (ap (λ j. takes_text (job_of j)) c.in-Meet.is)

pub choose-requires-in-Join : goal.choose-requires-in-Join
choose-requires-in-Join g c = c.requires.few (ap (λ j. takes_text (job_of j)) c.in-Join.is)

pub returns-in-Meet-clause-leaves : goal.returns-in-Meet-clause-leaves
returns-in-Meet-clause-leaves g c = λ text kept accepted.
    let ok = rw c.in-Meet.is at accepted in
    let given = c.args.given.now in
    let same = kept (ap (λ j. takes_text (job_of j)) c.in-Meet.is) in
    rw c.in-Meet.is (leaves_for c.choose.result _ _ (λ status w. wrote_answer_by Meet text (read_of given.read.now) given.instance.now (λ read. IsChosenAnswer Better (texts_from text read.rest)) Done _ _ _ _ status ok c.args.given.now.counted.two w) (rw same at c.choose.ensures.leaves))

pub returns-in-Meet-clause-stop : goal.returns-in-Meet-clause-stop
returns-in-Meet-clause-stop g c = λ text kept.
    let same = kept (ap (λ j. takes_text (job_of j)) c.in-Meet.is) in
    rw c.in-Meet.is (rw c.args.given.now.counted.two (rw same at c.choose.ensures.stop))

pub returns-in-Join-clause-leaves : goal.returns-in-Join-clause-leaves
returns-in-Join-clause-leaves g c = λ text kept accepted.
    let ok = rw c.in-Join.is at accepted in
    let given = c.args.given.now in
    let same = kept (ap (λ j. takes_text (job_of j)) c.in-Join.is) in
    rw c.in-Join.is (leaves_for c.choose-in-Join.result _ _ (λ status w. wrote_answer_by Join text (read_of given.read.now) given.instance.now (λ read. IsChosenAnswer Worse (texts_from text read.rest)) Done _ _ _ _ status ok c.args.given.now.counted.two w) (rw same at c.choose-in-Join.ensures.leaves))

pub returns-in-Join-clause-stop : goal.returns-in-Join-clause-stop
returns-in-Join-clause-stop g c = λ text kept.
    let same = kept (ap (λ j. takes_text (job_of j)) c.in-Join.is) in
    rw c.in-Join.is (rw c.args.given.now.counted.two (rw same at c.choose-in-Join.ensures.stop))

pub returns-in_ok-survey-in-Survey-clause-leaves : goal.returns-in_ok-survey-in-Survey-clause-leaves
returns-in_ok-survey-in-Survey-clause-leaves g c = λ text kept accepted.
    let ok = rw c.in-Survey.is at accepted in
    let given = c.args.given.now in
    rw c.in-Survey.is (wrote_answer (Survey c.in-Survey.limit) text (read_of given.read.now) given.instance.now _ Done _ _ _ _ _ ok c.args.given.now.counted.two c.in_ok-survey-in-Survey.ensures)

pub returns-in_ok-show_lightest-in-Weight-clause-leaves : goal.returns-in_ok-show_lightest-in-Weight-clause-leaves
returns-in_ok-show_lightest-in-Weight-clause-leaves g c = λ text kept accepted.
    let ok = rw c.in-Weight.is at accepted in
    rw c.in-Weight.is (answer_over (Weight c.in-Weight.by) text (read_of c.args.given.now.read.now) (IsWeighed c.in-Weight.by) _ _ _ _ _ ok c.in_ok-show_lightest-in-Weight.ensures)

pub returns-in-Median-clause-leaves : goal.returns-in-Median-clause-leaves
returns-in-Median-clause-leaves g c = λ text kept accepted.
    let ok = rw c.in-Median.is at accepted in
    rw c.in-Median.is (leaves_for c.show_median.result _ _ (λ status w. answer_over Median text (read_of c.args.given.now.read.now) IsMiddle _ _ _ _ status ok w) c.show_median.ensures.leaves)

pub show_route-requires : goal.show_route-requires
show_route-requires g c = c.requires.few (ap (λ j. takes_text (job_of j)) c.in-Route.is)

pub returns-in-Route-clause-leaves : goal.returns-in-Route-clause-leaves
returns-in-Route-clause-leaves g c = λ text kept accepted.
    let ok = rw c.in-Route.is at accepted in
    let given = c.args.given.now in
    let same = kept (ap (λ j. takes_text (job_of j)) c.in-Route.is) in
    rw c.in-Route.is (leaves_for c.show_route.result _ _ (λ status w. wrote_answer_by Route text (read_of given.read.now) given.instance.now (λ read. IsRouteAnswer (texts_from text read.rest)) Done _ _ _ _ status ok c.args.given.now.counted.two w) (rw same at c.show_route.ensures.leaves))

pub returns-in-Route-clause-stop : goal.returns-in-Route-clause-stop
returns-in-Route-clause-stop g c = λ text kept.
    let same = kept (ap (λ j. takes_text (job_of j)) c.in-Route.is) in
    rw c.in-Route.is (rw c.args.given.now.counted.two (rw same at c.show_route.ensures.stop))

pub returns-in_ok-export-in-Export-clause-leaves : goal.returns-in_ok-export-in-Export-clause-leaves
returns-in_ok-export-in-Export-clause-leaves g c = λ text kept accepted.
    let ok = rw c.in-Export.is at accepted in
    let formed = rw c.in-Export.is at c.requires.form in
    let given = c.args.given.now in
    rw c.in-Export.is (wrote_export [] text (read_of given.read.now) given.form _ _ _ _ _ formed ok c.in_ok-export-in-Export.ensures)
