use Rattle.sm_answer.proofs.AnswerLemmas.{same_some, same_is, joined_some, joined_is, given_right, given_some}
use Rattle.sm_answer_solve.specs.SolutionGiven.{solution_given}
use Rattle.sm_answer_solve.proofs.SolutionLemmas.{solution_right, solution_sound}
use Rattle.sm_answer_solve.proofs.solution.solution_lines.Goals as goal

pub returns-clause-right : goal.returns-clause-right
returns-clause-right c =
    let m = c.args.solution.now in
    given_right _ _ _ (solution_given m.side c.args.instance.now m.best.places.items) (joined_is _ _ _ _ (same_is _) (joined_is _ _ _ _ (same_is _) (same_is _)))
    (solution_right m.side c.args.instance.now m.best.places.items c.requires.best)

pub returns-clause-some : goal.returns-clause-some
returns-clause-some c =
    let m = c.args.solution.now in
    given_some _ _ (solution_given m.side c.args.instance.now m.best.places.items) (joined_some _ _ (same_some _) (joined_some _ _ (same_some _) (same_some _)))
    (joined_is _ _ _ _ (same_is _) (joined_is _ _ _ _ (same_is _) (same_is _)))
    (solution_sound c.args.input.now m.side m.best.places.items c.proposer_count-count.ensures.instance c.requires.input c.requires.best)
