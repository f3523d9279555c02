use Rattle.sm_answer.proofs.AnswerLemmas.{same_some, same_is, joined_some, joined_is, given_right, given_some}
use Rattle.sm_answer_median.proofs.LineLemmas.{median_given, median_right, median_sound}
use Rattle.sm_answer_median.proofs.answer.median_lines.Goals as goal

pub returns-clause-right : goal.returns-clause-right
returns-clause-right c =
    let found = c.args.found.now in
    given_right _ _ _ (median_given c.args.instance.now found.listed found.matching.places.items) (joined_is _ _ _ _ (same_is _) (joined_is _ _ _ _ (same_is _) (joined_is _ _ _ _ (same_is _) (same_is _))))
    (median_right c.requires.found)

pub returns-clause-some : goal.returns-clause-some
returns-clause-some c =
    let found = c.args.found.now in
    given_some _ _ (median_given c.args.instance.now found.listed found.matching.places.items) (joined_some _ _ (same_some _) (joined_some _ _ (same_some _) (joined_some _ _ (same_some _) (same_some _))))
    (joined_is _ _ _ _ (same_is _) (joined_is _ _ _ _ (same_is _) (joined_is _ _ _ _ (same_is _) (same_is _))))
    (median_sound c.requires.found c.args.input.now c.requires.input)
