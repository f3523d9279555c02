use Rattle.sm_answer.proofs.AnswerLemmas.{same_some, same_is, joined_some, joined_is, given_right, given_some}
use Rattle.sm_answer_pairs.specs.Found.{pairs_given}
use Rattle.sm_answer_pairs.proofs.PairsLemmas.{pairs_sound}
use Rattle.sm_answer_pairs.proofs.pairs.pairs_lines.Goals as goal

pub returns-clause-right : goal.returns-clause-right
returns-clause-right c =
    given_right _ _ _ (pairs_given c.args.pairs.now) (joined_is _ _ _ _ (same_is _) (joined_is _ _ _ _ (same_is _) (same_is _))) c.requires.found

pub returns-clause-some : goal.returns-clause-some
returns-clause-some c =
    given_some _ _ (pairs_given c.args.pairs.now) (joined_some _ _ (same_some _) (joined_some _ _ (same_some _) (same_some _)))
    (joined_is _ _ _ _ (same_is _) (joined_is _ _ _ _ (same_is _) (same_is _)))
    (pairs_sound c.args.input.now c.requires.input c.requires.found)
