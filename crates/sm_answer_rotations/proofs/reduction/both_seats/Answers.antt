use Rattle.sm_answer.proofs.AnswerLemmas.{same_some, same_is, joined_some, joined_is}
use Rattle.sm_answer_rotations.proofs.reduction.both_seats.Goals as goal

pub returns-clause-all : goal.returns-clause-all
returns-clause-all c = joined_is _ _ _ _ (same_is _) (same_is _)

pub returns-clause-some : goal.returns-clause-some
returns-clause-some c = joined_some _ _ (same_some _) (same_some _)
