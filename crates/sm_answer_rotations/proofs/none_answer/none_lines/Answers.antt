use Rattle.std.proofs.Common.{refl}
use Rattle.sm_answer.proofs.AnswerLemmas.{same_some, same_is, joined_some, joined_is, given_right, given_some}
use Rattle.sm_report.specs.Heads.{head_of}
use Rattle.sm_answer_rotations.specs.NoneAnswer.{none_lines}
use Rattle.sm_answer_rotations.proofs.PairLemmas.{none_sound}
use Rattle.sm_answer_rotations.proofs.none_answer.none_lines.Goals as goal

pub returns-clause-right : goal.returns-clause-right
returns-clause-right c =
    given_right _ _ _ (none_lines (head_of c.args.head)) (joined_is _ _ _ _ (same_is _) (joined_is _ _ _ _ (same_is _) (same_is _))) (record { none = c.requires.none; shows = refl })

pub returns-clause-some : goal.returns-clause-some
returns-clause-some c =
    given_some _ _ (none_lines (head_of c.args.head)) (joined_some _ _ (same_some _) (joined_some _ _ (same_some _) (same_some _)))
    (joined_is _ _ _ _ (same_is _) (joined_is _ _ _ _ (same_is _) (same_is _)))
    (none_sound (head_of c.args.head) c.args.input.now c.args.instance.now c.requires.input c.requires.head)
