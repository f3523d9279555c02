use Rattle.sm_answer.specs.Lines.{line_left}
use Rattle.sm_answer.proofs.AnswerLemmas.{same_some, same_is, joined_some, joined_is, given_right, given_some}
use Rattle.sm_answer_roommates.proofs.LineLemmas.{lines_given, given_is, given_sound}
use Rattle.sm_answer_roommates.proofs.lines.room_lines.Goals as goal

pub returns-clause-right : goal.returns-clause-right
returns-clause-right g c =
    let line = g.T.Numbered.line c.args.items in
    let count = g.T.Numbered.count c.args.items in
    given_right _ _ _ (lines_given (line_left c.args.none) line count)
    (joined_is _ _ _ _ (same_is _) (joined_is _ _ _ _ (same_is _) (joined_is _ _ _ _ (same_is _) (same_is _))))
    (given_is (line_left c.args.none) line count)

pub returns-clause-some : goal.returns-clause-some
returns-clause-some g c =
    let line = g.T.Numbered.line c.args.items in
    let count = g.T.Numbered.count c.args.items in
    given_some _ _ (lines_given (line_left c.args.none) line count)
    (joined_some _ _ (same_some _) (joined_some _ _ (same_some _) (joined_some _ _ (same_some _) (same_some _))))
    (joined_is _ _ _ _ (same_is _) (joined_is _ _ _ _ (same_is _) (joined_is _ _ _ _ (same_is _) (same_is _))))
    (given_sound (line_left c.args.none) line count c.requires.sound)
