use Rattle.std.proofs.Common.{[], ◌∷◌}
use Rattle.sm_report.specs.Heads.{HeadData}
use Rattle.sm_report.specs.Lines.{LineData, line_of}
use Rattle.sm_answer.proofs.AnswerLemmas.{same_some, same_is, joined_some, joined_is, given_some}
use Rattle.sm_top.proofs.CheckLemmas.{answer_sound}
use Rattle.sm_top.proofs.checking.verdict_lines.Goals as goal

pub returns-clause-some : goal.returns-clause-some
returns-clause-some c =
    given_some _ _ (LineData.Answer HeadData.Check ∷ line_of c.verdict_line.result ∷ LineData.End ∷ [])
    (joined_some _ _ (same_some _) (joined_some _ _ (same_some _) (same_some _)))
    (joined_is _ _ _ _ (same_is _) (joined_is _ _ _ _ (same_is _) (same_is _)))
    (answer_sound c.args.input.now (line_of c.verdict_line.result) (c.verdict_line.ensures.sound c.args.input.now))
