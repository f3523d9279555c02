use Rattle.std.proofs.Common.{rules, ◌≡◌, length, subst}
use Rattle.std.specs.List.{All}
use Rattle.std.specs.Vec.Iter.{into_iter_items, into_iter_len}
use Rattle.sm_answer.proofs.AnswerLemmas.{same_some, same_is, joined_some, joined_is, given_right, given_some}
use Rattle.sm_report.specs.Lines.{line_of}
use Rattle.sm_report.specs.Sound.{AreNumbers}
use Rattle.sm_answer_survey.specs.SurveyAnswer.{survey_lines}
use Rattle.sm_answer_survey.proofs.LineLemmas.{left_is, left_some, survey_right, survey_sound, few_listed}
use Rattle.sm_answer_survey.proofs.answer.survey_lines.Goals as goal

pub returns-clause-right : goal.returns-clause-right
returns-clause-right g c =
    let shown = rw (c.deref.ensures.value) at c.in_ok-lines.ensures.shown in
    let last = line_of c.more_or_end.result in
    given_right _ _ _ (survey_lines c.args.limit c.in_ok-survey.survey.listed _ last)
    (joined_is _ _ _ _ (same_is _) (joined_is _ _ _ _ (same_is _) (joined_is _ _ _ _ (left_is _ _ c.into_iter.ensures.rest shown) (same_is _))))
    (survey_right c.args.limit last c.in_ok-survey.ensures c.more_or_end.ensures.line)

pub returns-clause-some : goal.returns-clause-some
returns-clause-some g c =
    let shown = rw (c.deref.ensures.value) at c.in_ok-lines.ensures.shown in
    let last = line_of c.more_or_end.result in
    let long : into_iter_len c.into_iter.result ≡ length (into_iter_items c.into_iter.result) = search rules in
    given_some _ _ (survey_lines c.args.limit c.in_ok-survey.survey.listed _ last)
    (joined_some _ _ (same_some _) (joined_some _ _ (same_some _) (joined_some _ _ (left_some long) (same_some _))))
    (joined_is _ _ _ _ (same_is _) (joined_is _ _ _ _ (same_is _) (joined_is _ _ _ _ (left_is _ _ c.into_iter.ensures.rest shown) (same_is _))))
    (survey_sound c.args.input.now c.args.limit c.in_ok-survey.survey.listed _ _ last c.requires.input c.requires.least c.requires.greatest (few_listed c.args.limit c.in_ok-survey.ensures)
    (subst (All AreNumbers) shown c.in_ok-lines.ensures.numbered) c.more_or_end.ensures.line c.more_or_end.ensures.numbers)
