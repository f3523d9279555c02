use Rattle.std.proofs.Common.{sym, subst, refl}
use Rattle.sm_answer_survey.specs.Surveying.{IsLastVector}
use Rattle.sm_answer_survey.proofs.SurveyLemmas.{ended, limited}
use Rattle.sm_answer_survey.proofs.feeding.take_survey.Goals.{then-listed-limit, else-listed-limit+in_ok-last}
use Rattle.sm_answer_survey.proofs.feeding.take_survey.Goals as goal

pub returns : goal.returns
returns g c = elim c.if-listed-limit.branch [
  | then-listed-limit w ↦ ended c.args.limit _ c.feed_listed-listed.ensures w.if-listed-limit.true refl w.last-is
  | else-listed-limit+in_ok-last w ↦ limited c.args.limit _ c.feed_listed-listed.ensures w.if-listed-limit.false refl (subst (IsLastVector c.feed_listed-listed.new.lister) (sym w.last-is) w.in_ok-last.ensures)
]
