use Rattle.std.proofs.Common.{◌∙◌}
use Rattle.sm_answer_survey.proofs.RegretLemmas.{greatest_is, greatest_of_pieces}
use Rattle.sm_answer_survey.proofs.regrets.Regrets.regret.Goals as goal

pub returns-clause-regret : goal.returns-clause-regret
returns-clause-regret c = λ places m is.
    let k = c.keep_pieces.ensures in
    c.greatest.ensures ∙ greatest_of_pieces c.keep_pieces.new.worse c.keep_pieces.new.greatest k.greatest ∙ greatest_is places k.worse m (k.ranks ∙ is)
