use Rattle.std.proofs.Common.{◌∙◌, ◌++◌, ◌∷◌, [], sym, ap, subst}
use Rattle.std.specs.Option.{option_or}
use Rattle.sm_report.specs.Lines.{line_of}
use Rattle.sm_check_clauses.specs.Vectors.{RegretClauses}
use Rattle.sm_check_answers.specs.Regrets.{AreRegretsKept}
use Rattle.sm_check_clauses.specs.Walking.{FindsOrKeeps}
use Rattle.sm_check_answers.proofs.RegretLemmas.{regret_judged}
use Rattle.sm_check_answers.proofs.regret.RegretJudgeJudge.find_fault.Goals as goal

pub returns-clause-found : goal.returns-clause-found
returns-clause-found c = λ above k.
    let w = c.args.self.now.instance.now in
    let x = line_of c.args.line.now in
    subst (λ said. FindsOrKeeps (RegretClauses w above x) (AreRegretsKept w (above ++ x ∷ []) c.line_fault-why.new.holding said) c.line_fault-why.result)
    (sym (c.or-self.ensures ∙ ap (option_or c.args.self.now.regret) c.regret_in.ensures))
    (regret_judged x c.args.self.now.holding c.line_fault-why.new.holding c.line_fault-why.result (λ pairs h. c.line_fault-why.ensures pairs h) above k)
