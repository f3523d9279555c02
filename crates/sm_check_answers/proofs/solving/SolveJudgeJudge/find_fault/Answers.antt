use Rattle.std.proofs.lemmas.Result.{IfOk-weaker}
use Rattle.sm_report.specs.Lines.{line_of}
use Rattle.sm_check_answers.proofs.SolvingLemmas.{kept_more}
use Rattle.sm_check_answers.proofs.solving.SolveJudgeJudge.find_fault.Goals as goal

pub returns-clause-found : goal.returns-clause-found
returns-clause-found c = IfOk-weaker c.line_fault.result _ _ (λ why h above k. kept_more c.args.self.now.side c.line_fault.new.pairs above k (line_of c.args.line.now) why (h _ k.pairs)) c.line_fault.ensures
