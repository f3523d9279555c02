use Rattle.std.proofs.Common.{sym, ◌∙◌}
use Rattle.sm_check_clauses.proofs.AnswerLemmas.{first_clause}
use Rattle.sm_check_answers.proofs.VectorLemmas.{not_matching}
use Rattle.sm_check_answers.proofs.tried.first_fault.Goals as goal

pub returns-then-is_some-clause-found : goal.returns-then-is_some-clause-found
returns-then-is_some-clause-found c =
    first_clause (not_matching c.args.instance.now c.args.a.now.places.items c.breach.result c.breach.ensures (sym c.is_some.ensures ∙ c.if-is_some.true))
