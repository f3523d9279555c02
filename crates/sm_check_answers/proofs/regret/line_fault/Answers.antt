use Rattle.std.proofs.Common.{ℕ, sym, subst, append-nil, List}
use Rattle.std.specs.Prelude.{unwrap_or}
use Rattle.sm_holding.specs.PairsKept.{ArePairsHeld}
use Rattle.sm_check_clauses.proofs.AnswerLemmas.{finds_keeping}
use Rattle.sm_check_answers.proofs.RegretLemmas.{pair_holds}
use Rattle.sm_check_answers.proofs.regret.line_fault.Goals as goal

pub returns-else-not-joins : goal.returns-else-not-joins
returns-else-not-joins c = λ pairs k.
    let j = c.if-not-joins.ensures pairs k in
    rw c.in-Pair.is (pair_holds c.args.instance.now (unwrap_or c.args.regret 0) pairs c.in-Pair.p c.in-Pair.r j.free, j.held)

pub returns-in-End : goal.returns-in-End
returns-in-End c = λ pairs k.
    rw c.in-End.is (finds_keeping _ _ c.end_fault.result (c.end_fault.ensures pairs k)
    (subst (λ (said : List (ℕ × ℕ)). ArePairsHeld c.args.instance.now said c.args.holding.now) (sym (append-nil pairs)) k))
