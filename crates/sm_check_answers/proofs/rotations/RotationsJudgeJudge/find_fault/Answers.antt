use Rattle.std.proofs.lemmas.Result.{IfOk-weaker}
use Rattle.sm_check_clauses.proofs.AnswerLemmas.{kept_as}
use Rattle.sm_check_answers.proofs.rotations.RotationsJudgeJudge.find_fault.Goals as goal

pub returns-in-Some-clause-found : goal.returns-in-Some-clause-found
returns-in-Some-clause-found c = IfOk-weaker c.find_fault.result _ _
    (λ why h above k. kept_as _ (λ at. record { market_is = k.market_is; firsts_are = k.firsts_are; at = at }) why (h above (rw c.in-Some.is at k.at)))
    c.find_fault.ensures

pub returns-in-None-clause-found : goal.returns-in-None-clause-found
returns-in-None-clause-found c = IfOk-weaker c.first_fault.result _ _
    (λ why h above k.
    kept_as _ (λ at. rw (c.first_fault.ensures.instance, c.first_fault.ensures.market, c.first_fault.ensures.firsts) (record { market_is = k.market_is; firsts_are = k.firsts_are; at = at })) why
    (h above (rw c.in-None.is at k.at)))
    c.first_fault.ensures.found
