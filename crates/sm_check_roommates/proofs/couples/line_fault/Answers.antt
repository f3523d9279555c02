use Rattle.std.proofs.Common.{ℕ, List, subst}
use Rattle.sm_check_clauses.specs.Rooming.{IsFreeCouple}
use Rattle.sm_check_clauses.proofs.AnswerLemmas.{first_clause}
use Rattle.sm_check_roommates.proofs.CoupleLemmas.{couple_holds}
use Rattle.sm_check_roommates.proofs.couples.line_fault.Goals as goal

pub returns-then-not-couples-clause-found : goal.returns-then-not-couples-clause-found
returns-then-not-couples-clause-found c = λ persons pairs is k. rw c.in-Pair.is (first_clause (λ free. c.if-not-couples.ensures pairs k (rw is free)))

pub returns-else-not-couples-clause-found : goal.returns-else-not-couples-clause-found
returns-else-not-couples-clause-found c = λ persons pairs is k.
    let j = c.if-not-couples.ensures pairs k in
    rw c.in-Pair.is (couple_holds persons pairs c.in-Pair.x c.in-Pair.y (subst (λ (rows : List (List ℕ)). IsFreeCouple rows pairs (c.in-Pair.x, c.in-Pair.y)) is j.free))

pub returns-else-not-couples-clause-held : goal.returns-else-not-couples-clause-held
returns-else-not-couples-clause-held c = λ pairs k _. rw c.in-Pair.is (c.if-not-couples.ensures pairs k).held

pub returns-in-End-clause-found : goal.returns-in-End-clause-found
returns-in-End-clause-found c = rw c.in-End.is c.end_fault.ensures
