use Rattle.sm_answer_roommates.proofs.PersonLemmas.{excluding}
use Rattle.sm_answer_roommates.proofs.solution.find_roommates.Goals as goal

pub returns-in-None : goal.returns-in-None
returns-in-None c =
    let lowest = c.odd_party.ensures c.in_ok-market.market c.in_ok-partition.ensures.partition in
    let none = rw c.in-None.is at lowest in
    let stable = c.in_ok-partition.ensures.stable none in
    rw (c.in_ok-rest_matching-in-None.ensures, ← c.in_ok-market.ensures) stable

pub returns : goal.returns
returns c =
    let lowest = c.odd_party.ensures c.in_ok-market.market c.in_ok-partition.ensures.partition in
    let odd = rw c.in-Some.is at lowest in
    rw (← c.in_ok-market.ensures) (excluding c.in_ok-partition.ensures.partition c.in_ok-parties_of-in-Some.ensures odd.0)
