use Rattle.std.proofs.Common.{◌∙◌}
use Rattle.sm_lists.proofs.ResultLemmas.{IfOk-both}
use Rattle.sm_check_clauses.proofs.SeatPairLemmas.{made_is}
use Rattle.sm_check_clauses.proofs.seat_pairs.SeatPairs.pairing.Goals as goal

pub returns-clause-places : goal.returns-clause-places
returns-clause-places c = IfOk-both c.held.result _ _ _
    (λ m made places pairs k. made_is k c.proposers.ensures.market m made (places ∙ c.deref.ensures.value))
    c.held.ensures.pairing c.held.ensures.places
