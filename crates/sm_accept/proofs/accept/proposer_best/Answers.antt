use Rattle.std.proofs.Common.{◌∙◌}
use Rattle.sm_lists.proofs.ResultLemmas.{IfOk-both}
use Rattle.sm_accept.proofs.accept.proposer_best.Goals as goal

pub held-requires : goal.held-requires
held-requires c = rw c.deref.ensures.value c.in_ok-places.ensures.held

pub returns-clause-best : goal.returns-clause-best
returns-clause-best c = IfOk-both c.held.result _ _ _
    (λ m made places. c.in_ok-places.ensures.best m.places made.matching (places ∙ c.deref.ensures.value))
    c.held.ensures.pairing c.held.ensures.places

pub returns-clause-worst : goal.returns-clause-worst
returns-clause-worst c = IfOk-both c.held.result _ _ _
    (λ m made places. c.in_ok-places.ensures.worst m.places made.matching (places ∙ c.deref.ensures.value))
    c.held.ensures.pairing c.held.ensures.places
