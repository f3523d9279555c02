use Rattle.sm_rotations.proofs.HeapLemmas.{one_more}
use Rattle.sm_rotations.proofs.order.add_ready.Goals as goal

pub returns-clause-added : goal.returns-clause-added
returns-clause-added c = one_more _ _ _ c.in_ok-push.ensures.permutation
