use Rattle.sm_flow.proofs.WitnessLemmas.{maximum_is, others_are, unbounded_is}
use Rattle.sm_flow.proofs.witnesses.small_net.Goals as goal

pub returns-clause-maximum : goal.returns-clause-maximum
returns-clause-maximum c = maximum_is

pub returns-clause-others : goal.returns-clause-others
returns-clause-others c = others_are

pub returns-clause-unbounded : goal.returns-clause-unbounded
returns-clause-unbounded c = unbounded_is
