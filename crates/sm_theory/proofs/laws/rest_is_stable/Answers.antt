use Rattle.sm_theory.proofs.Room.Partitions.{rest_is_stable}
use Rattle.sm_theory.proofs.laws.rest_is_stable.Goals as goal

pub returns : goal.returns
returns c = rest_is_stable
