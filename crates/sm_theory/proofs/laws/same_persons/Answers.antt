use Rattle.sm_theory.proofs.Room.Partitions.{same_persons}
use Rattle.sm_theory.proofs.laws.same_persons.Goals as goal

pub returns : goal.returns
returns c = same_persons
