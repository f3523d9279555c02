use Rattle.sm_theory.proofs.Room.Partitions.{even_parties_pair}
use Rattle.sm_theory.proofs.laws.even_parties_pair.Goals as goal

pub returns : goal.returns
returns c = even_parties_pair
