use Rattle.sm_theory.proofs.Room.Partitions.{same_odd_parties}
use Rattle.sm_theory.proofs.laws.same_odd_parties.Goals as goal

pub returns : goal.returns
returns c = same_odd_parties
