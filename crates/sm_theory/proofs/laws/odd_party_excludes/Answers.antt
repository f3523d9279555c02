use Rattle.sm_theory.proofs.Room.Partitions.{odd_party_excludes}
use Rattle.sm_theory.proofs.laws.odd_party_excludes.Goals as goal

pub returns : goal.returns
returns c = odd_party_excludes
