use Rattle.sm_room.proofs.FromLemmas.{last_at}
use Rattle.sm_room.proofs.cycle_walk.last_of.Goals as goal

pub returns-clause-last : goal.returns-clause-last
returns-clause-last c = let w = last_at c.requires.good c.requires.some in rw c.at.ensures.named w.1
