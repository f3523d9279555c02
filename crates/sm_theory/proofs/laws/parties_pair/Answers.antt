use Rattle.sm_theory.proofs.Room.Pairing.{parties_pair}
use Rattle.sm_theory.proofs.laws.parties_pair.Goals as goal

pub returns : goal.returns
returns c = parties_pair
