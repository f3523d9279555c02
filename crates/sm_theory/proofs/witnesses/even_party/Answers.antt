use Rattle.sm_theory.proofs.Room.Witness.{even_party_is}
use Rattle.sm_theory.proofs.witnesses.even_party.Goals as goal

pub returns : goal.returns
returns c = even_party_is
