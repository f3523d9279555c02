use Rattle.sm_theory.proofs.Room.Witness.{odd_party_is}
use Rattle.sm_theory.proofs.witnesses.odd_party.Goals as goal

pub returns : goal.returns
returns c = odd_party_is
