use Rattle.sm_answer_roommates.proofs.WitnessLemmas.{odd_parties_shown}
use Rattle.sm_answer_roommates.proofs.witnesses.odd_parties.Goals as goal

pub returns : goal.returns
returns c = odd_parties_shown
