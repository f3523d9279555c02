use Rattle.sm_answer_roommates.specs.Walking.{IsPartyFront}
use Rattle.sm_answer_roommates.proofs.PartyLemmas.{unmet_in}
use Rattle.sm_answer_roommates.proofs.parties.party_of.Given as goal

abbrev pub invariant-along : goal.invariant-along
invariant-along l = IsPartyFront l.partition.next l.x l.fn.met l.met l.party.items l.y

abbrev pub decreases-along : goal.decreases-along
decreases-along l = unmet_in l.met
