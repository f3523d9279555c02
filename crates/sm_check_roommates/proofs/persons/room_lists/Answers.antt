use Rattle.sm_check_roommates.proofs.PersonLemmas.{persons_within, persons_listed}
use Rattle.sm_check_roommates.proofs.persons.room_lists.Goals as goal

pub new-requires-clause-limits : goal.new-requires-clause-limits
new-requires-clause-limits c = rw (c.in_ok-lists.ensures, c.persons.ensures.agents) (persons_within c.persons.ensures.sound)

pub new-requires-clause-sound : goal.new-requires-clause-sound
new-requires-clause-sound c = rw (c.in_ok-lists.ensures, c.persons.ensures.agents) (persons_listed c.persons.ensures.sound)
