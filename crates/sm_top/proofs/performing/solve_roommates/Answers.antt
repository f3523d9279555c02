use Rattle.sm_top.proofs.KindLemmas.{room_solved, room_unsolved}
use Rattle.sm_top.proofs.performing.solve_roommates.Goals as goal

pub returns-in-Matching : goal.returns-in-Matching
returns-in-Matching g c = room_solved c.args.input.now c.args.persons.now _ _ _ _ _ _ c.requires c.couple_lines-lines.ensures.right c.write.ensures

pub returns-in-Parties : goal.returns-in-Parties
returns-in-Parties g c = room_unsolved c.args.input.now c.args.persons.now _ _ _ _ _ _ c.requires c.party_lines-lines.ensures.right c.write-in-Parties.ensures
