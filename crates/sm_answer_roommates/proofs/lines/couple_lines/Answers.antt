use Rattle.sm_answer_roommates.proofs.LineLemmas.{couples_sound, mates_fit}
use Rattle.sm_answer_roommates.proofs.lines.couple_lines.Goals as goal

pub invariant_of-room_lines : goal.invariant_of-room_lines
invariant_of-room_lines c = record { few = mates_fit c.persons-persons.ensures.sound c.requires.stable }

pub room_lines-requires : goal.room_lines-requires
room_lines-requires c = record { sound = couples_sound c.requires.input c.requires.stable }

pub returns-clause-right : goal.returns-clause-right
returns-clause-right c = λ lines given.
    let shown = c.room_lines.ensures.right lines given in
    record { answer = shown.answer; is_right = record { mates = c.args.mates.now; stable = c.requires.stable; shows = shown.is_right }; shows = shown.shows }
