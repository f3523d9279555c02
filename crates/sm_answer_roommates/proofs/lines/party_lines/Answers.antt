use Rattle.std.proofs.Common.{◌∙◌}
use Rattle.sm_lists.specs.Rows.{rows_of}
use Rattle.sm_answer_roommates.proofs.LineLemmas.{parties_sound, parties_are, parties_fit}
use Rattle.sm_answer_roommates.proofs.lines.party_lines.Goals as goal

pub invariant_of-room_lines : goal.invariant_of-room_lines
invariant_of-room_lines c = record { few = parties_fit c.args.parties.now c.persons-persons.ensures.sound c.requires.excluding }

pub room_lines-requires : goal.room_lines-requires
room_lines-requires c = record { sound = parties_sound c.args.parties.now c.requires.input c.requires.excluding }

pub returns-clause-right : goal.returns-clause-right
returns-clause-right c = λ lines given.
    let shown = c.room_lines.ensures.right lines given in
    record {
      answer = shown.answer;
      is_right = record { parties = rows_of c.args.parties.now; excluding = c.requires.excluding; shows = shown.is_right ∙ parties_are c.args.parties.now };
      shows = shown.shows;
    }
