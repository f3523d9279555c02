use Rattle.sm_agents.specs.Written.{lists_of}
use Rattle.sm_answer.proofs.AnswerLemmas.{same_some, same_is, joined_some, joined_is, given_right, given_some}
use Rattle.sm_answer_roommates.specs.RestAnswer.{IsRestOf}
use Rattle.sm_answer_roommates.proofs.RestLemmas.{rest_given, rest_is, given_rest_sound, out_fits}
use Rattle.sm_answer_roommates.proofs.rest.rest_lines.Goals as goal

pub invariant_of-result : goal.invariant_of-result
invariant_of-result c = record { few = rw c.deref.ensures.value (out_fits c.persons-persons.ensures.sound c.requires.found) }

pub returns-clause-right : goal.returns-clause-right
returns-clause-right c =
    let out = c.deref.result.now in
    let mates = c.deref-2.result.now in
    let found : IsRestOf (lists_of c.args.persons.now) out mates = rw (c.deref.ensures.value, c.deref-2.ensures.value) c.requires.found in
    given_right _ _ _ (rest_given out mates)
    (joined_is _ _ _ _ (same_is _) (joined_is _ _ _ _ (same_is _) (joined_is _ _ _ _ (same_is _) (same_is _))))
    (record { out = out; mates = mates; found = found; shows = rest_is out mates })

pub returns-clause-some : goal.returns-clause-some
returns-clause-some c =
    let out = c.deref.result.now in
    let mates = c.deref-2.result.now in
    let found : IsRestOf (lists_of c.args.persons.now) out mates = rw (c.deref.ensures.value, c.deref-2.ensures.value) c.requires.found in
    given_some _ _ (rest_given out mates)
    (joined_some _ _ (same_some _) (joined_some _ _ (same_some _) (joined_some _ _ (same_some _) (same_some _))))
    (joined_is _ _ _ _ (same_is _) (joined_is _ _ _ _ (same_is _) (joined_is _ _ _ _ (same_is _) (same_is _))))
    (given_rest_sound c.requires.input found)
