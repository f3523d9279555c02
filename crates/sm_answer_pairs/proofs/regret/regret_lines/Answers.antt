use Rattle.sm_answer.proofs.AnswerLemmas.{same_some, same_is, joined_some, joined_is, given_right, given_some}
use Rattle.sm_answer_pairs.specs.RegretFound.{regret_given}
use Rattle.sm_answer_pairs.proofs.RegretLemmas.{regret_right, regret_sound}
use Rattle.sm_answer_pairs.proofs.regret.regret_lines.Goals as goal

pub returns-clause-right : goal.returns-clause-right
returns-clause-right c =
    let found = c.args.found.now in
    given_right _ _ _ (regret_given c.args.seats.now found) (joined_is _ _ _ _ (same_is _) (joined_is _ _ _ _ (same_is _) (joined_is _ _ _ _ (same_is _) (same_is _))))
    (regret_right c.requires.seating found c.requires.found)

pub returns-clause-some : goal.returns-clause-some
returns-clause-some c =
    let found = c.args.found.now in
    given_some _ _ (regret_given c.args.seats.now found) (joined_some _ _ (same_some _) (joined_some _ _ (same_some _) (joined_some _ _ (same_some _) (same_some _))))
    (joined_is _ _ _ _ (same_is _) (joined_is _ _ _ _ (same_is _) (joined_is _ _ _ _ (same_is _) (same_is _))))
    (regret_sound c.requires.seating found c.requires.found c.args.input.now c.proposer_count-count.ensures.instance c.requires.input found.small)
