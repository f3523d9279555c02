use Rattle.sm_answer.proofs.AnswerLemmas.{same_some, same_is, joined_some, joined_is, given_right, given_some}
use Rattle.sm_market.specs.Vectors.{lists_of}
use Rattle.sm_answer_rotations.specs.GivenLines.{reduced_given}
use Rattle.sm_answer_rotations.proofs.ReduceLemmas.{reduced_right, reduced_given_sound}
use Rattle.sm_answer_rotations.proofs.reduction.reduction_lines.Goals as goal

pub returns-clause-right : goal.returns-clause-right
returns-clause-right c =
    let r = c.args.reduction.now in
    let s = c.args.seats.now in
    let q = c.requires.reduction in
    let rows = lists_of r.lists.proposers.items r.lists.reviewers.items in
    given_right _ _ _ (reduced_given s r.first.places r.last.places rows) (joined_is _ _ _ _ (same_is _) (joined_is _ _ _ _ c.both_seats.ensures.all c.both_lists.ensures.all))
    (reduced_right c.args.instance.now s r.first.places r.last.places rows c.requires.seats q.proposers_best q.reviewers_best q.reduced)

pub returns-clause-some : goal.returns-clause-some
returns-clause-some c =
    let r = c.args.reduction.now in
    let s = c.args.seats.now in
    let q = c.requires.reduction in
    let rows = lists_of r.lists.proposers.items r.lists.reviewers.items in
    given_some _ _ (reduced_given s r.first.places r.last.places rows) (joined_some _ _ (same_some _) (joined_some _ _ c.both_seats.ensures.some c.both_lists.ensures.some))
    (joined_is _ _ _ _ (same_is _) (joined_is _ _ _ _ c.both_seats.ensures.all c.both_lists.ensures.all))
    (reduced_given_sound c.proposer_count-count.ensures.instance c.requires.seating r.first.places r.last.places c.args.input.now rows c.requires.input q.proposers_best q.reviewers_best q.reduced)
