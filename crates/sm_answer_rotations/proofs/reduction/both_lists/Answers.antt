use Rattle.std.proofs.Common.{refl, arith}
use Rattle.sm_market.specs.Limits.{IsWithinLimits}
use Rattle.sm_market.specs.Vectors.{lists_of}
use Rattle.sm_answer.proofs.AnswerLemmas.{same_some, same_is, joined_some, joined_is}
use Rattle.sm_answer_rotations.proofs.ReduceLemmas.{rows_each, back_rows, rows_named, proposers_given, reviewers_given}
use Rattle.sm_answer_rotations.proofs.reduction.both_lists.Goals as goal

pub invariant_of-result : goal.invariant_of-result
invariant_of-result c =
    let r = c.args.reduction.now in
    let s = c.args.seats.now in
    let limits : IsWithinLimits s.market = rw c.market.ensures at c.proposers-count.ensures.limits in
    let rows = lists_of r.lists.proposers.items r.lists.reviewers.items in
    record {
      few = rw c.deref.ensures.value (omega (arith, rows_each r.lists.proposers.items r.lists.reviewers.items s.market r.first.places r.last.places c.requires.reduction.reduced, limits.proposers.agents));
      named = rows_named s r.first.places r.last.places rows c.deref.result.now r.lists.proposers.items (rw c.market.ensures at c.proposers-count.ensures.market) c.requires.one_each c.requires.reduction.reduced refl c.deref.ensures.value;
    }

pub invariant_of-result-2 : goal.invariant_of-result-2
invariant_of-result-2 c =
    let r = c.args.reduction.now in
    let s = c.args.seats.now in
    let limits : IsWithinLimits s.market = rw c.market.ensures at c.proposers-count.ensures.limits in
    let long = back_rows r.lists.proposers.items r.lists.reviewers.items s.market r.first.places r.last.places c.requires.reduction.reduced in
    record {
      few = rw c.deref-2.ensures.value (omega (arith, long, limits.reviewers.agents));
      no_more = rw c.deref-2.ensures.value (omega (arith, long, c.requires.one_each));
    }

pub returns-clause-all : goal.returns-clause-all
returns-clause-all c =
    let r = c.args.reduction.now in
    let s = c.args.seats.now in
    joined_is _ _ _ _ (proposers_given s c.deref.result.now r.lists.proposers.items c.deref.ensures.value)
    (joined_is _ _ _ _ (reviewers_given s c.deref-2.result.now r.lists.reviewers.items c.deref-2.ensures.value) (same_is _))

pub returns-clause-some : goal.returns-clause-some
returns-clause-some c = joined_some _ _ (same_some _) (joined_some _ _ (same_some _) (same_some _))
