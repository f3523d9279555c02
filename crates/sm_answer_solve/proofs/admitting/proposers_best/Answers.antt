use Rattle.std.proofs.Common.{◌≡◌, ℕ, ◌+◌, length, replicate, rules, refl, sym, ap, subst, ◌∙◌, arith}
use Rattle.std.proofs.lemmas.List.FromFn.{length-map-range_with_len}
use Rattle.sm_instance.specs.Stable.{IsProposersBest}
use Rattle.sm_seats.specs.SeatMarket.{seats_before}
use Rattle.sm_answer_solve.proofs.EndLemmas.{best_ends}
use Rattle.sm_answer_solve.proofs.admitting.proposers_best.Goals as goal

pub bounds-firsts-reviewer_count : goal.bounds-firsts-reviewer_count
bounds-firsts-reviewer_count c =
    let w = c.args.instance.now in
    let long = ap length (c.as_slice-firsts.ensures.value ∙ c.requires.firsts) ∙ length-map-range_with_len (seats_before w) 0 (length w.reviewers + 1) in
    omega (arith, long, c.reviewer_count.ensures.count)

pub let_all_propose-requires-clause-none : goal.let_all_propose-requires-clause-none
let_all_propose-requires-clause-none c =
    let zero : ℕ = 0 in
    let count = c.proposer_count.ensures.count in
    let is : c.as_mut_slice-places.result.now ≡ replicate (length c.args.instance.now.proposers) zero = rw (← count) (search rules) in
    is

pub returns : goal.returns
returns c = subst (IsProposersBest c.args.instance.now) (sym c.in_ok-ends.ensures) (best_ends c.reviewer_count.ensures.instance c.in_ok-let_all_propose.ensures refl)
