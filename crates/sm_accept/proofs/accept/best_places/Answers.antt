use Rattle.std.proofs.Common.{◌≡◌, ℕ, length, replicate, rules, arith}
use Rattle.sm_lists.proofs.ResultLemmas.{take-append_at_length}
use Rattle.sm_accept.proofs.AcceptSteps.{free_past_lists, progress_start}
use Rattle.sm_accept.proofs.AcceptEnds.{best_places_at}
use Rattle.sm_accept.proofs.accept.best_places.Goals as goal

pub loop-p-init : goal.loop-p-init
loop-p-init c =
    let count = c.proposers.ensures.count in
    let zero : ℕ = 0 in
    let next_is : c.as_mut_slice-next.result.now ≡ replicate (length c.args.market.now.proposers) zero = rw (← count) (search rules) in
    progress_start c.args.market.now _ _ next_is (free_past_lists c.args.market.now _ c.write_lengths.ensures)

pub returns : goal.returns
returns c =
    let all : c.loop-p.p ≡ length c.args.market.now.proposers = let count = c.proposers-p-end.ensures.count in omega arith in
    let long : length c.set_places.new.places ≡ c.in_ok-places.places.len = let len = c.in_ok-places.ensures.len in let count = c.proposers-2.ensures.count in omega (arith, c.set_places.ensures.one_each) in
    rw (take-append_at_length c.in_ok-places.places.len c.set_places.new.places _ long) (best_places_at c.proposers.ensures.market c.loop-p.invariant all c.set_places.ensures)
