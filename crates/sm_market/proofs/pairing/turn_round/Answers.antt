use Rattle.std.proofs.Common.{◌≡◌, ℕ, ◌<◌, length, Option, unwrap_or, refl, ap, ◌∙◌, arith}
use Rattle.sm_market.specs.Lists.{row, entry, place_of}
use Rattle.sm_market.specs.Cycles.{proposer_at, reviewer_at, target_at}
use Rattle.sm_lists.proofs.PlaceLemmas.{entry-place_of}
use Rattle.sm_market.proofs.TurnLemmas.{turn_start, still_there, in_range, target_in_range, turn_step, turn_places, turn_made}
use Rattle.sm_market.proofs.pairing.turn_round.Goals as goal

pub loop-i-init : goal.loop-i-init
loop-i-init c = turn_start c.args.cycle.now c.requires.made

pub slice_copy_out-unwrap_or : goal.slice_copy_out-unwrap_or
slice_copy_out-unwrap_or c = omega (arith, in_range c.requires.market c.requires.made c.requires.cycle c.loop-i.i c.loop-i-test.true, c.loop-i.invariant.places_each)

pub place_from-place-requires-clause-in_range : goal.place_from-place-requires-clause-in_range
place_from-place-requires-clause-in_range c = in_range c.requires.market c.requires.made c.requires.cycle c.loop-i.i c.loop-i-test.true

pub place_from-place-requires-clause-listed : goal.place_from-place-requires-clause-listed
place_from-place-requires-clause-listed c = rw c.next_in.ensures (c.requires.cycle.listed c.loop-i.i c.loop-i-test.true)

pub place_from-place-requires-clause-on_list : goal.place_from-place-requires-clause-on_list
place_from-place-requires-clause-on_list c =
    let there = still_there c.requires.market c.requires.made c.requires.cycle c.loop-i.invariant c.loop-i-test.true in
    let is = c.unwrap_or-from.ensures ∙ ap (λ (o : Option ℕ). unwrap_or o 0) there in
    let on = c.requires.made.matching.proposers.on_list _ _ (c.requires.cycle.paired c.loop-i.i c.loop-i-test.true) in
    omega arith

pub bounds-places-p : goal.bounds-places-p
bounds-places-p c = omega (arith, in_range c.requires.market c.requires.made c.requires.cycle c.loop-i.i c.loop-i-test.true, c.loop-i.invariant.places_each)

pub cross-requires-clause-in_range : goal.cross-requires-clause-in_range
cross-requires-clause-in_range c = in_range c.requires.market c.requires.made c.requires.cycle c.loop-i.i c.loop-i-test.true

pub cross-requires-clause-on_list : goal.cross-requires-clause-on_list
cross-requires-clause-on_list c = rw (c.place_from-place.ensures, c.next_in.ensures) (c.requires.cycle.listed c.loop-i.i c.loop-i-test.true)

pub bounds-reviewer_places-target : goal.bounds-reviewer_places-target
bounds-reviewer_places-target c =
    let lt = target_in_range c.requires.market c.requires.made c.requires.cycle c.loop-i.i c.loop-i-test.true in
    let is = ap (reviewer_at c.args.cycle.now) c.next_in.ensures in
    omega (arith, c.loop-i.invariant.reviewers_each)

pub bounds-holders-target : goal.bounds-holders-target
bounds-holders-target c =
    let lt = target_in_range c.requires.market c.requires.made c.requires.cycle c.loop-i.i c.loop-i-test.true in
    let is = ap (reviewer_at c.args.cycle.now) c.next_in.ensures in
    omega (arith, c.loop-i.invariant.holders_each)

pub loop-i-preserved : goal.loop-i-preserved
loop-i-preserved c =
    let p : ℕ = proposer_at c.args.cycle.now c.loop-i.i in
    let r : ℕ = reviewer_at c.args.cycle.now c.next_in.result in
    let is_target : r ≡ target_at c.args.cycle.now c.loop-i.i = ap (reviewer_at c.args.cycle.now) c.next_in.ensures in
    let listed : place_of c.args.market.now.proposers p r < length (row c.args.market.now.proposers p) = rw c.next_in.ensures (c.requires.cycle.listed c.loop-i.i c.loop-i-test.true) in
    let there : entry c.args.market.now.proposers p c.place_from-place.result ≡ r = ap (entry c.args.market.now.proposers p) c.place_from-place.ensures ∙ entry-place_of c.args.market.now.proposers p r listed in
    turn_step c.requires.market c.requires.made c.requires.cycle _ _ _ _ c.loop-i.invariant c.loop-i-test.true
    refl is_target c.place_from-place.ensures
    (c.cross.ensures.place ∙ ap (λ s. place_of c.args.market.now.reviewers s p) there)

pub returns-clause-moved : goal.returns-clause-moved
returns-clause-moved c =
    let all : c.loop-i.i ≡ length c.args.cycle.now = omega arith in
    turn_places c.requires.market c.requires.made c.requires.cycle (rw all at c.loop-i.invariant)

pub returns-clause-made : goal.returns-clause-made
returns-clause-made c =
    let all : c.loop-i.i ≡ length c.args.cycle.now = omega arith in
    turn_made c.requires.market c.requires.made c.requires.cycle (rw all at c.loop-i.invariant)
