use Rattle.std.proofs.Common.{◌≡◌, ℕ, refl, sym, ap, ◌∙◌, length, arith}
use Rattle.sm_market.specs.Lists.{place_of}
use Rattle.sm_market.specs.Cycles.{proposer_at, reviewer_at, target_at}
use Rattle.sm_market.specs.Footings.{footing_at}
use Rattle.sm_market.proofs.TurnLemmas.{turn_start, in_range, target_in_range, turn_step, turn_places, turn_made}
use Rattle.sm_market.proofs.pairing.turn_round_to.Goals as goal

pub loop-i-init : goal.loop-i-init
loop-i-init c = turn_start c.args.cycle.now c.requires.made

pub bounds-to-i : goal.bounds-to-i
bounds-to-i c = omega (arith, c.loop-i-test.true, c.requires.to.one_each)

pub bounds-places-p : goal.bounds-places-p
bounds-places-p c = omega (arith, in_range c.requires.market c.requires.made c.requires.cycle c.loop-i.i c.loop-i-test.true, c.loop-i.invariant.places_each)

pub bounds-reviewer_places-target : goal.bounds-reviewer_places-target
bounds-reviewer_places-target c =
    let lt = target_in_range c.requires.market c.requires.made c.requires.cycle c.loop-i.i c.loop-i-test.true in
    let is = ap (reviewer_at c.args.cycle.now) c.next_in.ensures in
    omega (arith, c.loop-i.invariant.reviewers_each)

pub bounds-holders-target : goal.bounds-holders-target
bounds-holders-target c =
    let lt = target_in_range c.requires.market c.requires.made c.requires.cycle c.loop-i.i c.loop-i-test.true in
    let is = ap (reviewer_at c.args.cycle.now) c.next_in.ensures in
    omega (arith, c.loop-i.invariant.holders_each)

pub loop-i-preserved : goal.loop-i-preserved
loop-i-preserved c =
    let p : ℕ = proposer_at c.args.cycle.now c.loop-i.i in
    let r : ℕ = reviewer_at c.args.cycle.now c.next_in.result in
    let is_target : r ≡ target_at c.args.cycle.now c.loop-i.i = ap (reviewer_at c.args.cycle.now) c.next_in.ensures in
    turn_step c.requires.market c.requires.made c.requires.cycle p r (footing_at c.args.to.now c.loop-i.i).proposer (footing_at c.args.to.now c.loop-i.i).reviewer c.loop-i.invariant c.loop-i-test.true
    refl is_target
    (c.requires.to.proposer c.loop-i.i c.loop-i-test.true ∙ ap (place_of c.args.market.now.proposers p) (sym is_target))
    (c.requires.to.reviewer c.loop-i.i c.loop-i-test.true ∙ ap (λ s. place_of c.args.market.now.reviewers s p) (sym is_target))

pub returns-clause-moved : goal.returns-clause-moved
returns-clause-moved c =
    let all : c.loop-i.i ≡ length c.args.cycle.now = omega arith in
    turn_places c.requires.market c.requires.made c.requires.cycle (rw all at c.loop-i.invariant)

pub returns-clause-made : goal.returns-clause-made
returns-clause-made c =
    let all : c.loop-i.i ≡ length c.args.cycle.now = omega arith in
    turn_made c.requires.market c.requires.made c.requires.cycle (rw all at c.loop-i.invariant)
