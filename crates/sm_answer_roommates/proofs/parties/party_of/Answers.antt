use Rattle.std.proofs.Common.{arith}
use Rattle.sm_answer_roommates.proofs.PartyLemmas.{front_begins, y_inside, y_unmet, unmet_falls, front_goes_on, front_ends}
use Rattle.sm_answer_roommates.proofs.parties.party_of.Goals as goal

pub along-init : goal.along-init
along-init c =
    let r = c.requires in
    rw (c.in_ok-push.ensures.items, c.new-party.ensures.items, c.next-y.ensures) (front_begins r.stable r.in_range c.args.met.now r.one_each r.below r.back r.unmet)

pub bounds-met-y : goal.bounds-met-y
bounds-met-y c =
    let r = c.requires in
    let lt = y_inside r.stable r.in_range c.args.met.now r.one_each r.below r.back r.unmet c.along.invariant in
    omega (arith, lt, c.along.invariant.one_each)

pub next-y-requires-in-along : goal.next-y-requires-in-along
next-y-requires-in-along c =
    let r = c.requires in
    y_inside r.stable r.in_range c.args.met.now r.one_each r.below r.back r.unmet c.along.invariant

pub along-smaller : goal.along-smaller
along-smaller c =
    let r = c.requires in
    let i = c.along.invariant in
    let lt = y_inside r.stable r.in_range c.args.met.now r.one_each r.below r.back r.unmet i in
    unmet_falls c.along.met c.along.y (omega (arith, lt, i.one_each)) (y_unmet r.stable r.in_range c.args.met.now r.one_each r.below r.back r.unmet i (λ e. absurd (omega arith)))

pub along-preserved : goal.along-preserved
along-preserved c =
    let r = c.requires in
    rw (c.in_ok-push-2.ensures.items, c.next-y-in-along.ensures) (front_goes_on r.stable r.in_range c.args.met.now r.one_each r.below r.back r.unmet c.along.invariant (λ e. absurd (omega arith)))

pub returns : goal.returns
returns c =
    let r = c.requires in
    front_ends r.stable r.in_range c.args.met.now r.one_each r.below r.back r.unmet c.along.invariant (omega arith)
