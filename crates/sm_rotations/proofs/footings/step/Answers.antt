use Rattle.std.proofs.Common.{◌≡◌}
use Rattle.sm_market.specs.Cycles.{places_after}
use Rattle.sm_theory.proofs.Bridge.Rotation.{turned_is}
use Rattle.sm_rotations.specs.Footings.{AreSteps}
use Rattle.sm_rotations.proofs.FootingLemmas.{to_is, better_is}
use Rattle.sm_rotations.proofs.footings.step.Goals as goal

pub find_footings-requires-clause-exposed : goal.find_footings-requires-clause-exposed
find_footings-requires-clause-exposed c = rw c.deref.ensures.value c.requires.exposed

pub turn_to-requires-clause-cycle : goal.turn_to-requires-clause-cycle
turn_to-requires-clause-cycle c = rw c.deref-2.ensures.value (record {
  distinct = c.requires.exposed.distinct;
  paired = c.requires.exposed.paired;
  listed = λ i a. (c.requires.exposed.next i a).on_list;
})

pub turn_to-requires-clause-to : goal.turn_to-requires-clause-to
turn_to-requires-clause-to c =
    let h = c.proposers.ensures.market in
    let steps : AreSteps c.args.market.now c.args.rotation.now.pairs.items c.find_footings.new.before.items c.find_footings.new.after.items = rw c.deref.ensures.value at c.in_ok-find_footings.ensures in
    rw (c.deref-2.ensures.value, c.deref-3.ensures.value) (record {
      one_each = steps.after_are.one_each;
      proposer = λ i a. to_is h steps i a;
      reviewer = λ i a. better_is h steps i a;
    })

pub returns-clause-moved : goal.returns-clause-moved
returns-clause-moved c =
    let moved : c.turn_to.new.self.places.proposers ≡ places_after c.args.market.now c.args.m.now.places.proposers c.args.rotation.now.pairs.items = rw (← c.deref-2.ensures.value) c.turn_to.ensures.moved in
    turned_is c.proposers.ensures.market c.requires.made.matching c.requires.exposed c.turn_to.ensures.made.matching moved

pub returns-clause-steps : goal.returns-clause-steps
returns-clause-steps c = rw c.deref.ensures.value at c.in_ok-find_footings.ensures
