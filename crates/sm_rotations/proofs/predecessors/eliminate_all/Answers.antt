use Rattle.std.proofs.Common.{◌≡◌, ◌<◌, length, arith}
use Rattle.sm_theory.specs.Chains.{rotation_at}
use Rattle.sm_theory.specs.Values.{rotations_of}
use Rattle.sm_rotations.proofs.NeedsLemmas.{pairs_read, as_many, exposed_here, next_stage}
use Rattle.sm_rotations.proofs.NotingLemmas.{front_leads, front_more}
use Rattle.sm_rotations.proofs.predecessors.eliminate_all.Goals as goal

pub eliminate-requires-clause-exposed : goal.eliminate-requires-clause-exposed
eliminate-requires-clause-exposed c =
    let inside : c.loop-rotation.rotation-index < length (rotations_of c.args.rotations.now) = omega (arith, c.loop-rotation-test.true, as_many c.args.rotations.now) in
    exposed_here c.requires.eliminable inside c.loop-rotation.invariant.leads c.rotation-item.result.pairs.items
    (pairs_read c.args.rotations.now c.loop-rotation.rotation-index c.rotation-item.result c.loop-rotation-test.true c.rotation-item.is)

pub find_places-requires-clause-exposed : goal.find_places-requires-clause-exposed
find_places-requires-clause-exposed c =
    let inside : c.loop-rotation.rotation-index < length (rotations_of c.args.rotations.now) = omega (arith, c.loop-rotation-test.true, as_many c.args.rotations.now) in
    rw c.deref.ensures.value (exposed_here c.requires.eliminable inside c.loop-rotation.invariant.leads c.rotation-item.result.pairs.items
    (pairs_read c.args.rotations.now c.loop-rotation.rotation-index c.rotation-item.result c.loop-rotation-test.true c.rotation-item.is))

pub eliminate-requires-clause-places : goal.eliminate-requires-clause-places
eliminate-requires-clause-places c = rw c.deref.ensures.value at c.find_places.ensures

pub eliminate-requires-clause-noted : goal.eliminate-requires-clause-noted
eliminate-requires-clause-noted c = record {
  first = c.args.m.now.places;
  rotations = _;
  noted = c.loop-rotation.invariant.noted;
  leads = front_leads c.args.market.now c.args.m.now.places (rotations_of c.args.rotations.now) c.loop-rotation.rotation-index (omega (arith, c.loop-rotation-test.true, as_many c.args.rotations.now)) c.loop-rotation.invariant.leads;
}

pub loop-rotation-preserved : goal.loop-rotation-preserved
loop-rotation-preserved c =
    let i = c.loop-rotation.rotation-index in
    let w = c.loop-rotation.invariant in
    let inside : c.loop-rotation.rotation-index < length (rotations_of c.args.rotations.now) = omega (arith, c.loop-rotation-test.true, as_many c.args.rotations.now) in
    let is : c.rotation-item.result.pairs.items ≡ rotation_at (rotations_of c.args.rotations.now) c.loop-rotation.rotation-index = pairs_read c.args.rotations.now i c.rotation-item.result c.loop-rotation-test.true c.rotation-item.is in
    record {
      one_each = c.find_places.ensures.one_each;
      made = c.in_ok-eliminate.ensures.made;
      leads = next_stage c.requires.eliminable inside w.leads c.rotation-item.result.pairs.items is c.in_ok-eliminate.ensures.moved;
      noted = front_more (rotations_of c.args.rotations.now) i c.rotation-item.result.pairs.items inside is
          (c.in_ok-eliminate.ensures.noted _ _ w.noted (front_leads c.args.market.now c.args.m.now.places (rotations_of c.args.rotations.now) i (omega (arith, inside)) w.leads));
    }
