use Rattle.std.proofs.Common.{◌≡◌, ◌∙◌, ◌++◌, ◌∷◌, [], ap, sym, inl, inr, replicate, rules, arith}
use Rattle.sm_market.specs.Pairing.{Paired}
use Rattle.sm_lists.proofs.Counting.{eq_or_ne}
use Rattle.sm_theory.specs.Values.{rotations_of}
use Rattle.sm_successors.proofs.SearchLemmas.{search_begins, search_goes_on}
use Rattle.sm_rotations.specs.Walking.{IsTopAtWorst, CanFollowTop, LeadsBack, AreFound}
use Rattle.sm_rotations.proofs.FoundLemmas.{found_start, found_over, found_on, found_back, found_places}
use Rattle.sm_rotations.proofs.ChainingLemmas.{places_fall, rotations_of-push}
use Rattle.sm_rotations.proofs.StackLemmas.{walk_whole}
use Rattle.sm_rotations.proofs.WalkSteps.{walk_begins, walk_over, walk_on, walk_back, exposed_back, is_finished-set, fewer_over, fewer_on, fewer_back}
use Rattle.sm_rotations.proofs.walk.walk.Goals as goal

pub loop-p-init : goal.loop-p-init
loop-p-init c =
    let x = c.in_ok-trail.ensures in
    let from_is : c.as_mut_slice-from.result.now ≡ replicate c.proposers-2.result 0 = search rules in
    record {
      made = rw c.in_ok-m.ensures c.requires.made;
      search = rw (from_is, c.proposers-2.ensures.count) (search_begins c.args.market.now c.in_ok-m.m.places);
      found = found_start 1 c.as_mut_slice-from.result.now x.stack;
      walking = walk_begins c.proposers.result c.proposers.ensures.count c.requires.best.stable (ap (λ (v : Paired). v.places) c.in_ok-m.ensures) (ap rotations_of c.new-rotations.ensures.items) x.finished x.stack x.spots;
      noted = rw (ap rotations_of c.new-rotations.ensures.items) c.requires.none;
      done = λ q less. absurd (omega arith);
    }

pub steps-smaller-in-Over : goal.steps-smaller-in-Over
steps-smaller-in-Over c = fewer_over c.steps.invariant.walking.on_stack c.steps.invariant.walking.finished_each c.take_top_off.ensures

pub steps-preserved-in-Over : goal.steps-preserved-in-Over
steps-preserved-in-Over c =
    let worst : IsTopAtWorst c.args.market.now c.steps.m.places c.steps.trail.stack.items = c.in-Over.ensures.step in
    let x = c.take_top_off.ensures in
    let w = c.steps.invariant.walking in
    let found : AreFound c.args.market.now c.steps.m.places c.steps.trail.stack.items 1 c.walk_step.new.from = c.in-Over.ensures.found in
    record {
      made = c.steps.invariant.made;
      search = c.walk_step.ensures.search;
      found = found_over x found;
      walking = walk_over c.proposers.ensures.market w worst x;
      noted = c.steps.invariant.noted;
      done = λ q less. rw x.finished (is_finished-set c.steps.trail.finished.items _ q (omega (arith, w.finished_each, w.on_stack.in_range x.top (omega (arith, x.last)))) (c.steps.invariant.done q less));
    }

pub steps-smaller-in-Continue-branch-4 : goal.steps-smaller-in-Continue-branch-4
steps-smaller-in-Continue-branch-4 c =
    let on : CanFollowTop c.args.market.now c.steps.m.places c.steps.trail.stack.items c.steps.trail.spots.items c.steps.trail.finished.items c.in-On.q = c.in-On.ensures.step in
    let same : c.put_on.new.self.finished ≡ c.steps.trail.finished = c.put_on.ensures.finished in
    rw same (fewer_on c.steps.invariant.walking.on_stack on c.in_ok-put_on-in-On.ensures.stack c.in_ok-put_on-in-On.ensures.spots)

pub steps-preserved-in-Continue-branch-4 : goal.steps-preserved-in-Continue-branch-4
steps-preserved-in-Continue-branch-4 c =
    let on : CanFollowTop c.args.market.now c.steps.m.places c.steps.trail.stack.items c.steps.trail.spots.items c.steps.trail.finished.items c.in-On.q = c.in-On.ensures.step in
    let same : c.put_on.new.self.finished ≡ c.steps.trail.finished = c.put_on.ensures.finished in
    let found : AreFound c.args.market.now c.steps.m.places c.steps.trail.stack.items 0 c.walk_step.new.from = c.in-On.ensures.found in
    record {
      made = c.steps.invariant.made;
      search = c.walk_step.ensures.search;
      found = found_on c.in-On.q c.in_ok-put_on-in-On.ensures.stack found;
      walking = rw same (walk_on c.proposers.ensures.market c.steps.invariant.walking on c.in_ok-put_on-in-On.ensures.stack c.in_ok-put_on-in-On.ensures.spots);
      noted = c.steps.invariant.noted;
      done = rw same c.steps.invariant.done;
    }

pub eliminate-requires-clause-exposed : goal.eliminate-requires-clause-exposed
eliminate-requires-clause-exposed c =
    let back : LeadsBack c.args.market.now c.steps.m.places c.steps.trail.stack.items c.in-Back.spot = c.in-Back.ensures.step in
    exposed_back c.proposers.ensures.market c.steps.invariant.walking back c.in_ok-rotation-in-Back.ensures.pairs

pub eliminate-requires-clause-places : goal.eliminate-requires-clause-places
eliminate-requires-clause-places c =
    let h = c.proposers.ensures.market in
    let w = c.steps.invariant.walking in
    let back : LeadsBack c.args.market.now c.steps.m.places c.steps.trail.stack.items c.in-Back.spot = c.in-Back.ensures.step in
    let found : AreFound c.args.market.now c.steps.m.places c.steps.trail.stack.items 0 c.walk_step.new.from = c.in-Back.ensures.found in
    let pairs = c.in_ok-rotation-in-Back.ensures.pairs in
    found_places h w.stable w.on_stack pairs (exposed_back h w back pairs) found c.walk_step.ensures.search.one_each

pub eliminate-requires-clause-noted : goal.eliminate-requires-clause-noted
eliminate-requires-clause-noted c = record {
  first = c.args.best.now.places;
  rotations = rotations_of c.steps.rotations.items;
  noted = c.steps.invariant.noted;
  leads = c.steps.invariant.walking.at_end;
}

pub steps-smaller : goal.steps-smaller
steps-smaller c =
    let h = c.proposers.ensures.market in
    let w = c.steps.invariant.walking in
    let back : LeadsBack c.args.market.now c.steps.m.places c.steps.trail.stack.items c.in-Back.spot = c.in-Back.ensures.step in
    let exposed = exposed_back h w back c.in_ok-rotation-in-Back.ensures.pairs in
    let same : c.take_off.new.self.finished ≡ c.steps.trail.finished = c.take_off.ensures.finished in
    rw same (fewer_back _ _ _ _ _ (places_fall c.in_ok-rotation-in-Back.rotation.pairs.items h w.stable exposed c.in_ok-eliminate-in-Back.ensures.moved) back c.in_ok-rotation-in-Back.ensures.rest)

pub steps-preserved : goal.steps-preserved
steps-preserved c =
    let h = c.proposers.ensures.market in
    let back : LeadsBack c.args.market.now c.steps.m.places c.steps.trail.stack.items c.in-Back.spot = c.in-Back.ensures.step in
    let w = c.steps.invariant.walking in
    let exposed = exposed_back h w back c.in_ok-rotation-in-Back.ensures.pairs in
    let x = c.in_ok-rotation-in-Back.ensures in
    let grown : rotations_of c.push.new.self.items ≡ rotations_of c.steps.rotations.items ++ c.in_ok-rotation-in-Back.rotation.pairs.items ∷ [] = ap rotations_of c.in_ok-push-in-Back.ensures.items ∙ rotations_of-push c.steps.rotations.items c.in_ok-rotation-in-Back.rotation in
    let same : c.take_off.new.self.finished ≡ c.steps.trail.finished = c.take_off.ensures.finished in
    let found : AreFound c.args.market.now c.steps.m.places c.steps.trail.stack.items 0 c.walk_step.new.from = c.in-Back.ensures.found in
    record {
      made = c.in_ok-eliminate-in-Back.ensures.made;
      found = found_back h w.stable w.on_stack x.pairs exposed found x.rest c.in_ok-eliminate-in-Back.ensures.moved;
      search = rw c.in_ok-eliminate-in-Back.ensures.moved (search_goes_on c.args.market.now c.steps.m.places c.in_ok-rotation-in-Back.rotation.pairs.items _ h w.stable exposed c.walk_step.ensures.search);
      walking = rw same (walk_back h w back x.pairs x.off x.rest c.in_ok-eliminate-in-Back.ensures.moved grown);
      noted = rw grown (c.in_ok-eliminate-in-Back.ensures.noted c.args.best.now.places (rotations_of c.steps.rotations.items) c.steps.invariant.noted w.at_end);
      done = rw same c.steps.invariant.done;
    }

pub loop-p-preserved : goal.loop-p-preserved
loop-p-preserved c = record {
  made = c.steps.invariant.made;
  search = c.steps.invariant.search;
  found = c.steps.invariant.found;
  walking = c.steps.invariant.walking;
  noted = c.steps.invariant.noted;
  done = λ q less. elim (eq_or_ne q c.loop-p.p) [
    | inl e ↦ rw e (sym c.is_finished.ensures ∙ c.steps-test.false)
    | inr ne ↦ c.steps.invariant.done q (omega arith)
  ];
}

pub returns-clause-chain : goal.returns-clause-chain
returns-clause-chain c = walk_whole c.proposers.ensures.market c.loop-p.invariant.walking c.requires.best (λ p less. c.loop-p.invariant.done p (omega (arith, c.loop-p-test.false, c.proposers-p-end.ensures.count)))

pub returns-clause-noted : goal.returns-clause-noted
returns-clause-noted c = c.loop-p.invariant.noted
