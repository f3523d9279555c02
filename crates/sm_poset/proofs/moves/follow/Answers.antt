use Rattle.std.proofs.Common.{◌≡◌, ◌<◌, ap, sym, length, drop, arith}
use Rattle.std.proofs.lemmas.List.{length-map, get_or_read}
use Rattle.sm_lists.proofs.ResultLemmas.{take-append_at_length}
use Rattle.sm_theory.specs.Rotations.{proposer_at}
use Rattle.sm_theory.specs.Values.{rotations_of}
use Rattle.sm_rotations.proofs.CountLemmas.{few_rotations}
use Rattle.sm_rotations.proofs.NeedsLemmas.{pairs_read}
use Rattle.sm_poset.specs.Moves.{moves_in}
use Rattle.sm_poset.proofs.StepLemmas.{proposers_in, listed, distinct, not_empty, moves_after, leaders_after, moves_start, leaders_start}
use Rattle.sm_poset.proofs.moves.follow.Goals as goal

pub overflow_cast-k-end : goal.overflow_cast-k-end
overflow_cast-k-end c =
    let rotations = c.args.chain.now.rotations.items in
    omega (arith, few_rotations c.proposers.ensures.market c.proposers.ensures.limits c.requires.complete, length-map rotations (λ r. r.pairs.items), c.len-k-end.ensures)

pub loop-k-init : goal.loop-k-init
loop-k-init c = record {
  places = rw c.as_mut_slice-at.ensures.value c.in_ok-at.ensures;
  moves = moves_start c.args.market.now (rotations_of c.args.chain.now.rotations.items) _ _ c.proposers.ensures.count c.in_ok-of_proposers.ensures;
  leaders = leaders_start c.args.market.now (rotations_of c.args.chain.now.rotations.items) _ c.in_ok-leaders.ensures.items;
}

pub add_moves-requires-clause-in_range : goal.add_moves-requires-clause-in_range
add_moves-requires-clause-in_range c =
    let rotations = c.args.chain.now.rotations.items in
    let long = length-map rotations (λ r. r.pairs.items) in
    let there : c.loop-k.k < length rotations = omega (arith, c.len-k-end.ensures) in
    let read = pairs_read rotations c.loop-k.k c.index-rotation.result.now there c.index-rotation.ensures in
    rw c.deref.ensures.value (proposers_in c.proposers.ensures.market c.requires.complete (omega arith) read)

pub add_moves-requires-clause-listed : goal.add_moves-requires-clause-listed
add_moves-requires-clause-listed c =
    let rotations = c.args.chain.now.rotations.items in
    let long = length-map rotations (λ r. r.pairs.items) in
    let there : c.loop-k.k < length rotations = omega (arith, c.len-k-end.ensures) in
    let read = pairs_read rotations c.loop-k.k c.index-rotation.result.now there c.index-rotation.ensures in
    rw c.deref.ensures.value (listed c.proposers.ensures.market c.requires.complete (omega arith) read)

pub add_moves-requires-clause-distinct : goal.add_moves-requires-clause-distinct
add_moves-requires-clause-distinct c =
    let rotations = c.args.chain.now.rotations.items in
    let long = length-map rotations (λ r. r.pairs.items) in
    let there : c.loop-k.k < length rotations = omega (arith, c.len-k-end.ensures) in
    let read = pairs_read rotations c.loop-k.k c.index-rotation.result.now there c.index-rotation.ensures in
    rw c.deref.ensures.value (distinct c.proposers.ensures.market c.requires.complete (omega arith) read)

pub index-requires : goal.index-requires
index-requires c =
    let rotations = c.args.chain.now.rotations.items in
    let long = length-map rotations (λ r. r.pairs.items) in
    let there : c.loop-k.k < length rotations = omega (arith, c.len-k-end.ensures) in
    let read = pairs_read rotations c.loop-k.k c.index-rotation.result.now there c.index-rotation.ensures in
    omega (arith, not_empty c.proposers.ensures.market c.requires.complete (omega arith) read, c.deref.ensures.len, ap length c.deref.ensures.value)

pub bounds-at-leader : goal.bounds-at-leader
bounds-at-leader c =
    let rotations = c.args.chain.now.rotations.items in
    let long = length-map rotations (λ r. r.pairs.items) in
    let there : c.loop-k.k < length rotations = omega (arith, c.len-k-end.ensures) in
    let read = pairs_read rotations c.loop-k.k c.index-rotation.result.now there c.index-rotation.ensures in
    let some = not_empty c.proposers.ensures.market c.requires.complete (omega arith) read in
    let leader : c.index.result.now.0 ≡ proposer_at c.index-rotation.result.now.pairs.items 0 = ap (λ pair. pair.0) (get_or_read c.index-rotation.result.now.pairs.items 0 c.index.result.now some c.index.ensures (0, 0)) in
    omega (arith, leader, proposers_in c.proposers.ensures.market c.requires.complete (omega arith) read 0 some, c.in_ok-add_moves.ensures.places.one_each)

pub loop-k-preserved : goal.loop-k-preserved
loop-k-preserved c =
    let rotations = c.args.chain.now.rotations.items in
    let long = length-map rotations (λ r. r.pairs.items) in
    let there : c.loop-k.k < length rotations = omega (arith, c.len-k-end.ensures) in
    let read = pairs_read rotations c.loop-k.k c.index-rotation.result.now there c.index-rotation.ensures in
    let h = c.proposers.ensures.market in
    let some = not_empty h c.requires.complete (omega arith) read in
    let leader : c.index.result.now.0 ≡ proposer_at c.index-rotation.result.now.pairs.items 0 = ap (λ pair. pair.0) (get_or_read c.index-rotation.result.now.pairs.items 0 c.index.result.now some c.index.ensures (0, 0)) in
    let same = c.add_moves.auto.moves in
    let there = rw c.deref.ensures.value at c.in_ok-add_moves.ensures.there in
    let moved = rw (c.deref.ensures.value, c.deref_mut.ensures.value) at c.in_ok-add_moves.ensures.moves in
    let as_long : length (moves_in c.add_moves.new.moves) ≡ length (moves_in c.loop-k.of_proposers.items) =
    omega (arith, length-map c.add_moves.new.moves (λ v. v.items), length-map c.loop-k.of_proposers.items (λ v. v.items), ap length c.deref_mut.ensures.value) in
    record {
      places = c.in_ok-add_moves.ensures.places;
      moves = rw (take-append_at_length c.loop-k.of_proposers.len c.add_moves.new.moves (drop (length c.add_moves.new.moves) c.loop-k.of_proposers.items) (omega (arith, c.deref_mut.ensures.len)))
          (moves_after read c.loop-k.invariant.moves as_long moved);
      leaders = rw c.in_ok-push.ensures.items (leaders_after h c.requires.complete (omega arith) read c.loop-k.invariant.leaders c.index.result.now.0 _ (sym leader) (rw leader (sym (there 0 some))));
    }

pub returns-clause-moves : goal.returns-clause-moves
returns-clause-moves c =
    let e : c.loop-k.k ≡ length c.args.chain.now.rotations.items = omega (arith, c.loop-k.auto.k-end, c.loop-k-test.false, c.len-k-end.ensures) in
    rw e at c.loop-k.invariant.moves

pub returns-clause-leaders : goal.returns-clause-leaders
returns-clause-leaders c =
    let e : c.loop-k.k ≡ length c.args.chain.now.rotations.items = omega (arith, c.loop-k.auto.k-end, c.loop-k-test.false, c.len-k-end.ensures) in
    rw e at c.loop-k.invariant.leaders
