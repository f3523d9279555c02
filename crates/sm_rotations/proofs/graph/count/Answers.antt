use Rattle.std.proofs.Common.{ℕ, arith, refl, slice_index_or}
use Rattle.sm_rotations.proofs.CountedLemmas.{room_for_one}
use Rattle.sm_rotations.proofs.graph.count.Goals as goal

pub overflow_add-counts : goal.overflow_add-counts
overflow_add-counts c =
    let j : ℕ = slice_index_or c.args.list.now c.loop-j.j-index 0 in
    omega (arith, room_for_one c.args.list.now c.loop-j-test.true refl (c.requires.room j) c.loop-j.invariant)
