use Rattle.std.proofs.Common.{ℕ, ◌-◌, ◌<◌, length, ◌∙◌, arith, refl, slice_index_or}
use Rattle.std.proofs.lemmas.List.{length-set}
use Rattle.sm_rotations.proofs.HeapLemmas.{some_unmet, release_kept, release_fallen}
use Rattle.sm_rotations.proofs.order.release.Goals.{then-unmet-j-eq0+in_ok-add_ready, else-unmet-j-eq0}
use Rattle.sm_rotations.proofs.order.release.Goals as goal

pub overflow_sub-unmet : goal.overflow_sub-unmet
overflow_sub-unmet c =
    let j : ℕ = slice_index_or c.args.followers.now c.loop-j.j-index 0 in
    let in_range = c.requires.in_range c.loop-j.j-index c.loop-j-test.true in
    some_unmet c.args.followers.now _ _ c.loop-j-test.true refl (omega (arith, c.loop-j.auto.unmet, c.requires.one_each)) c.loop-j.invariant.released (c.requires.enough j)

pub loop-j-preserved : goal.loop-j-preserved
loop-j-preserved c =
    let j : ℕ = slice_index_or c.args.followers.now c.loop-j.j-index 0 in
    let n : ℕ = slice_index_or c.loop-j.unmet j 0 - 1 in
    let in_range = c.requires.in_range c.loop-j.j-index c.loop-j-test.true in
    let within : j < length c.loop-j.unmet = omega (arith, c.loop-j.auto.unmet, c.requires.one_each, in_range) in
    let some = some_unmet c.args.followers.now _ _ c.loop-j-test.true refl within c.loop-j.invariant.released (c.requires.enough j) in
    let long = length-set c.loop-j.unmet j n ∙ c.loop-j.invariant.one_each in
    elim c.if-unmet-j-eq0.branch [
      | then-unmet-j-eq0+in_ok-add_ready w ↦ record {
        one_each = long;
        order = rw w.ready-is w.in_ok-add_ready.ensures.order;
        released = rw w.ready-is (release_fallen c.args.followers.now _ _ c.loop-j-test.true refl within c.loop-j.invariant.released (c.requires.enough j) n (omega arith) w.if-unmet-j-eq0.true in_range w.in_ok-add_ready.ensures.added);
      }
      | else-unmet-j-eq0 w ↦ record {
        one_each = long;
        order = rw w.ready-is c.loop-j.invariant.order;
        released = rw w.ready-is (release_kept c.args.followers.now _ _ c.loop-j-test.true refl within c.loop-j.invariant.released (c.requires.enough j) n (omega arith) w.if-unmet-j-eq0.false);
      }
    ]
