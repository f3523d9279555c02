use Rattle.std.proofs.Common.{◌≡◌, arith, ap}
use Rattle.sm_theory.specs.Rotations.{reviewer_at, target_at}
use Rattle.sm_rotations.specs.Footings.{footing_at}
use Rattle.sm_rotations.proofs.FootingLemmas.{target_in, up, worse_on, better_is, worse_is}
use Rattle.sm_rotations.proofs.MarkingLemmas.{marked_step}
use Rattle.sm_rotations.proofs.notes.mark_moves.Goals as goal

pub mark_span-requires-clause-in_range : goal.mark_span-requires-clause-in_range
mark_span-requires-clause-in_range c =
    let w = c.requires.moved in
    let target : reviewer_at c.args.pairs.now c.next_in.result ≡ target_at c.args.pairs.now c.loop-i.i = ap (reviewer_at c.args.pairs.now) c.next_in.ensures in
    omega (arith, target, target_in c.requires.market w.matching w.exposed c.loop-i.i c.loop-i-test.true)

pub mark_span-requires-clause-gains : goal.mark_span-requires-clause-gains
mark_span-requires-clause-gains c = up c.requires.market c.requires.moved c.loop-i.i c.loop-i-test.true

pub mark_span-requires-clause-on_list : goal.mark_span-requires-clause-on_list
mark_span-requires-clause-on_list c =
    let target : reviewer_at c.args.pairs.now c.next_in.result ≡ target_at c.args.pairs.now c.loop-i.i = ap (reviewer_at c.args.pairs.now) c.next_in.ensures in
    rw target (worse_on c.requires.market c.requires.moved c.loop-i.i c.loop-i-test.true)

pub loop-i-preserved : goal.loop-i-preserved
loop-i-preserved c =
    let h = c.requires.market in
    let w = c.requires.moved in
    let target : reviewer_at c.args.pairs.now c.next_in.result ≡ target_at c.args.pairs.now c.loop-i.i = ap (reviewer_at c.args.pairs.now) c.next_in.ensures in
    marked_step h (reviewer_at c.args.pairs.now c.next_in.result) (footing_at c.args.after.now c.loop-i.i).reviewer (footing_at c.args.before.now c.loop-i.i).reviewer target
    (better_is h w c.loop-i.i c.loop-i-test.true)
    (worse_is h w c.loop-i.i c.loop-i-test.true)
    (rw target (worse_on h w c.loop-i.i c.loop-i-test.true))
    c.loop-i.invariant c.in_ok-mark_span.ensures
