use Rattle.std.proofs.Common.{◌≡◌, ℕ, arith, refl, length}
use Rattle.sm_theory.specs.Rotations.{proposer_at}
use Rattle.sm_rotations.specs.Marking.{marks_of, IsBetween, Adds}
use Rattle.sm_rotations.specs.Footings.{footing_at}
use Rattle.sm_rotations.proofs.MarkingLemmas.{found_more}
use Rattle.sm_rotations.proofs.notes.find.Goals as goal

pub loop-i-preserved : goal.loop-i-preserved
loop-i-preserved c =
    let p : ℕ = proposer_at c.args.pairs.now c.loop-i.i in
    let between : Adds (λ i. IsBetween (marks_of c.args.marks.now p) (footing_at c.args.before.now c.loop-i.i).proposer (footing_at c.args.after.now c.loop-i.i).proposer i) c.add.new.found.items c.add_between.new.found.items = rw c.at.ensures at c.in_ok-add_between.ensures in
    found_more {rotation = c.args.pairs.now} {before = c.args.before.now} {after = c.args.after.now} {notes = c.args.last.now} {marks = c.args.marks.now} {n = c.loop-i.i}
    p refl refl refl c.loop-i.invariant c.in_ok-add.ensures between

pub returns : goal.returns
returns c =
    let e : c.loop-i.i ≡ length c.args.pairs.now = omega (arith, c.loop-i.auto.i-end, c.loop-i-test.false) in
    rw e at c.loop-i.invariant
