use Rattle.std.proofs.Common.{◌≡◌, ◌<◌, arith, sym, ◌∙◌, length, None}
use Rattle.std.proofs.lemmas.List.{get_or_read}
use Rattle.sm_rotations.specs.Marking.{note_of}
use Rattle.sm_rotations.proofs.MarkingLemmas.{between_more, added_to_end}
use Rattle.sm_rotations.proofs.notes.add_between.Goals as goal

pub loop-place-preserved : goal.loop-place-preserved
loop-place-preserved c =
    let inside : c.loop-place.place < length c.args.marks.now = omega (arith, c.loop-place-test.true, c.loop-place.auto.place-end, c.min-end.ensures) in
    let mark : note_of c.args.marks.now c.loop-place.place ≡ c.get.result = sym (c.get.ensures ∙ get_or_read c.args.marks.now c.loop-place.place c.index-marks-place.result inside c.index-marks-place.is None) in
    record {
      within = omega (arith, c.loop-place-test.true, c.loop-place.auto.place-end, c.min-end.ensures);
      added = between_more (omega (arith, c.loop-place.auto.place)) mark c.loop-place.invariant.added c.in_ok-add.ensures;
    }

pub returns : goal.returns
returns c = added_to_end c.loop-place.invariant.within (omega (arith, c.loop-place-test.false, c.min-end.ensures)) c.loop-place.invariant.added
