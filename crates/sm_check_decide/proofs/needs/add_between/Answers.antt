use Rattle.std.proofs.Common.{◌≡◌, ◌+◌, ◌<◌, inl, inr, arith, sym, ◌∙◌, length, None}
use Rattle.std.proofs.lemmas.List.{get_or_read}
use Rattle.sm_theory.specs.Marks.{note_of, IsBetween}
use Rattle.sm_theory.proofs.Chains.Marking.{adds_join, added_to_end, between_wider, between_split}
use Rattle.sm_check_decide.proofs.needs.add_between.Goals as goal

pub add-requires : goal.add-requires
add-requires c =
    let inside : c.loop-place.place < length c.args.marks.now = omega (arith, c.loop-place-test.true, c.loop-place.auto.place-end, c.min-end.ensures) in
    let mark : c.get.result ≡ note_of c.args.marks.now c.loop-place.place = c.get.ensures ∙ get_or_read c.args.marks.now c.loop-place.place c.index-marks-place.result inside c.index-marks-place.is None in
    record { below = λ i e. omega (arith, c.loop-place.invariant.bound, c.requires.below c.loop-place.place i (sym mark ∙ e)) }

pub loop-place-preserved : goal.loop-place-preserved
loop-place-preserved c =
    let inside : c.loop-place.place < length c.args.marks.now = omega (arith, c.loop-place-test.true, c.loop-place.auto.place-end, c.min-end.ensures) in
    let mark : c.get.result ≡ note_of c.args.marks.now c.loop-place.place = c.get.ensures ∙ get_or_read c.args.marks.now c.loop-place.place c.index-marks-place.result inside c.index-marks-place.is None in
    record {
      bound = c.add.ensures.bound ∙ c.loop-place.invariant.bound;
      behind = omega (arith, c.loop-place.invariant.behind);
      within = omega (arith, c.loop-place-test.true, c.loop-place.auto.place-end, c.min-end.ensures);
      added = adds_join (λ k. IsBetween c.args.marks.now c.args.from (c.loop-place.place + 1) k) c.loop-place.invariant.added c.add.ensures.added
          (λ k w. between_wider w)
          (λ k e. record { place = c.loop-place.place; behind = c.loop-place.invariant.behind; before = omega arith; marked = sym mark ∙ e })
          (λ k w. elim (between_split k w) [ inl v ↦ inl v | inr e ↦ inr (mark ∙ e) ]);
    }

pub returns-clause-added : goal.returns-clause-added
returns-clause-added c = added_to_end c.loop-place.invariant.within (omega (arith, c.loop-place-test.false, c.min-end.ensures)) c.loop-place.invariant.added
