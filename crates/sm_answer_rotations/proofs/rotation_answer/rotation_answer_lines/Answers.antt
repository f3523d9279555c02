use Rattle.std.proofs.Common.{ap, ◌∙◌}
use Rattle.sm_answer.proofs.AnswerLemmas.{same_some, same_is, joined_some, joined_is, given_right, given_some}
use Rattle.sm_market.specs.Vectors.{rows_of}
use Rattle.sm_theory.specs.Values.{rotations_of}
use Rattle.sm_answer_rotations.specs.GivenLines.{rotations_given}
use Rattle.sm_answer_rotations.proofs.RotationLemmas.{shown_of_found, values_few, values_each, small_needs, seats_named, rotations_right, rotations_given_sound}
use Rattle.sm_answer_rotations.proofs.rotation_answer.rotation_answer_lines.Goals as goal

pub invariant_of-result-2 : goal.invariant_of-result-2
invariant_of-result-2 c =
    let s = c.args.seats.now in
    let first = c.args.found.now.chain.first in
    let values = c.deref.result.now in
    let vectors = c.deref-2.result.now in
    let x = shown_of_found s.market c.args.found.now c.deref.result.now c.deref-2.result.now c.deref.ensures.value c.deref-2.ensures.value c.requires.rotations in
    record {
      few = values_few s.market first.places values (rows_of vectors) x;
      one_each = values_each s.market first.places values vectors x;
      small = small_needs s.market (rotations_of values) (rows_of vectors) x.few x.one_each x.of;
      named = seats_named s first.places (rotations_of values) c.requires.seating.market c.requires.seating.seats x.printed.chain;
    }

pub returns-clause-right : goal.returns-clause-right
returns-clause-right c =
    let s = c.args.seats.now in
    let first = c.args.found.now.chain.first in
    let rotations = rotations_of c.deref.result.now in
    let needs = rows_of c.deref-2.result.now in
    let x = shown_of_found s.market c.args.found.now c.deref.result.now c.deref-2.result.now c.deref.ensures.value c.deref-2.ensures.value c.requires.rotations in
    given_right _ _ _ (rotations_given s first.places rotations needs) (joined_is _ _ _ _ (same_is _) (joined_is _ _ _ _ (same_is _) (joined_is _ _ _ _ (same_is _) (same_is _))))
    (rotations_right c.args.instance.now s first.places rotations needs c.requires.seats c.requires.seating x.printed x.one_each x.of)

pub returns-clause-some : goal.returns-clause-some
returns-clause-some c =
    let s = c.args.seats.now in
    let first = c.args.found.now.chain.first in
    let rotations = rotations_of c.deref.result.now in
    let needs = rows_of c.deref-2.result.now in
    let x = shown_of_found s.market c.args.found.now c.deref.result.now c.deref-2.result.now c.deref.ensures.value c.deref-2.ensures.value c.requires.rotations in
    given_some _ _ (rotations_given s first.places rotations needs) (joined_some _ _ (same_some _) (joined_some _ _ (same_some _) (joined_some _ _ (same_some _) (same_some _))))
    (joined_is _ _ _ _ (same_is _) (joined_is _ _ _ _ (same_is _) (joined_is _ _ _ _ (same_is _) (same_is _))))
    (rotations_given_sound c.args.input.now c.proposer_count-count.ensures.instance c.requires.seating first.places rotations needs c.requires.input x.printed x.few x.of)
