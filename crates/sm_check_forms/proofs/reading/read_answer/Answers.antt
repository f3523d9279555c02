use Rattle.std.proofs.Common.{◌-◌, ◌∙◌, sym, ap, arith, subst, drop, take, length}
use Rattle.sm_text.specs.Lines.{texts_from}
use Rattle.sm_text.proofs.LineLemmas.{line_places, texts_from-step, fewer_lines, texts_from-over}
use Rattle.sm_check_forms.specs.Taking.{TakesText}
use Rattle.sm_check_forms.specs.Forms.{IsMisplaced}
use Rattle.sm_check_forms.proofs.TakingLemmas.{AreTaken, taken_none, taken_more, taken_long, bad_line, missing_end}
use Rattle.sm_check_forms.proofs.reading.read_answer.Goals as goal

pub lines-init : goal.lines-init
lines-init c = record {
  taken = taken_none c.args.input.now c.new-taken.result (texts_from c.args.answer.now 0) (c.new-taken.ensures.so_far c.args.input.now) c.new-taken.ensures.none;
  number = ap length (sym c.new-taken.ensures.none);
  few = omega (arith, c.requires.few);
}

pub slice_bounds-take_text-end : goal.slice_bounds-take_text-end
slice_bounds-take_text-end c = let places = line_places c.args.answer.now c.lines.at c.in-Some.line c.in-Some.ensures in omega (arith, places.1, places.3)

pub returns-then-not-branch-clause-fault : goal.returns-then-not-branch-clause-fault
returns-then-not-branch-clause-fault c =
    let input = c.args.input.now in
    let bytes = c.args.answer.now in
    let span = c.in-Some.line in
    let before = c.lines.taken in
    let text = take (span.stop - span.start) (drop span.start bytes) in
    subst (IsMisplaced input (texts_from bytes 0)) (sym c.lines.invariant.number)
    (bad_line input c.kind-kind.ensures.sound (texts_from bytes 0) before text (texts_from bytes span.next)
    (subst (AreTaken input (texts_from bytes 0) before) (texts_from-step bytes c.lines.at span c.in-Some.ensures) c.lines.invariant.taken)
    (subst (TakesText input before c.take_text.new.taken text) c.if-not-branch.true c.in_ok-take_text.ensures))

pub lines-preserved : goal.lines-preserved
lines-preserved c =
    let input = c.args.input.now in
    let bytes = c.args.answer.now in
    let span = c.in-Some.line in
    let before = c.lines.taken in
    let text = take (span.stop - span.start) (drop span.start bytes) in
    let took = subst (TakesText input before c.take_text.new.taken text) c.if-not-branch.false c.in_ok-take_text.ensures in
    let long = taken_long input before c.take_text.new.taken took.line took.took in
    let fewer = fewer_lines bytes c.lines.at span c.in-Some.ensures in
    record {
      taken = taken_more input (texts_from bytes 0) before c.take_text.new.taken text (texts_from bytes span.next)
          (subst (AreTaken input (texts_from bytes 0) before) (texts_from-step bytes c.lines.at span c.in-Some.ensures) c.lines.invariant.taken) took;
      number = omega (arith, long, c.lines.invariant.number);
      few = omega (arith, fewer, c.lines.invariant.few);
    }

pub returns-else-is_whole-clause-fault : goal.returns-else-is_whole-clause-fault
returns-else-is_whole-clause-fault c =
    let input = c.args.input.now in
    let texts = texts_from c.args.answer.now 0 in
    subst (IsMisplaced input texts) (sym c.lines.invariant.number)
    (missing_end input c.kind-kind.ensures.sound texts c.lines.taken
    (subst (AreTaken input texts c.lines.taken) (texts_from-over c.args.answer.now c.lines.at c.in_default.ensures) c.lines.invariant.taken)
    (sym c.is_whole.ensures ∙ c.if-is_whole.false))
