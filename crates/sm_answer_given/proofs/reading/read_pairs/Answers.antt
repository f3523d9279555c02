use Rattle.std.proofs.Common.{◌-◌, ap, arith, subst, ⊎_elim, drop, take, length}
use Rattle.sm_text.specs.Lines.{texts_from}
use Rattle.sm_text.proofs.LineLemmas.{line_places, texts_from-step, fewer_lines, texts_from-over}
use Rattle.sm_answer_given.specs.Taking.{end_so_far, lines_so_far, TakesText}
use Rattle.sm_answer_given.proofs.ReadingLemmas.{AreTaken, taken_more, taken_long, bad_line, missing_end, all_given}
use Rattle.sm_answer_given.proofs.reading.read_pairs.Goals as goal

pub slice_bounds-take_text-end : goal.slice_bounds-take_text-end
slice_bounds-take_text-end c = let places = line_places c.args.bytes.now c.lines.at c.in-Some.line c.in-Some.ensures in omega (arith, places.1, places.3)

pub returns-then-not-branch-clause-fault : goal.returns-then-not-branch-clause-fault
returns-then-not-branch-clause-fault c =
    let input = c.args.input.now in
    let bytes = c.args.bytes.now in
    let span = c.in-Some.line in
    let before = c.lines.pairs in
    let text = take (span.stop - span.start) (drop span.start bytes) in
    record {
      number = length (lines_so_far before);
      bad = bad_line input c.requires.input (texts_from bytes c.args.from) before c.take_text.new.pairs text (texts_from bytes span.next) c.lines.invariant.in_turn
          (subst (AreTaken input (texts_from bytes c.args.from) before) (texts_from-step bytes c.lines.at span c.in-Some.ensures) c.lines.invariant.taken)
          (subst (TakesText input before c.take_text.new.pairs text) c.if-not-branch.true c.in_ok-take_text.ensures);
      there = c.lines.invariant.number;
    }

pub lines-preserved : goal.lines-preserved
lines-preserved c =
    let input = c.args.input.now in
    let bytes = c.args.bytes.now in
    let span = c.in-Some.line in
    let before = c.lines.pairs in
    let text = take (span.stop - span.start) (drop span.start bytes) in
    let took = subst (TakesText input before c.take_text.new.pairs text) c.if-not-branch.false c.in_ok-take_text.ensures in
    let long = taken_long before c.take_text.new.pairs took.line took.took in
    let fewer = fewer_lines bytes c.lines.at span c.in-Some.ensures in
    record {
      taken = taken_more input (texts_from bytes c.args.from) before c.take_text.new.pairs text (texts_from bytes span.next)
          (subst (AreTaken input (texts_from bytes c.args.from) before) (texts_from-step bytes c.lines.at span c.in-Some.ensures) c.lines.invariant.taken) took;
      in_turn = took.took.in_turn;
      number = omega (arith, long, c.lines.invariant.number);
      few = omega (arith, fewer, c.lines.invariant.few);
    }

pub returns-in-Ended-clause-given : goal.returns-in-Ended-clause-given
returns-in-Ended-clause-given c =
    let input = c.args.input.now in
    let texts = texts_from c.args.bytes.now c.args.from in
    all_given input texts c.lines.pairs (subst (AreTaken input texts c.lines.pairs) (texts_from-over c.args.bytes.now c.lines.at c.in_default.ensures) c.lines.invariant.taken)
    (ap end_so_far c.in-Ended.is)

pub returns-in-Left : goal.returns-in-Left
returns-in-Left c =
    let input = c.args.input.now in
    let texts = texts_from c.args.bytes.now c.args.from in
    record {
      given = tt;
      fault = record {
        number = length (lines_so_far c.lines.pairs);
        bad = missing_end input c.requires.input texts c.lines.pairs (subst (AreTaken input texts c.lines.pairs) (texts_from-over c.args.bytes.now c.lines.at c.in_default.ensures) c.lines.invariant.taken)
            (⊎_elim (λ e. ap end_so_far e) (λ e. ap end_so_far e) c.in-Left.is);
        there = c.lines.invariant.number;
      };
    }
