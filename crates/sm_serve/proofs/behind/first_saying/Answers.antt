use Rattle.std.proofs.Common.{◌≡◌, ◌+◌, ◌∙◌, sym, ap, cond, Some, drop, arith}
use Rattle.sm_text.specs.Lines.{lines}
use Rattle.sm_text.proofs.LineLemmas.{line_places, fewer_lines}
use Rattle.sm_serve.specs.Refusals.{first_saying}
use Rattle.sm_serve.proofs.BehindLemmas.{first_saying-step}
use Rattle.sm_serve.proofs.behind.first_saying.Goals as goal

pub slice_bounds-says_something-end : goal.slice_bounds-says_something-end
slice_bounds-says_something-end c = let places = line_places c.args.bytes.now c.lines.at c.in-Some.line c.in-Some.ensures in omega (arith, places.1, places.3)

pub returns-then-says_something : goal.returns-then-says_something
returns-then-says_something c =
    let step = first_saying-step c.args.bytes.now c.lines.at c.lines.line_number c.in-Some.line c.says_something.result c.in-Some.ensures c.says_something.ensures in
    let found : first_saying c.lines.line_number (lines (drop c.lines.at c.args.bytes.now)) ≡ Some c.lines.line_number =
    step ∙ ap (λ b. cond b (Some c.lines.line_number) (first_saying (c.lines.line_number + 1) (lines (drop c.in-Some.line.next c.args.bytes.now)))) c.if-says_something.true in
    sym found ∙ c.lines.invariant.same

pub overflow_add-line_number : goal.overflow_add-line_number
overflow_add-line_number c = omega (arith, c.lines.invariant.few, fewer_lines c.args.bytes.now c.lines.at c.in-Some.line c.in-Some.ensures)

pub lines-smaller : goal.lines-smaller
lines-smaller c = omega (arith, fewer_lines c.args.bytes.now c.lines.at c.in-Some.line c.in-Some.ensures)

pub lines-preserved : goal.lines-preserved
lines-preserved c =
    let step = first_saying-step c.args.bytes.now c.lines.at c.lines.line_number c.in-Some.line c.says_something.result c.in-Some.ensures c.says_something.ensures in
    let passed : first_saying c.lines.line_number (lines (drop c.lines.at c.args.bytes.now)) ≡ first_saying (c.lines.line_number + 1) (lines (drop c.in-Some.line.next c.args.bytes.now)) =
    step ∙ ap (λ b. cond b (Some c.lines.line_number) (first_saying (c.lines.line_number + 1) (lines (drop c.in-Some.line.next c.args.bytes.now)))) c.if-says_something.false in
    record {
      same = sym passed ∙ c.lines.invariant.same;
      few = omega (arith, c.lines.invariant.few, fewer_lines c.args.bytes.now c.lines.at c.in-Some.line c.in-Some.ensures);
    }
