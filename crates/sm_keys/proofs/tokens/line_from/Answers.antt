use Rattle.std.proofs.Common.{arith}
use Rattle.std.proofs.lemmas.Grind.{common_steps}
use Rattle.sm_text.proofs.LineLemmas.{line_places, line_text}
use Rattle.sm_keys.proofs.tokens.line_from.Goals as goal

pub slice_bounds-result-end : goal.slice_bounds-result-end
slice_bounds-result-end c =
    let places = line_places c.args.bytes.now c.args.from c.in_ok-start.field-0 c.in_ok-start.ensures in
    grind (arith, common_steps)

pub returns-clause-line : goal.returns-clause-line
returns-clause-line c =
    let span = c.in_ok-start.field-0 in
    record {
      leads = c.in_ok-start.ensures.leads;
      holds = line_text c.args.bytes.now c.args.from span c.in_ok-start.ensures;
      long = c.in_ok-start.ensures.next;
    }

pub returns-clause-later : goal.returns-clause-later
returns-clause-later c =
    let places = line_places c.args.bytes.now c.args.from c.in_ok-start.field-0 c.in_ok-start.ensures in
    omega arith

pub returns-clause-within : goal.returns-clause-within
returns-clause-within c =
    let places = line_places c.args.bytes.now c.args.from c.in_ok-start.field-0 c.in_ok-start.ensures in
    omega arith
