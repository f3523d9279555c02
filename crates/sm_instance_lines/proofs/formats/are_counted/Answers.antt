use Rattle.std.proofs.Common.{sym, arith}
use Rattle.sm_instance_lines.proofs.FormatLemmas.{counted_is, not_counted}
use Rattle.sm_instance_lines.proofs.formats.are_counted.Goals as goal

pub returns-then-numbers-place : goal.returns-then-numbers-place
returns-then-numbers-place c = sym (not_counted c.args.numbers.now c.places.place c.places-test.true c.if-numbers-place.true)

pub returns : goal.returns
returns c = sym (counted_is c.args.numbers.now (λ k below. c.places.invariant k (let past = c.places-test.false in omega (arith, below, past))))
