use Rattle.std.proofs.Common.{arith, sym, ap}
use Rattle.sm_weight.specs.Spans.{place_before}
use Rattle.sm_weight.proofs.SpanLemmas.{place_before-place_to}
use Rattle.sm_weight.proofs.spans.place_before.Goals as goal

pub returns-then-a-eq0 : goal.returns-then-a-eq0
returns-then-a-eq0 c = ap (place_before c.args.stands c.args.moves.now) (sym c.if-a-eq0.true)

pub returns-else-a-eq0 : goal.returns-else-a-eq0
returns-else-a-eq0 c = sym (place_before-place_to c.args.stands c.args.moves.now c.args.a (omega (arith, c.if-a-eq0.false)))
