use Rattle.std.proofs.Common.{length, arith, ap}
use Rattle.sm_text.proofs.LineLemmas.{line_places}
use Rattle.sm_text.proofs.lines.line_count.Goals as goal

pub loop-line-smaller : goal.loop-line-smaller
loop-line-smaller c = let places = line_places c.args.bytes.now c.loop-line.from c.in-Some.line c.in-Some.ensures in omega arith

pub loop-line-preserved : goal.loop-line-preserved
loop-line-preserved c =
    let places = line_places c.args.bytes.now c.loop-line.from c.in-Some.line c.in-Some.ensures in
    let one_less = ap length c.in-Some.ensures.leads in
    record { counted = omega arith; few = omega arith; within = omega arith }
