use Rattle.std.proofs.Common.{arith}
use Rattle.std.proofs.lemmas.List.{take_all}
use Rattle.std.proofs.lemmas.List.Elements.{All-more}
use Rattle.sm_answer_weight.specs.Found.{IsFlowLine}
use Rattle.sm_answer_weight.proofs.finding.read_numbers.Goals as goal

pub loop-line-preserved : goal.loop-line-preserved
loop-line-preserved c =
    All-more IsFlowLine c.args.flow.now c.loop-line.line-index (record { from = 0; to = 0; amount = 0 })
    c.loop-line-test.true c.loop-line.invariant c.has_numbers.ensures

pub returns : goal.returns
returns c =
    let all = c.loop-line.invariant in
    rw (take_all c.loop-line.line-index c.args.flow.now (omega arith)) at all
