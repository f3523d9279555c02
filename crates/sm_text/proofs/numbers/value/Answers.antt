use Rattle.std.proofs.Common.{arith}
use Rattle.sm_text.proofs.NumberLemmas.{too_great}
use Rattle.sm_text.proofs.numbers.value.Goals as goal
use Rattle.sm_text.proofs.numbers.value.Goals.{then-digit-most-via-then-digit-most, then-digit-most-via-else-digit-most+then-value-most}

pub returns-then-digit-most : goal.returns-then-digit-most
returns-then-digit-most c =
    let digit = c.from-digit.ensures in
    let great = too_great c.args.digits.now c.loop-b.b-index c.loop-b.value c.args.most c.loop-b-test.true c.loop-b.invariant.behind in
    elim c.then-digit-most.branch [
      | then-digit-most-via-then-digit-most w ↦ great (omega arith)
      | then-digit-most-via-else-digit-most+then-value-most w ↦ great (omega arith)
    ]
