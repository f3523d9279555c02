use Rattle.std.proofs.Common.{◌≡◌}
use Rattle.sm_answer_weight.specs.WeightAnswer.{member_numbers}
use Rattle.sm_answer_weight.proofs.figures.member_numbers.Given as goal

-- the numbers of the members so far
abbrev pub invariant-loop-k : goal.invariant-loop-k
invariant-loop-k l = l.numbers.items ≡ member_numbers l.members l.k
