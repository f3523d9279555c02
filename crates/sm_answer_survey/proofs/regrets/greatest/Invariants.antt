use Rattle.std.proofs.Common.{◌≡◌, max, fold, take}
use Rattle.sm_answer_survey.proofs.regrets.greatest.Given as goal

-- the greatest so far
abbrev pub invariant-loop-number : goal.invariant-loop-number
invariant-loop-number l = l.greatest ≡ fold max 0 (take l.number-index l.numbers)
