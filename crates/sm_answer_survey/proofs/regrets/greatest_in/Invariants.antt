use Rattle.std.proofs.Common.{◌≡◌, ◌⊎◌, ℕ, ◌<◌, ◌≤◌, slice_index}
use Rattle.sm_answer_survey.proofs.RegretLemmas.{IsReachedBelow}
use Rattle.sm_answer_survey.proofs.regrets.greatest_in.Given as goal

-- the greatest so far
abbrev pub invariant-loop-p : goal.invariant-loop-p
invariant-loop-p l = record {
  bound : (q : ℕ) → l.from ≤ q → q < l.p → slice_index l.numbers q ≤ l.greatest;
  reached : (l.greatest ≡ 0) ⊎ IsReachedBelow l.from l.p l.numbers l.greatest;
}
