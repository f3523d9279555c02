use Rattle.std.proofs.Common.{◌≡◌, ℕ, ◌<◌, ◌≤◌, true, slice_index}
use Rattle.sm_answer_survey.proofs.regrets.are_same.Given as goal

-- where none differed so far, they are the same
abbrev pub invariant-loop-p : goal.invariant-loop-p
invariant-loop-p l = l.same ≡ true → (q : ℕ) → l.from ≤ q → q < l.p → slice_index l.kept q ≡ slice_index l.ranks q
