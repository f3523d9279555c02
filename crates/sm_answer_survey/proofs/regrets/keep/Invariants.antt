use Rattle.std.proofs.Common.{◌≡◌, ◌⊎◌, ℕ, ◌<◌, ◌≤◌, slice_index}
use Rattle.sm_answer_survey.specs.Regrets.{AreWorseRanks}
use Rattle.sm_answer_survey.proofs.regrets.keep.Given as goal

-- the ranks so far are those of the matching, the others are as they were, and what is kept is right
abbrev pub invariant-loop-p : goal.invariant-loop-p
invariant-loop-p l = record {
  same : (q : ℕ) → l.from ≤ q → q < l.p → slice_index l.kept q ≡ slice_index l.ranks q;
  others : (q : ℕ) → (q < l.from) ⊎ (l.p ≤ q) → slice_index l.kept q ≡ slice_index l.initial.kept q;
  others_worse : (q : ℕ) → (q < l.from) ⊎ (l.p ≤ q) → slice_index l.worse q ≡ slice_index l.initial.worse q;
  worse : AreWorseRanks l.instance l.kept l.worse;
}
