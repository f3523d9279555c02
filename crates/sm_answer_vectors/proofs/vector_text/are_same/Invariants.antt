use Rattle.std.proofs.Common.{◌≡◌, ℕ, ◌<◌, ◌≤◌, true, slice_index}
use Rattle.sm_answer_vectors.proofs.vector_text.are_same.Given as goal

abbrev pub invariant-loop-j : goal.invariant-loop-j
invariant-loop-j l = l.same ≡ true → (k : ℕ) → l.from ≤ k → k < l.j → slice_index l.shown k ≡ slice_index l.vector k
