use Rattle.std.proofs.Common.{◌≡◌, ℕ, ◌<◌, ◌≤◌, ◌-◌, length, slice_index}
use Rattle.sm_answer_vectors.proofs.vector_text.first_change.Given as goal

abbrev pub invariant-blocks-2 : goal.invariant-blocks-2
invariant-blocks-2 l = record {
  behind : l.from ≤ l.i;
  shown_long : l.i ≤ length l.shown;
  vector_long : l.i ≤ length l.vector;
  same : (j : ℕ) → l.from ≤ j → j < l.i → slice_index l.shown j ≡ slice_index l.vector j;
}

abbrev pub decreases-blocks-2 : goal.decreases-blocks-2
decreases-blocks-2 l = length l.shown - l.i

abbrev pub invariant-numbers : goal.invariant-numbers
invariant-numbers l = record {
  behind : l.from ≤ l.i;
  shown_long : l.i ≤ length l.shown;
  vector_long : l.i ≤ length l.vector;
  same : (j : ℕ) → l.from ≤ j → j < l.i → slice_index l.shown j ≡ slice_index l.vector j;
}

abbrev pub decreases-numbers : goal.decreases-numbers
decreases-numbers l = length l.shown - l.i
