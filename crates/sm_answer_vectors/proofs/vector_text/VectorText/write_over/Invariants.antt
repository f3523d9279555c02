use Rattle.std.proofs.Common.{◌≡◌, ◌≤◌, ◌-◌, length, take}
use Rattle.sm_answer_vectors.specs.Spelled.{IsKept}
use Rattle.sm_answer_vectors.proofs.vector_text.VectorText.write_over.Given as goal

abbrev pub invariant-changes : goal.invariant-changes
invariant-changes l = record {
  kept : IsKept l.self;
  shown_long : l.i ≤ length l.self.shown.items;
  vector_long : l.i ≤ length l.vector;
  agreed : take l.i l.self.shown.items ≡ take l.i l.vector;
}

abbrev pub decreases-changes : goal.decreases-changes
decreases-changes l = length l.vector - l.i
