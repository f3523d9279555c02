use Rattle.std.proofs.Common.{◌≡◌, take}
use Rattle.sm_answer_vectors.specs.Spelled.{IsKept}
use Rattle.sm_answer_vectors.proofs.vector_text.VectorText.show.Given as goal

abbrev pub invariant-loop-i : goal.invariant-loop-i
invariant-loop-i l = record {
  kept : IsKept l.self;
  shown : l.self.shown.items ≡ take l.i l.vector;
}
