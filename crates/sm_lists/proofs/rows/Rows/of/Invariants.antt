use Rattle.std.proofs.Common.{◌≡◌, take}
use Rattle.sm_lists.specs.Rows.{rows_of}
use Rattle.sm_lists.proofs.rows.Rows.of.Given as goal

abbrev pub invariant-loop-vector : goal.invariant-loop-vector
invariant-loop-vector l = l.rows ≡ rows_of (take l.vector-index l.vectors)
