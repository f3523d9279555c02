use Rattle.std.proofs.Common.{◌≡◌, take}
use Rattle.sm_lists.proofs.rows.Rows.of_packed.Given as goal

abbrev pub invariant-loop-a : goal.invariant-loop-a
invariant-loop-a l = l.rows ≡ take l.a l.packed
