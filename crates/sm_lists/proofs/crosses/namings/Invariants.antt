use Rattle.std.proofs.Common.{length}
use Rattle.sm_lists.specs.Namings.{AreNamings}
use Rattle.sm_lists.specs.Rows.{lists_in}
use Rattle.sm_lists.specs.Held.{held_in}
use Rattle.sm_lists.proofs.crosses.namings.Given as goal

abbrev pub invariant-loop-by : goal.invariant-loop-by
invariant-loop-by g l = AreNamings (lists_in l.rows) (length (lists_in l.others)) l.by 0 (held_in g.N.KeptNaming.kept l.namings)
