use Rattle.std.proofs.Common.{length}
use Rattle.sm_lists.specs.Namings.{AreNamings}
use Rattle.sm_lists.specs.Rows.{lists_in}
use Rattle.sm_lists.specs.Held.{held_in}
use Rattle.sm_lists.proofs.crosses.add_namings.Given as goal

abbrev pub invariant-loop-place : goal.invariant-loop-place
invariant-loop-place g l = AreNamings (lists_in l.rows) (length l.fn.namings) l.by l.place (held_in g.N.KeptNaming.kept l.namings)
