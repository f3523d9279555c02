use Rattle.std.proofs.Common.{◌≡◌, false}
use Rattle.sm_lister.specs.Walking.{IsKeptWalk}
use Rattle.sm_lister.specs.Barred.{AreBars}
use Rattle.sm_lister.proofs.vector_walk.next_step.Given as goal

abbrev pub invariant-depths : goal.invariant-depths
invariant-depths l = record {
  walking : IsKeptWalk l.course l.gates l.held l.walk;
  over : l.walk.fresh ≡ false;
  given : l.walk.given ≡ l.initial.walk.given;
  same : l.walk.vector.items ≡ l.initial.walk.vector.items;
  bars : AreBars l.course l.held.set l.walk.bars;
}

abbrev pub decreases-depths : goal.decreases-depths
decreases-depths l = l.walk.depth
