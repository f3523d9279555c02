use Rattle.sm_theory.specs.Values.{rotations_of}
use Rattle.sm_rotations.specs.Ordering.{AreLeads, AreTurned}
use Rattle.sm_rotations.proofs.order.turn_each.Given as goal

abbrev pub invariant-loop-k : goal.invariant-loop-k
invariant-loop-k l = record {
  leads : AreLeads (rotations_of l.initial.rotations) l.k l.leads.items;
  turned : AreTurned (rotations_of l.initial.rotations) l.k (rotations_of l.rotations);
}
