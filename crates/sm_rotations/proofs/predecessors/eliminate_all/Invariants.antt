use Rattle.std.proofs.Common.{◌≡◌, take, length}
use Rattle.sm_market.specs.Pairing.{IsPairingOf}
use Rattle.sm_theory.specs.Chains.{stage}
use Rattle.sm_theory.specs.Values.{rotations_of}
use Rattle.sm_rotations.specs.Noting.{AreNoted}
use Rattle.sm_rotations.proofs.predecessors.eliminate_all.Given as goal

abbrev pub invariant-loop-rotation : goal.invariant-loop-rotation
invariant-loop-rotation l = record {
  one_each : length l.places ≡ length l.market.proposers;
  made : IsPairingOf l.market l.m;
  leads : l.m.places ≡ stage l.market l.fn.m.places (rotations_of l.rotations) l.rotation-index;
  noted : AreNoted l.market l.fn.m.places (take l.rotation-index (rotations_of l.rotations)) l.notes;
}
