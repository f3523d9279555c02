use Rattle.sm_theory.specs.Values.{rotations_of}
use Rattle.sm_poset.specs.Kept.{AreLeaders, ArePlacesOf}
use Rattle.sm_poset.specs.Moves.{AreMoves, moves_in}
use Rattle.sm_poset.proofs.moves.follow.Given as goal

abbrev pub invariant-loop-k : goal.invariant-loop-k
invariant-loop-k l = record {
  places : ArePlacesOf l.market l.at;
  moves : AreMoves l.market (rotations_of l.chain.rotations.items) l.k (moves_in l.of_proposers.items);
  leaders : AreLeaders l.market (rotations_of l.chain.rotations.items) l.k l.leaders.items;
}
