use Rattle.std.proofs.Common.{ℕ, ◌<◌, length}
use Rattle.sm_market.specs.Lists.{row}
use Rattle.sm_market.specs.Matching.{standing}
use Rattle.sm_theory.specs.Rotations.{WouldTake}
use Rattle.sm_successors.proofs.search.first_taker.Given as goal

abbrev pub invariant-loop-place : goal.invariant-loop-place
invariant-loop-place l = record {
  passed : (j : ℕ) → standing l.market.proposers l.m.places.proposers l.p < j → j < length (row l.market.proposers l.p) → j < l.place → ¬ WouldTake l.market l.m.places l.p j;
  behind : standing l.market.proposers l.m.places.proposers l.p < l.place;
}
