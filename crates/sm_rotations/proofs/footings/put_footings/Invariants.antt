use Rattle.std.proofs.Common.{◌+◌, ◌≤◌, length}
use Rattle.std.specs.Prelude.{vec_len, vec_capacity}
use Rattle.sm_theory.specs.Rotations.{eliminated}
use Rattle.sm_rotations.specs.Footings.{AreFootings}
use Rattle.sm_rotations.proofs.footings.put_footings.Given as goal

abbrev pub invariant-loop-i : goal.invariant-loop-i
invariant-loop-i l = record {
  before_are : AreFootings l.market l.m.places l.pairs l.i l.before.items;
  after_are : AreFootings l.market (eliminated l.market l.m.places l.pairs) l.pairs l.i l.after.items;
  room_before : vec_len l.before + length l.pairs ≤ vec_capacity l.before + l.i;
  room_after : vec_len l.after + length l.pairs ≤ vec_capacity l.after + l.i;
}
