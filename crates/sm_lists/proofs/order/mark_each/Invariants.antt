use Rattle.std.proofs.Common.{length}
use Rattle.sm_lists.specs.EachOnce.{AreApart, AreMarked}
use Rattle.sm_lists.proofs.order.mark_each.Given as goal

-- the numbers so far are below the count and differ, and they are marked
abbrev pub invariant-loop-n : goal.invariant-loop-n
invariant-loop-n l = record {
  apart : AreApart l.order (length l.met) l.n;
  marked : AreMarked l.order l.n l.met;
}
