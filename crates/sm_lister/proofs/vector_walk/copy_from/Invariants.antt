use Rattle.std.proofs.Common.{◌≡◌, length}
use Rattle.sm_lists.specs.Orders.{AreAlikeBelow}
use Rattle.sm_lister.proofs.vector_walk.copy_from.Given as goal

abbrev pub invariant-loop-p : goal.invariant-loop-p
invariant-loop-p l = record {
  long : length l.numbers ≡ length l.initial.numbers;
  alike : AreAlikeBelow l.p l.numbers l.others;
}
