use Rattle.std.proofs.Common.{◌≡◌, []}
use Rattle.sm_theory.specs.Marks.{IsFoundNeed, Adds}
use Rattle.sm_check_decide.proofs.needs.find.Given as goal

abbrev pub invariant-loop-i : goal.invariant-loop-i
invariant-loop-i l = record {
  bound : l.found.bound ≡ l.fn.found.bound;
  added : Adds (λ k. IsFoundNeed l.market l.pairs l.i l.last l.marks k) [] l.found.items;
}
