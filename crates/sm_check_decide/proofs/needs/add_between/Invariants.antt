use Rattle.std.proofs.Common.{◌≡◌, ◌<◌, ◌≤◌}
use Rattle.sm_theory.specs.Marks.{IsBetween, Adds}
use Rattle.sm_check_decide.proofs.needs.add_between.Given as goal

abbrev pub invariant-loop-place : goal.invariant-loop-place
invariant-loop-place l = record {
  bound : l.found.bound ≡ l.fn.found.bound;
  behind : l.from < l.place;
  within : l.place ≤ l.to;
  added : Adds (λ k. IsBetween l.marks l.from l.place k) l.fn.found.items l.found.items;
}
