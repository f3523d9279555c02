use Rattle.std.proofs.Common.{◌≡◌, ℕ, ◌*◌, ◌<◌, ◌≤◌, nat_lt, List, count_by}
use Rattle.sm_lattice.specs.Counts.{AreCountsOf}
use Rattle.sm_lattice.proofs.counts.number_at_place.Given as goal

-- how many numbers are below x: fewer than the place says
abbrev pub invariant-loop-x : goal.invariant-loop-x
invariant-loop-x l = record {
  fits : l.up_to ≤ l.x * 4294967295;
  fewer : 0 < l.place → l.up_to < l.place;
  below : (numbers : List ℕ) → AreCountsOf numbers l.counts → l.up_to ≡ count_by (λ y. nat_lt y l.x) numbers;
}
