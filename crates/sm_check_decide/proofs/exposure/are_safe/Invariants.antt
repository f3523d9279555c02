use Rattle.std.proofs.Common.{◌≡◌, ℕ, ◌<◌, length, slice_index}
use Rattle.std.specs.List.{Contains}
use Rattle.sm_successors.specs.Search.{IsSearchAt}
use Rattle.sm_check_decide.specs.Exposure.{IsSafe}
use Rattle.sm_check_decide.specs.ExposureKept.{AreSafe, AreClosed}
use Rattle.sm_check_decide.proofs.exposure.are_safe.Given as goal

abbrev pub invariant-loop-k : goal.invariant-loop-k
invariant-loop-k l = record {
  proposers : l.trail.bound ≡ length l.market.proposers;
  search : IsSearchAt l.market l.m.places l.from;
  all : AreSafe l.market l.m.places l.bound l.trail.items;
  closed : AreClosed l.market l.m.places l.trail.items;
  on : (j : ℕ) → j < l.k → Contains l.trail.items (slice_index l.starts.items j);
  before : (j : ℕ) → j < l.k → IsSafe l.market l.m.places l.bound (slice_index l.starts.items j);
}
