use Rattle.std.proofs.Common.{◌≡◌, ℕ, ◌<◌, ◌-◌, length, slice_index}
use Rattle.std.specs.List.{Contains}
use Rattle.sm_successors.specs.Search.{IsSearchAt}
use Rattle.sm_check_decide.specs.Exposure.{IsSafe}
use Rattle.sm_check_decide.specs.ExposureKept.{IsSuccessorPath, AreClosed, EndsOrLeads}
use Rattle.sm_check_decide.proofs.exposure.is_safe.Given as goal

abbrev pub invariant-steps : goal.invariant-steps
invariant-steps l = record {
  proposers : l.trail.bound ≡ length l.market.proposers;
  in_range : l.q < length l.market.proposers;
  search : IsSearchAt l.market l.m.places l.from;
  before : (k : ℕ) → k < l.start → IsSafe l.market l.m.places l.bound (slice_index l.trail.items k);
  kept : (q : ℕ) → Contains l.initial.trail.items q → Contains l.trail.items q;
  early : AreClosed l.market l.m.places l.initial.trail.items → (k : ℕ) → k < l.start → EndsOrLeads l.market l.m.places l.trail.items (slice_index l.trail.items k);
  path : IsSuccessorPath l.market l.m.places l.trail.items l.start l.p l.q;
}

abbrev pub decreases-steps : goal.decreases-steps
decreases-steps l = length l.market.proposers - length l.trail.items
