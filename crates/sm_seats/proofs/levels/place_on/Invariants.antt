use Rattle.std.proofs.Common.{◌-◌, ◌≤◌, length}
use Rattle.sm_lists.specs.Rows.{place_on}
use Rattle.sm_seats.proofs.levels.place_on.Given as goal

abbrev pub invariant-loop-place : goal.invariant-loop-place
invariant-loop-place l = l.place ≤ place_on l.list l.r

abbrev pub decreases-loop-place : goal.decreases-loop-place
decreases-loop-place l = length l.list - l.place
