use Rattle.std.proofs.Common.{◌≡◌, ℕ, ◌<◌, length, slice_index}
use Rattle.std.specs.Prelude.{if◌then◌else◌}
use Rattle.sm_lists.specs.Rows.{rows_of}
use Rattle.sm_market.specs.Matching.{held}
use Rattle.sm_theory.specs.Conditions.{has_level}
use Rattle.sm_lists.specs.Pairs.{pair_at}
use Rattle.sm_check_net.proofs.spans.begun.Given as goal

abbrev pub invariant-loop-x : goal.invariant-loop-x
invariant-loop-x l = record {
  one_each : length l.nodes.items ≡ l.x;
  each : (x : ℕ) → x < l.x → slice_index l.nodes.items x
      ≡ (if has_level (rows_of l.levels) (pair_at l.keys x).0 (pair_at l.keys x).1 (held l.first.places.proposers (pair_at l.keys x).0) then 0 else l.sink);
}
