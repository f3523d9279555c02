use Rattle.std.proofs.Common.{ℕ, ◌<◌, slice_index}
use Rattle.std.specs.List.{Contains}
use Rattle.sm_check_decide.proofs.needs.are_rising_in.Given as goal

abbrev pub invariant-loop-a : goal.invariant-loop-a
invariant-loop-a l = record {
  rising : (x y : ℕ) → x < y → y < l.a → slice_index l.needs x < slice_index l.needs y;
  among : (x : ℕ) → x < l.a → Contains l.found.items (slice_index l.needs x);
}
