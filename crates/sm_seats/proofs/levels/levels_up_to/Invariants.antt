use Rattle.std.proofs.Common.{◌≡◌, ℕ, ◌+◌, ◌<◌, ◌≤◌, length, get_or}
use Rattle.std.specs.Prelude.{vec_capacity}
use Rattle.sm_seats.proofs.levels.levels_up_to.Given as goal

abbrev pub invariant-loop-place : goal.invariant-loop-place
invariant-loop-place l = record {
  long : length l.levels.items ≡ l.place;
  at : (i : ℕ) → i < l.place → get_or l.levels.items i 0 ≡ i + 1;
  room : l.places + 1 ≤ vec_capacity l.levels;
}
