use Rattle.std.proofs.Common.{◌≡◌, ◌+◌, ◌≤◌, ◌<◌, ℕ, false, length, slice_index_or}
use Rattle.sm_lister.specs.Walking.{SkipsNoFirstChange}
use Rattle.sm_lister.proofs.start.skips_of.Given as goal

abbrev pub invariant-loop-d : goal.invariant-loop-d
invariant-loop-d l = record {
  long : length l.skip.items ≡ l.d + 1;
  low : l.last ≤ l.d;
  none : (j : ℕ) → l.last ≤ j → j < l.d → slice_index_or l.changes j false ≡ false;
  skips : SkipsNoFirstChange l.changes l.skip.items;
}
