use Rattle.std.proofs.Common.{◌≡◌, length, take}
use Rattle.sm_lists.specs.Places.{places_in}
use Rattle.sm_lists.proofs.cells.write_narrow.Given as goal

abbrev pub invariant-loop-at : goal.invariant-loop-at
invariant-loop-at l = record {
  as_long : length l.cells ≡ length l.list;
  written : places_in (take l.at l.cells) ≡ take l.at l.list;
}
