use Rattle.std.proofs.Common.{◌≡◌, ℕ, ◌<◌, length, get_or}
use Rattle.sm_theory.specs.Rooms.{mate_of, place_of_mate}
use Rattle.sm_check_decide.proofs.couples.mate_places.Given as goal

abbrev pub invariant-loop-x : goal.invariant-loop-x
invariant-loop-x l = record {
  long : length l.standings.items ≡ l.x;
  places : (z : ℕ) → z < l.x → get_or l.standings.items z 0 ≡ place_of_mate l.lists z (mate_of l.mates z);
}
