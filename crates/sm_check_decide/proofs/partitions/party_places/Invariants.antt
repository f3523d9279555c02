use Rattle.std.proofs.Common.{◌≡◌, ℕ, ◌<◌, length, get_or}
use Rattle.sm_theory.specs.Partitions.{party_place}
use Rattle.sm_check_decide.proofs.partitions.party_places.Given as goal

abbrev pub invariant-loop-x : goal.invariant-loop-x
invariant-loop-x l = record {
  long : length l.standings.items ≡ l.x;
  places : (z : ℕ) → z < l.x → get_or l.standings.items z 0 ≡ party_place l.lists l.next z;
}
