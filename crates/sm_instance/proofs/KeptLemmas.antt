-- What is kept beside an instance.
use Rattle.std.proofs.Common.{◌≡◌, ℕ, ◌≤◌, ℤ, List, Option, length}
use Rattle.std.specs.List.{All}
use Rattle.std.specs.Int.RustNames.{unsigned_abs}
use Rattle.sm_text.specs.Limits.{most_weight}
use Rattle.sm_agents.specs.Written.{Written}
use Rattle.sm_agents.specs.declared.name_tables.NameTables.{NameTables}
use Rattle.sm_agents.specs.declared.spaced_sides.SpacedSides.{SpacedSides}
use Rattle.sm_agents.proofs.SecondLemmas.{with_seconds}
use Rattle.sm_instance.specs.Kept.{IsKept}
use Rattle.sm_instance.specs.declared.crosses.Crosses.{Crosses}

-- what is kept beside an instance stays with other second weights
pub kept_with_seconds : {w : Written} {pairs : List (ℕ × ℕ)} {crosses : Option Crosses} {names : Option NameTables} {spaced : SpacedSides} → IsKept w pairs crosses names spaced
    → (seconds : List ℤ) → length seconds ≡ length w.weights → All (λ s. unsigned_abs s ≤ most_weight) seconds → IsKept (record w { seconds = seconds }) pairs crosses names spaced
kept_with_seconds k seconds each small = record {
  instance = with_seconds k.instance seconds each small;
  few = k.few;
  weighed_pairs = k.weighed_pairs;
  crossed = k.crossed;
  tables = k.tables;
  spaced_names = k.spaced_names;
}
