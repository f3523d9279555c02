-- What is kept beside an instance, so that the calls on it take no memory.
use Rattle.std.specs.Prelude.{◌≡◌, ℕ, ◌+◌, ◌<◌, ◌^◌, List, length, map, Option, IfSome}
use Rattle.sm_agents.specs.Written.{AgentData, Written, names_of, weighed}
use Rattle.sm_agents.specs.Sound.{IsInstance, ArePersons}
use Rattle.sm_agents.specs.declared.name_tables.NameTables.{NameTables}
use Rattle.sm_agents.specs.NameTables.{AreNamesOf}
use Rattle.sm_agents.specs.Spaced.{AreSpaced, AreSpacedSides}
use Rattle.sm_agents.specs.declared.spaced_sides.SpacedSides.{SpacedSides}
use Rattle.sm_text.specs.declared.spaced_name.SpacedName.{SpacedName}
use Rattle.sm_instance.specs.declared.crosses.Crosses.{Crosses}
use Rattle.sm_instance.specs.Crosses.{AreCrossesOf}

-- what is kept beside an instance: the pairs with a weight, and the names of both sides with a space before them; and on demand the
-- cross places, with who names each reviewer, and the tables of names
pub record IsKept (w : Written) (pairs : List (ℕ × ℕ)) (crosses : Option Crosses) (names : Option NameTables) (spaced : SpacedSides) : Type 0 where
  pub instance : IsInstance w
  pub few : length w.weights + length w.forced + length w.forbidden < 2 ^ 24
  pub weighed_pairs : pairs ≡ map weighed w.weights
  pub crossed : IfSome crosses (AreCrossesOf w.proposers w.reviewers)
  pub tables : IfSome names (AreNamesOf w.proposers w.reviewers)
  pub spaced_names : AreSpacedSides w.proposers w.reviewers spaced

-- what is kept beside persons: their names, also with a space before them
pub record ArePersonsKept (persons : List AgentData) (names : List (List ℕ)) (spaced : List SpacedName) : Type 0 where
  pub sound : ArePersons persons
  pub named : names ≡ names_of persons
  pub spaced_names : AreSpaced persons (length persons) spaced
