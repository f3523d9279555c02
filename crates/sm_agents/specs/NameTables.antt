-- The names of both sides' agents.
use Rattle.std.specs.Prelude.{◌≡◌, List}
use Rattle.sm_agents.specs.Written.{AgentData, names_of}
use Rattle.sm_agents.specs.declared.name_tables.NameTables.{NameTables}

-- the names of both sides
pub record AreNamesOf (proposers reviewers : List AgentData) (names : NameTables) : Type 0 where
  pub lefts : names.proposers ≡ names_of proposers
  pub rights : names.reviewers ≡ names_of reviewers
