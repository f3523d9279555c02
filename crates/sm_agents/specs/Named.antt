-- An instance by names: what the lines of its text say. A name need not be declared.
use Rattle.std.specs.Prelude.{ℕ, ◌+◌, ◌&&◌, Bool, if◌then◌else◌, List, [], ◌∷◌, length, map, Option, Some, None, ℤ}
use Rattle.std.specs.List.{sum_by}
use Rattle.std.specs.Str.{bytes_eq}
use Rattle.sm_agents.specs.declared.kinds.Side.{Side}
use Rattle.sm_agents.specs.declared.kinds.Side.TheVariants.{Proposers, Reviewers}

-- an agent as its line declares it, with the names on its list, best first
pub record SaidAgent : Type 0 where
  pub name : List ℕ
  pub capacity : ℕ
  pub line : ℕ
  pub entries : List (List ℕ)

-- a proposer and a reviewer that a line names
pub record SaidPair : Type 0 where
  pub proposer : List ℕ
  pub reviewer : List ℕ
  pub line : ℕ

-- the weights that a line gives to a pair; the second is 0 where none is written
pub record SaidWeight : Type 0 where
  pub pair : SaidPair
  pub weight : ℤ
  pub second : ℤ

-- a master list: a list with a name of its own, which agents may have for theirs
pub record SaidMaster : Type 0 where
  pub name : List ℕ
  pub entries : List (List ℕ)

-- the proposers that come first in the order of the instance, as a line names them
pub record SaidOrder : Type 0 where
  pub names : List (List ℕ)
  pub line : ℕ

-- what the lines so far say, each part in the order of its lines. In roommates the persons stand as proposers.
pub record Said : Type 0 where
  pub proposers : List SaidAgent
  pub reviewers : List SaidAgent
  pub weights : List SaidWeight
  pub forced : List SaidPair
  pub forbidden : List SaidPair
  pub masters : List SaidMaster
  pub order : Option SaidOrder

-- nothing is said yet
abbrev pub nothing : Said
nothing = record { proposers = []; reviewers = []; weights = []; forced = []; forbidden = []; masters = []; order = None }

-- the names of some agents
abbrev pub names_of : List SaidAgent → List (List ℕ)
names_of agents = map (λ (agent : SaidAgent). agent.name) agents

-- the agents of a side
abbrev pub agents_on : Side → Said → List SaidAgent
agents_on Proposers said = said.proposers
agents_on Reviewers said = said.reviewers

-- how many entries the lists have together
abbrev pub entries_of : List SaidAgent → ℕ
entries_of agents = sum_by (λ (agent : SaidAgent). length agent.entries) agents

-- the names of some master lists
abbrev pub master_names : List SaidMaster → List (List ℕ)
master_names masters = map (λ (master : SaidMaster). master.name) masters

-- how many entries some master lists have together
abbrev pub entries_of_masters : List SaidMaster → ℕ
entries_of_masters masters = sum_by (λ (master : SaidMaster). length master.entries) masters

-- how many entries the lists of both sides and the master lists have together; those of a master list count once for it, and
-- once for each agent that has it
abbrev pub all_entries : Said → ℕ
all_entries said = entries_of said.proposers + entries_of said.reviewers + entries_of_masters said.masters

-- the entries of the first master list of a name
abbrev pub entries_named : List SaidMaster → List ℕ → Option (List (List ℕ))
entries_named [] name = None
entries_named (master ∷ masters) name = if bytes_eq name master.name then Some master.entries else entries_named masters name

-- the names of the proposers that come first, of which there are none where no line says it
abbrev pub names_first : Option SaidOrder → List (List ℕ)
names_first None = []
names_first (Some order) = order.names

-- the weight is given to the pair of these two
abbrev pub is_given_to : List ℕ → List ℕ → SaidWeight → Bool
is_given_to proposer reviewer w = bytes_eq proposer w.pair.proposer && bytes_eq reviewer w.pair.reviewer
