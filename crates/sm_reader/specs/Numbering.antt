-- What the numbering of names takes and gives.
use Rattle.std.specs.Prelude.{if◌then◌else◌, ◌≡◌, ◌≢◌, ℕ, ◌+◌, ◌≤◌, ◌++◌, length, map, Bool, List, Option, Some, None, Result, Ok, ℤ}
use Rattle.sm_agents.specs.declared.kinds.Kind.{Kind}
use Rattle.sm_agents.specs.declared.kinds.Kind.TheVariants.{Roommates}
use Rattle.sm_agents.specs.declared.agents.Agent.{Agent}
use Rattle.sm_agents.specs.declared.parts.Parts.{Parts}
use Rattle.sm_agents.specs.Vectors.{agents_of}
use Rattle.sm_agents.specs.Named.{SaidPair, SaidWeight, names_first}
use Rattle.sm_keys.specs.Tables.{number_in, Table}
use Rattle.sm_reader.specs.InstanceText.{numbered, lines_with_unknown, unknown_lines, least}
use Rattle.sm_agents.specs.Order.{full_order}
use Rattle.sm_reader.specs.Draft.{IsDraft, said_of, listed_table, agent_in, pair_in, given_in, order_of}
use Rattle.sm_reader.specs.Right.{IsRight}
use Rattle.sm_text.specs.Limits.{most_bytes, most_agents}
use Rattle.sm_text.specs.declared.refusal.RefusalKind.TheVariants.{UnknownName}
use Rattle.sm_reader.specs.declared.draft.Draft.{Draft}
use Rattle.sm_reader.specs.declared.draft.Declared.{Declared}
use Rattle.sm_reader.specs.declared.draft.Order.{Order}
use Rattle.sm_reader.specs.declared.draft.Pair.{Pair}
use Rattle.sm_reader.specs.declared.draft.Weights.{Weights}
use Rattle.sm_keys.specs.declared.text_key.TextKey.{TextKey}
use Rattle.sm_reader.specs.declared.numbering.BothNumbered.{BothNumbered}
use Rattle.sm_reader.specs.declared.numbering.SaidNumbered.{SaidNumbered}
use Rattle.std.specs.Option.{option_map}
use Rattle.std.specs.declared.alloc.AllocError.{AllocError}
use Rattle.sm_reader.specs.declared.faults.TextFault.{TextFault}
use Rattle.sm_reader.specs.declared.faults.TextFault.TheVariants.{Refused, OutOfMemory}

-- a line, if it counts
abbrev pub line_if : Bool → ℕ → Option ℕ
line_if counts line = if counts then Some line else None

-- a pair and a weight, with numbers among the names of both sides
abbrev pub pair_among : List (List ℕ) → List (List ℕ) → SaidPair → ℕ × ℕ
pair_among proposers reviewers x = (number_in proposers x.proposer, number_in reviewers x.reviewer)

-- a weight with numbers for the names of its pair
abbrev pub weight_among : List (List ℕ) → List (List ℕ) → SaidWeight → ℕ × ℕ × ℤ
weight_among proposers reviewers w = (number_in proposers w.pair.proposer, number_in reviewers w.pair.reviewer, w.weight)

-- the pair of which these are the weights
abbrev pub weighed_pair : (TextKey × TextKey) × Weights → SaidPair
weighed_pair x = (given_in x).pair

-- the second weight
abbrev pub second_of : (TextKey × TextKey) × Weights → ℤ
second_of x = x.1.second

-- the lines of agents that list one who isn't declared
abbrev pub agents_with_unknown : Kind → Draft → List ℕ
agents_with_unknown kind d =
    let p = d.proposer_names in
    let t = listed_table kind d.proposer_names d.reviewer_names in
    lines_with_unknown t.declared (map (agent_in t.texts) d.proposers.items) ++ lines_with_unknown p.declared (map (agent_in p.texts) d.reviewers.items)

-- a draft before a line that isn't past the last of a text, after lines without a fault
pub record IsReady (kind : Kind) (d : Draft) : Type 0 where
  pub line : ℕ
  pub draft : IsDraft kind line d
  pub right : IsRight kind (said_of kind d)
  pub few : line ≤ most_bytes + 1

-- a draft of two sides, before the line of some number
pub record IsTwoSided (d : Draft) : Type 0 where
  pub kind : Kind
  pub line : ℕ
  pub two_sided : kind ≢ Roommates
  pub draft : IsDraft kind line d
  pub few_proposers : length d.proposer_names.declared ≤ most_agents
  pub few_reviewers : length d.reviewer_names.declared ≤ most_agents

-- the persons of a draft by number
abbrev pub NumbersPersons : Draft → List Agent → Type 0
NumbersPersons d persons =
    let t = d.proposer_names in
    agents_of persons ≡ map (numbered t.declared) (map (agent_in t.texts) d.proposers.items)

-- the two sides of a draft by number, with its weights and conditions
pub record NumbersSides (d : Draft) (sides : Parts) : Type 0 where
  pub proposers : let r = d.reviewer_names in agents_of sides.proposers.items ≡ map (numbered r.declared) (map (agent_in r.texts) d.proposers.items)
  pub reviewers : let p = d.proposer_names in agents_of sides.reviewers.items ≡ map (numbered p.declared) (map (agent_in p.texts) d.reviewers.items)
  pub weights : sides.weights.items ≡ map (weight_among d.proposer_names.declared d.reviewer_names.declared) (map given_in d.weights.entries)
  pub forced : sides.forced.items ≡ map (pair_among d.proposer_names.declared d.reviewer_names.declared) (map pair_in d.forced.items)
  pub forbidden : sides.forbidden.items ≡ map (pair_among d.proposer_names.declared d.reviewer_names.declared) (map pair_in d.forbidden.items)
  pub seconds : sides.seconds.items ≡ map second_of d.weights.entries
  pub order : sides.order.items ≡ full_order (length d.proposers.items) (map (number_in d.proposer_names.declared) (names_first (option_map order_of d.order)))

-- weights and conditions by number
pub record NumbersSaid (proposers reviewers : List (List ℕ)) (given : List ((TextKey × TextKey) × Weights)) (to_hold not_to : List Pair) (said : SaidNumbered) : Type 0 where
  pub weights : said.weights.items ≡ map (weight_among proposers reviewers) (map given_in given)
  pub seconds : said.seconds.items ≡ map second_of given
  pub forced : said.forced.items ≡ map (pair_among proposers reviewers) (map pair_in to_hold)
  pub forbidden : said.forbidden.items ≡ map (pair_among proposers reviewers) (map pair_in not_to)

-- the agents of both sides by number, and the order of the proposers
pub record NumbersBoth (p r : Table) (ps rs : List Declared) (first : Option Order) (both : BothNumbered) : Type 0 where
  pub proposers : agents_of both.proposers.items ≡ map (numbered r.declared) (map (agent_in r.texts) ps)
  pub reviewers : agents_of both.reviewers.items ≡ map (numbered p.declared) (map (agent_in p.texts) rs)
  pub order : both.order.items ≡ full_order (length ps) (map (number_in p.declared) (names_first (option_map order_of first)))

-- the parts of an instance, of which both halves are there
pub record ArePartsOf (kind : Kind) (halves : Result BothNumbered AllocError) (rest : Result SaidNumbered AllocError) (parts : Parts) : Type 0 where
  pub both : BothNumbered
  pub said : SaidNumbered
  pub both_is : halves ≡ Ok both
  pub said_is : rest ≡ Ok said
  pub is : parts ≡ record {
    kind = kind;
    proposers = both.proposers;
    reviewers = both.reviewers;
    weights = said.weights;
    forced = said.forced;
    forbidden = said.forbidden;
    seconds = said.seconds;
    order = both.order;
  }

-- the first line that names an undeclared agent is refused
abbrev pub IsUnknownFault : Kind → Draft → TextFault → Type 0
IsUnknownFault kind d (Refused fault at) = (fault ≡ UnknownName) × (least (unknown_lines kind (said_of kind d)) ≡ Some at)
IsUnknownFault kind d OutOfMemory = Unit {0}
