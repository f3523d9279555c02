-- The JSON value of an instance. Members stand in the order of their names.
use Rattle.std.specs.Prelude.{◌≡◌, ℕ, ◌<◌, ℤ, Bool, true, false, if◌then◌else◌, List, [], ◌∷◌, Option, Some, None, map, codes, length, slice_index}
use Rattle.sm_text.specs.Name.{is_name}
use Rattle.sm_agents.specs.Written.{AgentData, row}
use Rattle.serde_json.specs.Data.{Data, number, string, array, object, unsigned, Members, no_members, member, put}
use Rattle.serde_json.specs.Find.{of_integer}
use Rattle.serde_json.specs.View.{items_of}
use Rattle.sm_instance.specs.Inputs.{kind_of}
use Rattle.sm_agents.specs.Named.{SaidAgent, SaidPair, SaidWeight, SaidOrder, Said}
use Rattle.sm_instance.specs.declared.inputs.Input.{Input}
use Rattle.sm_agents.specs.declared.kinds.Kind.{Kind}
use Rattle.sm_agents.specs.declared.kinds.Kind.TheVariants.{Marriage, Hospitals, Roommates}
use Rattle.sm_instance_lines.specs.Names.{name_of, said_agent, said_pair, said_weight, said_of}
use Rattle.sm_agents.specs.Nonzero.{is_zero}
use Rattle.sm_json.specs.Parts.{has_capacities}
use Rattle.sm_agents.specs.Kinds.{kind_name}

-- an array of what some items give
abbrev pub array_of : {A : Type 0} → (A → Data) → List A → Data
array_of f xs = array (items_of (map f xs))

-- the capacity of an agent, where it has one, before its other members
abbrev pub with_capacity : Bool → ℕ → Members → Members
with_capacity false capacity ms = ms
with_capacity true capacity ms = member (codes "capacity") (number (unsigned capacity)) ms

-- an agent
abbrev pub agent_json : (has_capacity : Bool) → SaidAgent → Data
agent_json has_capacity agent =
    object (with_capacity has_capacity agent.capacity (member (codes "list") (array_of string agent.entries) (member (codes "name") (string agent.name) no_members)))

-- a pair
abbrev pub pair_json : SaidPair → Data
pair_json pair = array_of string (pair.proposer ∷ pair.reviewer ∷ [])

-- a second weight, where it isn't 0
abbrev pub second_json : ℤ → List Data
second_json second = if is_zero second then [] else number (of_integer second) ∷ []

-- a pair and its weights
abbrev pub weight_json : SaidWeight → Data
weight_json x = array (items_of (string x.pair.proposer ∷ string x.pair.reviewer ∷ number (of_integer x.weight) ∷ second_json x.second))

-- a member that stands only where it has items
abbrev pub unless_empty : {A : Type 0} → List ℕ → (A → Data) → List A → Members → Members
unless_empty key f [] ms = ms
unless_empty key f (x ∷ xs) ms = member key (array_of f (x ∷ xs)) ms

-- the names of an order
abbrev pub order_json : SaidOrder → Data
order_json order = array_of string order.names

-- a member that stands only where there is an order
abbrev pub with_order : Option SaidOrder → Members → Members
with_order None ms = ms
with_order (Some order) ms = member (codes "order") (order_json order) ms

-- an instance with two sides, by names
abbrev pub two_json : Kind → Said → Data
two_json kind said =
    object (unless_empty (codes "forbidden") pair_json said.forbidden
    (unless_empty (codes "forced") pair_json said.forced
    (member (codes "kind") (string (kind_name kind))
    (with_order said.order
    (member (codes "proposers") (array_of (agent_json false) said.proposers)
    (member (codes "reviewers") (array_of (agent_json (has_capacities kind)) said.reviewers)
    (unless_empty (codes "weights") weight_json said.weights no_members)))))))

-- an instance of roommates, by names
abbrev pub room_json : Said → Data
room_json said = object (member (codes "kind") (string (kind_name Roommates)) (member (codes "persons") (array_of (agent_json false) said.proposers) no_members))

-- the value of an instance of a kind
abbrev pub said_json : Kind → Said → Data
said_json Marriage said = two_json Marriage said
said_json Hospitals said = two_json Hospitals said
said_json Roommates said = room_json said

-- the value of an instance
abbrev pub json_of : Input → Data
json_of input = said_json (kind_of input) (said_of input)

-- ---- for private clauses

-- a member is put only where it has items
abbrev pub put_if : {A : Type 0} → List ℕ → (A → Data) → List A → Members → Members
put_if key f [] ms = ms
put_if key f (x ∷ xs) ms = put key (array_of f (x ∷ xs)) ms

-- the member of an order is put only where there is one
abbrev pub put_order : Option SaidOrder → Members → Members
put_order None ms = ms
put_order (Some order) ms = put (codes "order") (order_json order) ms

-- the members of an instance with two sides but for its order and its conditions, put one after another
abbrev pub sides_put : Kind → (lefts rights : List AgentData) → List ((ℕ × ℕ × ℤ) × ℤ) → Members
sides_put kind lefts rights weights =
    put (codes "kind") (string (kind_name kind))
    (put (codes "proposers") (array_of (agent_json false) (map (said_agent rights) lefts))
    (put (codes "reviewers") (array_of (agent_json (has_capacities kind)) (map (said_agent lefts) rights))
    (put_if (codes "weights") weight_json (map (said_weight lefts rights) weights) no_members)))

-- the conditions, put to members
abbrev pub conditions_put : (lefts rights : List AgentData) → (forced forbidden : List (ℕ × ℕ)) → Members → Members
conditions_put lefts rights forced forbidden ms =
    put_if (codes "forbidden") pair_json (map (said_pair lefts rights) forbidden) (put_if (codes "forced") pair_json (map (said_pair lefts rights) forced) ms)

-- each agent has a name
abbrev pub AreNamed : List AgentData → Type 0
AreNamed agents = (a : ℕ) → a < length agents → is_name (name_of agents a) ≡ true

-- entries name agents, of so many
abbrev pub AreListed : List ℕ → ℕ → Type 0
AreListed entries others = (i : ℕ) → i < length entries → slice_index entries i < others

-- and so do the lists of all agents
abbrev pub AreAllListed : List AgentData → ℕ → Type 0
AreAllListed agents others = (a : ℕ) → a < length agents → AreListed (row agents a) others

-- what agents and pairs say
abbrev pub said_by : (lefts rights : List AgentData) → List ((ℕ × ℕ × ℤ) × ℤ) → (forced forbidden : List (ℕ × ℕ)) → Option SaidOrder → Said
said_by lefts rights weights forced forbidden order = record {
  proposers = map (said_agent rights) lefts;
  reviewers = map (said_agent lefts) rights;
  weights = map (said_weight lefts rights) weights;
  forced = map (said_pair lefts rights) forced;
  forbidden = map (said_pair lefts rights) forbidden;
  masters = [];
  order = order;
}
