-- What stands for what while a text is put together.
use Rattle.std.specs.Prelude.{ℕ, Bool, true, false, List, [], ◌∷◌, ◌++◌, codes, Option, Some, option_map}
use Rattle.std.specs.Fmt.{signed_decimal}
use Rattle.std.specs.List.{flat_map}
use Rattle.sm_text.specs.Lines.{LF}
use Rattle.sm_agents.specs.Named.{SaidAgent}
use Rattle.sm_agents.specs.declared.kinds.Kind.TheVariants.{Marriage, Hospitals}
use Rattle.sm_report.specs.Fields.{spaced}
use Rattle.sm_instance_lines.specs.Printed.{capacity_text, proposer_line, reviewer_line, pair_text}
use Rattle.serde_json.specs.Data.{Data}
use Rattle.sm_json.specs.declared.looking.Owner.{Owner}
use Rattle.sm_json.specs.declared.looking.Owner.TheVariants as owner
use Rattle.sm_json.specs.declared.agents.Role.{Role}
use Rattle.sm_json.specs.declared.agents.Role.TheVariants.{Proposer, Reviewer, Hospital}
use Rattle.sm_json.specs.Values.{name_in, names_in, weight_in}
use Rattle.sm_json.specs.Parts.{agent_members, agent_in, agents_in, places_in, both_in, second_in, pair_among, weight_among, pair_in, pairs_in, pair_weight_in, weights_in, two_members, room_members}
use Rattle.sm_json.specs.JsonText.{json_weight_line, second_text}
use Rattle.sm_json.specs.Adding.{joined}

-- the members that an object may have
abbrev pub members_of : Owner → List (List ℕ)
members_of owner.Agent = agent_members false
members_of owner.Hospital = agent_members true
members_of owner.Two = two_members
members_of owner.Room = room_members

-- whether an agent has a capacity
abbrev pub has_capacity : Role → Bool
has_capacity Proposer = false
has_capacity Reviewer = false
has_capacity Hospital = true

-- the members of an agent
abbrev pub owner_of : Role → Owner
owner_of Proposer = owner.Agent
owner_of Reviewer = owner.Agent
owner_of Hospital = owner.Hospital

-- the word of an agent's line
abbrev pub word_of : Role → List ℕ
word_of Proposer = codes "p "
word_of Reviewer = codes "r "
word_of Hospital = codes "r "

-- what stands behind an agent's name for its places
abbrev pub places_text : Role → ℕ → List ℕ
places_text Proposer capacity = []
places_text Reviewer capacity = []
places_text Hospital capacity = capacity_text Hospitals capacity

-- the line of an agent
abbrev pub agent_line : Role → SaidAgent → List ℕ
agent_line Proposer agent = proposer_line agent
agent_line Reviewer agent = reviewer_line Marriage agent
agent_line Hospital agent = reviewer_line Hospitals agent

-- a line with its end
abbrev pub with_end : List ℕ → List ℕ
with_end line = line ++ LF ∷ []

-- the places that a value gives an agent
abbrev pub places_added : Role → Data → Option (List ℕ)
places_added role d = option_map (places_text role) (places_in (has_capacity role) d)

-- the names that an array holds, each behind a space
abbrev pub names_added : Data → Option (List ℕ)
names_added d = option_map spaced (names_in d)

-- a name behind a space
abbrev pub name_added : Data → Option (List ℕ)
name_added d = option_map (λ name. 32 ∷ name) (name_in d)

-- the list of an agent that an array is, and the end of its line
abbrev pub list_added : Data → Option (List ℕ)
list_added d = joined (Some (codes ":")) (joined (names_added d) (Some (LF ∷ [])))

-- the line of the agent that a value is
abbrev pub agent_added : Role → Data → Option (List ℕ)
agent_added role d = option_map (λ a. with_end (agent_line role a)) (agent_in (has_capacity role) d)

-- the lines of the agents that an array holds
abbrev pub agents_added : Role → Data → Option (List ℕ)
agents_added role d = option_map (flat_map (λ a. with_end (agent_line role a))) (agents_in (has_capacity role) d)

-- the line of an agent of this name, with the places that a value gives it and the list that another is
abbrev pub parts_added : Role → List ℕ → Data → Data → Option (List ℕ)
parts_added role name d l = joined (Some (word_of role ++ name)) (joined (places_added role d) (list_added l))

-- the line of a weight, of the values of its parts
abbrev pub weight_parts_added : Data → Data → Data → List Data → Option (List ℕ)
weight_parts_added p r first more =
    joined (option_map (λ pair. codes "weight " ++ pair_text pair) (both_in p r))
    (joined (option_map (λ z. 32 ∷ signed_decimal z) (weight_in first)) (joined (option_map second_text (second_in more)) (Some (LF ∷ []))))

-- the line of the pair that some values are
abbrev pub pair_text_among : (word : List ℕ) → List Data → Option (List ℕ)
pair_text_among word ds = option_map (λ pair. with_end (word ++ pair_text pair)) (pair_among ds)

-- the line of the weight that some values are
abbrev pub weight_text_among : List Data → Option (List ℕ)
weight_text_among ds = option_map (λ w. with_end (json_weight_line w)) (weight_among ds)

-- the line of the pair that a value is
abbrev pub pair_added : (word : List ℕ) → Data → Option (List ℕ)
pair_added word d = option_map (λ pair. with_end (word ++ pair_text pair)) (pair_in d)

-- the lines of the pairs that an array holds
abbrev pub pairs_added : (word : List ℕ) → Data → Option (List ℕ)
pairs_added word d = option_map (flat_map (λ pair. with_end (word ++ pair_text pair))) (pairs_in d)

-- the line of the weight that a value is
abbrev pub weight_added : Data → Option (List ℕ)
weight_added d = option_map (λ w. with_end (json_weight_line w)) (pair_weight_in d)

-- the lines of the weights that an array holds
abbrev pub weights_added : Data → Option (List ℕ)
weights_added d = option_map (flat_map (λ w. with_end (json_weight_line w))) (weights_in d)

-- the line of the order that an array is
abbrev pub order_added : Data → Option (List ℕ)
order_added d = option_map (λ names. with_end (codes "order" ++ spaced names)) (names_in d)
