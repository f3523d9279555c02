-- Whom the agents of an instance list, and their lines.
use Rattle.std.proofs.Common.{◌≡◌, ℕ, ◌-◌, ◌<◌, ◌≤◌, List, [], ◌∷◌, ◌++◌, length, map, get_or, slice_index, Some, None, codes, sym, ap, ◌∙◌, arith}
use Rattle.std.specs.List.{slice_get}
use Rattle.std.proofs.lemmas.List.{get_or-map, length-map}
use Rattle.sm_agents.specs.Written.{AgentData, Written, no_agent, agent_at, row, entry}
use Rattle.sm_agents.specs.Vectors.{agent_of, agents_of}
use Rattle.sm_instance.specs.Inputs.{IsInput, left_of, right_of}
use Rattle.sm_agents.specs.Named.{SaidAgent}
use Rattle.sm_agents.specs.declared.agents.Agent.{Agent}
use Rattle.sm_agents.specs.declared.kinds.Kind.TheVariants.{Roommates}
use Rattle.sm_instance.specs.declared.inputs.Input.{Input}
use Rattle.sm_instance.specs.declared.inputs.Input.TheVariants.{Two, Room}
use Rattle.sm_instance_lines.specs.Names.{said_agent, said_of}
use Rattle.sm_instance_lines.specs.Printed.{proposer_line, reviewer_line, item_lines, agent_lines}
use Rattle.sm_instance_lines.proofs.PlaceLemmas.{part_before, part_behind, past_one}

-- entries name agents that are there
left_entry : (input : Input) → IsInput input → (p i : ℕ) → i < length (row (left_of input) p) → entry (left_of input) p i < length (right_of input)
left_entry (Two w) sound p i on = (sound.proposer_entries.sound p i on).in_range
left_entry (Room persons) sound p i on = (sound.entries.sound p i on).in_range

right_entry : (input : Input) → IsInput input → (r i : ℕ) → i < length (row (right_of input) r) → entry (right_of input) r i < length (left_of input)
right_entry (Two w) sound r i on = (sound.reviewer_entries.sound r i on).in_range
right_entry (Room persons) sound r i on = (sound.entries.sound r i on).in_range

-- the list of an agent that is held in a vector
row_is : (held : List Agent) (agents : List AgentData) (a : ℕ) (agent : Agent) → agents_of held ≡ agents → a < length agents → agent ≡ get_or held a agent
    → row agents a ≡ agent.entries.items
row_is held agents a agent are there is =
    ap (λ xs. row xs a) (sym are)
    ∙ ap (λ (x : AgentData). x.entries) (get_or-map agent_of held a agent no_agent (omega (arith, ap length are, length-map held agent_of)))
    ∙ ap (λ (x : Agent). x.entries.items) (sym is)

lists_there : (held others : List Agent) (agents them : List AgentData) (a : ℕ) (agent : Agent) → agents_of held ≡ agents → agents_of others ≡ them
    → a < length agents → agent ≡ get_or held a agent → ((i : ℕ) → i < length (row agents a) → entry agents a i < length them)
    → (i : ℕ) → i < length agent.entries.items → slice_index agent.entries.items i < length others
lists_there held others agents them a agent are same there is sound i on =
    let list : row agents a ≡ agent.entries.items = row_is held agents a agent are there is in
    let here : entry agents a i ≡ slice_index agent.entries.items i = ap (λ xs. slice_index xs i) list in
    let below : entry agents a i < length them = sound i (omega (arith, ap length list)) in
    omega (arith, ap length same, length-map others agent_of)

-- the agents that a left agent lists are there
pub left_lists : (input : Input) (held others : List Agent) (p : ℕ) (agent : Agent) → IsInput input → agents_of held ≡ left_of input → agents_of others ≡ right_of input
    → p < length (left_of input) → agent ≡ get_or held p agent → (i : ℕ) → i < length agent.entries.items → slice_index agent.entries.items i < length others
left_lists input held others p agent sound are same there is = lists_there held others (left_of input) (right_of input) p agent are same there is (left_entry input sound p)

-- and those that a right agent lists
pub right_lists : (input : Input) (held others : List Agent) (r : ℕ) (agent : Agent) → IsInput input → agents_of held ≡ right_of input → agents_of others ≡ left_of input
    → r < length (right_of input) → agent ≡ get_or held r agent → (i : ℕ) → i < length agent.entries.items → slice_index agent.entries.items i < length others
right_lists input held others r agent sound are same there is = lists_there held others (right_of input) (left_of input) r agent are same there is (right_entry input sound r)

-- the lines of two sides
module _ (w : Written) where
  abbrev proposer_said : AgentData → SaidAgent
  proposer_said = said_agent w.reviewers

  abbrev reviewer_said : AgentData → SaidAgent
  reviewer_said = said_agent w.proposers

  abbrev item_part : List (List ℕ)
  item_part = item_lines (said_of (Two w))

  abbrev reviewer_part : List (List ℕ)
  reviewer_part = map (reviewer_line w.kind) (map reviewer_said w.reviewers) ++ item_part

  -- the lines of the proposers come first
  pub proposer_text : (place : ℕ) → place < length w.proposers
      → Some (proposer_line (said_agent w.reviewers (agent_at w.proposers place))) ≡ slice_get (agent_lines w.kind (said_of (Two w))) place
  proposer_text place below = sym (part_before proposer_line proposer_said w.proposers reviewer_part place no_agent below)

  past_proposers : (n place : ℕ) → n ≡ length w.proposers → n ≤ place → slice_get reviewer_part (place - n) ≡ slice_get (agent_lines w.kind (said_of (Two w))) place
  past_proposers n place count past =
      ap (λ k. slice_get reviewer_part (place - k)) count ∙ sym (part_behind proposer_line proposer_said w.proposers reviewer_part place (omega arith))

  -- behind them come those of the reviewers
  pub reviewer_text : (n place : ℕ) → n ≡ length w.proposers → n ≤ place → place - n < length w.reviewers
      → Some (reviewer_line w.kind (said_agent w.proposers (agent_at w.reviewers (place - n)))) ≡ slice_get (agent_lines w.kind (said_of (Two w))) place
  reviewer_text n place count past below =
      sym (part_before (reviewer_line w.kind) reviewer_said w.reviewers item_part (place - n) no_agent below) ∙ past_proposers n place count past

  -- and behind these those of the pairs
  pub item_text : (n m place : ℕ) → n ≡ length w.proposers → m ≡ length w.reviewers → n ≤ place → m ≤ place - n
      → slice_get (item_lines (said_of (Two w))) (place - n - m) ≡ slice_get (agent_lines w.kind (said_of (Two w))) place
  item_text n m place count more past behind =
      ap (λ k. slice_get item_part (place - n - k)) more
      ∙ sym (part_behind (reviewer_line w.kind) reviewer_said w.reviewers item_part (place - n) (omega arith)) ∙ past_proposers n place count past

-- those of persons
module _ (persons : List AgentData) where
  -- in roommates the lines of the persons come first
  pub person_text : (place : ℕ) → place < length persons
      → Some (proposer_line (said_agent persons (agent_at persons place))) ≡ slice_get (agent_lines Roommates (said_of (Room persons))) place
  person_text place below = sym (part_before proposer_line (said_agent persons) persons (codes "end" ∷ []) place no_agent below)

  past_persons : (place : ℕ) → length persons ≤ place → slice_get (codes "end" ∷ []) (place - length persons) ≡ slice_get (agent_lines Roommates (said_of (Room persons))) place
  past_persons place past = sym (part_behind proposer_line (said_agent persons) persons (codes "end" ∷ []) place past)

  -- behind them comes the line `end`
  pub persons_end : (place : ℕ) → place ≡ length persons → Some (codes "end") ≡ slice_get (agent_lines Roommates (said_of (Room persons))) place
  persons_end place here = let none : 0 ≡ place - length persons = omega arith in ap (slice_get (codes "end" ∷ [])) none ∙ past_persons place (omega arith)

  -- and behind that none
  pub past_end : (place : ℕ) → length persons < place → None ≡ slice_get (agent_lines Roommates (said_of (Room persons))) place
  past_end place past = sym (past_one (codes "end") (place - length persons) (omega arith)) ∙ past_persons place (omega arith)
