-- Agents by number, and how long their lists can be.
use Rattle.std.proofs.Common.{◌≡◌, ℕ, ◌<◌, List, [], length, get_or, ap, arith, ⊎_elim}
use Rattle.std.proofs.lemmas.Bool.{cases_lt}
use Rattle.std.proofs.lemmas.List.{get_or_past, get_or-map, length-map}
use Rattle.sm_agents.specs.Written.{AgentData, no_agent, agent_at, row, names_of}

-- an agent with an entry is there
pub row_in_range : (agents : List AgentData) (a i : ℕ) → i < length (row agents a) → a < length agents
row_in_range agents a i h =
    ⊎_elim (λ l. l) (λ l. absurd (let e = ap (λ (x : AgentData). length x.entries) (get_or_past agents a no_agent l) in omega arith)) (cases_lt a (length agents))

-- an agent's name
pub get_or-names : (agents : List AgentData) (a : ℕ) → a < length agents → get_or (names_of agents) a [] ≡ (agent_at agents a).name
get_or-names agents a h = get_or-map (λ (x : AgentData). x.name) agents a no_agent [] h

-- there is one name for each agent
pub length-names : (agents : List AgentData) → length (names_of agents) ≡ length agents
length-names agents = length-map agents (λ (x : AgentData). x.name)
