-- Agents of a side, one after another: their entries and their names.
use Rattle.std.proofs.Common.{◌≡◌, ◌≢◌, ℕ, ◌+◌, ◌<◌, ◌≤◌, ◌++◌, ◌∷◌, [], Bool, true, false, List, Option, Some, None, position, length, get_or, take, refl, sym, ap, ◌∙◌, arith}
use Rattle.std.proofs.lemmas.Bool.{false≢true}
use Rattle.std.proofs.lemmas.List.{get_or-map, get_or_default, length-map, take_more, get_or-take, length-take}
use Rattle.std.proofs.lemmas.Bool.Decides.{nat_tests}
use Rattle.std.proofs.lemmas.List.Sums.{sum_by_more, sum_by-take-le, position_or_len_is}
use Rattle.std.proofs.lemmas.List.Folds.{list_any_at, Any-from_list_any}
use Rattle.std.proofs.lemmas.Slice.Eq.{bytes_eq-Decides}
use Rattle.std.specs.List.{list_any, position_or_len}
use Rattle.std.specs.Str.{bytes_eq}
use Rattle.sm_agents.specs.declared.agents.Agent.{Agent}
use Rattle.sm_agents.specs.Written.{AgentData, no_agent, agent_at, names_of}
use Rattle.sm_agents.specs.Sound.{entries_of}
use Rattle.sm_agents.specs.Vectors.{agent_of, agents_of}
use Rattle.sm_agents.proofs.ListLemmas.{get_or-names, length-names}

-- as plain data there are as many agents
pub length-agents : (agents : List Agent) → length (agents_of agents) ≡ length agents
length-agents agents = length-map agents agent_of

-- the agent at an index
pub agent_here : (agents : List Agent) (i : ℕ) (agent : Agent) → i < length agents → agent ≡ get_or agents i agent → agent_at (agents_of agents) i ≡ agent_of agent
agent_here agents i agent below here = get_or-map agent_of agents i agent no_agent below ∙ ap agent_of (sym here)

-- one more agent's entries
pub entries_of-take_suc : (agents : List Agent) (i : ℕ) (agent : Agent) → i < length agents → agent ≡ get_or agents i agent
    → entries_of (take (i + 1) (agents_of agents)) ≡ entries_of (take i (agents_of agents)) + length agent.entries.items
entries_of-take_suc agents i agent below here =
    sum_by_more (λ (x : AgentData). length x.entries) (agents_of agents) i no_agent (omega (arith, length-agents agents))
    ∙ ap (λ (x : AgentData). entries_of (take i (agents_of agents)) + length x.entries) (agent_here agents i agent below here)

-- the first agents have no more entries than all
pub entries_front : (agents : List Agent) (i : ℕ) → entries_of (take i (agents_of agents)) ≤ entries_of (agents_of agents)
entries_front agents i = sum_by-take-le (λ (x : AgentData). length x.entries) (agents_of agents) i

-- a name that isn't among those before it
pub fresh_name : (agents : List AgentData) (a : ℕ) (names : List (List ℕ)) (name : List ℕ) → a < length agents → names ≡ take a (names_of agents) → name ≡ (agent_at agents a).name
    → list_any (bytes_eq name) names ≡ false → (b : ℕ) → b < a → (agent_at agents b).name ≢ (agent_at agents a).name
fresh_name agents a names name below told is new b before same =
    let there : get_or names b [] ≡ (agent_at agents b).name = ap (λ t. get_or t b []) told ∙ get_or-take a (names_of agents) b [] before ∙ get_or-names agents b (omega arith) in
    let long : length names ≡ a = ap length told ∙ (let e = length-take a (names_of agents) in let n = length-names agents in let f : length (take a (names_of agents)) ≡ a = omega arith in f) in
    false≢true (sym new ∙ list_any_at (bytes_eq name) names b [] (omega arith) ((bytes_eq-Decides name (get_or names b [])).1 (is ∙ sym same ∙ sym there)))

-- a name that is
pub stale_name : (agents : List AgentData) (a : ℕ) (names : List (List ℕ)) (name : List ℕ) → a < length agents → names ≡ take a (names_of agents) → name ≡ (agent_at agents a).name
    → list_any (bytes_eq name) names ≡ true → ((b : ℕ) → b < a → (agent_at agents b).name ≢ (agent_at agents a).name) → ⊥
stale_name agents a names name below told is among fresh =
    let found = Any-from_list_any (bytes_eq name) names among in
    let k = found.0 in
    let x = found.1 in
    let long : length names ≡ a = ap length told ∙ (let e = length-take a (names_of agents) in let n = length-names agents in let f : length (take a (names_of agents)) ≡ a = omega arith in f) in
    let before : k < a = omega (arith, found.2) in
    let there : x ≡ (agent_at agents k).name = sym found.3 ∙ get_or_default names k x [] found.2 ∙ ap (λ t. get_or t k []) told ∙ get_or-take a (names_of agents) k [] before ∙ get_or-names agents k (omega arith) in
    fresh k before (sym there ∙ sym ((bytes_eq-Decides name x).0 found.4) ∙ is)

-- so a name that no agent before has is new
pub name_is_new : (agents : List AgentData) (a : ℕ) (names : List (List ℕ)) (name : List ℕ) → a < length agents → names ≡ take a (names_of agents) → name ≡ (agent_at agents a).name
    → ((b : ℕ) → b < a → (agent_at agents b).name ≢ (agent_at agents a).name) → list_any (bytes_eq name) names ≡ false
name_is_new agents a names name below told is fresh = by_test (list_any (bytes_eq name) names) refl
  where
    by_test : (t : Bool) → list_any (bytes_eq name) names ≡ t → t ≡ false
    by_test true among = absurd (stale_name agents a names name below told is among fresh)
    by_test false _ = refl

-- one more name
pub names_more : (agents : List AgentData) (a : ℕ) (names : List (List ℕ)) (name : List ℕ) → a < length agents → names ≡ take a (names_of agents) → name ≡ (agent_at agents a).name
    → names ++ name ∷ [] ≡ take (a + 1) (names_of agents)
names_more agents a names name below told is =
    ap (λ t. t ++ name ∷ []) told ∙ ap (λ t. take a (names_of agents) ++ t ∷ []) (is ∙ sym (get_or-names agents a below))
    ∙ sym (take_more (names_of agents) a [] (omega (arith, length-names agents)))

-- the first agent with a name
pub name_found : (agents : List AgentData) (name : List ℕ) (a : ℕ) → a < length agents → ((b : ℕ) → b < a → bytes_eq name (agent_at agents b).name ≡ false) → bytes_eq name (agent_at agents a).name ≡ true
    → Some a ≡ position (bytes_eq name) (names_of agents)
name_found agents name a on before is =
    let long = length-names agents in
    let place : position_or_len (bytes_eq name) (names_of agents) ≡ a = position_or_len_is (bytes_eq name) (names_of agents) a [] (omega arith)
    (λ b l. ap (bytes_eq name) (get_or-names agents b (omega arith)) ∙ before b l)
    (λ _. ap (bytes_eq name) (get_or-names agents a on) ∙ is) in
    grind (arith, nat_tests)

-- no agent with a name
pub name_missing : (agents : List AgentData) (name : List ℕ) → ((b : ℕ) → b < length agents → bytes_eq name (agent_at agents b).name ≡ false)
    → let none : Option ℕ = None in none ≡ position (bytes_eq name) (names_of agents)
name_missing agents name none =
    let long = length-names agents in
    let place : position_or_len (bytes_eq name) (names_of agents) ≡ length (names_of agents) = position_or_len_is (bytes_eq name) (names_of agents) (length (names_of agents)) [] (omega arith)
    (λ b l. ap (bytes_eq name) (get_or-names agents b (omega arith)) ∙ none b (omega arith))
    (λ l. absurd (omega arith)) in
    grind (arith, nat_tests)
