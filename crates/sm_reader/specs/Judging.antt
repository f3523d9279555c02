-- How a line is judged by its tokens and by what the lines above it say.
use Rattle.std.specs.Prelude.{if◌then◌else◌, ℕ, ◌+◌, ◌||◌, Bool, false, not, List, [], ◌∷◌, ◌++◌, length, Option, Some, None, nat_le, nat_lt, unwrap_or, is_none, is_some, ℤ, pos}
use Rattle.std.specs.List.{list_all, list_any}
use Rattle.std.specs.Option.{option_and_then, option_map_or}
use Rattle.std.specs.Str.{bytes_eq}
use Rattle.sm_text.specs.Limits.{most_agents, most_entries, most_capacity, most_weight}
use Rattle.sm_text.specs.Name.{is_name}
use Rattle.sm_text.specs.Numbers.{number_of, signed_of}
use Rattle.sm_text.specs.declared.refusal.RefusalKind.{RefusalKind}
use Rattle.sm_text.specs.declared.refusal.RefusalKind.TheVariants.{BadByte, BadHeader, BadLine, BadName, BadNumber, Redeclared, RepeatedEntry, RepeatedWeight, TooManyAgents, TooManyEntries}
use Rattle.sm_agents.specs.declared.kinds.Kind.{Kind}
use Rattle.sm_agents.specs.declared.kinds.Side.{Side}
use Rattle.sm_agents.specs.declared.kinds.Side.TheVariants.{Proposers, Reviewers}
use Rattle.sm_agents.specs.Named.{SaidAgent, SaidPair, SaidWeight, Said, names_of, master_names, agents_on, all_entries, entries_named, is_given_to}
use Rattle.sm_keys.specs.Tables.{has_repeated}
use Rattle.sm_forms.specs.declared.forms.Condition.{Condition}
use Rattle.sm_forms.specs.declared.forms.Condition.TheVariants.{Force, Forbid}
use Rattle.sm_forms.specs.Forms.{Form, declares, uses, shares, orders, weighs, binds, form_under, is_end, header_of}
use Rattle.sm_keys.specs.Tokens.{is_bad}

-- the fault of the first row of a table whose test holds
abbrev pub first_fault : List (Bool × RefusalKind) → Option RefusalKind
first_fault [] = None
first_fault (row ∷ rows) = if row.0 then Some row.1 else first_fault rows

-- the capacity that a run spells, and the weight, both within their limits
abbrev pub capacity_in : List ℕ → Option ℕ
capacity_in run = number_of run most_capacity

-- the weight that a run spells, within its limits
abbrev pub weight_in : List ℕ → Option ℤ
weight_in run = signed_of run most_weight

-- a capacity is written and isn't right
abbrev pub is_bad_capacity : Option (List ℕ) → Bool
is_bad_capacity None = false
is_bad_capacity (Some run) = is_none (capacity_in run)

-- the second weight that a line says, which is 0 where it says none
abbrev pub second_in : Option (List ℕ) → Option ℤ
second_in None = Some (pos 0)
second_in (Some run) = weight_in run

-- The rows of the table of faults. Of a line that declares an agent: what its own runs show, what the names above it show,
-- and what passes a limit; so also of one that declares a master list. Of a line of a pair: what its runs show; of one that
-- weighs a pair also what the weights above it do. Of a line that orders proposers: what its runs show, and a line like it.
abbrev pub run_rows : List ℕ → Option (List ℕ) → List (List ℕ) → List (Bool × RefusalKind)
run_rows name capacity entries = (not (list_all is_name (name ∷ entries)), BadName) ∷ (is_bad_capacity capacity, BadNumber) ∷ []

-- the faults of names: the agent was declared above, or its list has a name twice
abbrev pub name_rows : (declared : List (List ℕ)) → List ℕ → List (List ℕ) → List (Bool × RefusalKind)
name_rows declared name entries = (list_any (bytes_eq name) declared, Redeclared) ∷ (has_repeated entries, RepeatedEntry) ∷ []

-- the fault against the limit of entries
abbrev pub entry_rows : (entries more : ℕ) → List (Bool × RefusalKind)
entry_rows entries more = (nat_lt most_entries (entries + more), TooManyEntries) ∷ []

-- the faults against the limits: too many agents, or too many entries
abbrev pub limit_rows : (agents entries more : ℕ) → List (Bool × RefusalKind)
limit_rows agents entries more = (nat_le most_agents agents, TooManyAgents) ∷ entry_rows entries more

-- the faults of an order: a run is no name, an order stands above, or a name comes twice
abbrev pub order_rows : (ordered : Bool) → List (List ℕ) → List (Bool × RefusalKind)
order_rows ordered proposers = (not (list_all is_name proposers), BadName) ∷ (ordered, Redeclared) ∷ (has_repeated proposers, RepeatedEntry) ∷ []

-- the fault of a pair: a run is no name
abbrev pub pair_rows : (proposer reviewer : List ℕ) → List (Bool × RefusalKind)
pair_rows proposer reviewer = (not (list_all is_name (proposer ∷ reviewer ∷ [])), BadName) ∷ []

-- the faults of a weight: of its pair, no number, or a pair that has a weight
abbrev pub weight_rows : List SaidWeight → (proposer reviewer weight : List ℕ) → (second : Option (List ℕ)) → List (Bool × RefusalKind)
weight_rows weights proposer reviewer weight second = pair_rows proposer reviewer
    ++ (is_none (weight_in weight) || is_none (second_in second), BadNumber) ∷ (list_any (is_given_to proposer reviewer) weights, RepeatedWeight) ∷ []

-- the fault of a line that declares an agent with this list
abbrev pub agent_fault : Said → Side → List ℕ → Option (List ℕ) → List (List ℕ) → Option RefusalKind
agent_fault said side name capacity entries =
    let agents = agents_on side said in
    first_fault (run_rows name capacity entries ++ (name_rows (names_of agents) name entries ++ limit_rows (length agents) (all_entries said) (length entries)))

-- the fault of a line of a form; one that uses a master list is judged as though the names stood in it
unfoldable pub fault_of : Said → Form → Option RefusalKind
fault_of said (declares side name capacity entries) = agent_fault said side name capacity entries
fault_of said (uses side name capacity master) =
    option_map_or (λ (entries : List (List ℕ)). agent_fault said side name capacity entries) (entries_named said.masters master) (Some BadName)
fault_of said (shares name entries) =
    first_fault (run_rows name None entries ++ (name_rows (master_names said.masters) name entries ++ entry_rows (all_entries said) (length entries)))
fault_of said (orders proposers) = first_fault (order_rows (is_some said.order) proposers)
fault_of said (weighs proposer reviewer weight second) = first_fault (weight_rows said.weights proposer reviewer weight second)
fault_of said (binds condition proposer reviewer) = first_fault (pair_rows proposer reviewer)

-- an agent behind the others of its side
abbrev pub with_agent : Side → SaidAgent → Said → Said
with_agent Proposers agent said = record said { proposers = said.proposers ++ agent ∷ [] }
with_agent Reviewers agent said = record said { reviewers = said.reviewers ++ agent ∷ [] }

-- a pair behind the others of which the same is asked
abbrev pub with_pair : Condition → SaidPair → Said → Said
with_pair Force pair said = record said { forced = said.forced ++ pair ∷ [] }
with_pair Forbid pair said = record said { forbidden = said.forbidden ++ pair ∷ [] }

-- the agent that a line declares; a capacity is 1 where none is written
abbrev pub agent_of : ℕ → List ℕ → Option (List ℕ) → List (List ℕ) → SaidAgent
agent_of line name capacity entries = record { name = name; capacity = unwrap_or (option_and_then capacity_in capacity) 1; line = line; entries = entries }

-- the weights that a line gives to a pair
abbrev pub weight_of : ℕ → (proposer reviewer weight : List ℕ) → (second : Option (List ℕ)) → SaidWeight
weight_of line proposer reviewer weight second =
    let pair : SaidPair = record { proposer = proposer; reviewer = reviewer; line = line } in
    record { pair = pair; weight = unwrap_or (weight_in weight) (pos 0); second = unwrap_or (second_in second) (pos 0) }

-- what is said with a faultless line of a form
unfoldable pub said_with : Said → ℕ → Form → Said
said_with said line (declares side name capacity entries) = with_agent side (agent_of line name capacity entries) said
said_with said line (uses side name capacity master) = with_agent side (agent_of line name capacity (unwrap_or (entries_named said.masters master) [])) said
said_with said line (shares name entries) = record said { masters = said.masters ++ (record { name = name; entries = entries }) ∷ [] }
said_with said line (orders proposers) = record said { order = Some (record { names = proposers; line = line }) }
said_with said line (weighs proposer reviewer weight second) = record said { weights = said.weights ++ weight_of line proposer reviewer weight second ∷ [] }
said_with said line (binds condition proposer reviewer) = with_pair condition (record { proposer = proposer; reviewer = reviewer; line = line }) said

-- a line is right, and this is said with it; or it ends the instance; or it is refused
pub data Verdict : Type 0 where
  goes : Said → Verdict
  stops : Verdict
  refuses : RefusalKind → Verdict

-- the verdict on a line that has or hasn't a form
abbrev pub of_form : Said → ℕ → Option Form → Verdict
of_form said line None = refuses BadLine
of_form said line (Some form) = option_map_or (λ (fault : RefusalKind). refuses fault) (fault_of said form) (goes (said_with said line form))

-- the verdict on the line of a number, by its tokens: of all faults that stand in it the first in the order of the faults counts
unfoldable pub verdict_on : Kind → (format : ℕ) → Said → ℕ → List (List ℕ) → Verdict
verdict_on kind format said line [] = goes said
verdict_on kind format said line (word ∷ rest) =
    if list_any is_bad (word ∷ rest) then refuses BadByte else
    (if is_end (word ∷ rest) then stops else of_form said line (form_under kind format word rest))

-- a choice by the verdict
abbrev pub by_verdict : {X : Type 0} → Verdict → (Said → X) → X → (RefusalKind → X) → X
by_verdict (goes said) going stopping refusing = going said
by_verdict stops going stopping refusing = stopping
by_verdict (refuses fault) going stopping refusing = refusing fault

-- a line that stands before the header is passed over; or it is the header; or it is refused
pub data Heading : Type 0 where
  passes : Heading
  heads : Kind → (format : ℕ) → Heading
  faces : RefusalKind → Heading

-- the first line with a token has to be the header
unfoldable pub heading_of : List (List ℕ) → Heading
heading_of [] = passes
heading_of (word ∷ rest) =
    if list_any is_bad (word ∷ rest) then faces BadByte else
    option_map_or (λ (header : Kind × ℕ). heads header.0 header.1) (header_of (word ∷ rest)) (faces BadHeader)

-- a choice by the heading
abbrev pub by_heading : {X : Type 0} → Heading → X → (Kind → ℕ → X) → (RefusalKind → X) → X
by_heading passes passing heading facing = passing
by_heading (heads kind format) passing heading facing = heading kind format
by_heading (faces fault) passing heading facing = facing fault
