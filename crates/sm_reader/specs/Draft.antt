-- What a `Draft` says, what it has to meet, and what a line does to it.
use Rattle.std.specs.Prelude.{◌≡◌, ℕ, ◌+◌, ◌<◌, ◌≤◌, ◌||◌, true, false, List, [], ◌∷◌, ◌++◌, length, map, drop, Bool, Option, Some, None, is_none, slice_index, slice_range, unwrap_or, All}
use Rattle.std.specs.List.{list_any, list_all}
use Rattle.std.specs.Option.{option_map, option_and_then}
use Rattle.std.specs.Str.{bytes_eq}
use Rattle.sm_text.specs.Limits.{most_agents, most_entries}
use Rattle.sm_text.specs.Name.{is_name}
use Rattle.sm_text.specs.declared.refusal.RefusalKind.{RefusalKind}
use Rattle.sm_text.specs.declared.refusal.RefusalKind.TheVariants.{RepeatedEntry}
use Rattle.sm_agents.specs.declared.kinds.Kind.{Kind}
use Rattle.sm_agents.specs.declared.kinds.Kind.TheVariants.{Marriage, Hospitals, Roommates}
use Rattle.sm_agents.specs.declared.kinds.Side.{Side}
use Rattle.sm_agents.specs.declared.kinds.Side.TheVariants.{Proposers, Reviewers}
use Rattle.sm_agents.specs.Named.{SaidAgent, SaidPair, SaidWeight, SaidMaster, SaidOrder, Said, all_entries, entries_named, master_names}
use Rattle.sm_forms.specs.Forms.{Form, declares, uses, shares, orders, weighs, binds, form_of}
use Rattle.sm_reader.specs.Judging.{Verdict, goes, stops, refuses, first_fault, run_rows, name_rows, entry_rows, limit_rows, order_rows, weight_rows, capacity_in, weight_in, second_in, fault_of, with_agent, said_with, weight_of, verdict_on}
use Rattle.sm_keys.specs.Tables.{Table, text_at, AreBelow, Declares, IsListed, has_repeated}
use Rattle.sm_keys.specs.Tokens.{AreNamesAtEnd}
use Rattle.sm_text.specs.Slices.{texts_of}
use Rattle.sm_reader.specs.declared.draft.Declared.{Declared}
use Rattle.sm_reader.specs.declared.draft.Pair.{Pair}
use Rattle.sm_reader.specs.declared.draft.Weights.{Weights}
use Rattle.sm_reader.specs.declared.draft.MasterList.{MasterList}
use Rattle.sm_keys.specs.Keys.{spelled}
use Rattle.sm_keys.specs.declared.text_key.TextKey.{TextKey}
use Rattle.sm_reader.specs.declared.draft.Order.{Order}
use Rattle.sm_reader.specs.declared.draft.Draft.{Draft}
use Rattle.sm_reader.specs.declared.faults.TextFault.{TextFault}
use Rattle.sm_reader.specs.declared.faults.TextFault.TheVariants.{Refused, OutOfMemory}
use Rattle.sm_forms.specs.declared.forms.Form.{Form as Line}
use Rattle.sm_forms.specs.declared.forms.Form.TheVariants.{Agent as AgentLine, Use as UseLine, Master as MasterLine, Order as OrderLine, Weight as WeightLine, Pair as PairLine}
use Rattle.sm_forms.specs.declared.forms.Condition.{Condition}
use Rattle.sm_forms.specs.declared.forms.Condition.TheVariants.{Force, Forbid}
use Rattle.sm_reader.specs.declared.judging.AgentRuns.{AgentRuns}
use Rattle.sm_reader.specs.declared.judging.Step.{Step}
use Rattle.sm_reader.specs.declared.judging.Step.TheVariants.{Goes, Stops}
use Rattle.sm_reader.specs.declared.judging.Judged.{Judged}
use Rattle.sm_reader.specs.declared.judging.Judged.TheVariants.{Added, Orders, Ends}

-- the names of whom the proposers list: of the reviewers, and in roommates of the persons
abbrev pub listed_table : Kind → Table → Table → Table
listed_table Marriage proposers reviewers = reviewers
listed_table Hospitals proposers reviewers = reviewers
listed_table Roommates proposers reviewers = proposers

-- the side that the agents of a side list
abbrev pub listed_side : Kind → Side → Side
listed_side Marriage Proposers = Reviewers
listed_side Hospitals Proposers = Reviewers
listed_side Roommates Proposers = Proposers
listed_side _ Reviewers = Proposers

-- the parts of a draft, with the names of their indexes
abbrev pub agent_in : List (List ℕ) → Declared → SaidAgent
agent_in texts a = record { name = a.name.now; capacity = a.capacity; line = a.line; entries = map (text_at texts) a.entries.items }

-- a pair that a line names
abbrev pub pair_in : Pair → SaidPair
pair_in x = record { proposer = x.proposer.now; reviewer = x.reviewer.now; line = x.line }

-- the weights of a pair
abbrev pub given_in : (TextKey × TextKey) × Weights → SaidWeight
given_in x = record { pair = record { proposer = spelled x.0.0; reviewer = spelled x.0.1; line = x.1.line }; weight = x.1.weight; second = x.1.second }

-- the names on a master list, among those on all
abbrev pub names_on : List (List ℕ) → MasterList → List (List ℕ)
names_on all list = slice_range all list.start list.stop

-- a master list with its name
abbrev pub master_in : List (List ℕ) → TextKey × MasterList → SaidMaster
master_in all m = record { name = spelled m.0; entries = names_on all m.1 }

-- the master lists of a draft
abbrev pub masters_in : Draft → List SaidMaster
masters_in d = map (master_in (texts_of d.on_masters.items)) d.masters.entries

-- an order: the names stand behind the first token of its line
abbrev pub order_of : Order → SaidOrder
order_of o = record { names = drop 1 (texts_of o.tokens.items); line = o.line }

-- what a draft says
abbrev pub said_of : Kind → Draft → Said
said_of kind d =
    record {
      proposers = map (agent_in (listed_table kind d.proposer_names d.reviewer_names).texts) d.proposers.items;
      reviewers = map (agent_in d.proposer_names.texts) d.reviewers.items;
      weights = map given_in d.weights.entries;
      forced = map pair_in d.forced.items;
      forbidden = map pair_in d.forbidden.items;
      masters = masters_in d;
      order = option_map order_of d.order;
    }

-- all indexes on lists are in range
abbrev pub AreAgentsBelow : ℕ → List Declared → Type 0
AreAgentsBelow n [] = Unit {0}
AreAgentsBelow n (a ∷ agents) = AreBelow n a.entries.items × AreAgentsBelow n agents

-- the names on a master list stand among those on all, and every one is a name
abbrev pub HasNames : List (List ℕ) → MasterList → Type 0
HasNames all list = (list.start ≤ list.stop) × (list.stop ≤ length all) × (list_all is_name (names_on all list) ≡ true)

-- so it is for each master list of a draft
abbrev pub HasMasters : Draft → Type 0
HasMasters d = All (λ (m : TextKey × MasterList). HasNames (texts_of d.on_masters.items) m.1) d.masters.entries

-- Before the line of a number a draft has the declared agents' names in their tables, all indexes in range, and its entries counted.
-- Limits are kept, and no name has the stamp of this line. There are fewer pairs than lines, and the names on master lists are names, no
-- more than there are entries.
pub record IsDraft (kind : Kind) (line : ℕ) (d : Draft) : Type 0 where
  pub proposers_declared : d.proposer_names.declared ≡ map (λ (a : Declared). a.name.now) d.proposers.items
  pub reviewers_declared : d.reviewer_names.declared ≡ map (λ (a : Declared). a.name.now) d.reviewers.items
  pub proposers_in : AreAgentsBelow (length (listed_table kind d.proposer_names d.reviewer_names).texts) d.proposers.items
  pub reviewers_in : AreAgentsBelow (length d.proposer_names.texts) d.reviewers.items
  pub counted : d.entries ≡ all_entries (said_of kind d)
  pub entries_fit : d.entries ≤ most_entries
  pub proposers_fit : length d.proposers.items ≤ most_agents
  pub reviewers_fit : length d.reviewers.items ≤ most_agents
  pub proposers_fresh : (k : ℕ) → slice_index d.proposer_names.stamps k < line
  pub reviewers_fresh : (k : ℕ) → slice_index d.reviewer_names.stamps k < line
  pub few : length d.weights.entries + length d.forced.items + length d.forbidden.items + 1 < line
  pub masters : HasMasters d
  pub on_masters_fit : length d.on_masters.items ≤ d.entries

-- a line is refused for this fault, if there is one; want of memory says nothing
abbrev pub IsLineFault : Option RefusalKind → ℕ → TextFault → Type 0
IsLineFault fault line (Refused kind at) = (fault ≡ Some kind) × (at ≡ line)
IsLineFault fault line OutOfMemory = Unit {0}

-- a faultless line of a form has added what it says
pub record AddsForm (kind : Kind) (line : ℕ) (form : Form) (old new : Draft) : Type 0 where
  pub faultless : fault_of (said_of kind old) form ≡ None
  pub said : said_of kind new ≡ said_with (said_of kind old) line form
  pub draft : IsDraft kind (line + 1) new

-- a line goes on with what it says, or ends the instance
abbrev pub JudgesTokens : Kind → (format : ℕ) → ℕ → List (List ℕ) → Draft → Draft → Step → Type 0
JudgesTokens kind format line tokens old new Goes = (verdict_on kind format (said_of kind old) line tokens ≡ goes (said_of kind new)) × IsDraft kind (line + 1) new
JudgesTokens kind format line tokens old new Stops = (verdict_on kind format (said_of kind old) line tokens ≡ stops) × (said_of kind new ≡ said_of kind old) × IsDraft kind line new

-- a line orders proposers
abbrev pub IsOrdering : Line → Type 0
IsOrdering (OrderLine _) = Unit {0}
IsOrdering (AgentLine _ _ _ _) = false ≡ true
IsOrdering (UseLine _ _ _ _) = false ≡ true
IsOrdering (MasterLine _ _) = false ≡ true
IsOrdering (WeightLine _ _ _ _) = false ≡ true
IsOrdering (PairLine _ _ _) = false ≡ true

-- what is said with an order
abbrev pub said_ordered : Said → ℕ → List (List ℕ) → Said
said_ordered said line names = record said { order = Some (record { names = names; line = line }) }

-- a faultless line of a form has added what it says, or orders these proposers and has added nothing yet
abbrev pub AddsBy : Kind → ℕ → Line → Draft → Draft → Judged → Type 0
AddsBy kind line form old new Added = AddsForm kind line (form_of form) old new
AddsBy kind line form old new Orders = (fault_of (said_of kind old) (form_of form) ≡ None) × IsOrdering form × (new ≡ old)
AddsBy kind line form old new Ends = false ≡ true

-- a line is judged by its tokens: what it says is added, or it orders the proposers behind its first token, or it ends the instance
abbrev pub IsJudged : Kind → (format : ℕ) → ℕ → List (List ℕ) → Draft → Draft → Judged → Type 0
IsJudged kind format line tokens old new Added = JudgesTokens kind format line tokens old new Goes
IsJudged kind format line tokens old new Orders = (verdict_on kind format (said_of kind old) line tokens ≡ goes (said_ordered (said_of kind old) line (drop 1 tokens))) × (new ≡ old)
IsJudged kind format line tokens old new Ends = JudgesTokens kind format line tokens old new Stops

-- a draft has got the order of the proposers behind the first of these tokens
pub record KeepsOrder (line : ℕ) (tokens : List (List ℕ)) (old new : Draft) : Type 0 where
  pub order : Order
  pub tokens_are : texts_of order.tokens.items ≡ tokens
  pub on_line : order.line ≡ line
  pub changes : new ≡ record old { order = Some order }

-- a verdict refuses the line for this fault; want of memory says nothing
abbrev pub IsRefusedBy : Verdict → ℕ → TextFault → Type 0
IsRefusedBy verdict line (Refused kind at) = (verdict ≡ refuses kind) × (at ≡ line)
IsRefusedBy verdict line OutOfMemory = Unit {0}

-- the first of the faults of an agent's line that its own runs show, of those that the names of both sides show, and of
-- those against the limits
abbrev pub run_fault : List ℕ → Option (List ℕ) → List (List ℕ) → Option RefusalKind
run_fault name capacity entries = first_fault (run_rows name capacity entries)

-- the first fault against the limits of one more agent with so many entries
abbrev pub limit_fault : ℕ → ℕ → ℕ → Option RefusalKind
limit_fault agents entries more = first_fault (limit_rows agents entries more)

-- the first fault of names and limits of an agent's line
abbrev pub name_fault : List (List ℕ) → List ℕ → List (List ℕ) → ℕ → ℕ → Option RefusalKind
name_fault declared name entries agents all = first_fault (name_rows declared name entries ++ limit_rows agents all (length entries))

-- the first fault of names, and of the count of entries, of a master list's line
abbrev pub master_fault : List (List ℕ) → List ℕ → List (List ℕ) → ℕ → Option RefusalKind
master_fault declared name entries all = first_fault (name_rows declared name entries ++ entry_rows all (length entries))

-- the first fault of the line of an order
abbrev pub order_fault : Bool → List (List ℕ) → Option RefusalKind
order_fault ordered proposers = first_fault (order_rows ordered proposers)

-- an agent's list is refused that is longer than what is left to entries; want of memory says nothing
abbrev pub IsLongFault : (agents all : ℕ) → List (List ℕ) → ℕ → TextFault → Type 0
IsLongFault agents all entries line f = IsLineFault (first_fault ((has_repeated entries, RepeatedEntry) ∷ limit_rows agents all (length entries))) line f

-- the runs of an agent's line are right, and its capacity is this
pub record AreRunsRight (name : List ℕ) (capacity : Option (List ℕ)) (entries : List (List ℕ)) (n : ℕ) : Type 0 where
  pub faultless : run_fault name capacity entries ≡ None
  pub number : n ≡ unwrap_or (option_and_then capacity_in capacity) 1

-- the table of a side and its agents
abbrev pub table_on : Side → Draft → Table
table_on Proposers d = d.proposer_names
table_on Reviewers d = d.reviewer_names

-- the agents of a side that are declared
abbrev pub declared_on : Side → Draft → List Declared
declared_on Proposers d = d.proposers.items
declared_on Reviewers d = d.reviewers.items

-- nothing but the table of a side has changed
abbrev pub ChangesNames : Side → Draft → Draft → Type 0
ChangesNames Proposers old new = new ≡ record old { proposer_names = new.proposer_names }
ChangesNames Reviewers old new = new ≡ record old { reviewer_names = new.reviewer_names }

-- nothing but the agents of a side and the count of entries has
abbrev pub ChangesAgents : Side → Draft → Draft → Type 0
ChangesAgents Proposers old new = new ≡ record old { proposers = new.proposers; entries = new.entries }
ChangesAgents Reviewers old new = new ≡ record old { reviewers = new.reviewers; entries = new.entries }

-- a name is declared on a side for the first time
pub record DeclaresOn (side : Side) (old new : Draft) (name : List ℕ) : Type 0 where
  pub is_new : list_any (bytes_eq name) (table_on side old).declared ≡ false
  pub declares : Declares (table_on side old) (table_on side new) name true
  pub changes : ChangesNames side old new

-- the names of a list have indexes on a side
pub record ListsOn (side : Side) (old new : Draft) (entries : List (List ℕ)) (line : ℕ) (indexes : List ℕ) : Type 0 where
  pub listed : IsListed (table_on side old) (table_on side new) entries line indexes
  pub changes : ChangesNames side old new

-- an agent stands behind the others of its side, within the limits
pub record PutsOn (side : Side) (old new : Draft) (agent : Declared) : Type 0 where
  pub faultless : limit_fault (length (declared_on side old)) old.entries (length agent.entries.items) ≡ None
  pub agents : declared_on side new ≡ declared_on side old ++ agent ∷ []
  pub entries : new.entries ≡ old.entries + length agent.entries.items
  pub changes : ChangesAgents side old new

-- a refusal of this kind, where a fact holds
abbrev pub RefusesFor : RefusalKind → ℕ → Type 0 → TextFault → Type 0
RefusesFor kind line P (Refused k at) = (k ≡ kind) × (at ≡ line) × P
RefusesFor kind line P OutOfMemory = Unit {0}

-- what draft says of weights
abbrev pub weights_in : Draft → List SaidWeight
weights_in d = map given_in d.weights.entries

-- the first fault of a weight's line
abbrev pub weight_fault : List SaidWeight → List ℕ → List ℕ → List ℕ → Option (List ℕ) → Option RefusalKind
weight_fault weights proposer reviewer weight second = first_fault (weight_rows weights proposer reviewer weight second)

-- the weights that runs spell on a line, unless one is no number within the limit
pub record AreSpelled (run : List ℕ) (further : Option (List ℕ)) (line : ℕ) (weights : Weights) : Type 0 where
  pub weight : weight_in run ≡ Some weights.weight
  pub second : second_in further ≡ Some weights.second
  pub on_line : weights.line ≡ line

abbrev pub IsWeighed : List ℕ → Option (List ℕ) → ℕ → Option Weights → Type 0
IsWeighed run further line None = (is_none (weight_in run) || is_none (second_in further)) ≡ true
IsWeighed run further line (Some weights) = AreSpelled run further line weights

-- a pair has got its first weights
pub record PutsWeight (old new : Draft) (proposer reviewer run : List ℕ) (further : Option (List ℕ)) (line : ℕ) : Type 0 where
  pub added : (TextKey × TextKey) × Weights
  pub faultless : weight_fault (weights_in old) proposer reviewer run further ≡ None
  pub given : given_in added ≡ weight_of line proposer reviewer run further
  pub weights : new.weights.entries ≡ old.weights.entries ++ added ∷ []
  pub changes : new ≡ record old { weights = new.weights }

-- the pairs of which something is asked
abbrev pub pairs_on : Condition → Draft → List Pair
pairs_on Force d = d.forced.items
pairs_on Forbid d = d.forbidden.items

-- nothing but these pairs has changed
abbrev pub ChangesPairs : Condition → Draft → Draft → Type 0
ChangesPairs Force old new = new ≡ record old { forced = new.forced }
ChangesPairs Forbid old new = new ≡ record old { forbidden = new.forbidden }

-- a pair stands behind the others of which the same is asked
pub record PutsPair (condition : Condition) (old new : Draft) (pair : Pair) : Type 0 where
  pub pairs : pairs_on condition new ≡ pairs_on condition old ++ pair ∷ []
  pub changes : ChangesPairs condition old new

-- something is asked of the pair of two names
pub record Binds (condition : Condition) (old new : Draft) (proposer reviewer : List ℕ) (line : ℕ) : Type 0 where
  pub pair : Pair
  pub are_names : list_all is_name (proposer ∷ reviewer ∷ []) ≡ true
  pub is : pair_in pair ≡ record { proposer = proposer; reviewer = reviewer; line = line }
  pub puts : PutsPair condition old new pair

-- an agent is declared without a fault of names and limits
pub record AddsAgent (kind : Kind) (line : ℕ) (side : Side) (name : List ℕ) (capacity : ℕ) (entries : List (List ℕ)) (old new : Draft) : Type 0 where
  pub faultless : name_fault (table_on side old).declared name entries (length (declared_on side old)) old.entries ≡ None
  pub said : said_of kind new ≡ with_agent side (record { name = name; capacity = capacity; line = line; entries = entries }) (said_of kind old)
  pub draft : IsDraft kind (line + 1) new

-- the form of the line that declares an agent
abbrev pub runs_form : AgentRuns → Form
runs_form agent = declares agent.side agent.name.now (option_map (λ x. x.now) agent.capacity) (texts_of agent.entries.now)

-- a master list that stands above, with the names on it
pub record IsMaster (d : Draft) (master : List ℕ) (entries : List (List ℕ)) : Type 0 where
  pub found : entries_named (masters_in d) master ≡ Some entries
  pub are_names : AreNamesAtEnd (length entries) entries

-- the names of the master lists
abbrev pub masters_declared : Draft → List (List ℕ)
masters_declared d = master_names (masters_in d)

-- a master list stands behind the others, and its names behind theirs
pub record PutsMaster (old new : Draft) (name : List ℕ) (entries : List (List ℕ)) : Type 0 where
  pub key : TextKey
  pub list : MasterList
  pub faultless : master_fault (masters_declared old) name entries old.entries ≡ None
  pub spells : spelled key ≡ name
  pub starts : list.start ≡ length old.on_masters.items
  pub stops : list.stop ≡ length new.on_masters.items
  pub fits : old.entries + length entries ≤ most_entries
  pub masters : new.masters.entries ≡ old.masters.entries ++ (key, list) ∷ []
  pub names : texts_of new.on_masters.items ≡ texts_of old.on_masters.items ++ entries
  pub entries_more : new.entries ≡ old.entries + length entries
  pub changes : new ≡ record old { masters = new.masters; on_masters = new.on_masters; entries = new.entries }
