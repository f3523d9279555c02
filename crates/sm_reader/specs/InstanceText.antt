-- What a text means: an instance, or the first thing that stands in its way. `instance_text` is what the reading promises.
use Rattle.std.specs.Prelude.{if◌then◌else◌, ◌≡◌, ℕ, ◌+◌, ◌||◌, List, [], ◌∷◌, ◌++◌, length, map, filter, min, nat_lt, Option, Some, None, Result, Ok, Err}
use Rattle.std.specs.List.{list_any}
use Rattle.std.specs.Option.{option_map_or}
use Rattle.sm_text.specs.Limits.{most_bytes}
use Rattle.sm_text.specs.Lines.{lines, content}
use Rattle.sm_text.specs.Tokens.{tokens}
use Rattle.sm_text.specs.declared.refusal.RefusalKind.{RefusalKind}
use Rattle.sm_text.specs.declared.refusal.RefusalKind.TheVariants.{TooLong, BadHeader, MissingEnd, UnknownName}
use Rattle.sm_agents.specs.Written.{AgentData, Written}
use Rattle.sm_agents.specs.declared.kinds.Kind.{Kind}
use Rattle.sm_agents.specs.declared.kinds.Kind.TheVariants.{Marriage, Hospitals, Roommates}
use Rattle.sm_instance.specs.declared.inputs.Input.{Input}
use Rattle.sm_instance.specs.declared.inputs.Input.TheVariants.{Two, Room}
use Rattle.sm_agents.specs.Named.{SaidAgent, SaidPair, SaidWeight, SaidOrder, Said, nothing, names_of, names_first}
use Rattle.sm_keys.specs.Tables.{is_unknown, number_in}
use Rattle.sm_agents.specs.Order.{full_order}
use Rattle.sm_reader.specs.Judging.{verdict_on, by_verdict, heading_of, by_heading}
use Rattle.sm_reader.specs.declared.reading.Read.{Read}
use Rattle.sm_reader.specs.declared.faults.TextFault.{TextFault}
use Rattle.sm_reader.specs.declared.faults.TextFault.TheVariants.{Refused, OutOfMemory}

-- The names.

-- whom the proposers list: the reviewers, and in roommates the persons
abbrev pub listed_by_proposers : Kind → Said → List (List ℕ)
listed_by_proposers Marriage said = names_of said.reviewers
listed_by_proposers Hospitals said = names_of said.reviewers
listed_by_proposers Roommates said = names_of said.proposers

-- the lines of the agents that list an undeclared one, and the lines of the pairs that have one
abbrev pub lines_with_unknown : List (List ℕ) → List SaidAgent → List ℕ
lines_with_unknown names agents = map (λ (a : SaidAgent). a.line) (filter (λ (a : SaidAgent). list_any (is_unknown names) a.entries) agents)

-- the lines of the pairs that name an undeclared agent
abbrev pub pairs_with_unknown : List (List ℕ) → List (List ℕ) → List SaidPair → List ℕ
pairs_with_unknown proposers reviewers pairs =
    map (λ (x : SaidPair). x.line) (filter (λ (x : SaidPair). is_unknown proposers x.proposer || is_unknown reviewers x.reviewer) pairs)

-- the line of an order that names an undeclared proposer
abbrev pub order_with_unknown : List (List ℕ) → Option SaidOrder → List ℕ
order_with_unknown proposers None = []
order_with_unknown proposers (Some order) = if list_any (is_unknown proposers) order.names then order.line ∷ [] else []

-- all lines that name an undeclared agent; the names of a master list stand in the agents that have it
abbrev pub unknown_lines : Kind → Said → List ℕ
unknown_lines kind said =
    let proposers = names_of said.proposers in
    let reviewers = names_of said.reviewers in
    lines_with_unknown (listed_by_proposers kind said) said.proposers
    ++ lines_with_unknown proposers said.reviewers
    ++ pairs_with_unknown proposers reviewers (map (λ (w : SaidWeight). w.pair) said.weights)
    ++ pairs_with_unknown proposers reviewers said.forced
    ++ pairs_with_unknown proposers reviewers said.forbidden
    ++ order_with_unknown proposers said.order

-- the least of some numbers
abbrev pub least : List ℕ → Option ℕ
least [] = None
least (n ∷ ns) = Some (option_map_or (min n) (least ns) n)

-- The instance: agents are numbered in the order of their lines, and a number stands for each name.

-- an agent with numbers for the names on its list
abbrev pub numbered : List (List ℕ) → SaidAgent → AgentData
numbered names agent = record { name = agent.name; capacity = agent.capacity; line = agent.line; entries = map (number_in names) agent.entries }

-- a pair with numbers for its names
abbrev pub numbered_pair : Said → SaidPair → ℕ × ℕ
numbered_pair said pair = (number_in (names_of said.proposers) pair.proposer, number_in (names_of said.reviewers) pair.reviewer)

-- the order of the proposers: first those that a line names, and then the others by number
abbrev pub order_in : Said → List ℕ
order_in said = full_order (length said.proposers) (map (number_in (names_of said.proposers)) (names_first said.order))

-- the two sides with their weights and conditions
abbrev pub two_sides : Kind → Said → Written
two_sides kind said = record {
  kind = kind;
  proposers = map (numbered (names_of said.reviewers)) said.proposers;
  reviewers = map (numbered (names_of said.proposers)) said.reviewers;
  weights = map (λ (w : SaidWeight). let pair = numbered_pair said w.pair in (pair.0, pair.1, w.weight)) said.weights;
  forced = map (numbered_pair said) said.forced;
  forbidden = map (numbered_pair said) said.forbidden;
  seconds = map (λ (w : SaidWeight). w.second) said.weights;
  order = order_in said;
}

-- the instance that is said
abbrev pub input_of : Kind → Said → Input
input_of Marriage said = Two (two_sides Marriage said)
input_of Hospitals said = Two (two_sides Hospitals said)
input_of Roommates said = Room (map (numbered (names_of said.proposers)) said.proposers)

-- The text.

-- what is read: the instance, the line of the header, the place behind the line of `end`, and the number of the line there
pub record ReadText : Type 0 where
  pub input : Input
  pub header_line : ℕ
  pub rest : ℕ
  pub rest_line : ℕ

-- why a text is refused, and at which line
abbrev pub Refusal : Type 0
Refusal = RefusalKind × ℕ

-- an instance ends before a place, which is on a line of this number: a name that isn't declared is refused at its first line
abbrev pub ended : Kind → ℕ → Said → ℕ → ℕ → Result ReadText Refusal
ended kind header_line said rest rest_line =
    let read : ReadText = record { input = input_of kind said; header_line = header_line; rest = rest; rest_line = rest_line } in
    option_map_or (λ (line : ℕ). Err (UnknownName, line)) (least (unknown_lines kind said)) (Ok read)

-- the lines behind the header, of which the first has this number and begins at this place: the first one that is refused
-- decides, and else the line of `end`; no line behind that is judged
abbrev pub behind_header : Kind → (format : ℕ) → ℕ → Said → ℕ → ℕ → List (List ℕ) → Result ReadText Refusal
behind_header kind format header_line said number place [] = Err (MissingEnd, number)
behind_header kind format header_line said number place (line ∷ rest) = by_verdict (verdict_on kind format said number (tokens (content line)))
    (λ more. behind_header kind format header_line more (number + 1) (place + length line) rest)
    (ended kind header_line said (place + length line) (number + 1))
    (λ fault. Err (fault, number))

-- the lines of a text before whose header only lines without tokens stand
abbrev pub before_header : ℕ → ℕ → List (List ℕ) → Result ReadText Refusal
before_header number place [] = Err (BadHeader, number)
before_header number place (line ∷ rest) = by_heading (heading_of (tokens (content line)))
    (before_header (number + 1) (place + length line) rest)
    (λ kind format. behind_header kind format number nothing (number + 1) (place + length line) rest)
    (λ fault. Err (fault, number))

-- what the text of an instance means: the instance, or why it is refused and at which line. Lines are counted from 1.
unfoldable pub instance_text : List ℕ → Result ReadText Refusal
instance_text bytes = if nat_lt most_bytes (length bytes) then Err (TooLong, 0) else before_header 1 0 (lines bytes)

-- what was read, as plain data
abbrev pub read_of : Read → ReadText
read_of read = record { input = read.input; header_line = read.header_line; rest = read.rest; rest_line = read.rest_line }

-- a text is refused for what it means; want of memory says nothing
abbrev pub IsTextFault : List ℕ → TextFault → Type 0
IsTextFault bytes (Refused kind at) = instance_text bytes ≡ Err (kind, at)
IsTextFault bytes OutOfMemory = Unit {0}
