-- The lines of a printed instance, of what it says by names. One space stands between two tokens, but none before `:`, `[`
-- and `]`.
use Rattle.std.specs.Prelude.{ℕ, ◌||◌, not, if◌then◌else◌, List, [], ◌∷◌, ◌++◌, map, Option, Some, None, is_some, codes, decimal, ℤ}
use Rattle.std.specs.List.{list_any}
use Rattle.std.specs.Fmt.{signed_decimal}
use Rattle.sm_agents.specs.Kinds.{kind_name}
use Rattle.sm_agents.specs.Named.{SaidAgent, SaidPair, SaidWeight, SaidOrder, Said}
use Rattle.sm_agents.specs.declared.kinds.Kind.{Kind}
use Rattle.sm_agents.specs.declared.kinds.Kind.TheVariants.{Marriage, Hospitals, Roommates}
use Rattle.sm_instance.specs.Inputs.{kind_of}
use Rattle.sm_agents.specs.Nonzero.{is_zero}
use Rattle.sm_instance.specs.declared.inputs.Input.{Input}
use Rattle.sm_report.specs.Fields.{spaced}
use Rattle.sm_instance_lines.specs.Names.{said_of}

-- the format that is needed: 2 where the proposers have an order of their own or a pair has a second weight
abbrev pub format_of : Said → ℕ
format_of said = if is_some said.order || list_any (λ (x : SaidWeight). not (is_zero x.second)) said.weights then 2 else 1

-- the header of a format and a kind
abbrev pub header_line : (format : ℕ) → Kind → List ℕ
header_line format kind = codes "stable " ++ decimal format ++ codes " " ++ kind_name kind

-- `:` and the names on a list, each behind a space
abbrev pub list_text : List (List ℕ) → List ℕ
list_text names = codes ":" ++ spaced names

-- in hospitals each reviewer has its capacity behind its name
abbrev pub capacity_text : Kind → ℕ → List ℕ
capacity_text Marriage capacity = []
capacity_text Hospitals capacity = codes " [" ++ decimal capacity ++ codes "]"
capacity_text Roommates capacity = []

-- the line of a proposer, and in roommates of a person
abbrev pub proposer_line : SaidAgent → List ℕ
proposer_line agent = codes "p " ++ agent.name ++ list_text agent.entries

-- the line of a reviewer
abbrev pub reviewer_line : Kind → SaidAgent → List ℕ
reviewer_line kind agent = codes "r " ++ agent.name ++ capacity_text kind agent.capacity ++ list_text agent.entries

-- the names of a pair
abbrev pub pair_text : SaidPair → List ℕ
pair_text pair = pair.proposer ++ codes " " ++ pair.reviewer

-- a second weight behind a space, where it isn't 0
abbrev pub second_text : ℤ → List ℕ
second_text second = if is_zero second then [] else codes " " ++ signed_decimal second

-- the line of a weight
abbrev pub weight_line : SaidWeight → List ℕ
weight_line x = codes "weight " ++ pair_text x.pair ++ codes " " ++ signed_decimal x.weight ++ second_text x.second

-- the line of a forced pair
abbrev pub force_line : SaidPair → List ℕ
force_line pair = codes "force " ++ pair_text pair

-- the line of a forbidden pair
abbrev pub forbid_line : SaidPair → List ℕ
forbid_line pair = codes "forbid " ++ pair_text pair

-- the line of an order
abbrev pub order_line : SaidOrder → List ℕ
order_line order = codes "order" ++ spaced order.names

-- it stands where there is one
abbrev pub order_lines : Option SaidOrder → List (List ℕ)
order_lines None = []
order_lines (Some order) = order_line order ∷ []

-- the lines behind those of pairs
abbrev pub last_lines : Said → List (List ℕ)
last_lines said = order_lines said.order ++ codes "end" ∷ []

-- the lines behind those of the agents
abbrev pub item_lines : Said → List (List ℕ)
item_lines said = map weight_line said.weights ++ (map force_line said.forced ++ (map forbid_line said.forbidden ++ last_lines said))

-- the lines behind the header
abbrev pub agent_lines : Kind → Said → List (List ℕ)
agent_lines kind said = map proposer_line said.proposers ++ (map (reviewer_line kind) said.reviewers ++ item_lines said)

-- all lines, each without its end
abbrev pub printed_lines : Kind → Said → List (List ℕ)
printed_lines kind said = header_line (format_of said) kind ∷ agent_lines kind said

-- the lines of an instance that is printed
abbrev pub lines_of : Input → List (List ℕ)
lines_of input = printed_lines (kind_of input) (said_of input)
