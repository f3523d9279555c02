-- The instance text that a JSON value stands for. Its lines are those of a printed instance, of the parts of the value in their order.
use Rattle.std.specs.Prelude.{ℕ, Bool, ◌||◌, if◌then◌else◌, List, [], ◌∷◌, ◌++◌, map, codes, Option, Some, None, is_some, option_map, option_and_then, ℤ}
use Rattle.std.specs.List.{list_any}
use Rattle.std.specs.Fmt.{signed_decimal}
use Rattle.std.specs.Str.{is_utf8}
use Rattle.serde_json.specs.Data.{Data}
use Rattle.serde_json.specs.Read.{read}
use Rattle.sm_agents.specs.declared.kinds.Kind.{Kind}
use Rattle.sm_report.specs.Fields.{spaced}
use Rattle.sm_answer.specs.Writing.{text_of}
use Rattle.sm_instance_lines.specs.Printed.{header_line, proposer_line, reviewer_line, pair_text, force_line, forbid_line}
use Rattle.sm_json.specs.Values.{if_so}
use Rattle.sm_json.specs.Parts.{JsonWeight, JsonInstance, instance_in}

-- the text is of the second format where there is an order, or a pair with two weights
abbrev pub is_second : List JsonWeight → Option (List (List ℕ)) → Bool
is_second weights order = is_some order || list_any (λ (w : JsonWeight). is_some w.second) weights

-- the header, of the first format or of the second
abbrev pub json_header : (second : Bool) → Kind → List ℕ
json_header second kind = header_line (if second then 2 else 1) kind

-- the second weight, where one is written
abbrev pub second_text : Option ℤ → List ℕ
second_text None = []
second_text (Some z) = codes " " ++ signed_decimal z

-- the line of a weight
abbrev pub json_weight_line : JsonWeight → List ℕ
json_weight_line w = codes "weight " ++ pair_text w.pair ++ codes " " ++ signed_decimal w.first ++ second_text w.second

-- the line of an order, where there is one
abbrev pub order_lines : Option (List (List ℕ)) → List (List ℕ)
order_lines None = []
order_lines (Some names) = (codes "order" ++ spaced names) ∷ []

-- all lines, each without its end
abbrev pub json_lines : JsonInstance → List (List ℕ)
json_lines i =
    json_header (is_second i.weights i.order) i.kind
    ∷ (map proposer_line i.proposers
    ++ (map (reviewer_line i.kind) i.reviewers
    ++ (map json_weight_line i.weights ++ (map force_line i.forced ++ (map forbid_line i.forbidden ++ (order_lines i.order ++ codes "end" ∷ []))))))

-- the text of the instance that a value is, if it is one
abbrev pub json_text : Data → Option (List ℕ)
json_text d = option_map (λ i. text_of (json_lines i)) (instance_in d)

-- the value that bytes are: they are UTF-8, and read
abbrev pub value_in : List ℕ → Option Data
value_in bytes = if_so (is_utf8 bytes) (read bytes)

-- the text of the instance that bytes are
abbrev pub text_in : List ℕ → Option (List ℕ)
text_in bytes = option_and_then json_text (value_in bytes)
