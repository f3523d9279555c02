-- What is read of bytes, and the texts that are put for it.
use Rattle.std.specs.Prelude.{◌≡◌, ℕ, ◌==◌, ◌||◌, Bool, false, List, [], length, codes, Option, Some, None, is_some, option_map, unwrap_or, Result, Ok, Err}
use Rattle.std.specs.List.{list_any}
use Rattle.serde_json.specs.Data.{Data}
use Rattle.serde_json.specs.Find.{get}
use Rattle.serde_json.specs.View.{view}
use Rattle.serde_json.specs.declared.value.Value.{Value}
use Rattle.sm_answer.specs.Writing.{text_of}
use Rattle.sm_agents.specs.declared.kinds.Kind.{Kind}
use Rattle.sm_agents.specs.declared.kinds.Kind.TheVariants.{Marriage, Hospitals, Roommates}
use Rattle.sm_json.specs.declared.agents.Role.{Role}
use Rattle.sm_json.specs.declared.agents.Role.TheVariants.{Proposer, Reviewer, Hospital}
use Rattle.sm_json.specs.declared.faults.JsonFault.{JsonFault}
use Rattle.sm_json.specs.declared.faults.JsonFault.TheVariants.{BadJson, OutOfMemory}
use Rattle.sm_json.specs.Values.{items_in}
use Rattle.sm_json.specs.Parts.{JsonInstance, by_member}
use Rattle.sm_json.specs.JsonText.{json_header, json_lines}
use Rattle.sm_json.specs.Adding.{joined}
use Rattle.sm_json.specs.Roles.{with_end, agents_added, weights_added, pairs_added, order_added}

-- the value is that of the bytes, and there is none where it is refused
abbrev pub IsValue : Option Data → Result Value JsonFault → Type 0
IsValue value (Ok found) = value ≡ Some (view found)
IsValue value (Err BadJson) = value ≡ None
IsValue value (Err OutOfMemory) = Unit {0}

-- the text of an instance, where there is one
abbrev pub instance_added : Option JsonInstance → Option (List ℕ)
instance_added i = option_map (λ i. text_of (json_lines i)) i

-- what the reviewers of a kind are
abbrev pub role_of : Kind → Role
role_of Marriage = Reviewer
role_of Hospitals = Hospital
role_of Roommates = Reviewer

-- the array has four items, as the weight of a pair with a second weight has
abbrev pub has_four : Data → Bool
has_four d = unwrap_or (option_map (λ ds. length ds == 4) (items_in d)) false

-- one of the items of an array has four
abbrev pub is_seconded : Data → Bool
is_seconded d = unwrap_or (option_map (list_any has_four) (items_in d)) false

-- there is an order, or a pair with two weights
abbrev pub asks_second : (weights order : Option Data) → Bool
asks_second weights order = is_some order || unwrap_or (option_map is_seconded weights) false

-- the lines of pairs, and that of an order
abbrev pub items_added : Data → Option (List ℕ)
items_added d =
    joined (by_member [] weights_added (get (codes "weights") d))
    (joined (by_member [] (pairs_added (codes "force ")) (get (codes "forced") d))
    (joined (by_member [] (pairs_added (codes "forbid ")) (get (codes "forbidden") d)) (by_member [] order_added (get (codes "order") d))))

-- the text of an instance with two sides, of the values of its parts
abbrev pub two_added : Kind → Data → Data → Data → Option (List ℕ)
two_added kind d p r =
    joined (Some (with_end (json_header (asks_second (get (codes "weights") d) (get (codes "order") d)) kind)))
    (joined (agents_added Proposer p) (joined (agents_added (role_of kind) r) (joined (items_added d) (Some (codes "end\n")))))

-- the text of roommates, of the value of the persons
abbrev pub room_added : Data → Option (List ℕ)
room_added p = joined (Some (with_end (json_header false Roommates))) (joined (agents_added Proposer p) (Some (codes "end\n")))
