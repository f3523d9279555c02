-- The value of an instance gives its parts again.
use Rattle.std.proofs.Common.{◌≡◌, ◌≢◌, ℕ, ◌≤◌, ◌==◌, ◌||◌, not, length, codes, ◌++◌, is_some, Bool, true, false, le-leb, List, [], ◌∷◌, map, All, Option, Some, None, option_map, if◌then◌else◌, refl, sym, ap, ◌∙◌, ℤ, pos, negsuc}
use Rattle.std.specs.Option.{option_and_then}
use Rattle.std.specs.Int.RustNames.{unsigned_abs}
use Rattle.std.specs.List.{list_any}
use Rattle.std.proofs.lemmas.List.Elements.{All-head, All-tail}
use Rattle.std.specs.Fmt.{signed_decimal}
use Rattle.serde_json.specs.Data.{Data, number, string, object, Members, no_members, member}
use Rattle.serde_json.specs.Find.{get, of_integer}
use Rattle.serde_json.specs.View.{items_of}
use Rattle.sm_text.specs.Limits.{most_capacity, most_weight}
use Rattle.sm_text.specs.Name.{is_name}
use Rattle.sm_agents.specs.Named.{SaidAgent, SaidPair, SaidWeight, SaidOrder, Said, names_first}
use Rattle.sm_agents.specs.declared.kinds.Kind.{Kind}
use Rattle.sm_agents.specs.declared.kinds.Kind.TheVariants.{Marriage, Hospitals, Roommates}
use Rattle.sm_agents.specs.Nonzero.{is_zero}
use Rattle.sm_instance_lines.specs.Printed.{second_text, order_lines, pair_text, proposer_line, reviewer_line, weight_line, printed_lines}
use Rattle.sm_json.specs.Values.{items_in, list_of, every, name_in, names_in, if_capacity, weight_in}
use Rattle.sm_json.specs.Parts.{JsonWeight, JsonInstance, agent_of, agent_in, agents_in, pair_in, pairs_in, weight_of, second_in, pair_weight_in, weights_in, instance_of, instance_in, kind_in, of_kind, two_in, order_in, by_member, of_parts, has_capacities}
use Rattle.sm_json.specs.JsonText.{is_second, json_lines, json_weight_line}
use Rattle.sm_json.specs.JsonText.{second_text as json_second, order_lines as json_order}
use Rattle.sm_json.specs.Making.{array_of, agent_json, pair_json, second_json, weight_json, order_json, with_order, unless_empty, two_json, room_json}
use Rattle.sm_agents.specs.Kinds.{kind_name}
use Rattle.sm_json.proofs.AddLemmas.{list_again}
use Rattle.sm_json.specs.Saying.{IsSaidAgent, IsSaidPair, IsSaidWeight, IsSaid}

-- what is given for each item is found for each
module _ {A B : Type 0} (S : A → Type 0) (g : A → Data) (f : Data → Option B) (h : A → B) (each : (x : A) → S x → f (g x) ≡ Some (h x)) where
  every_again : (xs : List A) → All S xs → every f (map g xs) ≡ Some (map h xs)
  every_again [] sound = refl
  every_again (x ∷ xs) sound =
      ap (option_and_then (λ y. option_map (λ ys. y ∷ ys) (every f (map g xs)))) (each x (All-head S x xs sound))
      ∙ ap (option_map (λ ys. h x ∷ ys)) (every_again xs (All-tail S x xs sound))

  pub array_again : (xs : List A) → All S xs → option_and_then (every f) (items_in (array_of g xs)) ≡ Some (map h xs)
  array_again xs sound = ap (every f) (list_again (map g xs)) ∙ every_again xs sound

-- a name
name_again : (s : List ℕ) → is_name s ≡ true → name_in (string s) ≡ Some s
name_again s h = ap (λ t. if t then Some s else None) h

map_same : {X : Type 0} (xs : List X) → map (λ x. x) xs ≡ xs
map_same [] = refl
map_same (x ∷ xs) = ap (λ t. x ∷ t) (map_same xs)

-- names
names_again : (names : List (List ℕ)) → All (λ name. is_name name ≡ true) names → names_in (array_of string names) ≡ Some names
names_again names sound = array_again (λ name. is_name name ≡ true) string name_in (λ name. name) name_again names sound ∙ ap Some (map_same names)

-- an agent, on no line
abbrev unlined : SaidAgent → SaidAgent
unlined agent = agent_of agent.name agent.capacity agent.entries

capacity_again : (n : ℕ) → n ≤ most_capacity → if_capacity n ≡ Some n
capacity_again n h = ap (λ t. if t then Some n else None) (le-leb n most_capacity h)

agent_again : (has_capacity : Bool) (agent : SaidAgent) → IsSaidAgent has_capacity agent → agent_in has_capacity (agent_json has_capacity agent) ≡ Some (unlined agent)
agent_again false agent sound =
    ap (option_and_then (λ name. option_map (agent_of name 1) (names_in (array_of string agent.entries)))) (name_again agent.name sound.name)
    ∙ ap (option_map (agent_of agent.name 1)) (names_again agent.entries sound.entries)
    ∙ ap (λ n. Some (agent_of agent.name n agent.entries)) (sym (sound.one refl))
agent_again true agent sound =
    ap (option_and_then (λ name. option_and_then (λ capacity. option_map (agent_of name capacity) (names_in (array_of string agent.entries))) (if_capacity agent.capacity)))
    (name_again agent.name sound.name)
    ∙ ap (option_and_then (λ capacity. option_map (agent_of agent.name capacity) (names_in (array_of string agent.entries)))) (capacity_again agent.capacity sound.capacity)
    ∙ ap (option_map (agent_of agent.name agent.capacity)) (names_again agent.entries sound.entries)

agents_again : (has_capacity : Bool) (agents : List SaidAgent) → All (IsSaidAgent has_capacity) agents → agents_in has_capacity (array_of (agent_json has_capacity) agents) ≡ Some (map unlined agents)
agents_again has_capacity agents sound = array_again (IsSaidAgent has_capacity) (agent_json has_capacity) (agent_in has_capacity) unlined (agent_again has_capacity) agents sound

-- a pair
pair_again : (pair : SaidPair) → IsSaidPair pair → pair_in (pair_json pair) ≡ Some pair
pair_again pair sound =
    ap (option_and_then (λ p. option_map (λ r. record { proposer = p; reviewer = r; line = 0 }) (name_in (string pair.reviewer)))) (name_again pair.proposer sound.proposer)
    ∙ ap (option_map (λ r. record { proposer = pair.proposer; reviewer = r; line = 0 })) (name_again pair.reviewer sound.reviewer)
    ∙ ap (λ n. Some (record { proposer = pair.proposer; reviewer = pair.reviewer; line = n })) (sym sound.line)

pairs_again : (pairs : List SaidPair) → All IsSaidPair pairs → pairs_in (array_of pair_json pairs) ≡ Some pairs
pairs_again pairs sound = array_again IsSaidPair pair_json pair_in (λ pair. pair) pair_again pairs sound ∙ ap Some (map_same pairs)

-- a weight
abbrev second_of : ℤ → Option ℤ
second_of z = if is_zero z then None else Some z

abbrev weighed : SaidWeight → JsonWeight
weighed x = weight_of x.pair x.weight (second_of x.second)

whole_again : (z : ℤ) → unsigned_abs z ≤ most_weight → weight_in (number (of_integer z)) ≡ Some z
whole_again (pos n) h = ap (λ t. if t then Some (pos n) else None) (le-leb n most_weight h)
whole_again (negsuc n) h = ap (λ t. if t then Some (negsuc n) else None) (le-leb (unsigned_abs (negsuc n)) most_weight h)

second_again : (z : ℤ) → unsigned_abs z ≤ most_weight → second_in (list_of (items_of (second_json z))) ≡ Some (second_of z)
second_again z h = by_test (is_zero z)
  where
    by_test : (t : Bool) → second_in (list_of (items_of (if t then [] else number (of_integer z) ∷ []))) ≡ Some (if t then None else Some z)
    by_test true = refl
    by_test false = ap (option_map Some) (whole_again z h)

weight_again : (x : SaidWeight) → IsSaidWeight x → pair_weight_in (weight_json x) ≡ Some (weighed x)
weight_again x sound =
    let more : List Data = list_of (items_of (second_json x.second)) in
    ap (option_and_then (λ pair. option_and_then (λ w. option_map (weight_of pair w) (second_in more)) (weight_in (number (of_integer x.weight))))) (pair_again x.pair sound.pair)
    ∙ ap (option_and_then (λ w. option_map (weight_of x.pair w) (second_in more))) (whole_again x.weight sound.size)
    ∙ ap (option_map (weight_of x.pair x.weight)) (second_again x.second sound.second_size)

weights_again : (weights : List SaidWeight) → All IsSaidWeight weights → weights_in (array_of weight_json weights) ≡ Some (map weighed weights)
weights_again weights sound = array_again IsSaidWeight weight_json pair_weight_in weighed weight_again weights sound

-- a member that stands where it isn't empty
abbrev member_if : {A : Type 0} → (A → Data) → List A → Option Data
member_if f [] = None
member_if f (x ∷ xs) = Some (array_of f (x ∷ xs))

pairs_if : (pairs : List SaidPair) → All IsSaidPair pairs → by_member [] pairs_in (member_if pair_json pairs) ≡ Some pairs
pairs_if [] sound = refl
pairs_if (x ∷ xs) sound = pairs_again (x ∷ xs) sound

weights_if : (weights : List SaidWeight) → All IsSaidWeight weights → by_member [] weights_in (member_if weight_json weights) ≡ Some (map weighed weights)
weights_if [] sound = refl
weights_if (x ∷ xs) sound = weights_again (x ∷ xs) sound

-- so does that of an order
abbrev order_if : Option SaidOrder → Option Data
order_if order = option_map order_json order

-- the names of an order
abbrev order_names : Option SaidOrder → Option (List (List ℕ))
order_names order = option_map (λ (o : SaidOrder). o.names) order

order_again : (order : Option SaidOrder) → All (λ name. is_name name ≡ true) (names_first order) → by_member None order_in (order_if order) ≡ Some (order_names order)
order_again None sound = refl
order_again (Some order) sound = ap (option_map Some) (names_again order.names sound)

-- the parts of the value of an instance with two sides
abbrev parts_of : Kind → Said → Option JsonInstance
parts_of kind said =
    of_parts kind (agents_in false (array_of (agent_json false) said.proposers)) (agents_in (has_capacities kind) (array_of (agent_json (has_capacities kind)) said.reviewers))
    (by_member [] weights_in (member_if weight_json said.weights)) (by_member [] pairs_in (member_if pair_json said.forced)) (by_member [] pairs_in (member_if pair_json said.forbidden))
    (by_member None order_in (order_if said.order))

-- an object with these members
abbrev object_of : (K P R : Data) → List SaidWeight → (forced forbidden : List SaidPair) → Option SaidOrder → Data
object_of K P R weights forced forbidden order =
    object (unless_empty (codes "forbidden") pair_json forbidden (unless_empty (codes "forced") pair_json forced (member (codes "kind") K
    (with_order order (member (codes "proposers") P (member (codes "reviewers") R (unless_empty (codes "weights") weight_json weights no_members)))))))

-- they are found
members_found : (kind : Kind) (K P R : Data) (weights : List SaidWeight) (forced forbidden : List SaidPair) (order : Option SaidOrder)
    → two_in kind (object_of K P R weights forced forbidden order)
    ≡ of_parts kind (agents_in false P) (agents_in (has_capacities kind) R)
    (by_member [] weights_in (member_if weight_json weights)) (by_member [] pairs_in (member_if pair_json forced)) (by_member [] pairs_in (member_if pair_json forbidden))
    (by_member None order_in (order_if order))
members_found kind K P R [] [] [] None = refl
members_found kind K P R [] [] [] (Some o) = refl
members_found kind K P R [] [] (z ∷ zs) None = refl
members_found kind K P R [] [] (z ∷ zs) (Some o) = refl
members_found kind K P R [] (y ∷ ys) [] None = refl
members_found kind K P R [] (y ∷ ys) [] (Some o) = refl
members_found kind K P R [] (y ∷ ys) (z ∷ zs) None = refl
members_found kind K P R [] (y ∷ ys) (z ∷ zs) (Some o) = refl
members_found kind K P R (x ∷ xs) [] [] None = refl
members_found kind K P R (x ∷ xs) [] [] (Some o) = refl
members_found kind K P R (x ∷ xs) [] (z ∷ zs) None = refl
members_found kind K P R (x ∷ xs) [] (z ∷ zs) (Some o) = refl
members_found kind K P R (x ∷ xs) (y ∷ ys) [] None = refl
members_found kind K P R (x ∷ xs) (y ∷ ys) [] (Some o) = refl
members_found kind K P R (x ∷ xs) (y ∷ ys) (z ∷ zs) None = refl
members_found kind K P R (x ∷ xs) (y ∷ ys) (z ∷ zs) (Some o) = refl

kind_found : (K : Data) (forced forbidden : List SaidPair) (ms : Members)
    → get (codes "kind") (object (unless_empty (codes "forbidden") pair_json forbidden (unless_empty (codes "forced") pair_json forced (member (codes "kind") K ms)))) ≡ Some K
kind_found K [] [] ms = refl
kind_found K [] (z ∷ zs) ms = refl
kind_found K (y ∷ ys) [] ms = refl
kind_found K (y ∷ ys) (z ∷ zs) ms = refl

instance_found : (kind : Kind) (said : Said) → kind ≢ Roommates → instance_in (two_json kind said) ≡ two_in kind (two_json kind said)
instance_found kind said two = ap (λ k. option_and_then (λ x. of_kind x d) (option_and_then kind_in k)) (kind_found (string (kind_name kind)) said.forced said.forbidden _) ∙ by_kind kind two
  where
    d : Data
    d = two_json kind said

    by_kind : (k : Kind) → k ≢ Roommates → option_and_then (λ x. of_kind x d) (kind_in (string (kind_name k))) ≡ two_in k d
    by_kind Marriage h = refl
    by_kind Hospitals h = refl
    by_kind Roommates h = absurd (h refl)

found_by : (kind : Kind) (said : Said) → kind ≢ Roommates → instance_in (two_json kind said) ≡ parts_of kind said
found_by kind said two =
    instance_found kind said two
    ∙ members_found kind (string (kind_name kind)) (array_of (agent_json false) said.proposers) (array_of (agent_json (has_capacities kind)) said.reviewers) said.weights said.forced said.forbidden said.order

-- a second weight is written where it isn't 0
seconds_again : (weights : List SaidWeight) → list_any (λ (w : JsonWeight). is_some w.second) (map weighed weights) ≡ list_any (λ (x : SaidWeight). not (is_zero x.second)) weights
seconds_again [] = refl
seconds_again (x ∷ xs) =
    ap (λ t. t || list_any (λ (w : JsonWeight). is_some w.second) (map weighed xs)) (by_test (is_zero x.second)) ∙ ap (λ t. not (is_zero x.second) || t) (seconds_again xs)
  where
    by_test : (t : Bool) → is_some (if t then None else Some x.second) ≡ not t
    by_test true = refl
    by_test false = refl

-- the format is the one that is needed
format_again : (weights : List SaidWeight) (order : Option SaidOrder)
    → is_second (map weighed weights) (order_names order) ≡ (is_some order || list_any (λ (x : SaidWeight). not (is_zero x.second)) weights)
format_again weights None = seconds_again weights
format_again weights (Some order) = refl

-- the instance that is said
abbrev pub again : Kind → Said → JsonInstance
again kind said =
    instance_of kind (map unlined said.proposers) (map unlined said.reviewers) (map weighed said.weights) said.forced said.forbidden (order_names said.order)

-- all parts are there
all_there : (kind : Kind) (said : Said) → IsSaid (has_capacities kind) said → parts_of kind said ≡ Some (again kind said)
all_there kind said sound =
    rw (
      agents_again false said.proposers sound.proposers,
      agents_again (has_capacities kind) said.reviewers sound.reviewers,
      weights_if said.weights sound.weights,
      pairs_if said.forced sound.forced,
      pairs_if said.forbidden sound.forbidden,
      order_again said.order sound.order,
    ) refl

-- the value of an instance with two sides
pub two_again : (kind : Kind) (said : Said) → kind ≢ Roommates → IsSaid (has_capacities kind) said → instance_in (two_json kind said) ≡ Some (again kind said)
two_again kind said two sound = found_by kind said two ∙ all_there kind said sound

-- and that of roommates
pub room_again : (said : Said) → All (IsSaidAgent false) said.proposers
    → instance_in (room_json said) ≡ Some (instance_of Roommates (map unlined said.proposers) [] [] [] [] None)
room_again said sound = ap (option_map (λ persons. instance_of Roommates persons [] [] [] [] None)) (agents_again false said.proposers sound)

-- the lines of agents don't tell their lines
proposers_printed : (agents : List SaidAgent) → map proposer_line (map unlined agents) ≡ map proposer_line agents
proposers_printed [] = refl
proposers_printed (a ∷ more) = ap (λ t. proposer_line a ∷ t) (proposers_printed more)

reviewers_printed : (kind : Kind) (agents : List SaidAgent) → map (reviewer_line kind) (map unlined agents) ≡ map (reviewer_line kind) agents
reviewers_printed kind [] = refl
reviewers_printed kind (a ∷ more) = ap (λ t. reviewer_line kind a ∷ t) (reviewers_printed kind more)

second_printed : (z : ℤ) → json_second (second_of z) ≡ second_text z
second_printed z = by_test (is_zero z)
  where
    by_test : (t : Bool) → json_second (if t then None else Some z) ≡ (if t then [] else codes " " ++ signed_decimal z)
    by_test true = refl
    by_test false = refl

weights_printed : (weights : List SaidWeight) → map json_weight_line (map weighed weights) ≡ map weight_line weights
weights_printed [] = refl
weights_printed (x ∷ xs) =
    ap (λ t. (codes "weight " ++ pair_text x.pair ++ codes " " ++ signed_decimal x.weight ++ t) ∷ map json_weight_line (map weighed xs)) (second_printed x.second)
    ∙ ap (λ t. weight_line x ∷ t) (weights_printed xs)

order_printed : (order : Option SaidOrder) → json_order (order_names order) ≡ order_lines order
order_printed None = refl
order_printed (Some order) = refl

-- the lines of the instance again
pub lines_again : (kind : Kind) (said : Said) → json_lines (again kind said) ≡ printed_lines kind said
lines_again kind said =
    rw (format_again said.weights said.order, proposers_printed said.proposers, reviewers_printed kind said.reviewers, weights_printed said.weights, order_printed said.order) refl
