-- The JSON text of an instance is read as its value, and stands for the text of the printed instance.
use Rattle.std.proofs.Common.{◌≡◌, ℕ, ◌≤◌, Bool, true, false, List, [], ◌∷◌, map, codes, All, Option, Some, None, IfSome, IsUtf8, if◌then◌else◌, option_map, refl, ap, ◌∙◌, arith, ℤ, pos, negsuc}
use Rattle.std.specs.Option.{option_and_then}
use Rattle.std.specs.Int.RustNames.{unsigned_abs}
use Rattle.std.specs.List.{list_all}
use Rattle.std.proofs.lemmas.Bool.{and_parts}
use Rattle.std.proofs.lemmas.Fmt.{IsAscii-signed}
use Rattle.std.proofs.lemmas.Str.{IsUtf8-from_ascii}
use Rattle.json.proofs.Printed.Decimals.{IsNumber-signed_decimal}
use Rattle.json.proofs.Printed.Utf8.{IsUtf8-are_ascii}
use Rattle.serde_json.specs.Data.{Data, number, string, no_items, Members, no_members, member}
use Rattle.serde_json.specs.Find.{of_integer}
use Rattle.serde_json.specs.View.{items_of}
use Rattle.serde_json.specs.Written.{compact_text}
use Rattle.serde_json.proofs.Numbers.{number_of-negative}
use Rattle.sm_text.specs.Limits.{most_weight}
use Rattle.sm_text.specs.Name.{is_name}
use Rattle.sm_agents.specs.Named.{SaidAgent, SaidPair, SaidWeight, SaidOrder, Said}
use Rattle.sm_agents.specs.Kinds.{kind_name}
use Rattle.sm_agents.specs.Nonzero.{is_zero}
use Rattle.sm_agents.specs.Sound.{is_single}
use Rattle.sm_agents.specs.declared.kinds.Kind.{Kind}
use Rattle.sm_agents.specs.declared.kinds.Kind.TheVariants.{Marriage, Hospitals, Roommates}
use Rattle.sm_instance.specs.Inputs.{IsInput}
use Rattle.sm_instance.specs.declared.inputs.Input.{Input}
use Rattle.sm_instance.specs.declared.inputs.Input.TheVariants.{Two, Room}
use Rattle.sm_instance_lines.specs.Names.{said_of}
use Rattle.sm_json.specs.JsonText.{json_text, text_in}
use Rattle.sm_json.specs.Parts.{has_capacities}
use Rattle.sm_json.specs.Making.{array_of, agent_json, pair_json, weight_json, order_json, with_order, unless_empty, two_json, room_json, said_json, json_of}
use Rattle.sm_json.proofs.DepthLemmas.{few_levels}
use Rattle.sm_json.proofs.MakeLemmas.{name_utf8, members_ordered}
use Rattle.sm_json.proofs.ReadLemmas.{value_found}
use Rattle.sm_json.proofs.SoundLemmas.{printed_again}
use Rattle.sm_law_reprint.specs.Reading.{printed_text, JsonIsRead}
use Rattle.sm_law_reprint.proofs.AgentLemmas.{IsOwn}
use Rattle.sm_law_reprint.proofs.InputLemmas.{two_good, room_good}
use Rattle.sm_law_reprint.proofs.PairLemmas.{HasNames, IsOwnWeight}
use Rattle.sm_law_reprint.proofs.ReadLemmas.{IsOwnOrder, IsPrintable}
use Rattle.sm_law_reprint.proofs.ReprintLemmas.{printed_is_read}
use Rattle.sm_law_reprint.proofs.ValueLemmas.{IsRead, AreRead, AreMembersRead, compact_read, none_read, more_read, array_read, array_of_read, no_members_read, member_read, object_read, string_read, count_read}

-- names and whole numbers
name_read : (name : List ℕ) → is_name name ≡ true → IsRead (string name)
name_read name is = string_read name (name_utf8 name is)

whole_read : (z : ℤ) → unsigned_abs z ≤ most_weight → IsRead (number (of_integer z))
whole_read (pos n) small = count_read n (omega (arith, small))
whole_read (negsuc n) small = record {
  again = ap (option_map number) (number_of-negative n (omega (arith, small)));
  numbers = IsNumber-signed_decimal (negsuc n) (omega (arith, small));
  utf8 = IsUtf8-from_ascii _ (IsAscii-signed (negsuc n) (omega (arith, small)));
}

names_each : (names : List (List ℕ)) → list_all is_name names ≡ true → AreRead (items_of (map string names))
names_each [] are = none_read
names_each (x ∷ xs) are = let p = and_parts (is_name x) (list_all is_name xs) are in more_read (string x) _ (name_read x p.0) (names_each xs p.1)

names_read : (names : List (List ℕ)) → list_all is_name names ≡ true → IsRead (array_of string names)
names_read names are = array_read _ (names_each names are)

-- an agent
agent_read : (has_capacity single : Bool) (agent : SaidAgent) → IsOwn single agent → IsRead (agent_json has_capacity agent)
agent_read has_capacity single agent own = by_capacity has_capacity
  where
    both : AreMembersRead (member (codes "list") (array_of string agent.entries) (member (codes "name") (string agent.name) no_members))
    both = member_read (codes "list") _ _ (IsUtf8-are_ascii _ refl) (names_read agent.entries own.entries)
        (member_read (codes "name") _ no_members (IsUtf8-are_ascii _ refl) (name_read agent.name own.name) no_members_read)

    by_capacity : (has_capacity : Bool) → IsRead (agent_json has_capacity agent)
    by_capacity false = object_read _ both refl
    by_capacity true = object_read _ (member_read (codes "capacity") _ _ (IsUtf8-are_ascii _ refl) (count_read agent.capacity (let c = own.capacity in omega (arith, c))) both) refl

-- a pair
pair_read : (pair : SaidPair) → HasNames pair → IsRead (pair_json pair)
pair_read pair names = array_read _ (more_read _ _ (name_read pair.proposer names.proposer) (more_read _ _ (name_read pair.reviewer names.reviewer) none_read))

-- a weight
weight_read : (x : SaidWeight) → IsOwnWeight x → IsRead (weight_json x)
weight_read x own = array_read _
    (more_read _ _ (name_read x.pair.proposer own.names.proposer)
    (more_read _ _ (name_read x.pair.reviewer own.names.reviewer) (more_read _ _ (whole_read x.weight own.size) (by_test (is_zero x.second)))))
  where
    by_test : (t : Bool) → AreRead (items_of (if t then [] else number (of_integer x.second) ∷ []))
    by_test true = none_read
    by_test false = more_read _ no_items (whole_read x.second own.second_size) none_read

-- a member that stands where it has items
unless_read : {A : Type 0} (key : List ℕ) (f : A → Data) (S : A → Type 0) → IsUtf8 key → ((x : A) → S x → IsRead (f x)) → (xs : List A) → All S xs → (ms : Members) → AreMembersRead ms
    → AreMembersRead (unless_empty key f xs ms)
unless_read key f S utf8 each [] all ms are = are
unless_read key f S utf8 each (x ∷ xs) all ms are = member_read key (array_of f (x ∷ xs)) ms utf8 (array_of_read S f each (x ∷ xs) all) are

-- an order, where there is one
order_read : (order : Option SaidOrder) → IfSome order IsOwnOrder → (ms : Members) → AreMembersRead ms → AreMembersRead (with_order order ms)
order_read None own ms are = are
order_read (Some order) own ms are = member_read (codes "order") (order_json order) ms (IsUtf8-are_ascii _ refl) (names_read order.names own.names) are

kind_utf8 : (kind : Kind) → IsUtf8 (kind_name kind)
kind_utf8 Marriage = IsUtf8-are_ascii _ refl
kind_utf8 Hospitals = IsUtf8-are_ascii _ refl
kind_utf8 Roommates = IsUtf8-are_ascii _ refl

-- the value of an instance
two_value_read : (kind : Kind) (said : Said) → IsPrintable kind said → IsRead (two_json kind said)
two_value_read kind said good = object_read _
    (unless_read (codes "forbidden") pair_json HasNames (IsUtf8-are_ascii _ refl) pair_read said.forbidden good.forbidden _
    (unless_read (codes "forced") pair_json HasNames (IsUtf8-are_ascii _ refl) pair_read said.forced good.forced _
    (member_read (codes "kind") _ _ (IsUtf8-are_ascii _ refl) (string_read (kind_name kind) (kind_utf8 kind))
    (order_read said.order good.order _
    (member_read (codes "proposers") _ _ (IsUtf8-are_ascii _ refl) (array_of_read (IsOwn true) (agent_json false) (agent_read false true) said.proposers good.proposers.own)
    (member_read (codes "reviewers") _ _ (IsUtf8-are_ascii _ refl)
    (array_of_read (IsOwn (is_single kind)) (agent_json (has_capacities kind)) (agent_read (has_capacities kind) (is_single kind)) said.reviewers good.reviewers.own)
    (unless_read (codes "weights") weight_json IsOwnWeight (IsUtf8-are_ascii _ refl) weight_read said.weights good.weights.own no_members no_members_read)))))))
    (members_ordered (string (kind_name kind)) (array_of (agent_json false) said.proposers) (array_of (agent_json (has_capacities kind)) said.reviewers) said.weights said.forced said.forbidden said.order).1

room_value_read : (said : Said) → IsPrintable Roommates said → IsRead (room_json said)
room_value_read said good = object_read _
    (member_read (codes "kind") _ _ (IsUtf8-are_ascii _ refl) (string_read (kind_name Roommates) (kind_utf8 Roommates))
    (member_read (codes "persons") _ no_members (IsUtf8-are_ascii _ refl) (array_of_read (IsOwn true) (agent_json false) (agent_read false true) said.proposers good.proposers.own) no_members_read))
    refl

said_read : (kind : Kind) (said : Said) → IsPrintable kind said → IsRead (said_json kind said)
said_read Marriage said good = two_value_read Marriage said good
said_read Hospitals said good = two_value_read Hospitals said good
said_read Roommates said good = room_value_read said good

input_read : (input : Input) → IsInput input → IsRead (json_of input)
input_read (Two w) sound = said_read w.kind (said_of (Two w)) (two_good w sound)
input_read (Room persons) sound = said_read Roommates (said_of (Room persons)) (room_good persons sound)

-- the JSON text of an instance stands for the text of the printed instance
pub text_found : (input : Input) → IsInput input → text_in (compact_text (json_of input)) ≡ Some (printed_text input)
text_found input sound =
    let is = input_read input sound in
    ap (option_and_then json_text) (value_found (compact_text (json_of input)) (json_of input) is.utf8 (compact_read (json_of input) is (few_levels input)))
    ∙ printed_again input sound

pub json_is_read : JsonIsRead
json_is_read input sound short =
    let back = printed_is_read input sound short in
    record { text = printed_text input; read = back.read; given = text_found input sound; means = back.means; whole = back.whole; same = back.same }
