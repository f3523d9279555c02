-- The value of an instance has no float, and nests a few levels deep.
use Rattle.std.proofs.Common.{◌≡◌, ℕ, suc, max, ◌≤◌, Bool, true, false, ◌||◌, List, [], ◌∷◌, map, codes, Option, Some, None, if◌then◌else◌, refl, arith, ℤ, pos, negsuc}
use Rattle.std.proofs.Math.Nat.{max-le}
use Rattle.serde_json.specs.Data.{Data, number, string, Members, no_members, member, depth, items_depth, members_depth}
use Rattle.serde_json.specs.Find.{is_float, of_integer}
use Rattle.serde_json.specs.View.{items_of}
use Rattle.serde_json.specs.Written.{has_float, items_have_float, members_have_float}
use Rattle.sm_agents.specs.Named.{SaidAgent, SaidPair, SaidWeight, SaidOrder, Said}
use Rattle.sm_instance.specs.Inputs.{kind_of}
use Rattle.sm_instance.specs.declared.inputs.Input.{Input}
use Rattle.sm_agents.specs.declared.kinds.Kind.{Kind}
use Rattle.sm_agents.specs.declared.kinds.Kind.TheVariants.{Marriage, Hospitals, Roommates}
use Rattle.sm_instance_lines.specs.Names.{said_of}
use Rattle.sm_agents.specs.Nonzero.{is_zero}
use Rattle.sm_json.specs.Parts.{has_capacities}
use Rattle.sm_json.specs.Making.{array_of, agent_json, pair_json, second_json, weight_json, order_json, with_order, unless_empty, two_json, said_json, json_of}
use Rattle.sm_agents.specs.Kinds.{kind_name}

no_floats : {A : Type 0} (f : A → Data) → ((x : A) → has_float (f x) ≡ false) → (xs : List A) → items_have_float (items_of (map f xs)) ≡ false
no_floats f h [] = refl
no_floats f h (x ∷ xs) = rw (h x) (no_floats f h xs)

both_no : (s t : Bool) → s ≡ false → t ≡ false → (s || t) ≡ false
both_no s t h k = rw h k

agent_float : (c : Bool) (agent : SaidAgent) → has_float (agent_json c agent) ≡ false
agent_float false agent = both_no _ false (no_floats string (λ _. refl) agent.entries) refl
agent_float true agent = both_no _ false (no_floats string (λ _. refl) agent.entries) refl

pair_float : (pair : SaidPair) → has_float (pair_json pair) ≡ false
pair_float pair = refl

integer_float : (z : ℤ) → is_float (of_integer z) ≡ false
integer_float (pos n) = refl
integer_float (negsuc n) = refl

second_float : (z : ℤ) → items_have_float (items_of (second_json z)) ≡ false
second_float z = by_test (is_zero z)
  where
    by_test : (t : Bool) → items_have_float (items_of (if t then [] else number (of_integer z) ∷ [])) ≡ false
    by_test true = refl
    by_test false = both_no _ false (integer_float z) refl

weight_float : (x : SaidWeight) → has_float (weight_json x) ≡ false
weight_float x = both_no _ _ (integer_float x.weight) (second_float x.second)

unless_float : {A : Type 0} (key : List ℕ) (f : A → Data) → ((x : A) → has_float (f x) ≡ false) → (xs : List A) (ms : Members) → members_have_float ms ≡ false
    → members_have_float (unless_empty key f xs ms) ≡ false
unless_float key f h [] ms k = k
unless_float key f h (x ∷ xs) ms k = both_no _ _ (no_floats f h (x ∷ xs)) k

order_float : (order : Option SaidOrder) (ms : Members) → members_have_float ms ≡ false → members_have_float (with_order order ms) ≡ false
order_float None ms k = k
order_float (Some order) ms k = both_no _ _ (no_floats string (λ _. refl) order.names) k

two_float : (kind : Kind) (said : Said) → has_float (two_json kind said) ≡ false
two_float kind said =
    unless_float _ pair_json pair_float said.forbidden _ (unless_float _ pair_json pair_float said.forced _
    (order_float said.order _
    (both_no _ _ (no_floats (agent_json false) (agent_float false) said.proposers)
    (both_no _ _ (no_floats (agent_json (has_capacities kind)) (agent_float (has_capacities kind)) said.reviewers)
    (unless_float _ weight_json weight_float said.weights no_members refl)))))

said_float : (kind : Kind) (said : Said) → has_float (said_json kind said) ≡ false
said_float Marriage said = two_float Marriage said
said_float Hospitals said = two_float Hospitals said
said_float Roommates said = both_no _ false (no_floats (agent_json false) (agent_float false) said.proposers) refl

pub no_float : (input : Input) → has_float (json_of input) ≡ false
no_float input = said_float (kind_of input) (said_of input)

-- depths
items_below : {A : Type 0} (f : A → Data) (n : ℕ) → ((x : A) → depth (f x) ≤ n) → (xs : List A) → items_depth (items_of (map f xs)) ≤ n
items_below f n h [] = omega arith
items_below f n h (x ∷ xs) = max-le (h x) (items_below f n h xs)

array_below : {A : Type 0} (f : A → Data) (n m : ℕ) → suc n ≤ m → ((x : A) → depth (f x) ≤ n) → (xs : List A) → depth (array_of f xs) ≤ m
array_below f n m le h xs = let e = items_below f n h xs in omega (arith, e, le)

names_below : (names : List (List ℕ)) → depth (array_of string names) ≤ 1
names_below names = array_below string 0 1 (omega arith) (λ _. omega arith) names

agent_members_below : (agent : SaidAgent) → max (depth (array_of string agent.entries)) 0 ≤ 1
agent_members_below agent = max-le (names_below agent.entries) (omega arith)

agent_below : (c : Bool) (agent : SaidAgent) → depth (agent_json c agent) ≤ 2
agent_below false agent = let e = agent_members_below agent in omega (arith, e)
agent_below true agent = let e = max-le {a = 0} (omega arith) (agent_members_below agent) in omega (arith, e)

pair_below : (pair : SaidPair) → depth (pair_json pair) ≤ 2
pair_below pair = omega arith

second_below : (z : ℤ) → items_depth (items_of (second_json z)) ≤ 0
second_below z = by_test (is_zero z)
  where
    by_test : (t : Bool) → items_depth (items_of (if t then [] else number (of_integer z) ∷ [])) ≤ 0
    by_test true = omega arith
    by_test false = omega arith

weight_below : (x : SaidWeight) → depth (weight_json x) ≤ 2
weight_below x = let e = second_below x.second in omega (arith, e)

unless_below : {A : Type 0} (key : List ℕ) (f : A → Data) → ((x : A) → depth (f x) ≤ 2) → (xs : List A) (ms : Members) → members_depth ms ≤ 3
    → members_depth (unless_empty key f xs ms) ≤ 3
unless_below key f h [] ms k = k
unless_below key f h (x ∷ xs) ms k = max-le (array_below f 2 3 (omega arith) h (x ∷ xs)) k

order_below : (order : Option SaidOrder) (ms : Members) → members_depth ms ≤ 3 → members_depth (with_order order ms) ≤ 3
order_below None ms k = k
order_below (Some order) ms k = let e = names_below order.names in max-le (let l : depth (order_json order) ≤ 3 = omega (arith, e) in l) k

two_below : (kind : Kind) (said : Said) → depth (two_json kind said) ≤ 4
two_below kind said =
    let left : Data = array_of (agent_json false) said.proposers in
    let right : Data = array_of (agent_json (has_capacities kind)) said.reviewers in
    let ms3 : Members = unless_empty (codes "weights") weight_json said.weights no_members in
    let sides : Members = member (codes "proposers") left (member (codes "reviewers") right ms3) in
    let ms2 : Members = member (codes "kind") (string (kind_name kind)) (with_order said.order sides) in
    let ms1 : Members = unless_empty (codes "forced") pair_json said.forced ms2 in
    let h3 : members_depth ms3 ≤ 3 = unless_below (codes "weights") weight_json weight_below said.weights no_members (omega arith) in
    let hr : depth right ≤ 3 = array_below (agent_json (has_capacities kind)) 2 3 (omega arith) (agent_below (has_capacities kind)) said.reviewers in
    let hp : depth left ≤ 3 = array_below (agent_json false) 2 3 (omega arith) (agent_below false) said.proposers in
    let both : max (depth left) (max (depth right) (members_depth ms3)) ≤ 3 = max-le hp (max-le hr h3) in
    let zero : 0 ≤ 3 = omega arith in
    let ordered : members_depth (with_order said.order sides) ≤ 3 = order_below said.order sides both in
    let h2 : members_depth ms2 ≤ 3 = max-le zero ordered in
    let h1 : members_depth ms1 ≤ 3 = unless_below (codes "forced") pair_json pair_below said.forced ms2 h2 in
    let h0 : members_depth (unless_empty (codes "forbidden") pair_json said.forbidden ms1) ≤ 3 = unless_below (codes "forbidden") pair_json pair_below said.forbidden ms1 h1 in
    omega (arith, h0)

said_below : (kind : Kind) (said : Said) → depth (said_json kind said) ≤ 4
said_below Marriage said = two_below Marriage said
said_below Hospitals said = two_below Hospitals said
said_below Roommates said =
    let left : Data = array_of (agent_json false) said.proposers in
    let hp : depth left ≤ 3 = array_below (agent_json false) 2 3 (omega arith) (agent_below false) said.proposers in
    let zero : 0 ≤ 3 = omega arith in
    let one : max (depth left) 0 ≤ 3 = max-le hp zero in
    let all : max 0 (max (depth left) 0) ≤ 3 = max-le zero one in
    omega (arith, all)

pub few_levels : (input : Input) → depth (json_of input) ≤ 127
few_levels input = let e = said_below (kind_of input) (said_of input) in omega (arith, e)
