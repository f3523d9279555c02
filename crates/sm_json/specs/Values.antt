-- Looking into a JSON value: what its arrays, its names and its whole numbers give.
use Rattle.std.specs.Prelude.{ℕ, nat_le, if◌then◌else◌, Bool, true, false, List, [], ◌∷◌, Option, Some, None, option_map, option_and_then, unwrap_or, ℤ}
use Rattle.std.specs.Int.RustNames.{unsigned_abs}
use Rattle.std.specs.List.{list_all, list_any}
use Rattle.std.specs.Str.{bytes_eq}
use Rattle.serde_json.specs.Data.{Data, Items, no_items, item, Members, no_members, member}
use Rattle.serde_json.specs.Find.{as_number, as_str, as_array, as_object, as_u64, as_integer}
use Rattle.sm_text.specs.Limits.{most_capacity, most_weight}
use Rattle.sm_text.specs.Name.{is_name}

-- the items of an array
abbrev pub list_of : Items → List Data
list_of no_items = []
list_of (item d ds) = d ∷ list_of ds

-- the items, where the value is an array
abbrev pub items_in : Data → Option (List Data)
items_in d = option_map list_of (as_array d)

-- the names of members
abbrev pub keys_of : Members → List (List ℕ)
keys_of no_members = []
keys_of (member k d ms) = k ∷ keys_of ms

-- each of the members has one of these names
abbrev pub are_only : List (List ℕ) → Members → Bool
are_only names ms = list_all (λ key. list_any (bytes_eq key) names) (keys_of ms)

-- the value is an object, and each of its members has one of these names
abbrev pub has_only : List (List ℕ) → Data → Bool
has_only names d = unwrap_or (option_map (are_only names) (as_object d)) false

-- what each of some values gives, where each gives something
abbrev pub every : {A B : Type 0} → (A → Option B) → List A → Option (List B)
every f [] = Some []
every f (x ∷ xs) = option_and_then (λ y. option_map (λ ys. y ∷ ys) (every f xs)) (f x)

-- what a value gives, where it passes a test
abbrev pub if_so : {A : Type 0} → Bool → Option A → Option A
if_so true a = a
if_so false a = None

-- a name is a string that is one
abbrev pub if_name : List ℕ → Option (List ℕ)
if_name s = if is_name s then Some s else None

-- the name that a value is
abbrev pub name_in : Data → Option (List ℕ)
name_in d = option_and_then if_name (as_str d)

-- the names that an array holds
abbrev pub names_in : Data → Option (List (List ℕ))
names_in d = option_and_then (every name_in) (items_in d)

-- a capacity is a whole number from 0 to 4,096
abbrev pub if_capacity : ℕ → Option ℕ
if_capacity n = if nat_le n most_capacity then Some n else None

-- the capacity that a value is
abbrev pub capacity_in : Data → Option ℕ
capacity_in d = option_and_then if_capacity (option_and_then as_u64 (as_number d))

-- a weight is a whole number of a size of at most 1,000,000,000
abbrev pub if_weight : ℤ → Option ℤ
if_weight z = if nat_le (unsigned_abs z) most_weight then Some z else None

-- the weight that a value is. A whole number is one that is kept as an integer of 64 bits: so `1.0`, `1e2` and `-0` aren't.
abbrev pub weight_in : Data → Option ℤ
weight_in d = option_and_then if_weight (option_and_then as_integer (as_number d))
