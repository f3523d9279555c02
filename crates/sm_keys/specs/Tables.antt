-- The names of a side with what is kept of them.
use Rattle.std.specs.Prelude.{if◌then◌else◌, ◌||◌, ◌≡◌, ◌≢◌, ℕ, ◌<◌, ◌≤◌, ◌==◌, Bool, true, false, not, List, [], ◌∷◌, ◌++◌, length, map, take, slice_index, slice_index_or, position, Option, Some, None, AllPairs, Vec}
use Rattle.std.specs.List.{list_any, position_or_len}
use Rattle.std.specs.Borrow.{Bor}
use Rattle.std.specs.Str.{bytes_eq}
use Rattle.std.specs.declared.alloc.Global.{Global}
use Rattle.sm_text.specs.Slices.{texts_of}
use Rattle.sm_keys.specs.Keys.{key_texts}
use Rattle.sm_keys.specs.declared.key.Key.{Key}

-- the names of a side, as plain data
pub record Table : Type 0 where
  pub texts : List (List ℕ)
  pub numbers : List (Option ℕ)
  pub stamps : List ℕ
  pub declared : List (List ℕ)

-- the names of a side by keys, numbers, stamps and declared names
abbrev pub table_from : List Key → List (Option ℕ) → List ℕ → List (Bor (List ℕ)) → Table
table_from keys numbers stamps declared = record { texts = key_texts keys; numbers = numbers; stamps = stamps; declared = texts_of declared }

-- a side without names
abbrev pub no_names : Table
no_names = record { texts = []; numbers = []; stamps = []; declared = [] }

-- the name of an index
abbrev pub text_at : List (List ℕ) → ℕ → List ℕ
text_at texts i = slice_index_or texts i []

-- a name isn't declared among those of a side
abbrev pub is_unknown : List (List ℕ) → List ℕ → Bool
is_unknown names name = not (list_any (bytes_eq name) names)

-- the number of a name among the names of a side
abbrev pub number_in : List (List ℕ) → List ℕ → ℕ
number_in names name = position_or_len (bytes_eq name) names

-- a name stands twice among names
abbrev pub has_repeated : List (List ℕ) → Bool
has_repeated [] = false
has_repeated (name ∷ names) = list_any (bytes_eq name) names || has_repeated names

-- names that differ, each with its number among those that are declared, which are among them, and with a stamp
pub record IsTable (t : Table) : Type 0 where
  pub number_each : length t.numbers ≡ length t.texts
  pub stamp_each : length t.stamps ≡ length t.texts
  pub distinct : AllPairs ◌≢◌ t.texts
  pub numbered : (i : ℕ) → i < length t.texts → slice_index_or t.numbers i None ≡ position (bytes_eq (text_at t.texts i)) t.declared
  pub known : (k : ℕ) → k < length t.declared → list_any (bytes_eq (text_at t.declared k)) t.texts ≡ true

-- each name of a side has its index for its number
abbrev pub AreInOrder : Table → Type 0
AreInOrder t = (i : ℕ) → i < length t.texts → number_in t.declared (text_at t.texts i) ≡ i

-- the names that were there keep their indexes, and more may stand behind them
pub record Extends (old new : List (List ℕ)) : Type 0 where
  pub more : List (List ℕ)
  pub appended : new ≡ old ++ more

-- a name has an index now; no stamp has changed
pub record Interns (old new : Table) (name : List ℕ) (i : ℕ) : Type 0 where
  pub was : IsTable old
  pub table : IsTable new
  pub extends : Extends old.texts new.texts
  pub declared : new.declared ≡ old.declared
  pub in_range : i < length new.texts
  pub names : text_at new.texts i ≡ name
  pub stamps : (k : ℕ) → slice_index new.stamps k ≡ slice_index old.stamps k

-- a name is declared, if it wasn't; no stamp has changed
pub record Declares (old new : Table) (name : List ℕ) (added : Bool) : Type 0 where
  pub table : IsTable new
  pub extends : Extends old.texts new.texts
  pub is_new : added ≡ not (list_any (bytes_eq name) old.declared)
  pub declared : new.declared ≡ (if added then old.declared ++ name ∷ [] else old.declared)
  pub stamps : (k : ℕ) → slice_index new.stamps k ≡ slice_index old.stamps k

-- a name that hadn't this stamp has an index and the stamp
pub record IsStamped (old new : Table) (name : List ℕ) (stamp i : ℕ) : Type 0 where
  pub stamp_each : length old.stamps ≡ length old.texts
  pub table : IsTable new
  pub extends : Extends old.texts new.texts
  pub declared : new.declared ≡ old.declared
  pub in_range : i < length new.texts
  pub names : text_at new.texts i ≡ name
  pub unstamped : slice_index old.stamps i ≢ stamp
  pub stamps : (k : ℕ) → slice_index new.stamps k ≡ (if k == i then stamp else slice_index old.stamps k)

-- a name has this stamp; none has changed
pub record HasStamp (old new : Table) (name : List ℕ) (stamp : ℕ) : Type 0 where
  pub stamp_each : length old.stamps ≡ length old.texts
  pub at : ℕ
  pub extends : Extends old.texts new.texts
  pub declared : new.declared ≡ old.declared
  pub stamps : (k : ℕ) → slice_index new.stamps k ≡ slice_index old.stamps k
  pub names : text_at new.texts at ≡ name
  pub stamped : slice_index old.stamps at ≡ stamp

-- a name has an index and gets the stamp, or had it before
abbrev pub MeetsName : Table → Table → List ℕ → ℕ → Option ℕ → Type 0
MeetsName old new name stamp None = HasStamp old new name stamp
MeetsName old new name stamp (Some i) = IsStamped old new name stamp i

-- indexes within a range
abbrev pub AreBelow : ℕ → List ℕ → Type 0
AreBelow n [] = Unit {0}
AreBelow n (i ∷ is) = (i < n) × AreBelow n is

-- the names of a list, which differ, have indexes
pub record IsListed (old new : Table) (entries : List (List ℕ)) (stamp : ℕ) (indexes : List ℕ) : Type 0 where
  pub extends : Extends old.texts new.texts
  pub declared : new.declared ≡ old.declared
  pub differ : has_repeated entries ≡ false
  pub in_range : AreBelow (length new.texts) indexes
  pub names : map (text_at new.texts) indexes ≡ entries
  pub stamps : (k : ℕ) → slice_index new.stamps k ≤ stamp

-- the names of a list have indexes, or some name comes twice
abbrev pub ListsNames : Table → Table → List (List ℕ) → ℕ → Option (Vec ℕ Global) → Type 0
ListsNames old new entries stamp None = has_repeated entries ≡ true
ListsNames old new entries stamp (Some list) = IsListed old new entries stamp list.items

-- a name that stands at an index
pub record IsAt (texts : List (List ℕ)) (name : List ℕ) (i : ℕ) : Type 0 where
  pub in_range : i < length texts
  pub names : text_at texts i ≡ name

-- the first names of a list have their indexes, and they alone have this stamp
pub record IsListing (first now : Table) (entries : List (List ℕ)) (stamp i : ℕ) (indexes : List ℕ) : Type 0 where
  pub extends : Extends first.texts now.texts
  pub declared : now.declared ≡ first.declared
  pub differ : has_repeated (take i entries) ≡ false
  pub in_range : AreBelow (length now.texts) indexes
  pub names : map (text_at now.texts) indexes ≡ take i entries
  pub stamps : (k : ℕ) → slice_index now.stamps k ≤ stamp
  pub stamped : (k : ℕ) → slice_index now.stamps k ≡ stamp → list_any (bytes_eq (text_at now.texts k)) (take i entries) ≡ true
  pub all : (j : ℕ) → j < i → slice_index now.stamps (slice_index indexes j) ≡ stamp

-- these stamps are those of names of which more are listed: from `from` on up to `i`
pub record ListsFurther (texts : List (List ℕ)) (old new : List ℕ) (entries : List (List ℕ)) (stamp from i : ℕ) (before after : List ℕ) : Type 0 where
  pub each : length new ≡ length old
  pub further : (first t : Table) → IsTable t → t.texts ≡ texts → t.stamps ≡ old → IsListing first t entries stamp from before → IsListing first (record t { stamps = new }) entries stamp i after
