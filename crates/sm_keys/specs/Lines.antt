-- Lists as they stand on lines.
use Rattle.std.specs.Prelude.{◌≡◌, ℕ, ◌<◌, ◌≤◌, Bool, true, false, List, [], ◌∷◌, length, take, drop, slice_index, codes}
use Rattle.std.specs.List.{list_all}
use Rattle.sm_text.specs.Name.{is_name}
use Rattle.sm_text.specs.Tokens.{tokens}
use Rattle.sm_keys.specs.Tables.{Table, IsTable, Extends, IsListed, IsListing, text_at}

-- a line begins with a word, a name and a colon, and the others of its tokens are those of a text
pub record BeginsList (line word name list : List ℕ) : Type 0 where
  pub tokens : tokens line ≡ word ∷ name ∷ codes ":" ∷ tokens list
  pub is_word : is_name word ≡ true
  pub is_name : is_name name ≡ true

-- a name that stands at an index, and is one
pub record IsNamed (texts : List (List ℕ)) (name : List ℕ) (i : ℕ) : Type 0 where
  pub in_range : i < length texts
  pub names : text_at texts i ≡ name
  pub is_name : is_name name ≡ true

-- the name of an index stands on a line at a place, and the next token at another or behind it
pub record IsNameAt (texts : List (List ℕ)) (line : List ℕ) (at i next : ℕ) : Type 0 where
  pub in_range : i < length texts
  pub is_name : is_name (text_at texts i) ≡ true
  pub leads : tokens (drop at line) ≡ text_at texts i ∷ tokens (drop next line)
  pub later : at < next
  pub within : next ≤ length line

-- the tokens of a line are names up to a place, and are listed
pub record IsListingLine (first now : Table) (line : List ℕ) (at stamp i : ℕ) (indexes : List ℕ) : Type 0 where
  pub listing : IsListing first now (tokens line) stamp i indexes
  pub left : drop i (tokens line) ≡ tokens (drop at line)
  pub names : list_all is_name (take i (tokens line)) ≡ true

-- these stamps are those of names of which more are listed: of those from a place of a line on up to another
pub record ListsLineFurther (texts : List (List ℕ)) (old new : List ℕ) (line : List ℕ) (stamp at next from i : ℕ) (before after : List ℕ) : Type 0 where
  pub each : length new ≡ length old
  pub further : (first t : Table) → IsTable t → t.texts ≡ texts → t.stamps ≡ old → IsListingLine first t line at stamp from before → IsListingLine first (record t { stamps = new }) line next stamp i after

-- names may have been added, and nothing is declared; a name has the stamp only where some are listed, and none a greater one
pub record KeepsNames (old new : Table) (stamp : ℕ) (indexes : List ℕ) : Type 0 where
  pub extends : Extends old.texts new.texts
  pub declared : new.declared ≡ old.declared
  pub stamps : (k : ℕ) → slice_index new.stamps k ≤ stamp
  pub fresh : indexes ≡ [] → (k : ℕ) → slice_index new.stamps k < stamp

-- names may have been added, and nothing is declared; no name has the stamp or a greater one
pub record AddsNames (old new : Table) (stamp : ℕ) : Type 0 where
  pub extends : Extends old.texts new.texts
  pub declared : new.declared ≡ old.declared
  pub fresh : (k : ℕ) → slice_index new.stamps k < stamp

-- all entries are names that differ, and are listed
pub record AreListed (old new : Table) (entries : List (List ℕ)) (stamp : ℕ) (indexes : List ℕ) : Type 0 where
  pub listed : IsListed old new entries stamp indexes
  pub are_names : list_all is_name entries ≡ true

-- they are listed, or not all of them; then some names may have the stamp
abbrev pub FindsLine : Table → Table → List (List ℕ) → ℕ → Bool → List ℕ → Type 0
FindsLine old new entries stamp true indexes = AreListed old new entries stamp indexes
FindsLine old new entries stamp false indexes = KeepsNames old new stamp indexes

-- they are listed, or no name has the stamp
abbrev pub ListsLine : Table → Table → List (List ℕ) → ℕ → Bool → List ℕ → Type 0
ListsLine old new entries stamp true indexes = AreListed old new entries stamp indexes
ListsLine old new entries stamp false indexes = AddsNames old new stamp
