-- Who names an agent, and where: the lists of one side turned over.
use Rattle.std.specs.Prelude.{◌≡◌, ℕ, ◌<◌, ◌≤◌, List, [], length, slice_index_or}
use Rattle.sm_lists.specs.Rows.{row, entry}
use Rattle.sm_lists.specs.declared.naming.Naming.{Naming}

-- what stands for a naming past the last
abbrev pub no_naming : Naming
no_naming = record { by = 0; place = 0 }

-- the naming with a number
abbrev pub naming_at : List Naming → ℕ → Naming
naming_at namings e = slice_index_or namings e no_naming

-- among these namings is one by a at place i
pub record IsNamed (namings : List Naming) (a i : ℕ) : Type 0 where
  pub at : ℕ
  pub there : at < length namings
  pub by : (naming_at namings at).by ≡ a
  pub place : (naming_at namings at).place ≡ i

-- the namings of b by all lists before a's and by the first k places of a's, in the order of lists and places
pub record AreNamingsOf (rows : List (List ℕ)) (a k b : ℕ) (namings : List Naming) : Type 0 where
  pub on_list : (e : ℕ) → e < length namings → (naming_at namings e).place < length (row rows (naming_at namings e).by)
  pub names : (e : ℕ) → e < length namings → entry rows (naming_at namings e).by (naming_at namings e).place ≡ b
  pub reached : (e : ℕ) → e < length namings → (naming_at namings e).by ≤ a
  pub here : (e : ℕ) → e < length namings → (naming_at namings e).by ≡ a → (naming_at namings e).place < k
  pub rising : (e f : ℕ) → e < f → f < length namings → (naming_at namings e).by ≤ (naming_at namings f).by
  pub ordered : (e f : ℕ) → e < f → f < length namings → (naming_at namings e).by ≡ (naming_at namings f).by
      → (naming_at namings e).place < (naming_at namings f).place
  pub earlier_named : (c i : ℕ) → c < a → i < length (row rows c) → entry rows c i ≡ b → IsNamed namings c i
  pub here_named : (i : ℕ) → i < k → i < length (row rows a) → entry rows a i ≡ b → IsNamed namings a i

-- the same for each of so many agents
pub record AreNamings (rows : List (List ℕ)) (others a k : ℕ) (namings : List (List Naming)) : Type 0 where
  pub one_each : length namings ≡ others
  pub of : (b : ℕ) → b < others → AreNamingsOf rows a k b (slice_index_or namings b [])
