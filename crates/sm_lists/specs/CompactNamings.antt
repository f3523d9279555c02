-- Who names an agent, and where, as it is kept in few bytes.
use Rattle.std.specs.Prelude.{◌≡◌, ℕ, ◌<◌, List, length, slice_index_or}
use Rattle.sm_lists.specs.declared.compact_naming.CompactNaming.{CompactNaming}

-- what stands for a naming past the last
abbrev pub no_naming : CompactNaming
no_naming = record { by = 0; place = 0 }

-- the naming with number e
abbrev pub naming_at : List CompactNaming → ℕ → CompactNaming
naming_at namings e = slice_index_or namings e no_naming

-- among these namings is the one by p at place i
pub record IsNamed (namings : List CompactNaming) (p i : ℕ) : Type 0 where
  pub at : ℕ
  pub there : at < length namings
  pub by : (naming_at namings at).by ≡ p
  pub place : (naming_at namings at).place ≡ i
