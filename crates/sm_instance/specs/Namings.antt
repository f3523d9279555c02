-- Who is asked whether it names a reviewer.
use Rattle.std.specs.Prelude.{◌≡◌, ℕ, ◌<◌, List, length, map}
use Rattle.std.specs.List.{range_with_len}
use Rattle.sm_lists.specs.CompactNamings.{naming_at, IsNamed}
use Rattle.sm_lists.specs.declared.compact_naming.CompactNaming.{CompactNaming}
use Rattle.sm_agents.specs.Written.{AgentData, row, entry, place_of}
use Rattle.sm_instance.specs.declared.namings.Namings.{Namings}
use Rattle.sm_instance.specs.declared.namings.Namings.TheVariants.{Kept, Sought}

-- agents by rising number, with all who name r among them, each with the place of r on its list, which is past the list where r
-- isn't on it
pub record AreAskedOf (agents : List AgentData) (r : ℕ) (all : List CompactNaming) : Type 0 where
  pub in_range : (e : ℕ) → e < length all → (naming_at all e).by < length agents
  pub places : (e : ℕ) → e < length all → (naming_at all e).place ≡ place_of agents (naming_at all e).by r
  pub rising : (e f : ℕ) → e < f → f < length all → (naming_at all e).by < (naming_at all f).by
  pub named : (p i : ℕ) → i < length (row agents p) → entry agents p i ≡ r → IsNamed all p i

-- agent p, with the place of r on its list
abbrev pub asked_at : List AgentData → ℕ → ℕ → CompactNaming
asked_at agents r p = record { by = p; place = place_of agents p r }

-- all agents of a side
abbrev pub all_asked : List AgentData → ℕ → List CompactNaming
all_asked agents r = map (asked_at agents r) (range_with_len 0 (length agents))

-- who is asked: those who name a reviewer where they are kept, else every proposer
abbrev pub asked : Namings → List CompactNaming
asked (Kept namings) = namings.now
asked (Sought instance r) = all_asked instance.now.proposers r
