-- Cross places: where each agent stands on the lists of those whom it names, and who names each reviewer.
use Rattle.std.specs.Prelude.{◌≡◌, ℕ, ◌<◌, List, [], Option, None, length, slice_index_or, IfSome}
use Rattle.sm_lists.specs.Crosses.{found_on}
use Rattle.sm_lists.specs.CompactNamings.{naming_at, IsNamed}
use Rattle.sm_lists.specs.declared.compact_naming.CompactNaming.{CompactNaming}
use Rattle.sm_agents.specs.Written.{AgentData, Written, row, entry}
use Rattle.sm_agents.specs.Sound.{IsInstance}
use Rattle.sm_instance.specs.declared.crosses.Crosses.{Crosses}
use Rattle.sm_instance.specs.declared.crosses.LentCrosses.{LentCrosses}
use Rattle.sm_instance.specs.declared.crosses.LentCrosses.TheVariants.{Kept, Made}

-- the place of b on a's list, None where b isn't on it
abbrev pub cross_place : List AgentData → ℕ → ℕ → Option ℕ
cross_place agents a b = found_on (row agents a) b

-- for each place of a's list, the place of a on the list of whom it names there
pub record AreCrossPlacesOf (agents others : List AgentData) (a : ℕ) (crosses : List (Option ℕ)) : Type 0 where
  pub as_long : length crosses ≡ length (row agents a)
  pub places : (i : ℕ) → i < length (row agents a) → slice_index_or crosses i None ≡ cross_place others (entry agents a i) a

-- the same for each list of a side
pub record AreCrossPlaces (agents others : List AgentData) (crosses : List (List (Option ℕ))) : Type 0 where
  pub one_each : length crosses ≡ length agents
  pub of : (a : ℕ) → a < length agents → AreCrossPlacesOf agents others a (slice_index_or crosses a [])

-- who names r, by rising number and with the place
pub record AreNamingsOf (agents : List AgentData) (r : ℕ) (namings : List CompactNaming) : Type 0 where
  pub on_list : (e : ℕ) → e < length namings → (naming_at namings e).place < length (row agents (naming_at namings e).by)
  pub names : (e : ℕ) → e < length namings → entry agents (naming_at namings e).by (naming_at namings e).place ≡ r
  pub rising : (e f : ℕ) → e < f → f < length namings → (naming_at namings e).by < (naming_at namings f).by
  pub named : (p i : ℕ) → i < length (row agents p) → entry agents p i ≡ r → IsNamed namings p i

-- the same for each agent of the other side
pub record AreNamings (agents : List AgentData) (others : ℕ) (namings : List (List CompactNaming)) : Type 0 where
  pub one_each : length namings ≡ others
  pub of : (r : ℕ) → r < others → AreNamingsOf agents r (slice_index_or namings r [])

-- the cross places of both sides, and who names each reviewer
pub record AreCrossesOf (proposers reviewers : List AgentData) (crosses : Crosses) : Type 0 where
  pub there : AreCrossPlaces proposers reviewers crosses.proposers
  pub back : AreCrossPlaces reviewers proposers crosses.reviewers
  pub named : AreNamings proposers (length reviewers) crosses.namings

-- cross places that are lent, or were made
abbrev pub crosses_lent : LentCrosses → Crosses
crosses_lent (Kept crosses) = crosses.now
crosses_lent (Made crosses) = crosses

-- what a search for cross places of an instance knows: that it is one, and its cross places once they are lent or made
pub record IsCrossSearch (w : Written) (made : Option LentCrosses) : Type 0 where
  pub instance : IsInstance w
  pub made_crosses : IfSome made (λ c. AreCrossesOf w.proposers w.reviewers (crosses_lent c))
