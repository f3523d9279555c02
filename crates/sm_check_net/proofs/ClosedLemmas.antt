-- Closed sets by what their members need.
use Rattle.std.proofs.Common.{◌≡◌, ℕ, ◌<◌, arith, ◌∙◌, subst, Bool, List, length, slice_index}
use Rattle.std.proofs.lemmas.List.{get_or_default}
use Rattle.sm_market.specs.Lists.{Lists}
use Rattle.sm_lists.specs.Rows.{row}
use Rattle.sm_theory.specs.ClosedSets.{IsMember, IsClosed}
use Rattle.sm_check_net.specs.CheckedNets.{NetParts, NeedsAreOf}

-- a set that has all that its members need is closed
pub closed_of : {l : Lists} {rotations : List (List (ℕ × ℕ))} {parts : NetParts} {set : List Bool} → NeedsAreOf l rotations parts → length set ≡ length parts.gains
    → ((j : ℕ) → j < length parts.gains → IsMember set j → (a : ℕ) → a < length (row parts.needs j) → IsMember set (slice_index (row parts.needs j) a)) → IsClosed l rotations set
closed_of {set = set} n long keeps = record {
  one_each = omega (arith, long, n.one_each);
  closed = λ i j hi hj m needed. let c = (n.each j hj).all i hi needed in subst (IsMember set) (get_or_default _ c.0 0 i c.1 ∙ c.2) (keeps j (omega (arith, n.one_each)) m c.0 c.1);
}
