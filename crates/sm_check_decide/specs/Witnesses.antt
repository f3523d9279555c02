-- A small market at whose matchings it is known who is safe, and how a search serves.
use Rattle.std.specs.Prelude.{[], ◌∷◌, true}
use Rattle.sm_theory.specs.Chains.{stage}
use Rattle.sm_theory.specs.Witnesses.{passed_seat, passed_seat_first, passed_seat_chain}
use Rattle.sm_check_decide.specs.Exposure.{IsSafe, IsSearchOf}

-- proposer 1 is in an exposed rotation with proposer 0, so that it is safe where nobody is below the bound, and not where
-- proposer 0 is
abbrev pub RotationIsFound : Type 0
RotationIsFound = IsSafe passed_seat passed_seat_first 0 1 × (¬ IsSafe passed_seat passed_seat_first 1 1)

-- once the first rotation is eliminated, a search may pass over proposers 0 and 1, and all four only where it knows that somebody
-- beside these two changed: reviewer 0 was moved past proposer 2, who is in a rotation now
abbrev pub PassedOneChanged : Type 0
PassedOneChanged = IsSearchOf passed_seat (stage passed_seat passed_seat_first passed_seat_chain 1) (record { from = 0 ∷ 0 ∷ 0 ∷ 0 ∷ []; starts = []; passed = true ∷ true ∷ []; quiet = 2 })
    × (¬ IsSearchOf passed_seat (stage passed_seat passed_seat_first passed_seat_chain 1) (record { from = 0 ∷ 0 ∷ 0 ∷ 0 ∷ []; starts = 0 ∷ 1 ∷ []; passed = []; quiet = 4 }))
