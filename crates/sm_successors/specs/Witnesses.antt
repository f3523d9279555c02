-- A small market at whose matchings it is known how far a search may have gone.
use Rattle.std.specs.Prelude.{[], ◌∷◌}
use Rattle.sm_theory.specs.Chains.{stage}
use Rattle.sm_theory.specs.Witnesses.{passed_seat, passed_seat_first, passed_seat_chain}
use Rattle.sm_successors.specs.Search.{IsSearchAt}

-- at the first matching reviewer 0 would take proposer 2, so that no search has passed it on the proposer's list; once the first
-- rotation is eliminated one may have
abbrev pub SeatIsPassed : Type 0
SeatIsPassed = IsSearchAt passed_seat passed_seat_first (1 ∷ 1 ∷ 1 ∷ 1 ∷ [])
    × (¬ IsSearchAt passed_seat passed_seat_first (1 ∷ 1 ∷ 2 ∷ 1 ∷ []))
    × IsSearchAt passed_seat (stage passed_seat passed_seat_first passed_seat_chain 1) (1 ∷ 1 ∷ 2 ∷ 1 ∷ [])
