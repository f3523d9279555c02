-- A walk through all rotations, and the matchings of closed sets of them.
use Rattle.std.proofs.Common.{◌≡◌, ℕ, ◌∙◌, ap, Bool, List, Option, sym, subst}
use Rattle.sm_agents.specs.Written.{Written}
use Rattle.sm_instance.specs.Matching.{IsMatching as IsWrittenMatching}
use Rattle.sm_market.specs.Lists.{Lists}
use Rattle.sm_market.specs.Matching.{Places}
use Rattle.sm_check_net.specs.Moves.{moves_in, AreMovesByRotation}
use Rattle.sm_market.specs.Stable.{IsStable}
use Rattle.sm_theory.specs.Rotations.{IsExposed}
use Rattle.sm_theory.specs.Chains.{IsCompleteChain}
use Rattle.sm_theory.specs.ClosedSets.{IsClosed, matching_of}
use Rattle.sm_theory.proofs.Chains.Rotations.{sets_are_matchings}
use Rattle.sm_seats.specs.SeatMarket.{seat_market}
use Rattle.sm_seats.specs.Seating.{seating_of}
use Rattle.sm_seats.specs.Correspondence.{IsSeating}
use Rattle.sm_report.specs.Lines.{LineData}
use Rattle.sm_check_clauses.specs.declared.chain_walk.ChainWalk.{ChainWalk}
use Rattle.sm_check_clauses.specs.Said.{rotations_in}
use Rattle.sm_check_clauses.specs.SeatMatchings.{first_of}
use Rattle.sm_check_clauses.specs.Flows.{matching_of_set}
use Rattle.sm_check_weight.specs.Kept.{IsWholeWalk}

module _ {w : Written} {above : List LineData} {walk : ChainWalk} (k : IsWholeWalk w above walk) where
  -- it is a complete chain
  pub complete : IsCompleteChain (seat_market w) (first_of w above) (rotations_in w above)
  complete =
      let i = k.is_walk.is_walk in
      record {
        from_best = i.best;
        exposed = i.noted.eliminable.exposed;
        complete = λ other x. (k.is_walk.whole k.whole).none other (subst (λ (m : Places). IsExposed (seat_market w) m other) (sym i.reached) x);
      }

  -- its places, as they are found by the moves
  pub whole_set_is : (set : List Bool) → (l : Lists) → l ≡ seat_market w → (places : List (Option ℕ)) → ((rotations : List (List (ℕ × ℕ))) → AreMovesByRotation l rotations (moves_in walk.moves.items) → places ≡ (matching_of l walk.first.places rotations set).proposers)
      → places ≡ (matching_of (seat_market w) (first_of w above) (rotations_in w above) set).proposers
  whole_set_is set l same places found =
      let i = k.is_walk.is_walk in
      (rw same at found) (rotations_in w above) i.moves.moves ∙ ap (λ (m : Places). (matching_of (seat_market w) m (rotations_in w above) set).proposers) i.first_is

  module _ (set : List Bool) (closed : IsClosed (seat_market w) (rotations_in w above) set) where
    -- the matching of a closed set is stable
    pub set_stable : IsStable (seat_market w) (matching_of (seat_market w) (first_of w above) (rotations_in w above) set)
    set_stable = (sets_are_matchings (seat_market w) (first_of w above) (rotations_in w above) k.is_walk.is_walk.market complete).stable set closed

    -- and on the written lists it is a matching of the instance
    pub set_matching : IsSeating w (seating_of w) → IsWrittenMatching w (matching_of_set w above set)
    set_matching s = s.matched (matching_of (seat_market w) (first_of w above) (rotations_in w above) set) set_stable.matching
