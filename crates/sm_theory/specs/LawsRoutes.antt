-- The laws of routes. Each is the contract of a function of `laws`.
use Rattle.std.specs.Prelude.{◌≡◌, ℕ, ◌≤◌, Bool, List, map, length}
use Rattle.std.specs.List.{All}
use Rattle.sm_market.specs.Lists.{Lists, IsMarket}
use Rattle.sm_market.specs.Matching.{Places}
use Rattle.sm_theory.specs.Chains.{IsCompleteChain}
use Rattle.sm_theory.specs.ClosedSets.{IsClosed, matching_of}
use Rattle.sm_theory.specs.Routes.{IsRoute, IsShortestRoute, sets_along, steps_between, difference}

-- between the matchings of two closed sets of a complete chain no route has fewer steps than there are rotations in exactly
-- one of the sets
abbrev pub NoFewerSteps : Type 0
NoFewerSteps = (l : Lists) (first : Places) (rotations : List (List (ℕ × ℕ))) (left right : List Bool) (way : List Places)
    → IsMarket l → IsCompleteChain l first rotations → IsClosed l rotations left → IsClosed l rotations right
    → IsRoute l (matching_of l first rotations left) way (matching_of l first rotations right)
    → difference left right (length rotations) ≤ length way

-- the steps between the sets lead over closed sets, whose matchings are a shortest route, and there are as many steps as
-- rotations in exactly one of the sets
abbrev pub StepsAreShortest : Type 0
StepsAreShortest = (l : Lists) (first : Places) (rotations : List (List (ℕ × ℕ))) (left right : List Bool)
    → IsMarket l → IsCompleteChain l first rotations → IsClosed l rotations left → IsClosed l rotations right
    → All (IsClosed l rotations) (sets_along left (steps_between left right (length rotations)))
    × IsShortestRoute l (matching_of l first rotations left)
    (map (matching_of l first rotations) (sets_along left (steps_between left right (length rotations))))
    (matching_of l first rotations right)
    × (length (steps_between left right (length rotations)) ≡ difference left right (length rotations))
