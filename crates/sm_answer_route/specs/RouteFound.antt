-- What `find_route` finds.
use Rattle.std.specs.Prelude.{◌≡◌}
use Rattle.sm_agents.specs.Written.{Written}
use Rattle.sm_seats.specs.SeatMarket.{seat_market}
use Rattle.sm_answer_given.specs.declared.given.Given.{Given}
use Rattle.sm_answer_route.specs.RouteAnswer.{AreStepsBetween}
use Rattle.sm_answer_route.specs.declared.found.FoundRoute.{FoundRoute}

-- the poset of the seats, and the steps from the left matching to the right one
pub record IsRouteFound (w : Written) (given : Given) (found : FoundRoute) : Type 0 where
  pub market : found.poset.lists ≡ seat_market w
  pub route : AreStepsBetween w found.poset.first.places found.poset.rotations given.left.places.items given.right.places.items found.steps.items
