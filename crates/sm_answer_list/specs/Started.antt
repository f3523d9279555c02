-- A lister of an instance.
use Rattle.std.specs.Prelude.{◌≡◌, ℕ, List, length, Option}
use Rattle.sm_agents.specs.Written.{Written}
use Rattle.sm_lists.specs.EachOnce.{IsEachOnce}
use Rattle.sm_poset.specs.Posets.{IsPoset}
use Rattle.sm_seats.specs.SeatMarket.{seat_market}
use Rattle.sm_seats.specs.Seating.{seating_of, levels_of}
use Rattle.sm_seats.specs.Correspondence.{IsSeating, leveled}
use Rattle.sm_lister.specs.Listers.{Lister}
use Rattle.sm_answer_list.specs.ListAnswer.{IsCursor}
use Rattle.sm_instance.specs.Ranks.{order_of}
-- a vector that is held, passed on
pub use Rattle.sm_answer_vectors.specs.VectorAnswer.{cursor_in}

-- a lister of the stable matchings that the conditions of the instance allow, by its seats, in the order of the instance, that
-- made no step yet
pub record IsListerOf (w : Written) (after : Option (List ℕ)) (lister : Lister) : Type 0 where
  pub seating : IsSeating w (seating_of w)
  pub poset : IsPoset lister.poset
  pub market : lister.poset.lists ≡ seat_market w
  pub levels : lister.levels ≡ levels_of (seating_of w)
  pub forced : lister.forced ≡ leveled w w.forced
  pub forbidden : lister.forbidden ≡ leveled w w.forbidden
  pub order : lister.order ≡ order_of w
  pub each_once : IsEachOnce (length w.proposers) (order_of w)
  pub cursor : lister.cursor ≡ after
  pub fits : IsCursor (length w.proposers) after
