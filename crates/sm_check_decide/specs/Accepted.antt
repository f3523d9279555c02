-- Where roommates who are acceptable to each other stand on each other's lists.
use Rattle.std.specs.Prelude.{◌≡◌, ℕ, List}
use Rattle.sm_market.specs.Lists.{place_of}
use Rattle.sm_theory.specs.Rooms.{IsAcceptable}

-- x and y are acceptable to each other, and x stands at this place of y's list
pub record IsAcceptedAt (rows : List (List ℕ)) (x y i : ℕ) : Type 0 where
  pub acceptable : IsAcceptable rows x y
  pub place : i ≡ place_of rows y x
