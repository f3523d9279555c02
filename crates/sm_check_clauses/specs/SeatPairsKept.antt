-- What is kept of pairs of a proposer and a seat that an answer has written so far.
use Rattle.std.specs.Prelude.{ℕ, ◌++◌, ◌∷◌, [], Bool, true, false, List}
use Rattle.sm_market.specs.Lists.{Lists}
use Rattle.sm_check_clauses.specs.SeatMatchings.{IsFreeSeat, AreSeatPairs}
use Rattle.sm_check_clauses.specs.declared.seat_pairs.SeatPairs.{SeatPairs}

-- one more pair may stand behind them, and is kept too; or it may not
pub record HasTakenSeat (l : Lists) (pairs : List (ℕ × ℕ)) (pair : ℕ × ℕ) (after : SeatPairs) : Type 0 where
  pub free : IsFreeSeat l pairs pair
  pub kept : AreSeatPairs l (pairs ++ pair ∷ []) after

-- true says that the pair is kept, and false that it may not stand there
abbrev pub TakesSeat : Lists → List (ℕ × ℕ) → ℕ × ℕ → SeatPairs → Bool → Type 0
TakesSeat l pairs pair after true = HasTakenSeat l pairs pair after
TakesSeat l pairs pair after false = ¬ IsFreeSeat l pairs pair
