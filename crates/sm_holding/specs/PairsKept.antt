-- What is kept of the pairs so far.
use Rattle.std.specs.Prelude.{◌≡◌, ℕ, ◌++◌, ◌∷◌, [], Bool, true, false, List}
use Rattle.sm_agents.specs.Written.{Written}
use Rattle.sm_instance.specs.Matching.{load}
use Rattle.sm_holding.specs.Holding.{IsHolding}
use Rattle.sm_holding.specs.declared.holding.Holding.{Holding}
use Rattle.sm_holding.specs.Held.{places_in, times_second, CanFollow}

-- they make this matching
pub record ArePairsHeld (w : Written) (pairs : List (ℕ × ℕ)) (holding : Holding) : Type 0 where
  pub held : IsHolding w holding
  pub places : holding.matching.places.items ≡ places_in w pairs
  pub seconds : (r : ℕ) → times_second pairs r ≡ load w holding.matching.places.items r

-- one more pair may stand behind them, and is kept too; or it may not
pub record HasJoined (w : Written) (pairs : List (ℕ × ℕ)) (pair : ℕ × ℕ) (after : Holding) : Type 0 where
  pub free : CanFollow w pairs pair
  pub held : ArePairsHeld w (pairs ++ pair ∷ []) after

-- true says that the pair is kept, and false that it may not stand there
abbrev pub Joins : Written → List (ℕ × ℕ) → ℕ × ℕ → Holding → Bool → Type 0
Joins w pairs pair after true = HasJoined w pairs pair after
Joins w pairs pair after false = ¬ CanFollow w pairs pair
