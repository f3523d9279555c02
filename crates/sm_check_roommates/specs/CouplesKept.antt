-- What is kept of the couples that an answer has written so far.
use Rattle.std.specs.Prelude.{◌≡◌, ℕ, ◌<◌, ◌++◌, ◌∷◌, [], Bool, true, false, List, Option, IfSome, length}
use Rattle.sm_agents.specs.Written.{AgentData, lists_of}
use Rattle.sm_theory.specs.Rooms.{IsRoomMatching, mate_of}
use Rattle.sm_report.specs.Lines.{LineData}
use Rattle.sm_holding.specs.Held.{partner_in}
use Rattle.sm_check_clauses.specs.Said.{pair_in, pairs_in}
use Rattle.sm_check_clauses.specs.Rooming.{both_ways, IsFreeCouple}

-- the persons of a line's couple are there
abbrev pub AreThere : ℕ → LineData → Type 0
AreThere persons line = IfSome (pair_in line) (λ (pair : ℕ × ℕ). (pair.0 < persons) × (pair.1 < persons))

-- they make this matching
pub record AreCouplesHeld (rows : List (List ℕ)) (pairs : List (ℕ × ℕ)) (mates : List (Option ℕ)) : Type 0 where
  pub matching : IsRoomMatching rows mates
  pub partners : (z : ℕ) → z < length rows → mate_of mates z ≡ partner_in (both_ways pairs) z

-- one more couple may stand behind them, and is kept too; or it may not
pub record HasCoupled (rows : List (List ℕ)) (pairs : List (ℕ × ℕ)) (pair : ℕ × ℕ) (after : List (Option ℕ)) : Type 0 where
  pub free : IsFreeCouple rows pairs pair
  pub held : AreCouplesHeld rows (pairs ++ pair ∷ []) after

-- true says that the couple is kept, and false that it may not stand there
abbrev pub Couples : List (List ℕ) → List (ℕ × ℕ) → ℕ × ℕ → List (Option ℕ) → Bool → Type 0
Couples rows pairs pair after true = HasCoupled rows pairs pair after
Couples rows pairs pair after false = ¬ IsFreeCouple rows pairs pair

-- the couples of the lines above are kept, over the lists of these persons
pub record AreCouplesKept (persons : List AgentData) (rows : List (List ℕ)) (above : List LineData) (mates : List (Option ℕ)) : Type 0 where
  pub lists : rows ≡ lists_of persons
  pub held : AreCouplesHeld rows (pairs_in above) mates
