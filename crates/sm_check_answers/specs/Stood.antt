-- Which proposers stand in pairs of a matching that is wanted.
use Rattle.std.specs.Prelude.{◌≡◌, ℕ, ◌<◌, ◌++◌, ◌∷◌, [], Bool, true, false, List, length, Option, slice_index_or}
use Rattle.std.specs.Option.{is_some}
use Rattle.sm_agents.specs.Written.{Written}
use Rattle.sm_holding.specs.Held.{partner_in}
use Rattle.sm_check_clauses.specs.Pairs.{IsWanted}

-- which proposers stand in pairs
pub record AreStood (w : Written) (pairs : List (ℕ × ℕ)) (stood : List Bool) : Type 0 where
  pub one_each : length stood ≡ length w.proposers
  pub stands : (p : ℕ) → p < length w.proposers → slice_index_or stood p false ≡ is_some (partner_in pairs p)

-- one more pair is one of the matching, and is kept too; or it isn't
pub record HasStood (w : Written) (wanted : List (Option ℕ)) (pairs : List (ℕ × ℕ)) (pair : ℕ × ℕ) (after : List Bool) : Type 0 where
  pub wants : IsWanted w wanted pairs pair
  pub stood : AreStood w (pairs ++ pair ∷ []) after

-- true says that the pair is kept, and false that it isn't wanted there
abbrev pub Stands : Written → List (Option ℕ) → List (ℕ × ℕ) → ℕ × ℕ → List Bool → Bool → Type 0
Stands w wanted pairs pair after true = HasStood w wanted pairs pair after
Stands w wanted pairs pair after false = ¬ IsWanted w wanted pairs pair
