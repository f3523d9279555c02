-- What is kept of a chain of rotations, step by step.
use Rattle.std.specs.Prelude.{◌≡◌, ℕ, ◌++◌, ◌∷◌, [], Bool, true, false, List}
use Rattle.sm_market.specs.Lists.{Lists}
use Rattle.sm_market.specs.Matching.{Places}
use Rattle.sm_theory.specs.Rotations.{IsLowestExposed}
use Rattle.sm_check_clauses.specs.declared.chain_walk.ChainWalk.{ChainWalk}
use Rattle.sm_check_clauses.specs.Walks.{IsChainWalk}

-- some rotations were eliminated one after the other
pub record HasWalked (l : Lists) (walk : ChainWalk) : Type 0 where
  pub first : Places
  pub rotations : List (List (ℕ × ℕ))
  pub is_walk : IsChainWalk l first rotations walk

-- a rotation is the next one, and is eliminated too; or it isn't
pub record HasStepped (l : Lists) (first : Places) (rotations : List (List (ℕ × ℕ))) (rotation : List (ℕ × ℕ)) (before after : ChainWalk) : Type 0 where
  pub lowest : IsLowestExposed l before.matching.places rotation
  pub is_walk : IsChainWalk l first (rotations ++ rotation ∷ []) after
  pub same : after.is_whole ≡ before.is_whole

-- true says that the rotation is eliminated, and false that it isn't the next one
abbrev pub StepsAlong : Lists → Places → List (List (ℕ × ℕ)) → List (ℕ × ℕ) → (before after : ChainWalk) → Bool → Type 0
StepsAlong l first rotations rotation before after true = HasStepped l first rotations rotation before after
StepsAlong l first rotations rotation before after false = ¬ IsLowestExposed l before.matching.places rotation
