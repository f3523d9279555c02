-- Routes between stable matchings, and the steps between two closed sets.
use Rattle.std.specs.Prelude.{◌≡◌, ℕ, zero, suc, ◌+◌, ◌≤◌, ◌⊎◌, Bool, true, false, not, ◌&&◌, ◌||◌, if◌then◌else◌, List, [], ◌∷◌, ◌++◌, length, slice_set}
use Rattle.sm_market.specs.Lists.{Lists}
use Rattle.sm_market.specs.Matching.{Places}
use Rattle.sm_market.specs.Stable.{IsStable}
use Rattle.sm_theory.specs.Rotations.{IsExposed, eliminated}
use Rattle.sm_theory.specs.ClosedSets.{is_member}
use Rattle.sm_theory.specs.declared.step.Step.{Step}
use Rattle.sm_theory.specs.declared.step.Step.TheVariants.{Back, Forth}

-- n is had from m by eliminating one exposed rotation
pub record IsOneDown (l : Lists) (m n : Places) : Type 0 where
  pub rotation : List (ℕ × ℕ)
  pub exposed : IsExposed l m rotation
  pub next : n ≡ eliminated l m rotation

-- a step goes between two stable matchings of which one is had from the other by eliminating one exposed rotation
pub record IsStep (l : Lists) (m n : Places) : Type 0 where
  pub here : IsStable l m
  pub there : IsStable l n
  pub one : IsOneDown l m n ⊎ IsOneDown l n m

-- a route from m to n, by the matchings to which its steps lead in turn
abbrev pub IsRoute : Lists → Places → List Places → Places → Type 0
IsRoute l m [] n = m ≡ n
IsRoute l m (next ∷ way) n = IsStep l m next × IsRoute l next way n

-- a route with the fewest steps
pub record IsShortestRoute (l : Lists) (m : Places) (way : List Places) (n : Places) : Type 0 where
  pub route : IsRoute l m way n
  pub shortest : (other : List Places) → IsRoute l m other n → length way ≤ length other

-- a set once a step is taken: without the rotation that it takes back, or with the one that it eliminates
abbrev pub after_step : List Bool → Step → List Bool
after_step set (Back k) = slice_set set k false
after_step set (Forth k) = slice_set set k true

-- the sets to which steps lead in turn
abbrev pub sets_along : List Bool → List Step → List (List Bool)
sets_along set [] = []
sets_along set (step ∷ steps) = after_step set step ∷ sets_along (after_step set step) steps

-- rotation k is in the one set and not in the other
abbrev pub is_only_in : List Bool → List Bool → ℕ → Bool
is_only_in set other k = is_member set k && not (is_member other k)

-- a step back for each of the first n rotations that are in the left set alone, highest first
abbrev pub steps_back : (left right : List Bool) → ℕ → List Step
steps_back left right zero = []
steps_back left right (suc n) = if is_only_in left right n then Back n ∷ steps_back left right n else steps_back left right n

-- a step forth for each of the first n rotations that are in the right set alone, lowest first
abbrev pub steps_forth : (left right : List Bool) → ℕ → List Step
steps_forth left right zero = []
steps_forth left right (suc n) = if is_only_in right left n then steps_forth left right n ++ Forth n ∷ [] else steps_forth left right n

-- the steps from one set of n rotations to another: first all those back, then all those forth
abbrev pub steps_between : (left right : List Bool) → ℕ → List Step
steps_between left right n = steps_back left right n ++ steps_forth left right n

-- how many of the first n rotations are in exactly one of two sets
abbrev pub difference : (left right : List Bool) → ℕ → ℕ
difference left right zero = 0
difference left right (suc n) = difference left right n + (if is_only_in left right n || is_only_in right left n then 1 else 0)
