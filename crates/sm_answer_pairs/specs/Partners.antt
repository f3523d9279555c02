-- Pairs that are in stable matchings of an instance.
use Rattle.std.specs.Prelude.{◌≡◌, ℕ, List, Option, Some}
use Rattle.sm_agents.specs.Written.{Written}
use Rattle.sm_instance.specs.Matching.{held}
use Rattle.sm_instance.specs.Stable.{IsStable}

-- p holds place i of its list in some stable matching: a stable pair (Gusfield and Irving 1989, section 2.3.3)
pub record IsStablePlace (w : Written) (p i : ℕ) : Type 0 where
  pub places : List (Option ℕ)
  pub stable : IsStable w places
  pub holds : held places p ≡ Some i

-- and in every one: a fixed pair (Gusfield and Irving 1989, section 2.3.3)
abbrev pub IsFixedPlace : Written → (p i : ℕ) → Type 0
IsFixedPlace w p i = (places : List (Option ℕ)) → IsStable w places → held places p ≡ Some i
