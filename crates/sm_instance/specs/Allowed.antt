-- The conditions of an instance.
use Rattle.std.specs.Prelude.{ℕ, List, Option, IsTrue}
use Rattle.std.specs.List.{All}
use Rattle.sm_agents.specs.Written.{Written}
use Rattle.sm_instance.specs.Matching.{is_at, IsMatching}

-- a matching that holds every forced pair and no forbidden pair (Gusfield and Irving 1989, section 2.2.2)
pub record IsAllowed (w : Written) (places : List (Option ℕ)) : Type 0 where
  pub matching : IsMatching w places
  pub forced : All (λ pair. IsTrue (is_at w places pair.0 pair.1)) w.forced
  pub forbidden : All (λ pair. ¬ IsTrue (is_at w places pair.0 pair.1)) w.forbidden
