-- Vectors that a lister listed one after another.
use Rattle.std.specs.Prelude.{◌≡◌, ℕ, ◌+◌, Bool, List, ◌++◌, length, None}
use Rattle.sm_agents.specs.Written.{Written}
use Rattle.sm_theory.specs.Listings.{end_of}
use Rattle.sm_lister.specs.Listers.{Lister, IsSameLister}
use Rattle.sm_lister.specs.Rests.{IsListingOf}
use Rattle.sm_answer_list.specs.Started.{IsListerOf}

-- a lister of the instance listed these vectors from the first one on, and has come to the last of them: what it has still to
-- give goes on behind them
pub record AreListedSoFar (w : Written) (t : Lister) (vectors : List (List ℕ)) : Type 0 where
  pub start : Lister
  pub started : IsListerOf w None start
  pub same : IsSameLister start t
  pub cursor : t.cursor ≡ end_of None vectors
  pub whole : (n : ℕ) (rest : List (List ℕ)) (more : Bool) → IsListingOf start t.cursor n rest more
      → IsListingOf start None (length vectors + n) (vectors ++ rest) more
