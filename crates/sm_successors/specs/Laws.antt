-- The laws of searches. Each is the contract of a function of `laws`.
use Rattle.std.specs.Prelude.{ℕ, List, length, replicate}
use Rattle.sm_market.specs.Lists.{Lists, IsMarket}
use Rattle.sm_market.specs.Matching.{Places}
use Rattle.sm_market.specs.Stable.{IsStable}
use Rattle.sm_theory.specs.Rotations.{IsExposed, eliminated}
use Rattle.sm_successors.specs.Search.{IsSearchAt}

-- where nothing was looked for yet, a search is at any matching
abbrev pub SearchBegins : Type 0
SearchBegins = (l : Lists) (m : Places) → IsSearchAt l m (replicate (length l.proposers) 0)

-- once an exposed rotation is eliminated, a search goes on from where it was
abbrev pub SearchGoesOn : Type 0
SearchGoesOn = (l : Lists) (m : Places) (rotation : List (ℕ × ℕ)) (from : List ℕ) → IsMarket l → IsStable l m → IsExposed l m rotation
    → IsSearchAt l m from → IsSearchAt l (eliminated l m rotation) from
