-- Level vectors. A caller gives for each proposer one level per place and one more for being unmatched; where the levels
-- are ranks, the level vector is the rank vector.
use Rattle.std.specs.Prelude.{ℕ, List, map, slice_index}
use Rattle.sm_market.specs.Lists.{Lists, row, agents}
use Rattle.sm_market.specs.Matching.{Places, standing}

-- the level at which p stands
abbrev pub level_of : Lists → List (List ℕ) → Places → ℕ → ℕ
level_of l levels m p = slice_index (row levels p) (standing l.proposers m.proposers p)

-- the level of each proposer in turn
abbrev pub level_vector_of : Lists → List (List ℕ) → Places → List ℕ
level_vector_of l levels m = map (level_of l levels m) (agents l.proposers)
