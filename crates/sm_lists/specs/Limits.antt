-- How many agents and entries a side may have.
use Rattle.std.specs.Prelude.{ℕ, ◌<◌, ◌^◌, List, length}
use Rattle.std.specs.List.{sum_by}

-- one side has fewer than 2^24 agents, and fewer than 2^24 entries on all its lists together
pub record AreWithinLimits (rows : List (List ℕ)) : Type 0 where
  pub agents : length rows < 2 ^ 24
  pub entries : sum_by (λ list. length list) rows < 2 ^ 24
