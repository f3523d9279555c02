-- Lists that are held in vectors, as plain lists.
use Rattle.std.specs.Prelude.{ℕ, List, Vec}
use Rattle.std.specs.declared.alloc.Global.{Global}
use Rattle.sm_market.specs.Lists.{Lists, both_sides}
pub use Rattle.sm_lists.specs.Rows.{rows_of}

-- the lists of both sides
abbrev pub lists_of : List (Vec ℕ Global) → List (Vec ℕ Global) → Lists
lists_of proposers reviewers = both_sides (rows_of proposers) (rows_of reviewers)
