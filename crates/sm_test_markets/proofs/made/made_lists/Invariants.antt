use Rattle.std.proofs.Common.{◌≤◌, ◌*◌, length}
use Rattle.std.specs.List.{sum_by}
use Rattle.sm_market.specs.Vectors.{rows_of}
use Rattle.sm_test_markets.proofs.made.made_lists.Given as goal

abbrev pub invariant-loop-a : goal.invariant-loop-a
invariant-loop-a g l =
    (length l.lists.items ≤ l.a) × (sum_by (λ list. length list) (rows_of l.lists.items) ≤ 7 * l.a)
