use Rattle.std.proofs.Common.{◌<◌, ◌≤◌, ◌*◌, length}
use Rattle.std.specs.List.{sum_by}
use Rattle.sm_market.specs.Vectors.{rows_of}
use Rattle.sm_test_markets.proofs.texts.lists.Given as goal

abbrev pub invariant-loop-part : goal.invariant-loop-part
invariant-loop-part g l =
    (length l.lists.items < 100) × (sum_by (λ list. length list) (rows_of l.lists.items) ≤ 100 * length l.lists.items)
