use Rattle.std.proofs.Common.{◌≡◌, take}
use Rattle.sm_lists.specs.Rows.{rows_of, lists_in}
use Rattle.sm_lists.proofs.vectors.lent.Given as goal

abbrev pub invariant-loop-row : goal.invariant-loop-row
invariant-loop-row l = lists_in l.lent.items ≡ rows_of (take l.row-index l.rows)
