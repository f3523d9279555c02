use Rattle.sm_lists.proofs.RaisedLemmas.{raised_rows-none, raises_none}
use Rattle.sm_lists.proofs.raised_rows.RaisedRows.of_cells.Goals as goal

pub invariant_of-result : goal.invariant_of-result
invariant_of-result c = rw c.new.ensures.items (record { placed = c.requires; small = raises_none _ })

pub returns : goal.returns
returns c = rw c.new.ensures.items (raised_rows-none _)
