use Rattle.std.proofs.Common.{arith}
use Rattle.std.proofs.lemmas.List.{map_push}
use Rattle.sm_lists.specs.Rows.{rows_of}
use Rattle.sm_room.proofs.LeftLemmas.{lists_take, lists_end}
use Rattle.sm_room.proofs.tables.lists_left.Goals as goal

pub loop-x-preserved : goal.loop-x-preserved
loop-x-preserved c = rw (c.in_ok-push.ensures.items, map_push) (lists_take (rows_of c.loop-x.lists.items) _ c.loop-x.invariant c.in_ok-list_left.ensures)

pub returns : goal.returns
returns c = lists_end c.loop-x.invariant (let count = c.persons-x-end.ensures.count in omega arith)
