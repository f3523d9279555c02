use Rattle.sm_room_list.specs.Tops.{AreTops}
use Rattle.sm_room_list.specs.Search.{HoldAlike}
use Rattle.sm_room_list.proofs.search.go_above.Given as goal

abbrev pub invariant-loop-j : goal.invariant-loop-j
invariant-loop-j l = record {
  tops : AreTops l.market l.tops.tops.items l.tops.passed.items;
  alike : HoldAlike l.market l.last l.j l.tops.tops.items;
}
