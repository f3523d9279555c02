use Rattle.sm_room_list.specs.Tops.{AreTops}
use Rattle.sm_room_list.specs.Search.{HoldAlike}
use Rattle.sm_room_list.proofs.SearchLemmas.{AreNotedUpTo}
use Rattle.sm_room_list.proofs.search.note_risers.Given as goal

abbrev pub invariant-loop-k : goal.invariant-loop-k
invariant-loop-k l = record {
  tops : AreTops l.market l.tops.tops.items l.tops.passed.items;
  alike : HoldAlike l.market l.last l.k l.tops.tops.items;
  noted : AreNotedUpTo l.market l.last l.k l.risers;
}
