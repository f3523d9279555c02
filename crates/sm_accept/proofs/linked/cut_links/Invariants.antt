use Rattle.std.proofs.Common.{◌≡◌, ◌+◌, ◌≤◌, get_or, set, min}
use Rattle.sm_accept.specs.Linking.{IsLinkedOf, linking}
use Rattle.sm_accept.proofs.linked.cut_links.Given as goal

abbrev pub invariant-loop-end : goal.invariant-loop-end
invariant-loop-end l = record {
  made : IsLinkedOf l.market (linking l.ends l.starts l.links.next.items l.links.before.items);
  ends : l.ends ≡ set l.initial.ends l.r l.end;
  lower : min (get_or l.initial.ends l.r 0) (l.place + 1) ≤ l.end;
  upper : l.end ≤ get_or l.initial.ends l.r 0;
}

abbrev pub decreases-loop-end : goal.decreases-loop-end
decreases-loop-end l = l.end
