use Rattle.std.proofs.Common.{◌≡◌, length, get_or}
use Rattle.sm_accept.proofs.LinkSteps.{AreLinkedUpTo}
use Rattle.sm_accept.proofs.linked.link_row.Given as goal

abbrev pub invariant-loop-place : goal.invariant-loop-place
invariant-loop-place l = record {
  linked : AreLinkedUpTo l.market l.ends l.starts l.p l.place l.last l.links.next.items l.links.before.items;
  next_each : length l.links.next.items ≡ get_or l.starts (length l.market.proposers) 0;
  before_each : length l.links.before.items ≡ get_or l.starts (length l.market.proposers) 0;
}
