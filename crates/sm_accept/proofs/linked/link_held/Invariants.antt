use Rattle.std.proofs.Common.{◌≡◌, length, get_or}
use Rattle.sm_accept.specs.Linking.{AreLinkedBelow}
use Rattle.sm_accept.proofs.linked.link_held.Given as goal

abbrev pub invariant-loop-p : goal.invariant-loop-p
invariant-loop-p l = record {
  linked : AreLinkedBelow l.market l.ends l.starts l.p l.links.next.items l.links.before.items;
  next_each : length l.links.next.items ≡ get_or l.starts (length l.market.proposers) 0;
  before_each : length l.links.before.items ≡ get_or l.starts (length l.market.proposers) 0;
}
