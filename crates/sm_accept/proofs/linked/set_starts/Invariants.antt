use Rattle.std.proofs.Common.{◌≡◌, ℕ, ◌+◌, ◌*◌, ◌<◌, length, get_or, take}
use Rattle.std.specs.List.{sum_by}
use Rattle.sm_market.specs.Lists.{row}
use Rattle.sm_accept.proofs.linked.set_starts.Given as goal

abbrev pub invariant-loop-p : goal.invariant-loop-p
invariant-loop-p l = record {
  zero : get_or l.starts 0 0 ≡ 0;
  steps : (q : ℕ) → q < l.p → get_or l.starts (q + 1) 0 ≡ get_or l.starts q 0 + (length (row l.market.proposers q) + 2);
  so_far : l.links ≡ get_or l.starts l.p 0;
  count : l.links ≡ sum_by (λ list. length list) (take l.p l.market.proposers) + 2 * l.p;
}
