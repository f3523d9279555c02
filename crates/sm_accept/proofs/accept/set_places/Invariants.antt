use Rattle.std.proofs.Common.{◌≡◌, ℕ, ◌<◌, ◌≤◌, length, get_or, None}
use Rattle.sm_market.specs.Lists.{row}
use Rattle.sm_market.specs.Matching.{held}
use Rattle.sm_accept.specs.Accepting.{EndsAt}
use Rattle.sm_accept.proofs.accept.set_places.Given as goal

abbrev pub invariant-loop-p : goal.invariant-loop-p
invariant-loop-p l = record {
  ended : (q : ℕ) → q < l.p → EndsAt (length (row l.market.proposers q)) (get_or l.next q 0) (held l.places q);
  rest : (q : ℕ) → l.p ≤ q → held l.places q ≡ None;
}
