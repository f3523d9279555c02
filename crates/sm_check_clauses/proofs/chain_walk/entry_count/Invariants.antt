use Rattle.std.proofs.Common.{◌≡◌, ℕ, List, length, take}
use Rattle.std.specs.List.{sum_by}
use Rattle.sm_check_clauses.proofs.chain_walk.entry_count.Given as goal

abbrev pub invariant-loop-p : goal.invariant-loop-p
invariant-loop-p l = l.count ≡ sum_by (λ (list : List ℕ). length list) (take l.p l.market.proposers)
