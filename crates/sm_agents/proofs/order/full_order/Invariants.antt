use Rattle.std.proofs.Common.{◌≡◌, ◌++◌, ◌==◌, ℕ, filter, not}
use Rattle.std.specs.List.{list_any, range_with_len}
use Rattle.sm_agents.proofs.order.full_order.Given as goal

-- those that come first, and the others so far
abbrev pub invariant-numbers : goal.invariant-numbers
invariant-numbers l = l.order.items ≡ l.fn.first.items ++ filter (λ (n : ℕ). not (list_any (λ (m : ℕ). m == n) l.fn.first.items)) (range_with_len 0 l.number)
