-- The order of all numbers below a count that some of them begin.
use Rattle.std.specs.Prelude.{ℕ, ◌==◌, not, List, ◌++◌, filter}
use Rattle.std.specs.List.{list_any, range_with_len}

-- the numbers below a count: first these, in their order, and then the others, which rise
abbrev pub full_order : ℕ → List ℕ → List ℕ
full_order count first = first ++ filter (λ (n : ℕ). not (list_any (λ (m : ℕ). m == n) first)) (range_with_len 0 count)
