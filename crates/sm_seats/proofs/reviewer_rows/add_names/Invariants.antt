use Rattle.std.proofs.Common.{◌≡◌, ◌++◌, ℕ, map}
use Rattle.std.specs.List.{range_with_len}
use Rattle.sm_seats.proofs.reviewer_rows.add_names.Given as goal

abbrev pub invariant-loop-k : goal.invariant-loop-k
invariant-loop-k l = l.seats.items ≡ l.initial.seats.items ++ map (λ (k : ℕ). (l.r, k)) (range_with_len 1 l.k)
