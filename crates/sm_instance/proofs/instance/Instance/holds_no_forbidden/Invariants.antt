use Rattle.std.proofs.Common.{ℕ, ◌<◌, IsTrue}
use Rattle.sm_lists.specs.Pairs.{pair_at}
use Rattle.sm_instance.specs.Matching.{is_at}
use Rattle.sm_instance.proofs.instance.Instance.holds_no_forbidden.Given as goal

-- the pairs so far
abbrev pub invariant-loop-n : goal.invariant-loop-n
invariant-loop-n l = (k : ℕ) → k < l.n → ¬ IsTrue (is_at l.self l.a.places.items (pair_at l.forbidden k).0 (pair_at l.forbidden k).1)
