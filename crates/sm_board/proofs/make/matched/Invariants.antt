use Rattle.std.proofs.Common.{◌≡◌, map, is_some}
use Rattle.std.specs.List.{range_with_len}
use Rattle.sm_market.specs.Matching.{held}
use Rattle.sm_board.proofs.make.matched.Given as goal

abbrev pub invariant-loop-p : goal.invariant-loop-p
invariant-loop-p l = l.matched.items ≡ map (λ p. is_some (held l.poset.first.places.proposers p)) (range_with_len 0 l.p)
