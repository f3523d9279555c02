use Rattle.std.proofs.Common.{◌≡◌, max, map, fold}
use Rattle.std.specs.List.{range_with_len}
use Rattle.sm_instance.specs.Matching.{held}
use Rattle.sm_instance.specs.Ranks.{worse_rank}
use Rattle.sm_instance.proofs.instance.Instance.regret.Given as goal

-- the regret so far
abbrev pub invariant-loop-p : goal.invariant-loop-p
invariant-loop-p l = l.regret ≡ fold max 0 (map (λ p. worse_rank l.self p (held l.a.places.items p)) (range_with_len 0 l.p))
