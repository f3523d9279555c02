use Rattle.std.proofs.Common.{◌≡◌, ◌*◌, pos, ◌+ℤ◌, neg_ℤ, ◌≤ℤ◌, map, fold}
use Rattle.std.specs.List.{range_with_len}
use Rattle.sm_text.specs.Limits.{most_weight}
use Rattle.sm_instance.specs.Matching.{held}
use Rattle.sm_instance.specs.Ranks.{pair_second}
use Rattle.sm_instance.proofs.instance.Instance.weigh_second.Given as goal

-- the weight so far, and how great its size can be
abbrev pub invariant-loop-p : goal.invariant-loop-p
invariant-loop-p l = record {
  weight : l.weight ≡ fold ◌+ℤ◌ (pos 0) (map (λ p. pair_second l.self p (held l.a.places.items p)) (range_with_len 0 l.p));
  below : neg_ℤ (pos (most_weight * l.p)) ≤ℤ l.weight;
  above : l.weight ≤ℤ pos (most_weight * l.p);
}
