-- Rank vectors and their order, and what a matching is worth: its regret and its weight. Ranks are written places counted
-- from 1.
use Rattle.std.specs.Prelude.{ℕ, ◌+◌, max, List, length, map, fold, Option, Some, None, ℤ, pos, ◌+ℤ◌}
use Rattle.std.specs.List.{range_with_len}
-- the order of rank vectors, in which the proposers are compared in a given order
pub use Rattle.sm_lists.specs.Orders.{IsBefore}
use Rattle.sm_agents.specs.Written.{Written, entry, place_of, given_weight, second_weight}
use Rattle.sm_agents.specs.Nonzero.{HasNonzero}
use Rattle.sm_instance.specs.Matching.{held, standing}
use Rattle.sm_agents.specs.declared.kinds.Measure.{Measure}
use Rattle.sm_agents.specs.declared.kinds.Measure.TheVariants.{Ranks, Given}

-- the order of the proposers in which vectors are compared
abbrev pub order_of : Written → List ℕ
order_of w = w.order

-- for each proposer the rank of its partner, or one more than the length of its list where it is unmatched
abbrev pub rank_vector_of : Written → List (Option ℕ) → List ℕ
rank_vector_of w places = map (λ p. standing w places p + 1) (range_with_len 0 (length w.proposers))

-- the rank that the reviewer at a place of p's list gives p
abbrev pub rank_back : Written → ℕ → ℕ → ℕ
rank_back w p i = place_of w.reviewers (entry w.proposers p i) p + 1

-- the greater of the ranks that p and its partner give each other, 0 where p is unmatched
abbrev pub worse_rank : Written → ℕ → Option ℕ → ℕ
worse_rank w p None = 0
worse_rank w p (Some i) = max (rank_back w p i) (i + 1)

-- the greatest rank that an agent of a matched pair gives its partner, 0 where nobody is matched
-- (Gusfield and Irving 1989, section 3.4.1)
abbrev pub regret_of : Written → List (Option ℕ) → ℕ
regret_of w places = fold max 0 (map (λ p. worse_rank w p (held places p)) (range_with_len 0 (length w.proposers)))

-- the weight of p and its partner, 0 where p is unmatched
abbrev pub pair_weight : Measure → Written → ℕ → Option ℕ → ℤ
pair_weight by w p None = pos 0
pair_weight Ranks w p (Some i) = pos (i + 1 + rank_back w p i)
pair_weight Given w p (Some i) = given_weight w p (entry w.proposers p i)

-- the sum over the matched pairs, of the given weights or of both ranks (Gusfield and Irving 1989, section 3.6)
abbrev pub weight_of : Measure → Written → List (Option ℕ) → ℤ
weight_of by w places = fold ◌+ℤ◌ (pos 0) (map (λ p. pair_weight by w p (held places p)) (range_with_len 0 (length w.proposers)))

-- a pair has a second weight that isn't 0
abbrev pub HasSeconds : Written → Type 0
HasSeconds w = HasNonzero w.seconds

-- the second weight of p and its partner, 0 where p is unmatched
abbrev pub pair_second : Written → ℕ → Option ℕ → ℤ
pair_second w p None = pos 0
pair_second w p (Some i) = second_weight w p (entry w.proposers p i)

-- the sum of the second weights over the matched pairs
abbrev pub second_weight_of : Written → List (Option ℕ) → ℤ
second_weight_of w places = fold ◌+ℤ◌ (pos 0) (map (λ p. pair_second w p (held places p)) (range_with_len 0 (length w.proposers)))

-- the second sum of a matching: that of the second weights, and 0 where it is weighed by ranks
abbrev pub second_of : Measure → Written → List (Option ℕ) → ℤ
second_of Ranks w places = pos 0
second_of Given w places = second_weight_of w places
