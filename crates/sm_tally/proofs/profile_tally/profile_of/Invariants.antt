use Rattle.std.proofs.Common.{◌≡◌, ◌≤◌, ◌==◌, nat_lt, take, count_by}
use Rattle.sm_tally.proofs.profile_tally.profile_of.Given as goal

-- each number is that of the ranks so far, no more than those are
abbrev pub invariant-loop-rank : goal.invariant-loop-rank
invariant-loop-rank l = record {
  first : l.first ≡ count_by (λ r. r == 1) (take l.rank-index l.ranks);
  second : l.second ≡ count_by (λ r. r == 2) (take l.rank-index l.ranks);
  third : l.third ≡ count_by (λ r. r == 3) (take l.rank-index l.ranks);
  greater : l.greater ≡ count_by (λ r. nat_lt 3 r) (take l.rank-index l.ranks);
  first_fits : l.first ≤ l.rank-index;
  second_fits : l.second ≤ l.rank-index;
  third_fits : l.third ≤ l.rank-index;
  greater_fits : l.greater ≤ l.rank-index;
}
