use Rattle.std.proofs.Common.{◌≡◌, ◌+◌, ◌-◌, ◌<◌, ◌≤◌, map, Some}
use Rattle.std.specs.List.{range_with_len}
use Rattle.std.specs.Prelude.{vec_len, vec_capacity}
use Rattle.sm_instance.specs.Ranks.{worse_rank}
use Rattle.sm_seats.specs.Seating.{written_place}
use Rattle.sm_answer_pairs.proofs.regret.ranks_of.Given as goal

-- the ranks of the places so far, and that of the last level, 0 where there is none yet; there is room for the others
abbrev pub invariant-loop-i : goal.invariant-loop-i
invariant-loop-i l = record {
  ranks : l.ranks.items ≡ map (λ i. worse_rank l.instance l.p (Some (written_place l.seats l.p i))) (range_with_len 0 l.i);
  last : 0 < l.last → l.rank ≡ worse_rank l.instance l.p (Some (l.last - 1));
  room : vec_len l.ranks + (l.places - l.i) ≤ vec_capacity l.ranks;
}
