-- Where the proposers end.
use Rattle.std.specs.Prelude.{ℕ, List, Option, Some, None, map, length, slice_index, cond, nat_lt}
use Rattle.std.specs.List.{range_with_len}
use Rattle.sm_agents.specs.Written.{Written, row}

-- where a proposer ends that has come to a place of a list of this length
abbrev pub end_at : ℕ → ℕ → Option ℕ
end_at len place = cond (nat_lt place len) (Some place) None

-- where all of them end
abbrev pub ended_places : Written → List ℕ → List (Option ℕ)
ended_places w places = map (λ p. end_at (length (row w.proposers p)) (slice_index places p)) (range_with_len 0 (length w.proposers))
