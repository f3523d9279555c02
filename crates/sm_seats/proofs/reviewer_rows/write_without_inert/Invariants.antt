use Rattle.std.proofs.Common.{◌≡◌, ◌+◌, ◌-◌, ◌≤◌, length, take}
use Rattle.std.specs.List.{filter}
use Rattle.std.specs.Prelude.{vec_len, vec_capacity}
use Rattle.sm_agents.specs.Written.{row}
use Rattle.sm_seats.specs.Mutual.{lists_back}
use Rattle.sm_seats.proofs.reviewer_rows.write_without_inert.Given as goal

-- those so far are kept, and there is room for the others
abbrev pub invariant-loop-place : goal.invariant-loop-place
invariant-loop-place l = record {
  kept : l.kept.items ≡ filter (lists_back l.instance.proposers l.r) (take l.place (row l.instance.reviewers l.r));
  room : vec_len l.kept + (length l.list - l.place) ≤ vec_capacity l.kept;
}
