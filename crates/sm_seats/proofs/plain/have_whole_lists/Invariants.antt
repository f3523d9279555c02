use Rattle.std.proofs.Common.{◌≡◌, ℕ, ◌<◌}
use Rattle.sm_agents.specs.Written.{row}
use Rattle.sm_seats.specs.Mutual.{mutual_row}
use Rattle.sm_seats.proofs.plain.have_whole_lists.Given as goal

abbrev pub invariant-loop-p : goal.invariant-loop-p
invariant-loop-p l = (p : ℕ) → p < l.p → mutual_row l.instance.proposers l.instance.reviewers p ≡ row l.instance.proposers p
