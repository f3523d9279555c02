use Rattle.std.proofs.Common.{◌≡◌, ℕ, ◌<◌, ◌≤◌, true}
use Rattle.sm_agents.specs.Written.{capacity_of}
use Rattle.sm_instance.specs.Matching.{load}
use Rattle.sm_check_answers.specs.Tried.{is_touched}
use Rattle.sm_check_answers.proofs.tried.are_within.Given as goal

-- the touched reviewers so far
abbrev pub invariant-loop-r : goal.invariant-loop-r
invariant-loop-r l = (s : ℕ) → s < l.r → is_touched l.touched s ≡ true → load l.instance l.a.places.items s ≤ capacity_of l.instance.reviewers s
