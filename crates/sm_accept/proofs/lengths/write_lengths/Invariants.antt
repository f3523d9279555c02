use Rattle.std.proofs.Common.{◌≡◌, ℕ, ◌<◌, length, get_or}
use Rattle.sm_market.specs.Lists.{row}
use Rattle.sm_accept.proofs.lengths.write_lengths.Given as goal

abbrev pub invariant-loop-r : goal.invariant-loop-r
invariant-loop-r l = (s : ℕ) → s < l.r → get_or l.lengths s 0 ≡ length (row l.market.reviewers s)
