use Rattle.std.proofs.Common.{◌≡◌, ℕ, ◌<◌, slice_index}
use Rattle.sm_check_answers.proofs.listing.is_behind.Given as goal

-- the two are alike at the proposers so far
abbrev pub invariant-loop-j : goal.invariant-loop-j
invariant-loop-j l = (i : ℕ) → i < l.j → slice_index l.before (slice_index l.order i) ≡ slice_index l.v (slice_index l.order i)
