use Rattle.std.proofs.Common.{◌≡◌, ℕ, ◌<◌, get_or}
use Rattle.sm_instance_lines.proofs.formats.are_counted.Given as goal

-- those so far hold their places
abbrev pub invariant-places : goal.invariant-places
invariant-places l = (k : ℕ) → k < l.place → get_or l.numbers k 0 ≡ k
