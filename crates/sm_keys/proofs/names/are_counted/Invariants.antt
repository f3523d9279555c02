use Rattle.std.proofs.Common.{◌≡◌, ℕ, ◌<◌, None, Some, get_or}
use Rattle.sm_keys.proofs.names.are_counted.Given as goal

-- those so far hold their places
abbrev pub invariant-places : goal.invariant-places
invariant-places l = (i : ℕ) → i < l.place → get_or l.numbers i None ≡ Some i
