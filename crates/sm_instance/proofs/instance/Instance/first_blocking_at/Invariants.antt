use Rattle.std.proofs.Common.{ℕ, ◌<◌}
use Rattle.sm_instance.specs.Stable.{Blocks}
use Rattle.sm_lists.specs.CompactNamings.{naming_at}
use Rattle.sm_instance.specs.Namings.{asked}
use Rattle.sm_instance.proofs.instance.Instance.first_blocking_at.Given as goal

-- none of those who list the reviewer blocks, so far
abbrev pub invariant-loop-e : goal.invariant-loop-e
invariant-loop-e l = (f : ℕ) → f < l.e → ¬ Blocks l.self l.a.places.items (naming_at (asked l.namings) f).by l.r
