use Rattle.std.proofs.Common.{ℕ, ◌<◌}
use Rattle.sm_rotations.specs.Following.{IsInNone}
use Rattle.sm_rotations.proofs.exposure.exposed.Given as goal

abbrev pub invariant-loop-p : goal.invariant-loop-p
invariant-loop-p l = (q : ℕ) → q < l.p → IsInNone l.market l.m.places q
