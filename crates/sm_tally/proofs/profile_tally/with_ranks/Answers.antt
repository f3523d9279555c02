use Rattle.std.proofs.Common.{◌≡◌, ◌==◌, nat_lt, ℕ, Bool, count_by, ap, arith}
use Rattle.std.proofs.lemmas.List.{nil_from_length}
use Rattle.std.specs.Slice.Iter.{chunks_rest}
use Rattle.sm_tally.proofs.profile_tally.with_ranks.Goals as goal

-- none is left to count
nothing : (c : goal.In-None) (p : ℕ → Bool) → count_by p (chunks_rest c.loop-part.part-iterator) ≡ 0
nothing c p = ap (count_by p) (nil_from_length _ c.in-None.ensures.steps.1.0)

pub returns-clause-first : goal.returns-clause-first
returns-clause-first c = omega (arith, nothing c (λ r. r == 1), c.loop-part.invariant.first, c.loop-part.invariant.first_fits)

pub returns-clause-second : goal.returns-clause-second
returns-clause-second c = omega (arith, nothing c (λ r. r == 2), c.loop-part.invariant.second, c.loop-part.invariant.second_fits)

pub returns-clause-third : goal.returns-clause-third
returns-clause-third c = omega (arith, nothing c (λ r. r == 3), c.loop-part.invariant.third, c.loop-part.invariant.third_fits)

pub returns-clause-greater : goal.returns-clause-greater
returns-clause-greater c = omega (arith, nothing c (λ r. nat_lt 3 r), c.loop-part.invariant.greater, c.loop-part.invariant.greater_fits)
