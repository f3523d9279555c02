use Rattle.std.proofs.Common.{inl, inr, arith}
use Rattle.sm_lists.proofs.Counting.{eq_or_ne}
use Rattle.sm_rotations.proofs.FollowingLemmas.{lowest_of, nothing_of}
use Rattle.sm_rotations.proofs.exposure.exposed.Goals as goal

pub returns-then-branch : goal.returns-then-branch
returns-then-branch c = lowest_of c.loop-p.invariant (c.in_ok-leads_back.ensures.found c.if-branch.true)

pub loop-p-preserved : goal.loop-p-preserved
loop-p-preserved c = λ q less. elim (eq_or_ne q c.loop-p.p) [
  | inl e ↦ rw e (c.in_ok-leads_back.ensures.none c.if-branch.false)
  | inr ne ↦ c.loop-p.invariant q (omega arith)
]

pub returns : goal.returns
returns c = nothing_of c.requires.made.matching (λ q less. c.loop-p.invariant q (omega (arith, c.loop-p-test.false, c.proposers-p-end.ensures.count)))
