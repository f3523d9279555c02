-- A search begins where nothing was looked for, and goes on once a rotation is eliminated.
use Rattle.std.proofs.Common.{◌≡◌, ℕ, inl, inr, arith, length, slice_index, replicate}
use Rattle.std.proofs.lemmas.List.{get_or-replicate, get_or_past, length-replicate}
use Rattle.sm_lists.proofs.Counting.{lt_or_le}
use Rattle.sm_market.specs.Lists.{entry}
use Rattle.sm_market.proofs.Bridge.{stable_of}
use Rattle.sm_theory.proofs.Core.Rotation.{never_up, never_worse}
use Rattle.sm_theory.proofs.Bridge.Rotation.{exposed_of, elim_of}
use Rattle.sm_successors.specs.Laws.{SearchBegins, SearchGoesOn}

-- a place where nothing was looked for
nothing_passed : (n p : ℕ) → slice_index (replicate n 0) p ≡ 0
nothing_passed n p = elim (lt_or_le p n) [
  | inl less ↦ get_or-replicate n p 0 0 less
  | inr more ↦ get_or_past (replicate n 0) p 0 (omega (arith, length-replicate {A = ℕ} n 0))
]

-- where nothing was looked for, nobody was passed
pub search_begins : SearchBegins
search_begins l m = record {
  one_each = length-replicate {A = ℕ} (length l.proposers) 0;
  passed = λ p i behind on before. absurd (omega (arith, before, nothing_passed (length l.proposers) p));
}

-- what the search has passed would not take p later either, as reviewers only gain by an elimination
pub search_goes_on : SearchGoesOn
search_goes_on l m rotation from h s x w = record {
  one_each = w.one_each;
  passed = λ p i behind on before takes. w.passed p i
      (omega (arith, behind, never_up (stable_of h s).fit (exposed_of h s.matching x) (elim_of h s.matching x) p))
      on
      before
      (omega (arith, takes, never_worse (stable_of h s).fit (exposed_of h s.matching x) (elim_of h s.matching x) (entry l.proposers p i)));
}
