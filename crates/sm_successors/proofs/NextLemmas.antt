-- The first reviewer behind a proposer's partner that would take the proposer is its successor, if it has one.
use Rattle.std.proofs.Common.{◌≡◌, ℕ, ◌<◌, inl, inr, refl, ap, ◌∙◌, arith, length, Option, Some, None, IsSome, MatchOption}
use Rattle.sm_lists.proofs.Counting.{less_same_more}
use Rattle.sm_market.specs.Lists.{Lists, row, entry, IsMarket}
use Rattle.sm_market.specs.Matching.{Places, held, standing}
use Rattle.sm_market.specs.Pairing.{Paired, IsPairingOf}
use Rattle.sm_theory.specs.Rotations.{WouldTake, IsSuccessor, IsNext}
use Rattle.sm_theory.proofs.Chains.Links.{successor_named}
use Rattle.sm_theory.proofs.Chains.Holders.{holder_none, holder_some}

-- the first reviewer behind p's partner that would take p, and the proposer that has it, as they are read
module _ {l : Lists} {m : Paired} (h : IsMarket l) (made : IsPairingOf l m) (p i : ℕ) (on_list : i < length (row l.proposers p)) (behind : standing l.proposers m.places.proposers p < i)
    (takes : WouldTake l m.places p i) (passed : (j : ℕ) → standing l.proposers m.places.proposers p < j → j < i → ¬ WouldTake l m.places p j) where
  unmatched : (o : Option ℕ) → IsSome o → o ≡ None → ⊥
  unmatched None s e = grind (arith, s)
  unmatched (Some k) s e = grind arith

  none_else : held m.places.reviewers (entry l.proposers p i) ≡ None → (k : ℕ) → ¬ IsSuccessor l m.places p k
  none_else none k x = elim (less_same_more k i) [
    | inl less ↦ passed k x.behind less x.takes
    | inr d ↦ elim d [
      | inl same ↦ unmatched (held m.places.reviewers (entry l.proposers p k)) x.matched (ap (λ k. held m.places.reviewers (entry l.proposers p k)) same ∙ none)
      | inr more ↦ x.first i behind more takes
    ]
  ]

  -- the successor of p is the holder of this reviewer, and where nobody holds it p has none
  pub next_answer : (o : Option ℕ) → held m.holders (entry l.proposers p i) ≡ o → MatchOption o ((k : ℕ) → ¬ IsSuccessor l m.places p k) (λ q. IsNext l m.places p q)
  next_answer None e = none_else (holder_none made (entry l.proposers p i) e)
  next_answer (Some q) e =
      let w = holder_some made (entry l.proposers p i) q e in
      let x : IsSuccessor l m.places p i = record { on_list = on_list; behind = behind; takes = takes; first = passed; matched = w.matched } in
      record { target = entry l.proposers p i; next = successor_named l m.places p i (entry l.proposers p i) h x refl; has = w.has }

-- the first behind p's partner that would take p is its successor, if it has one
pub first_is : {l : Lists} {m : Places} {p i k : ℕ} → IsSuccessor l m p i → ((j : ℕ) → standing l.proposers m.proposers p < j → j < k → ¬ WouldTake l m p j)
    → (k < length (row l.proposers p) → standing l.proposers m.proposers p < k) → (k < length (row l.proposers p) → WouldTake l m p k) → k ≡ i
first_is {l} {m} {p} {i} {k} x passed behind takes = elim (less_same_more k i) [
  | inl less ↦ let on : k < length (row l.proposers p) = omega (arith, x.on_list) in absurd (x.first k (behind on) less (takes on))
  | inr d ↦ elim d [ inl same ↦ same | inr more ↦ absurd (passed i x.behind more x.takes) ]
]
