-- Lists to which numbers are added.
use Rattle.std.proofs.Common.{◌≡◌, ◌≢◌, ℕ, ◌+◌, inl, inr, arith, refl, List, [], ◌∷◌, ◌++◌, cond, replicate}
use Rattle.std.specs.Bool.{nat_eq}
use Rattle.std.proofs.lemmas.Bool.{eq-eqb, ne_eqb}
use Rattle.std.proofs.lemmas.List.{get_or-replicate, get_or_past, length-replicate}
use Rattle.std.proofs.lemmas.List.Sums.{sum_by_push}
use Rattle.sm_market.specs.Lists.{row}
use Rattle.sm_lists.proofs.Counting.{lt_or_le}
use Rattle.sm_rotations.specs.Graph.{times}
use Rattle.sm_rotations.proofs.TimesLemmas.{num_true, num_false}

-- lists of which each is empty
pub row-replicate : (n i : ℕ) → row (replicate n []) i ≡ []
row-replicate n i = elim (lt_or_le i n) [
  | inl h ↦ get_or-replicate n i [] [] h
  | inr h ↦ get_or_past (replicate n []) i [] (omega (arith, length-replicate {A = List ℕ} n []))
]

-- a number that is added stands there once more
pub times-push_same : (xs : List ℕ) (x : ℕ) → times (xs ++ x ∷ []) x ≡ times xs x + 1
times-push_same xs x =
    omega (arith, num_true (nat_eq x x) (eq-eqb x x refl), sum_by_push (λ z. cond (nat_eq z x) 1 0) xs x)

-- each other number stands there as often as before
pub times-push_other : (xs : List ℕ) (x k : ℕ) → x ≢ k → times (xs ++ x ∷ []) k ≡ times xs k
times-push_other xs x k ne =
    omega (arith, num_false (nat_eq x k) (ne_eqb x k ne), sum_by_push (λ z. cond (nat_eq z k) 1 0) xs x)
