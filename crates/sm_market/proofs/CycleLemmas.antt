-- Going round a cycle, and the pair in which it has a proposer.
use Rattle.std.proofs.Common.{◌≡◌, ◌≢◌, ℕ, zero, suc, ◌+◌, ◌-◌, ◌<◌, ◌⊎◌, inl, inr, arith, refl, sym, ◌∙◌, ◌==◌, if◌then◌else◌, List, Option, Some, length, eq-eqb, ne_eqb, lt-ltb, le-ltb}
use Rattle.std.proofs.lemmas.List.Sums.{position_or_len_is}
use Rattle.sm_market.specs.Lists.{Lists, place_of}
use Rattle.sm_market.specs.Matching.{held}
use Rattle.sm_market.specs.Cycles.{proposer_at, target_at, pair_of, place_after}
use Rattle.sm_lists.proofs.Counting.{eq_or_ne, less_same_more, search_below, First, Decided-eq}

-- the number that follows i round a cycle of n
abbrev pub turn : ℕ → ℕ → ℕ
turn n i = if i + 1 == n then 0 else i + 1

-- behind the last place of a cycle comes the first
pub turn_last : (n i : ℕ) → i + 1 ≡ n → turn n i ≡ 0
turn_last n i e = rw (eq-eqb (i + 1) n e)

-- behind each other place comes the next
pub turn_more : (n i : ℕ) → i + 1 ≢ n → turn n i ≡ i + 1
turn_more n i e = rw (ne_eqb (i + 1) n e)

-- going round stays on the cycle
pub turn_in : (n i : ℕ) → i < n → turn n i < n
turn_in n i h = elim (eq_or_ne (i + 1) n) [ inl e ↦ omega (arith, turn_last n i e) | inr e ↦ omega (arith, turn_more n i e) ]

-- two places with the same one behind them are one
pub turn_once : (n i j : ℕ) → i < n → j < n → turn n i ≡ turn n j → i ≡ j
turn_once n i j h k e = elim (eq_or_ne (i + 1) n) [
  | inl x ↦ elim (eq_or_ne (j + 1) n) [ inl y ↦ omega arith | inr y ↦ absurd (omega (arith, turn_last n i x, turn_more n j y)) ]
  | inr x ↦ elim (eq_or_ne (j + 1) n) [ inl y ↦ absurd (omega (arith, turn_more n i x, turn_last n j y)) | inr y ↦ omega (arith, turn_more n i x, turn_more n j y) ]
]

-- the number that j follows
pub record Follows (n j : ℕ) : Type 0 where
  pub at : ℕ
  pub below : at < n
  pub is : turn n at ≡ j

-- each place of a cycle is behind some place
pub follows : (n j : ℕ) → j < n → Follows n j
follows n zero h = record { at = n - 1; below = omega arith; is = turn_last n (n - 1) (omega arith) }
follows n (suc j) h = record { at = j; below = omega arith; is = turn_more n j (omega arith) ∙ omega arith }

-- one of the first n has the value x, or none of them has
pub among : (f : ℕ → ℕ) (n x : ℕ) → First n (λ j. f j ≡ x) ⊎ ((j : ℕ) → j < n → f j ≡ x → ⊥)
among f n x = search_below n (λ j. f j ≡ x) (λ j _. Decided-eq (f j) x)

-- in a cycle whose proposers differ each has one pair
pub record AreDistinct (cycle : List (ℕ × ℕ)) : Type 0 where
  pub distinct : (i j : ℕ) → i < j → j < length cycle → proposer_at cycle i ≢ proposer_at cycle j

module _ {cycle : List (ℕ × ℕ)} (x : AreDistinct cycle) where
  -- a proposer is in one pair of the cycle only
  pub one_pair : (i j : ℕ) → i < length cycle → j < length cycle → proposer_at cycle i ≡ proposer_at cycle j → i ≡ j
  one_pair i j a b e = elim (less_same_more i j) [
    | inl k ↦ absurd (x.distinct i j k b e)
    | inr d ↦ elim d [ inl k ↦ k | inr k ↦ absurd (x.distinct j i k a (sym e)) ]
  ]

  -- the pair of the proposer of pair i is pair i
  pub pair_at_is : (i : ℕ) → i < length cycle → pair_of cycle (proposer_at cycle i) ≡ i
  pair_at_is i a = position_or_len_is (λ pair. pair.0 == proposer_at cycle i) cycle i (0, 0) (omega arith)
      (λ k less. ne_eqb _ _ (λ e. x.distinct k i less a e))
      (λ _. eq-eqb _ _ refl)

  -- the proposers of the cycle move
  pub after_in : (l : Lists) (places : List (Option ℕ)) (i : ℕ) → i < length cycle → place_after l places cycle (proposer_at cycle i) ≡ Some (place_of l.proposers (proposer_at cycle i) (target_at cycle i))
  after_in l places i a = rw (pair_at_is i a, lt-ltb i (length cycle) a) refl

-- a proposer that is in no pair gets the length of the cycle
pub no_pair : (cycle : List (ℕ × ℕ)) (p : ℕ) → ((i : ℕ) → i < length cycle → proposer_at cycle i ≡ p → ⊥) → pair_of cycle p ≡ length cycle
no_pair cycle p none = position_or_len_is (λ pair. pair.0 == p) cycle (length cycle) (0, 0) (omega arith)
    (λ k less. ne_eqb _ _ (none k less))
    (λ less. absurd (omega arith))

-- all others stay
pub after_out : (l : Lists) (places : List (Option ℕ)) (cycle : List (ℕ × ℕ)) (p : ℕ) → ((i : ℕ) → i < length cycle → proposer_at cycle i ≡ p → ⊥) → place_after l places cycle p ≡ held places p
after_out l places cycle p none = rw (no_pair cycle p none, le-ltb (length cycle) (length cycle) (omega arith)) refl
