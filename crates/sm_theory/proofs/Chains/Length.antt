-- A chain has no more rotations than the lists of the proposers have entries.
use Rattle.std.proofs.Common.{◌≡◌, ℕ, zero, suc, ◌+◌, ◌<◌, ◌≤◌, inl, inr, arith, refl, List, [], length, take}
use Rattle.std.specs.List.{sum_by}
use Rattle.std.proofs.lemmas.List.Sums.{sum_by_more, sum_by-take-le}
use Rattle.sm_market.specs.Lists.{Lists, row, IsMarket}
use Rattle.sm_market.specs.Matching.{Places, IsMatching}
use Rattle.sm_lists.proofs.Counting.{lt_or_le, eq_or_ne}
use Rattle.sm_market.proofs.Core.{Sides, Stand}
use Rattle.sm_theory.specs.Chains.{AreEliminable}
use Rattle.sm_theory.proofs.Core.Cycle.{Cycle, moves_at}
use Rattle.sm_theory.proofs.Core.Chain.{Way, rise, up_at}
use Rattle.sm_theory.proofs.Bridge.Chain.{way_along}

-- the sum of the first n values
pub sum_below : (ℕ → ℕ) → ℕ → ℕ
sum_below f zero = 0
sum_below f (suc n) = sum_below f n + f n

-- the sum of no terms
pub sum_below-zero : (f : ℕ → ℕ) → sum_below f zero ≡ 0
unfolding sum_below
sum_below-zero f = refl

-- the sum of one more term
pub sum_below-suc : (f : ℕ → ℕ) (n : ℕ) → sum_below f (suc n) ≡ sum_below f n + f n
unfolding sum_below
sum_below-suc f n = refl

-- terms that are no greater have no greater sum
pub sums_le : (f g : ℕ → ℕ) (n : ℕ) → ((p : ℕ) → f p ≤ g p) → sum_below f n ≤ sum_below g n
sums_le f g zero le = omega (arith, sum_below-zero f, sum_below-zero g)
sums_le f g (suc n) le = omega (arith, sum_below-suc f n, sum_below-suc g n, sums_le f g n le, le n)

-- where one of them is less, the sum is less
pub sums_less : (f g : ℕ → ℕ) (n q : ℕ) → ((p : ℕ) → f p ≤ g p) → q < n → f q < g q → sum_below f n < sum_below g n
sums_less f g zero q le inside less = absurd (omega arith)
sums_less f g (suc n) q le inside less = elim (eq_or_ne q n) [
  | inl e ↦ let here : f n < g n = rw e at less in omega (arith, sum_below-suc f n, sum_below-suc g n, sums_le f g n le)
  | inr e ↦ omega (arith, sum_below-suc f n, sum_below-suc g n, sums_less f g n q le (omega arith) less, le n)
]

-- the lengths of the first n lists sum up to no more than those of all
pub sum_of_lengths : (rows : List (List ℕ)) (n : ℕ) → n ≤ length rows → sum_below (λ p. length (row rows p)) n ≤ sum_by (λ list. length list) rows
sum_of_lengths rows n fits = omega (arith, part n fits, sum_by-take-le (λ (list : List ℕ). length list) rows n)
  where
    part : (n : ℕ) → n ≤ length rows → sum_below (λ p. length (row rows p)) n ≤ sum_by (λ list. length list) (take n rows)
    part zero fits = omega (arith, sum_below-zero (λ p. length (row rows p)))
    part (suc n) fits =
        let more : sum_by (λ list. length list) (take (n + 1) rows) ≡ sum_by (λ list. length list) (take n rows) + length (row rows n) = sum_by_more (λ (list : List ℕ). length list) rows n [] (omega arith) in
        let e : n + 1 ≡ suc n = omega arith in
        let more' : sum_by (λ list. length list) (take (suc n) rows) ≡ sum_by (λ list. length list) (take n rows) + length (row rows n) = rw e at more in
        omega (arith, sum_below-suc (λ p. length (row rows p)) n, part n (omega arith))

module _ {s : Sides} {t : ℕ} {M : ℕ → Stand} {c : ℕ → Cycle} (ch : Way s t M c) where
  stage_sum : (k : ℕ) → k ≤ t → k ≤ sum_below ((M k).a) s.bound
  stage_sum zero h = omega arith
  stage_sum (suc k) h =
      let some = (ch.exposed k (omega arith)).some in
      let p : ℕ = (c k).who 0 in
      let on = ((ch.exposed k (omega arith)).paired 0 some).matched in
      let inside : p < s.bound = elim (lt_or_le p s.bound) [ inl x ↦ x | inr x ↦ absurd (omega (arith, s.left.few p x)) ] in
      omega (arith, stage_sum k (omega arith), sums_less ((M k).a) ((M (suc k)).a) s.bound p (λ q. rise ch q k (suc k) (omega arith) h) inside (up_at ch k p (omega arith) (moves_at (c k) 0 some)))

  chain_short : t ≤ sum_below s.len s.bound
  chain_short = omega (arith, stage_sum t (omega arith), sums_le ((M t).a) s.len s.bound (λ p. (ch.fit t (omega arith)).left.within p))

-- rotations that can be eliminated one after the other are no more than the entries of the proposers' lists
pub short_eliminable : {l : Lists} {first : Places} {rotations : List (List (ℕ × ℕ))} → IsMarket l → IsMatching l first → AreEliminable l first rotations → length rotations ≤ sum_by (λ list. length list) l.proposers
short_eliminable {l} {first} {rotations} h f chain =
    let short : length rotations ≤ sum_below (λ p. length (row l.proposers p)) (length l.proposers) = chain_short (way_along h f chain) in
    omega (arith, sum_of_lengths l.proposers (length l.proposers) (omega arith))
