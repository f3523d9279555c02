-- Ranks of levels, and the greatest of some ranks.
use Rattle.std.proofs.Common.{◌≡◌, ◌↔◌, ℕ, ◌+◌, ◌<◌, ◌≤◌, arith, refl, sym, ap, ◌∙◌, nat_cmp, List, [], length, map, fold, max, Bool, true, false, cond, slice_index, slice_index_or}
use Rattle.std.specs.List.{range_with_len}
use Rattle.std.specs.Ordering.{ord_max}
use Rattle.std.proofs.lemmas.Bool.Decides.{nat_tests}
use Rattle.std.proofs.lemmas.Bool.{false≢true}
use Rattle.std.proofs.lemmas.List.{get_or-map, get_or_past, length-map}
use Rattle.std.proofs.lemmas.List.FromFn.{get_or-map-range_with_len, length-map-range_with_len, map-range_with_len_more}
use Rattle.std.proofs.lemmas.List.Sums.{fold_push}
use Rattle.sm_lists.specs.Rows.{place_on, entry}
use Rattle.sm_lists.proofs.PlaceLemmas.{place_on-le-at, get_or-place_on}
use Rattle.sm_lists.proofs.RowLemmas.{row_in_range}
use Rattle.sm_market.specs.Lists.{Lists, row}
use Rattle.sm_theory.specs.Vectors.{AreLevels}
use Rattle.sm_theory.specs.Regrets.{AreRanks}
use Rattle.sm_board.specs.Board.{Board, stay_level}
use Rattle.sm_least.specs.Regrets.{rank_of_level, ranks_of_stays, ranks_along, AreForStays, greatest_of}

-- the rank of the level of a place is that of the place
pub rank_of_level-at : {l : Lists} {levels ranks : List (List ℕ)} → AreLevels l levels → AreRanks l levels ranks → (p i : ℕ) → i < length (row l.proposers p)
    → rank_of_level (row levels p) (row ranks p) (slice_index (row levels p) i) ≡ slice_index (row ranks p) i
rank_of_level-at {l} {levels} {ranks} rising w p i on =
    let level : ℕ = slice_index (row levels p) i in
    let low : place_on (row levels p) level ≤ i = place_on-le-at (row levels p) level i refl in
    let less : p < length l.proposers = row_in_range l.proposers p i on in
    w.alike p (place_on (row levels p) level) i (omega arith) on (get_or-place_on (row levels p) level (omega (arith, rising.per_place p less)))

-- one more number
pub greatest_of-suc : (f : ℕ → ℕ) (n : ℕ) → greatest_of f (n + 1) ≡ max (greatest_of f n) (f n)
greatest_of-suc f n = ap (fold max 0) (map-range_with_len_more f 0 n n (omega arith)) ∙ fold_push max 0 (map f (range_with_len 0 n)) (f n)

-- the greater of two numbers
pub greater_is : (a b : ℕ) → ord_max nat_cmp a b ≡ max a b
greater_is a b = grind (arith, nat_tests)

module _ (b : Board) (levels ranks : List (List ℕ)) where
  -- the ranks along the stays of a proposer, by whether it is matched
  along_row : (p : ℕ) (m : Bool) → p < length b.leaves → slice_index_or b.matched p false ≡ m
      → row (ranks_along b levels ranks) p ≡ cond m (map (rank_of_level (row levels p) (row ranks p)) (row b.levels p)) []
  along_row p m less is =
      get_or-map-range_with_len (ranks_of_stays b levels ranks) 0 (length b.leaves) p p [] less (omega arith)
      ∙ ap (λ (m : Bool). cond m (map (rank_of_level (row levels p) (row ranks p)) (row b.levels p)) []) is

  -- a stay of a matched proposer has a rank within a bound exactly where the rank along the stays is
  pub low_along : (bound p a : ℕ) → p < length b.leaves → a < length (row b.levels p)
      → (entry (ranks_along b levels ranks) p a ≤ bound) ↔ (slice_index_or b.matched p false ≡ true → rank_of_level (row levels p) (row ranks p) (stay_level b p a) ≤ bound)
  low_along bound p a less few = go (slice_index_or b.matched p false) refl
    where
      go : (m : Bool) → slice_index_or b.matched p false ≡ m
          → (entry (ranks_along b levels ranks) p a ≤ bound) ↔ (slice_index_or b.matched p false ≡ true → rank_of_level (row levels p) (row ranks p) (stay_level b p a) ≤ bound)
      go true is =
          let e : entry (ranks_along b levels ranks) p a ≡ rank_of_level (row levels p) (row ranks p) (stay_level b p a) =
          ap (λ (r : List ℕ). slice_index r a) (along_row p true less is) ∙ get_or-map (rank_of_level (row levels p) (row ranks p)) (row b.levels p) a 0 0 few in
          ((λ low _. omega (arith, e, low)), (λ low. omega (arith, e, low is)))
      go false is =
          let e : entry (ranks_along b levels ranks) p a ≡ 0 = ap (λ (r : List ℕ). slice_index r a) (along_row p false less is) ∙ get_or_past [] a 0 (omega arith) in
          ((λ _ matched. absurd (false≢true (sym is ∙ matched))), (λ _. omega (arith, e)))

  -- they are for stays
  pub for_stays : AreForStays b (ranks_along b levels ranks)
  for_stays = record {
    one_each = length-map-range_with_len (ranks_of_stays b levels ranks) 0 (length b.leaves);
    few = λ p less. go p less (slice_index_or b.matched p false) refl;
  }
    where
      go : (p : ℕ) → p < length b.leaves → (m : Bool) → slice_index_or b.matched p false ≡ m → length (row (ranks_along b levels ranks) p) ≤ length (row b.levels p)
      go p less true is = omega (arith, ap length (along_row p true less is), length-map (row b.levels p) (rank_of_level (row levels p) (row ranks p)))
      go p less false is = let e : row (ranks_along b levels ranks) p ≡ [] = along_row p false less is in omega (arith, ap length e)
