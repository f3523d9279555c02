-- Ranks, regrets and weights, one proposer after another.
use Rattle.std.proofs.Common.{◌≡◌, ℕ, ◌+◌, ◌∷◌, [], map, fold, sym, ap, ◌∙◌, arith, max, nat_cmp}
use Rattle.std.proofs.lemmas.List.FromFn.{map-range_with_len_more}
use Rattle.std.proofs.lemmas.List.Sums.{fold-append}
use Rattle.std.specs.List.{range_with_len}
use Rattle.std.specs.Ordering.{ord_max}
use Rattle.std.proofs.lemmas.Bool.Decides.{nat_tests}

-- a fold over the numbers below k, and over one more
pub fold_below_more : {X Y : Type 0} (g : Y → X → Y) (start : Y) (f : ℕ → X) (k : ℕ) → fold g start (map f (range_with_len 0 (k + 1))) ≡ g (fold g start (map f (range_with_len 0 k))) (f k)
fold_below_more g start f k = ap (fold g start) (map-range_with_len_more f 0 k k (omega arith)) ∙ fold-append g start (map f (range_with_len 0 k)) (f k ∷ [])

-- the greater of two numbers
pub ord_max-is : (a b : ℕ) → ord_max nat_cmp a b ≡ max a b
ord_max-is a b = grind (arith, nat_tests)

-- the fold so far, taken on by the item at k
pub fold_on : {X Y : Type 0} (g : Y → X → Y) (start : Y) (f : ℕ → X) (k : ℕ) (so_far : Y) (item : X) → so_far ≡ fold g start (map f (range_with_len 0 k)) → item ≡ f k → g so_far item ≡ fold g start (map f (range_with_len 0 (k + 1)))
fold_on g start f k so_far item is here = ap (λ y. g y item) is ∙ ap (g (fold g start (map f (range_with_len 0 k)))) here ∙ sym (fold_below_more g start f k)
