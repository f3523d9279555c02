-- The numbers of a range, one more at a time.
use Rattle.std.proofs.Common.{◌≡◌, ◌+◌, ℕ, zero, suc, [], ◌∷◌, ◌++◌, map, max, Bool, true, false, cond, refl, ap, ◌∙◌, arith}
use Rattle.std.specs.List.{range_with_len, filter, fold}
use Rattle.std.proofs.lemmas.List.{map-append}
use Rattle.std.proofs.lemmas.List.Elements.{filter-append}
use Rattle.std.proofs.lemmas.Grind.{fold-append}

pub range_more : (a n j : ℕ) → a + n ≡ j → range_with_len a (n + 1) ≡ range_with_len a n ++ j ∷ []
range_more a zero j e = let h : a ≡ j = omega arith in ap (λ t. t ∷ []) h
range_more a (suc n) j e =
    let s : suc n + 1 ≡ suc (n + 1) = omega arith in
    ap (range_with_len a) s ∙ ap (λ t. a ∷ t) (range_more (a + 1) n j (omega arith))

-- those that pass a test
pub filter_more : (test : ℕ → Bool) (n : ℕ) → filter test (range_with_len 0 (suc n)) ≡ filter test (range_with_len 0 n) ++ cond (test n) (n ∷ []) []
filter_more test n =
    let s : suc n ≡ n + 1 = omega arith in
    ap (λ k. filter test (range_with_len 0 k)) s ∙ ap (filter test) (range_more 0 n n (omega arith)) ∙ filter-append test (range_with_len 0 n) (n ∷ [])

-- the greatest of a function of those that pass a test
pub greatest_more : (test : ℕ → Bool) (f : ℕ → ℕ) (start n : ℕ) → fold max start (map f (filter test (range_with_len 0 (suc n))))
    ≡ cond (test n) (max (fold max start (map f (filter test (range_with_len 0 n)))) (f n)) (fold max start (map f (filter test (range_with_len 0 n))))
greatest_more test f start n =
    ap (λ ns. fold max start (map f ns)) (filter_more test n)
    ∙ ap (fold max start) (map-append f (filter test (range_with_len 0 n)) (cond (test n) (n ∷ []) []))
    ∙ fold-append max start (map f (filter test (range_with_len 0 n))) (map f (cond (test n) (n ∷ []) []))
    ∙ by_test (test n) (fold max start (map f (filter test (range_with_len 0 n)))) where
      by_test : (b : Bool) (so_far : ℕ) → fold max so_far (map f (cond b (n ∷ []) [])) ≡ cond b (max so_far (f n)) so_far
      by_test true so_far = refl
      by_test false so_far = refl
