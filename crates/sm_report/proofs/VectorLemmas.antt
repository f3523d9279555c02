-- Numbers with commas between them.
use Rattle.std.proofs.Common.{◌≡◌, ℕ, ◌+◌, ◌-◌, ◌<◌, ◌≤◌, Bool, true, false, not, cond, nat_lt, List, [], ◌∷◌, length, take, drop, Some, None, refl, sym, ap, ◌∙◌, arith, length-drop}
use Rattle.std.specs.List.{position, position_or_len, slice_split, before_first, after_first}
use Rattle.std.proofs.lemmas.Bool.{ltb-true, ltb-false}
use Rattle.std.proofs.lemmas.Option.{none-some, same_Some}
use Rattle.std.proofs.lemmas.List.{take_all}
use Rattle.std.proofs.lemmas.List.Splits.{slice_split_first, slice_split_none}
use Rattle.std.proofs.lemmas.List.Sums.{fails_before_first, prefix_len-le-length}

by_place : (test : Bool) (n i : ℕ) → cond test (Some n) None ≡ Some i → (test ≡ true) × (n ≡ i)
by_place true n i e = (refl, same_Some _ _ e)
by_place false n i e = absurd (none-some _ e)

no_place : (test : Bool) (n : ℕ) → cond test (Some n) None ≡ None → test ≡ false
no_place true n e = absurd (none-some _ (sym e))
no_place false n e = refl

-- there is a mark: what stands before it and behind it, and the parts
pub parts_cut : (p : ℕ → Bool) (s : List ℕ) (i : ℕ) → position p s ≡ Some i
    → (slice_split p s ≡ take i s ∷ slice_split p (take (length s - (i + 1)) (drop (i + 1) s))) × (i < length s) × (length (take (length s - (i + 1)) (drop (i + 1) s)) < length s)
    × (take i s ≡ before_first p s) × (take (length s - (i + 1)) (drop (i + 1) s) ≡ after_first p s)
parts_cut p s i e =
    let b = by_place (nat_lt (position_or_len p s) (length s)) (position_or_len p s) i e in
    let here : position_or_len p s < length s = ltb-true (position_or_len p s) (length s) b.0 in
    let place : position_or_len p s ≡ i = b.1 in
    let below : i < length s = omega arith in
    let short : length (drop (i + 1) s) ≤ length s - (i + 1) = omega (arith, length-drop (i + 1) s) in
    let all : take (length s - (i + 1)) (drop (i + 1) s) ≡ drop (i + 1) s = take_all (length s - (i + 1)) (drop (i + 1) s) short in (
      slice_split_first p s 0 here ∙ ap (λ n. take n s ∷ slice_split p (drop (n + 1) s)) place ∙ ap (λ t. take i s ∷ slice_split p t) (sym all),
      below,
      omega (arith, ap length all, length-drop (i + 1) s),
      ap (λ n. take n s) (sym place),
      all ∙ ap (λ n. drop (n + 1) s) (sym place),
    )

-- there is none
pub parts_last : (p : ℕ → Bool) (s : List ℕ) → position p s ≡ None → (slice_split p s ≡ s ∷ []) × (position_or_len p s ≡ length s)
parts_last p s e =
    let test = no_place (nat_lt (position_or_len p s) (length s)) (position_or_len p s) e in
    let long : length s ≤ position_or_len p s = ltb-false (position_or_len p s) (length s) test in
    (slice_split_none p s (λ k d l. fails_before_first p s k d (omega (arith, l, long))), let most : position_or_len p s ≤ length s = prefix_len-le-length (λ b. not (p b)) s in omega (arith, most, long))
