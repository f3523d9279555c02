-- Digits that are written from the last one on.
use Rattle.std.proofs.Common.{zero, suc, ◌*◌, ◌≡◌, ℕ, ◌+◌, ◌-◌, ◌<◌, ◌≤◌, ◌^◌, ◌/◌, ◌%◌, cond, ltb, false, List, [], ◌∷◌, ◌++◌, length, take, drop, refl, sym, ap, subst, ◌∙◌, arith, append_assoc, inl, inr, slice_set, decimal, ℤ, pos, negsuc, add-one}
use Rattle.std.proofs.lemmas.List.{drop-set, length-append, length-drop, append-nil, take_all}
use Rattle.std.specs.Fmt.{signed_decimal}
use Rattle.std.specs.Int.RustNames.{unsigned_abs}
use lib.Signed.{le_z}
use Rattle.std.proofs.lemmas.Bool.Decides.{nat_tests}
use Rattle.std.proofs.lemmas.Bool.{cases_lt}
use Rattle.std.proofs.lemmas.Grind.{common_steps}
use Rattle.std.proofs.Math.Nat.{pow-suc}
use Rattle.std.proofs.lemmas.Fmt.{decimal_digit, decimal_step}

-- the digits in front of the last one
abbrev pub front_digits : ℕ → List ℕ
front_digits n = cond (ltb n 10) [] (decimal (n / 10))

-- a number in decimal is its front digits and its last
pub decimal_split : (n : ℕ) → n < 2 ^ 64 → decimal n ≡ front_digits n ++ (48 + n % 10) ∷ []
decimal_split n h = elim (cases_lt n 10) [
  | inl small ↦ grind (arith, nat_tests, decimal_digit n small)
  | inr large ↦ grind (arith, nat_tests, decimal_step n large h)
]

-- the front digits are those of a tenth
pub front_digits_of_large : (n : ℕ) → 10 ≤ n → front_digits n ≡ decimal (n / 10)
front_digits_of_large n h = grind (arith, nat_tests)

-- the last digit
pub first_written : (ds : List ℕ) (v : ℕ) → length ds ≡ 20 → v < 2 ^ 64 → front_digits v ++ drop 19 (slice_set ds 19 (48 + v % 10)) ≡ decimal v
first_written ds v room small =
    let none : drop 20 ds ≡ [] = grind (arith, common_steps) in
    let written = drop-set ds 19 (48 + v % 10) (omega arith) in
    ap (λ t. front_digits v ++ t) (written ∙ ap (λ t. (48 + v % 10) ∷ t) none) ∙ sym (decimal_split v small)

-- one more digit in front of those that are written
pub more_written : (ds text : List ℕ) (rest start : ℕ) → length ds ≡ 20 → start < 20 → 0 < start → rest < 2 ^ 64 → 10 ≤ rest
    → front_digits rest ++ drop start ds ≡ text
    → front_digits (rest / 10) ++ drop (start - 1) (slice_set ds (start - 1) (48 + rest / 10 % 10)) ≡ text
more_written ds text rest start room inside above fits large written =
    let next : start - 1 + 1 ≡ start = omega arith in
    let here = drop-set ds (start - 1) (48 + rest / 10 % 10) (omega arith) in
    let digit = decimal_split (rest / 10) (omega arith) in
    ap (λ t. front_digits (rest / 10) ++ t) (here ∙ ap (λ n. (48 + rest / 10 % 10) ∷ drop n ds) next)
    ∙ sym (append_assoc (front_digits (rest / 10)) ((48 + rest / 10 % 10) ∷ []) (drop start ds))
    ∙ ap (λ t. t ++ drop start ds) (sym digit ∙ sym (front_digits_of_large rest large))
    ∙ written

one_more_power : (s : ℕ) → suc s + 1 ≡ suc (s + 1)
one_more_power s = omega arith

one_less_power : (s : ℕ) → s + 1 ≡ suc s - 1 + 1
one_less_power s = omega arith

ap_lt : (n : ℕ) {i j : ℕ} → i ≡ j → n < 10 ^ i → n < 10 ^ j
ap_lt n e h = subst (λ k. n < 10 ^ k) e h

-- a number of several digits leaves room for another digit
pub room_left : (rest start : ℕ) → 10 ≤ rest → rest < 10 ^ (start + 1) → (0 < start) × (rest / 10 < 10 ^ (start - 1 + 1))
room_left rest zero large small = absurd (omega arith)
room_left rest (suc s) large small =
    let step : 10 ^ (suc s + 1) ≡ 10 ^ (s + 1) * 10 = ap (λ n. 10 ^ n) (one_more_power s) ∙ pow-suc 10 (s + 1) in
    (omega arith, ap_lt (rest / 10) (one_less_power s) (omega arith))

-- `-` in front of the digits
pub signed_text : (ds text : List ℕ) (start : ℕ) → length ds ≡ 20 → start < 20 → drop start ds ≡ text
    → take (21 - start) (drop start (slice_set (0 ∷ (ds ++ [])) start 45)) ≡ 45 ∷ text
signed_text ds text start room inside written =
    let none : List ℕ = [] in
    let all : List ℕ = 0 ∷ (ds ++ []) in
    let same : ds ++ [] ≡ ds = append-nil ds in
    let put : drop start (slice_set all start 45) ≡ 45 ∷ text = drop-set all start 45 (omega (arith, length-append ds none)) ∙ ap (λ t. 45 ∷ t) (rw same (drop_behind start ds ∙ written)) in
    let count : length (45 ∷ text) ≡ 21 - start = omega (arith, length-drop start ds, ap length written) in
    ap (take (21 - start)) put ∙ take_all (21 - start) (45 ∷ text) (omega arith)
  where
    drop_behind : (n : ℕ) (xs : List ℕ) → drop (n + 1) (0 ∷ xs) ≡ drop n xs
    drop_behind n xs = ap (λ k. drop k (0 ∷ xs)) (add-one n)

-- a number below 0 has a minus before its size
pub signed_below : (z : ℤ) → le_z (pos 0) z ≡ false → 45 ∷ decimal (unsigned_abs z) ≡ signed_decimal z
signed_below (pos n) h = absurd (grind (arith, nat_tests))
signed_below (negsuc n) h = refl
