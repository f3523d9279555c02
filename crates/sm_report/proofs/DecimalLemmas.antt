-- Numbers in decimal are the texts that spell them.
use Rattle.std.proofs.Common.{◌≡◌, ℕ, suc, zero, ◌+◌, ◌-◌, ◌*◌, ◌/◌, ◌%◌, ◌^◌, ◌<◌, ◌≤◌, ◌==◌, ◌&&◌, cond, nat_le, Bool, true, false, List, [], ◌∷◌, ◌++◌, length, Option, Some, None, option_map, refl, sym, ap, ◌∙◌, subst, arith, append_assoc, append-nil, decimal, ℤ, pos, negsuc}
use Rattle.std.proofs.lemmas.Bool.Decides.{nat_tests}
use Rattle.std.proofs.lemmas.Bool.{leb-true, and_from}
use Rattle.std.proofs.lemmas.Fmt.{decimal_step, decimal_digit, decimal_by_steps, decimal_nonempty}
use Rattle.std.proofs.lemmas.List.Folds.{list_all-append}
use Rattle.std.proofs.lemmas.Option.{none-some, same_Some}
use Rattle.std.specs.Fmt.{signed_decimal}
use Rattle.std.specs.Int.RustNames.{unsigned_abs}
use Rattle.std.specs.List.{list_all}
use Rattle.sm_text.specs.Name.{is_digit}
use Rattle.sm_text.specs.Numbers.{is_number, value_behind, value_of, number_of, negated, signed_of}
use Rattle.sm_text.proofs.NumberLemmas.{value_behind-ge}
use Rattle.sm_lists.proofs.BoolLemmas.{first_true, second_true}

-- a digit is between `0` and `9`
digit_ge : (d : ℕ) → is_digit d ≡ true → 48 ≤ d
digit_ge d h = leb-true 48 d (first_true (nat_le 48 d) (nat_le d 57) h)

digit_le : (d : ℕ) → is_digit d ≡ true → d ≤ 57
digit_le d h = leb-true d 57 (second_true (nat_le 48 d) (nat_le d 57) h)

is_digit-from : (d : ℕ) → 48 ≤ d → d ≤ 57 → is_digit d ≡ true
is_digit-from d low high = grind (arith, nat_tests)

-- the digits behind a number that isn't 0
decimal_behind : (v : ℕ) (ds : List ℕ) → 0 < v → list_all is_digit ds ≡ true → value_behind v ds < 2 ^ 64 → decimal (value_behind v ds) ≡ decimal v ++ ds
decimal_behind v [] some digits fits = sym (append-nil (decimal v))
decimal_behind v (d ∷ ds) some digits fits =
    let here = first_true (is_digit d) (list_all is_digit ds) digits in
    let rest = second_true (is_digit d) (list_all is_digit ds) digits in
    let w : ℕ = 10 * v + (d - 48) in
    let low : 48 ≤ d = digit_ge d here in
    let high : d ≤ 57 = digit_le d here in
    let more : w ≤ value_behind w ds = value_behind-ge w ds in
    let tenth : w / 10 ≡ v = omega arith in
    let last : 48 + w % 10 ≡ d = omega arith in
    decimal_behind w ds (omega arith) rest fits
    ∙ ap (λ t. t ++ ds) (decimal_step w (omega arith) (omega arith) ∙ ap (λ n. decimal n ++ (48 + w % 10) ∷ []) tenth ∙ ap (λ n. decimal v ++ n ∷ []) last)
    ∙ append_assoc (decimal v) (d ∷ []) ds

-- one digit more at the end
value_behind-append : (v : ℕ) (ds : List ℕ) (d : ℕ) → value_behind v (ds ++ d ∷ []) ≡ 10 * value_behind v ds + (d - 48)
value_behind-append v [] d = refl
value_behind-append v (x ∷ ds) d = value_behind-append (10 * v + (x - 48)) ds d

-- what spells a number
record Spells (n : ℕ) (ds : List ℕ) : Type 0 where
  number : is_number ds ≡ true
  digits : list_all is_digit ds ≡ true
  value : value_of ds ≡ n

one_digit : (n : ℕ) → n < 10 → Spells n ((48 + n) ∷ [])
one_digit n small =
    let here : is_digit (48 + n) ≡ true = is_digit-from (48 + n) (omega arith) (omega arith) in
    record {
      number = by_first ((48 + n) == 48) here;
      digits = and_from (is_digit (48 + n)) true here refl;
      value = omega arith;
    }
  where
    by_first : (t : Bool) → is_digit (48 + n) ≡ true → cond t true (is_digit (48 + n) && true) ≡ true
    by_first true here = refl
    by_first false here = and_from (is_digit (48 + n)) true here refl

number_more : (ds : List ℕ) (c : ℕ) → is_number ds ≡ true → is_digit c ≡ true → 0 < value_of ds → is_number (ds ++ c ∷ []) ≡ true
number_more [] c number last some = absurd cc
number_more (d ∷ ds) c number last some = by_first (d == 48) refl number where
  by_first : (t : Bool) → (d == 48) ≡ t → cond t (length ds == 0) (is_digit d && list_all is_digit ds) ≡ true
      → cond t (length (ds ++ c ∷ []) == 0) (is_digit d && list_all is_digit (ds ++ c ∷ [])) ≡ true
  by_first true is h = absurd (zero_spelt ds (grind (arith, nat_tests)) (grind (arith, nat_tests)) some)
    where
      zero_spelt : (ds : List ℕ) → length ds ≡ 0 → d ≡ 48 → 0 < value_of (d ∷ ds) → ⊥
      zero_spelt [] none is0 h = omega arith
      zero_spelt (x ∷ xs) none is0 h = omega arith
  by_first false is h =
      and_from (is_digit d) (list_all is_digit (ds ++ c ∷ [])) (first_true (is_digit d) (list_all is_digit ds) h)
      (list_all-append is_digit ds (c ∷ []) ∙ and_from (list_all is_digit ds) (is_digit c && true) (second_true (is_digit d) (list_all is_digit ds) h) (and_from (is_digit c) true last refl))

more_digits : (n : ℕ) (ds : List ℕ) → 10 ≤ n → Spells (n / 10) ds → Spells n (ds ++ (48 + n % 10) ∷ [])
more_digits n ds large s =
    let last : is_digit (48 + n % 10) ≡ true = is_digit-from (48 + n % 10) (omega arith) (omega arith) in
    let value : value_of ds ≡ n / 10 = s.value in
    record {
      number = number_more ds (48 + n % 10) s.number last (omega arith);
      digits = list_all-append is_digit ds ((48 + n % 10) ∷ []) ∙ and_from (list_all is_digit ds) (is_digit (48 + n % 10) && true) s.digits (and_from (is_digit (48 + n % 10)) true last refl);
      value = value_behind-append 0 ds (48 + n % 10) ∙ omega (arith, value);
    }

decimal_spells : (n : ℕ) → n < 2 ^ 64 → Spells n (decimal n)
decimal_spells n small = decimal_by_steps Spells one_digit more_digits n small

-- the digits of a number
pub digits_of_decimal : (n : ℕ) → n < 2 ^ 64 → list_all is_digit (decimal n) ≡ true
digits_of_decimal n small = (decimal_spells n small).digits

-- a number is spelt by what it is in decimal
pub number_of-decimal : (n most : ℕ) → n ≤ most → most < 2 ^ 64 → number_of (decimal n) most ≡ Some n
number_of-decimal n most within small =
    let s = decimal_spells n (omega arith) in
    let fits : nat_le (value_of (decimal n)) most ≡ true = by_value (value_of (decimal n)) s.value in
    ap (λ t. cond t (Some (value_of (decimal n))) None) (and_from (is_number (decimal n)) (nat_le (value_of (decimal n)) most) s.number fits) ∙ ap (λ v. Some v) s.value
  where
    by_value : (v : ℕ) → v ≡ n → nat_le v most ≡ true
    by_value v e = grind (arith, nat_tests)

-- and only by that
decimal_of_number : (run : List ℕ) → is_number run ≡ true → value_of run < 2 ^ 64 → decimal (value_of run) ≡ run
decimal_of_number [] number fits = absurd cc
decimal_of_number (d ∷ ds) number fits = by_first (d == 48) refl number where
  by_first : (t : Bool) → (d == 48) ≡ t → cond t (length ds == 0) (is_digit d && list_all is_digit ds) ≡ true → decimal (value_of (d ∷ ds)) ≡ d ∷ ds
  by_first true is h = zero_spelt ds (grind (arith, nat_tests)) (grind (arith, nat_tests))
    where
      zero_spelt : (ds : List ℕ) → length ds ≡ 0 → d ≡ 48 → decimal (value_of (d ∷ ds)) ≡ d ∷ ds
      zero_spelt [] none is0 = let z : 10 * 0 + (d - 48) ≡ 0 = omega arith in ap decimal z ∙ decimal_digit 0 (omega arith) ∙ ap (λ n. n ∷ []) (let e : 48 + 0 ≡ d = omega arith in e)
      zero_spelt (x ∷ xs) none is0 = absurd (omega arith)
  by_first false is h =
      let here = first_true (is_digit d) (list_all is_digit ds) h in
      let low : 48 ≤ d = digit_ge d here in
      let high : d ≤ 57 = digit_le d here in
      let other : 48 < d = grind (arith, nat_tests) in
      let first : 48 + (10 * 0 + (d - 48)) ≡ d = omega arith in
      decimal_behind (10 * 0 + (d - 48)) ds (omega arith) (second_true (is_digit d) (list_all is_digit ds) h) fits
      ∙ ap (λ t. t ++ ds) (decimal_digit (10 * 0 + (d - 48)) (omega arith) ∙ ap (λ n. n ∷ []) first)

-- what a text that spells a number says
pub record SpeltNumber (run : List ℕ) (most n : ℕ) : Type 0 where
  pub within : n ≤ most
  pub same : decimal n ≡ run

-- a text that is read as a number is its decimal, and the number is within the bound
pub number_spelt : (run : List ℕ) (most n : ℕ) → most < 2 ^ 64 → number_of run most ≡ Some n → SpeltNumber run most n
number_spelt run most n small e = by_test (is_number run && nat_le (value_of run) most) refl e where
  by_test : (t : Bool) → (is_number run && nat_le (value_of run) most) ≡ t → cond t (Some (value_of run)) None ≡ Some n → SpeltNumber run most n
  by_test false is e = absurd (none-some n e)
  by_test true is e =
      let same : value_of run ≡ n = same_Some _ _ e in
      let within : value_of run ≤ most = leb-true (value_of run) most (second_true (is_number run) (nat_le (value_of run) most) is) in
      record {
        within = omega arith;
        same = ap decimal (sym same) ∙ decimal_of_number run (first_true (is_number run) (nat_le (value_of run) most) is) (omega arith);
      }

-- signed numbers: with `-` before those below 0
pub signed_of-decimal : (z : ℤ) (most : ℕ) → unsigned_abs z ≤ most → most < 2 ^ 64 → signed_of (signed_decimal z) most ≡ Some z
signed_of-decimal (pos n) most within small = by_digits (decimal n) (decimal_nonempty n (omega arith)) (digits_of_decimal n (omega arith)) (number_of-decimal n most within small) where
  by_test : (b : ℕ) (run : List ℕ) (t : Bool) → (b == 45) ≡ t → is_digit b ≡ true → number_of (b ∷ run) most ≡ Some n
      → cond t (negated (number_of run most)) (option_map (λ n. pos n) (number_of (b ∷ run) most)) ≡ Some (pos n)
  by_test b run true is digit h = let low : 48 ≤ b = digit_ge b digit in absurd (grind (arith, nat_tests))
  by_test b run false is digit h = ap (option_map (λ n. pos n)) h

  by_digits : (ds : List ℕ) → 0 < length ds → list_all is_digit ds ≡ true → number_of ds most ≡ Some n → signed_of ds most ≡ Some (pos n)
  by_digits [] some digits h = absurd (omega arith)
  by_digits (b ∷ run) some digits h = by_test b run (b == 45) refl (first_true (is_digit b) (list_all is_digit run) digits) h
signed_of-decimal (negsuc n) most within small = ap negated (number_of-decimal (suc n) most within small)

-- what a text that spells a signed number says
pub record SpeltSigned (run : List ℕ) (most : ℕ) (z : ℤ) : Type 0 where
  pub within : unsigned_abs z ≤ most
  pub same : signed_decimal z ≡ run

negative_spelt : (run : List ℕ) (most : ℕ) (z : ℤ) (o : Option ℕ) → most < 2 ^ 64 → number_of run most ≡ o → negated o ≡ Some z → SpeltSigned (45 ∷ run) most z
negative_spelt run most z None small is e = absurd (none-some z e)
negative_spelt run most z (Some zero) small is e = absurd (none-some z e)
negative_spelt run most z (Some (suc n)) small is e =
    let s = number_spelt run most (suc n) small is in
    subst (λ z. SpeltSigned (45 ∷ run) most z) (same_Some _ _ e) (record { within = s.within; same = ap (λ t. 45 ∷ t) s.same })

positive_spelt : (run : List ℕ) (most : ℕ) (z : ℤ) (o : Option ℕ) → most < 2 ^ 64 → number_of run most ≡ o → option_map (λ n. pos n) o ≡ Some z → SpeltSigned run most z
positive_spelt run most z None small is e = absurd (none-some z e)
positive_spelt run most z (Some n) small is e =
    let s = number_spelt run most n small is in
    subst (λ z. SpeltSigned run most z) (same_Some _ _ e) (record { within = s.within; same = s.same })

-- a text that is read as a signed number is its decimal, and its size is within the bound
pub signed_spelt : (run : List ℕ) (most : ℕ) (z : ℤ) → most < 2 ^ 64 → signed_of run most ≡ Some z → SpeltSigned run most z
signed_spelt [] most z small e = absurd (none-some z e)
signed_spelt (b ∷ run) most z small e = by_test (b == 45) refl e where
  by_test : (t : Bool) → (b == 45) ≡ t → cond t (negated (number_of run most)) (option_map (λ n. pos n) (number_of (b ∷ run) most)) ≡ Some z → SpeltSigned (b ∷ run) most z
  by_test true is e = let same : 45 ≡ b = grind (arith, nat_tests) in subst (λ c. SpeltSigned (c ∷ run) most z) same (negative_spelt run most z (number_of run most) small refl e)
  by_test false is e = positive_spelt (b ∷ run) most z (number_of (b ∷ run) most) small refl e
