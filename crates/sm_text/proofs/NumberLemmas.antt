-- The value of digits, from a place on.
use Rattle.std.proofs.Common.{◌≡◌, ℕ, ◌+◌, ◌-◌, ◌*◌, ◌<◌, ◌≤◌, ◌&&◌, leb, cond, Bool, true, false, List, [], ◌∷◌, length, get_or, drop, Option, Some, None, refl, arith}
use Rattle.std.proofs.lemmas.Bool.Decides.{nat_tests}
use Rattle.std.proofs.lemmas.List.{at_drop_more}
use Rattle.std.specs.List.{list_all}
use Rattle.sm_text.specs.Name.{is_digit}
use Rattle.sm_text.specs.Numbers.{value_behind, value_of}

-- more digits make no number smaller
pub value_behind-ge : (value : ℕ) (digits : List ℕ) → value ≤ value_behind value digits
value_behind-ge value [] = omega arith
value_behind-ge value (d ∷ digits) = omega (arith, value_behind-ge (10 * value + (d - 48)) digits)

-- one more digit
pub value_behind_drop : (value : ℕ) (digits : List ℕ) (i : ℕ) → i < length digits
    → value_behind value (drop i digits) ≡ value_behind (10 * value + (get_or digits i 0 - 48)) (drop (i + 1) digits)
value_behind_drop value digits i h = at_drop_more (value_behind value) digits i 0 h

-- a value that passes the greatest allowed with the next digit is too great
pub too_great : (digits : List ℕ) (i value most : ℕ) → i < length digits → value_behind value (drop i digits) ≡ value_of digits → most < 10 * value + (get_or digits i 0 - 48)
    → None ≡ cond (list_all is_digit digits && leb (value_of digits) most) (Some (value_of digits)) None
too_great digits i value most inside behind great =
    let more = value_behind_drop value digits i inside in
    let ge = value_behind-ge (10 * value + (get_or digits i 0 - 48)) (drop (i + 1) digits) in
    let no : leb (value_of digits) most ≡ false = grind (arith, nat_tests) in
    by_second (list_all is_digit digits) (leb (value_of digits) most) no
  where
    by_second : (a b : Bool) → b ≡ false → let none : Option ℕ = None in none ≡ cond (a && b) (Some (value_of digits)) none
    by_second true b e = rw e refl
    by_second false b e = refl
