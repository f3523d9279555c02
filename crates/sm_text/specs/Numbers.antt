-- Numbers as they are written.
use Rattle.std.specs.Prelude.{ℕ, ◌+◌, ◌-◌, ◌*◌, ◌==◌, ◌&&◌, Bool, false, if◌then◌else◌, List, [], ◌∷◌, length, Option, Some, None, ℤ, pos, negsuc, nat_le, zero, suc}
use Rattle.std.specs.List.{list_all}
use Rattle.std.specs.Option.{option_map}
use Rattle.sm_text.specs.Name.{is_digit}

-- `0`, or a digit 1 to 9 followed by digits
abbrev pub is_number : List ℕ → Bool
is_number [] = false
is_number (d ∷ digits) = if d == 48 then length digits == 0 else (is_digit d && list_all is_digit digits)

-- the value of digits that stand behind others whose value is given
abbrev pub value_behind : ℕ → List ℕ → ℕ
value_behind value [] = value
value_behind value (d ∷ digits) = value_behind (10 * value + (d - 48)) digits

-- the number that some digits spell
abbrev pub value_of : List ℕ → ℕ
value_of digits = value_behind 0 digits

-- the number that a run spells, where it spells one that isn't above the greatest allowed
abbrev pub number_of : List ℕ → ℕ → Option ℕ
number_of run most = if is_number run && nat_le (value_of run) most then Some (value_of run) else None

-- a number with `-` before it, which `0` can't have
abbrev pub negated : Option ℕ → Option ℤ
negated None = None
negated (Some zero) = None
negated (Some (suc n)) = Some (negsuc n)

-- the signed number that a run spells, a number or `-` and a number, where its size isn't above the greatest allowed
abbrev pub signed_of : List ℕ → ℕ → Option ℤ
signed_of [] most = None
signed_of (b ∷ run) most = if b == 45 then negated (number_of run most) else option_map (λ n. pos n) (number_of (b ∷ run) most)
