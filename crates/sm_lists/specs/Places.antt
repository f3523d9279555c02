-- A place in one number: one more than the place, and 0 where there is none.
use Rattle.std.specs.Prelude.{◌≡◌, ℕ, zero, suc, List, map, Option, Some, None, unwrap_or, refl}

-- the place that a number says
abbrev pub place_before : ℕ → Option ℕ
place_before zero = None
place_before (suc place) = Some place

-- the number that says a place
abbrev pub past_of : Option ℕ → ℕ
past_of None = zero
past_of (Some place) = suc place

-- the number that says the place that a number says is that number
pub past_of-place_before : (past : ℕ) → past_of (place_before past) ≡ past
past_of-place_before zero = refl
past_of-place_before (suc place) = refl

-- places along a list, with 0 where there is none
abbrev pub places_in : List (Option ℕ) → List ℕ
places_in crosses = map (λ (o : Option ℕ). unwrap_or o 0) crosses
