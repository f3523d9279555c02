-- What stands at a place of lists that are joined.
use Rattle.std.proofs.Common.{◌≡◌, ℕ, zero, suc, ◌+◌, ◌-◌, ◌<◌, ◌≤◌, List, [], ◌∷◌, ◌++◌, length, map, get_or, Some, None, refl, ap, ◌∙◌, arith}
use Rattle.std.specs.List.{slice_get}

-- behind the last one
pub past_one : {X : Type 0} (x : X) (i : ℕ) → 0 < i → slice_get (x ∷ []) i ≡ None
past_one x zero some = absurd (omega arith)
past_one x (suc i) some = refl

-- in the first part of a list, whose items were changed twice, and behind it
module _ {A B C : Type 0} (f : B → C) (g : A → B) where
  -- the joined list is as long as both
  pub part_length : (xs : List A) (ys : List C) → length (map f (map g xs) ++ ys) ≡ length xs + length ys
  part_length [] ys = let e : length ys ≡ 0 + length ys = omega arith in e
  part_length (x ∷ xs) ys = let e = part_length xs ys in omega (arith, e)

  -- what stands in the first list stands there in the joined one
  pub part_before : (xs : List A) (ys : List C) (i : ℕ) (d : A) → i < length xs → slice_get (map f (map g xs) ++ ys) i ≡ Some (f (g (get_or xs i d)))
  part_before [] ys i d below = absurd (omega arith)
  part_before (x ∷ xs) ys zero d below = refl
  part_before (x ∷ xs) ys (suc i) d below = part_before xs ys i d (omega arith)

  -- what stands behind it stands in the second
  pub part_behind : (xs : List A) (ys : List C) (i : ℕ) → length xs ≤ i → slice_get (map f (map g xs) ++ ys) i ≡ slice_get ys (i - length xs)
  part_behind [] ys i past = let e : i ≡ i - 0 = omega arith in ap (slice_get ys) e
  part_behind (x ∷ xs) ys zero past = absurd (omega arith)
  part_behind (x ∷ xs) ys (suc i) past = part_behind xs ys i (omega arith) ∙ (let e : i - length xs ≡ suc i - length (x ∷ xs) = omega arith in ap (slice_get ys) e)
