-- Sets that lie between two sets, and their difference.
use Rattle.std.proofs.Common.{◌≡◌, ℕ, zero, suc, ◌+◌, ◌<◌, ◌≤◌, ◌⊎◌, inl, inr, arith, refl, sym, ap, ◌∙◌, Bool, true, false, not, ◌&&◌, ◌||◌, if◌then◌else◌, nat_lt, List, map, length, set, slice_set, lt-ltb, le-ltb, ext_get_or}
use Rattle.std.specs.List.{range_with_len}
use Rattle.std.proofs.lemmas.List.{length-set, get_or-set_same, get_or-set_other, get_or_past}
use Rattle.std.proofs.lemmas.List.FromFn.{get_or-map-range_with_len, length-map-range_with_len}
use Rattle.std.proofs.lemmas.Bool.{ltb-true}
use Rattle.sm_lists.proofs.Counting.{lt_or_le, eq_or_ne}
use Rattle.sm_theory.specs.ClosedSets.{is_member, IsMember}
use Rattle.sm_theory.specs.Routes.{is_only_in, difference}

-- of two sets of n rotations: the rotations of the first set that are below i or in the other too
abbrev pub front_of : (one other : List Bool) (n i : ℕ) → List Bool
front_of one other n i = map (λ k. is_member one k && (nat_lt k i || is_member other k)) (range_with_len 0 n)

-- what is in it
pub front_at : (one other : List Bool) (n i k : ℕ) → k < n → is_member (front_of one other n i) k ≡ is_member one k && (nat_lt k i || is_member other k)
front_at one other n i k h = get_or-map-range_with_len (λ k. is_member one k && (nat_lt k i || is_member other k)) 0 n k k false h (omega arith)

-- it has an item for each rotation
pub front_long : (one other : List Bool) (n i : ℕ) → length (front_of one other n i) ≡ n
front_long one other n i = length-map-range_with_len (λ k. is_member one k && (nat_lt k i || is_member other k)) 0 n

-- a member is one of the rotations
pub member_within : (set : List Bool) (k : ℕ) → IsMember set k → k < length set
member_within set k h = elim (lt_or_le k (length set)) [ inl less ↦ less | inr more ↦ absurd (grind (arith, h, get_or_past set k false more)) ]

and_true : (a : Bool) → (a && true) ≡ a
and_true true = refl
and_true false = refl

and_back : (a b : Bool) → (a && (false || b)) ≡ (b && (false || a))
and_back true true = refl
and_back true false = refl
and_back false true = refl
and_back false false = refl

-- with all of them it is the first set
pub front_all : (one other : List Bool) (n : ℕ) → length one ≡ n → front_of one other n n ≡ one
front_all one other n e = ext_get_or false (front_of one other n n) one (front_long one other n n ∙ sym e) (λ k h.
    let g : k < n = omega (arith, h, front_long one other n n) in
    front_at one other n n k g ∙ (rw (lt-ltb k n g) (and_true (is_member one k))))

-- with none of them it is what both have
pub front_none : (one other : List Bool) (n : ℕ) → front_of one other n 0 ≡ front_of other one n 0
front_none one other n = ext_get_or false (front_of one other n 0) (front_of other one n 0) (front_long one other n 0 ∙ sym (front_long other one n 0)) (λ k h.
    let g : k < n = omega (arith, h, front_long one other n 0) in
    front_at one other n 0 k g ∙ (rw (le-ltb k 0 (omega arith)) (and_back (is_member one k) (is_member other k))) ∙ sym (front_at other one n 0 k g))

-- below the next number is below this one, but for this one itself
below_next : (k i : ℕ) → (k ≡ i → ⊥) → nat_lt k (suc i) ≡ nat_lt k i
below_next k i other = elim (lt_or_le k i) [
  | inl less ↦ lt-ltb k (suc i) (omega arith) ∙ sym (lt-ltb k i less)
  | inr more ↦ le-ltb k (suc i) (omega arith) ∙ sym (le-ltb k i more)
]

-- one further, the set differs at most by that one
pub front_others : (one other : List Bool) (n i k : ℕ) → (k ≡ i → ⊥) → is_member (front_of one other n (suc i)) k ≡ is_member (front_of one other n i) k
front_others one other n i k apart = elim (lt_or_le k n) [
  | inl g ↦ front_at one other n (suc i) k g ∙ ap (λ b. is_member one k && (b || is_member other k)) (below_next k i apart) ∙ sym (front_at one other n i k g)
  | inr g ↦ get_or_past (front_of one other n (suc i)) k false (omega (arith, front_long one other n (suc i))) ∙ sym (get_or_past (front_of one other n i) k false (omega (arith, front_long one other n i)))
]

only_parts : (a b : Bool) → (a && not b) ≡ true → (a ≡ true) × (b ≡ false)
only_parts true false e = (refl, refl)
only_parts true true e = (refl, sym e)
only_parts false b e = (e, grind (arith, e))

not_only : (a b : Bool) → (a && not b) ≡ false → (a && true) ≡ (a && (false || b))
not_only true true e = refl
not_only true false e = grind (arith, e)
not_only false b e = refl

-- where it is in the first set alone, it is what is new
pub front_new : (one other : List Bool) (n i : ℕ) → i < n → is_only_in one other i ≡ true → (is_member (front_of one other n i) i ≡ false) × IsMember (front_of one other n (suc i)) i
front_new one other n i g only =
    let parts = only_parts (is_member one i) (is_member other i) only in (
      front_at one other n i i g ∙ (rw (parts.0, parts.1, le-ltb i i (omega arith)) refl),
      front_at one other n (suc i) i g ∙ (rw (parts.0, lt-ltb i (suc i) (omega arith)) refl),
    )

-- elsewhere nothing is new
pub front_same : (one other : List Bool) (n i : ℕ) → i < n → is_only_in one other i ≡ false → front_of one other n (suc i) ≡ front_of one other n i
front_same one other n i g none = ext_get_or false (front_of one other n (suc i)) (front_of one other n i) (front_long one other n (suc i) ∙ sym (front_long one other n i)) (λ k h. elim (eq_or_ne k i) [
  | inr apart ↦ front_others one other n i k apart
  | inl same ↦ rw same here
])
  where
    after : is_member (front_of one other n (suc i)) i ≡ (is_member one i && true)
    after = front_at one other n (suc i) i g ∙ ap (λ b. is_member one i && (b || is_member other i)) (lt-ltb i (suc i) (omega arith))

    before : is_member (front_of one other n i) i ≡ (is_member one i && (false || is_member other i))
    before = front_at one other n i i g ∙ ap (λ b. is_member one i && (b || is_member other i)) (le-ltb i i (omega arith))

    here : is_member (front_of one other n (suc i)) i ≡ is_member (front_of one other n i) i
    here = after ∙ not_only (is_member one i) (is_member other i) none ∙ sym before

-- to add the new one goes one further, and to take it out comes back
pub front_forth : (one other : List Bool) (n i : ℕ) → i < n → is_only_in one other i ≡ true → slice_set (front_of one other n i) i true ≡ front_of one other n (suc i)
front_forth one other n i g only = ext_get_or false (set (front_of one other n i) i true) (front_of one other n (suc i)) (length-set (front_of one other n i) i true ∙ front_long one other n i ∙ sym (front_long one other n (suc i))) (λ k h. elim (eq_or_ne k i) [
  | inr apart ↦ get_or-set_other (front_of one other n i) i k true false apart ∙ sym (front_others one other n i k apart)
  | inl same ↦ rw same (get_or-set_same (front_of one other n i) i true false (omega (arith, front_long one other n i)) ∙ sym (front_new one other n i g only).1)
])

pub front_back : (one other : List Bool) (n i : ℕ) → i < n → is_only_in one other i ≡ true → slice_set (front_of one other n (suc i)) i false ≡ front_of one other n i
front_back one other n i g only = ext_get_or false (set (front_of one other n (suc i)) i false) (front_of one other n i) (length-set (front_of one other n (suc i)) i false ∙ front_long one other n (suc i) ∙ sym (front_long one other n i)) (λ k h. elim (eq_or_ne k i) [
  | inr apart ↦ get_or-set_other (front_of one other n (suc i)) i k false false apart ∙ front_others one other n i k apart
  | inl same ↦ rw same (get_or-set_same (front_of one other n (suc i)) i false false (omega (arith, front_long one other n (suc i))) ∙ sym (front_new one other n i g only).0)
])

-- 1 where two sets differ at a rotation, and 0 where they don't
abbrev differs : Bool → Bool → ℕ
differs a b = if (a && not b) || (b && not a) then 1 else 0

no_difference : (a b : Bool) → a ≡ b → differs a b ≡ 0
no_difference true true e = refl
no_difference false false e = refl
no_difference true false e = grind (arith, e)
no_difference false true e = grind (arith, e)

at_most_one : (a b : Bool) → differs a b ≤ 1
at_most_one true true = omega arith
at_most_one false false = omega arith
at_most_one true false = omega arith
at_most_one false true = omega arith

either_way : (a b : Bool) → differs a b ≡ differs b a
either_way true true = refl
either_way false false = refl
either_way true false = refl
either_way false true = refl

over_third : (a b c : Bool) → differs a c ≤ differs a b + differs b c
over_third true true true = omega arith
over_third true true false = omega arith
over_third true false true = omega arith
over_third true false false = omega arith
over_third false true true = omega arith
over_third false true false = omega arith
over_third false false true = omega arith
over_third false false false = omega arith

-- the difference of sets that agree
pub difference_none : (left right : List Bool) (n : ℕ) → ((k : ℕ) → k < n → is_member left k ≡ is_member right k) → difference left right n ≡ 0
difference_none left right zero same = refl
difference_none left right (suc n) same = omega (arith, difference_none left right n (λ k h. same k (omega arith)), no_difference (is_member left n) (is_member right n) (same n (omega arith)))

-- and of those that agree but for one rotation
pub difference_one : (left right : List Bool) (n k : ℕ) → ((j : ℕ) → (j ≡ k → ⊥) → is_member left j ≡ is_member right j) → difference left right n ≤ 1
difference_one left right zero k same = omega arith
difference_one left right (suc n) k same = elim (eq_or_ne n k) [
  | inl e ↦ omega (arith, difference_none left right n (λ j h. same j (λ w. omega arith)), at_most_one (is_member left n) (is_member right n))
  | inr e ↦ omega (arith, difference_one left right n k same, no_difference (is_member left n) (is_member right n) (same n e))
]

-- the difference is the same either way
pub difference_back : (left right : List Bool) (n : ℕ) → difference left right n ≡ difference right left n
difference_back left right zero = refl
difference_back left right (suc n) = omega (arith, difference_back left right n, either_way (is_member left n) (is_member right n))

-- and no greater than over a third set
pub difference_over : (left middle right : List Bool) (n : ℕ) → difference left right n ≤ difference left middle n + difference middle right n
difference_over left middle right zero = omega arith
difference_over left middle right (suc n) = omega (arith, difference_over left middle right n, over_third (is_member left n) (is_member middle n) (is_member right n))

and_split : (a b c : Bool) → (a && (b || c)) ≡ true → (a ≡ true) × ((b ≡ true) ⊎ (c ≡ true))
and_split true true c e = (refl, inl refl)
and_split true false c e = (refl, inr e)
and_split false b c e = (e, grind (arith, e))

and_join : (a b c : Bool) → a ≡ true → (b ≡ true) ⊎ (c ≡ true) → (a && (b || c)) ≡ true
and_join true true c e f = refl
and_join true false c e (inl f) = grind (arith, f)
and_join true false c e (inr f) = f
and_join false b c e f = e

-- a member is in the first set
pub front_first : (one other : List Bool) (n i k : ℕ) → k < n → IsMember (front_of one other n i) k → IsMember one k
front_first one other n i k h member = (and_split (is_member one k) (nat_lt k i) (is_member other k) (sym (front_at one other n i k h) ∙ member)).0

-- and is low or in the other
pub front_second : (one other : List Bool) (n i k : ℕ) → k < n → IsMember (front_of one other n i) k → (k < i) ⊎ IsMember other k
front_second one other n i k h member = elim (and_split (is_member one k) (nat_lt k i) (is_member other k) (sym (front_at one other n i k h) ∙ member)).1 [
  | inl e ↦ inl (ltb-true k i e)
  | inr e ↦ inr e
]

-- and what is so is a member
pub front_into : (one other : List Bool) (n i k : ℕ) → k < n → IsMember one k → (k < i) ⊎ IsMember other k → IsMember (front_of one other n i) k
front_into one other n i k h member or = front_at one other n i k h ∙ and_join (is_member one k) (nat_lt k i) (is_member other k) member (elim or [ inl less ↦ inl (lt-ltb k i less) | inr e ↦ inr e ])
