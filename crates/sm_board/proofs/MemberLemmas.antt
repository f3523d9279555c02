-- How many of a list of rotations are members of a set.
use Rattle.std.proofs.Common.{◌≡◌, ◌≢◌, ℕ, zero, suc, ◌+◌, ◌<◌, ◌≤◌, inl, inr, arith, refl, sym, ap, ◌∙◌, subst, List, [], ◌∷◌, length, Bool, true, false, slice_index, set}
use Rattle.std.proofs.lemmas.List.{get_or-set_same, get_or-set_other}
use Rattle.std.proofs.lemmas.Bool.{false_from_ne_true}
use Rattle.sm_theory.specs.ClosedSets.{is_member, IsMember}
use Rattle.sm_theory.proofs.Bridge.Chain.{Decided-member}
use Rattle.sm_board.specs.Board.{members_in, IsInside}

-- one more in front: a member, or none
pub members_in-member : (C : List Bool) (x : ℕ) (xs : List ℕ) → IsMember C x → members_in C (x ∷ xs) ≡ suc (members_in C xs)
members_in-member C x xs e = rw e refl

-- and one that is no member counts for nothing
pub members_in-other : (C : List Bool) (x : ℕ) (xs : List ℕ) → (IsMember C x → ⊥) → members_in C (x ∷ xs) ≡ members_in C xs
members_in-other C x xs out = rw (false_from_ne_true (is_member C x) out) refl

-- no more members than entries
pub members_few : (C : List Bool) (xs : List ℕ) → members_in C xs ≤ length xs
members_few C [] = omega arith
members_few C (x ∷ xs) = elim (Decided-member C x) [
  | inl m ↦ omega (arith, members_in-member C x xs m, members_few C xs)
  | inr out ↦ omega (arith, members_in-other C x xs out, members_few C xs)
]

-- with each one the one before it is a member
abbrev pub Chained : List Bool → List ℕ → Type 0
Chained C xs = (a : ℕ) → a + 1 < length xs → IsMember C (slice_index xs (a + 1)) → IsMember C (slice_index xs a)

chained_tail : (C : List Bool) (x : ℕ) (xs : List ℕ) → Chained C (x ∷ xs) → Chained C xs
chained_tail C x xs c a h m =
    let e : suc (a + 1) ≡ suc a + 1 = omega arith in
    c (suc a) (omega arith) (subst (λ k. IsMember C (slice_index (x ∷ xs) k)) e m)

none_behind : (C : List Bool) (x : ℕ) (xs : List ℕ) → Chained C (x ∷ xs) → (IsMember C x → ⊥) → (a : ℕ) → a < length xs → IsMember C (slice_index xs a) → ⊥
none_behind C x [] c out a h m = omega arith
none_behind C x (y ∷ ys) c out zero h m = out (c 0 (omega arith) m)
none_behind C x (y ∷ ys) c out (suc a) h m = none_behind C y ys (chained_tail C x (y ∷ ys) c) (λ k. out (c 0 (omega arith) k)) a (omega arith) m

none_counted : (C : List Bool) (xs : List ℕ) → ((a : ℕ) → a < length xs → IsMember C (slice_index xs a) → ⊥) → members_in C xs ≡ 0
none_counted C [] none = refl
none_counted C (x ∷ xs) none = members_in-other C x xs (none 0 (omega arith)) ∙ none_counted C xs (λ a h. none (suc a) (omega arith))

-- then the members are the first ones
pub front : (C : List Bool) (xs : List ℕ) → Chained C xs → (a : ℕ) → a < length xs → (IsMember C (slice_index xs a) → a < members_in C xs) × (a < members_in C xs → IsMember C (slice_index xs a))
front C [] c a h = absurd (omega arith)
front C (x ∷ xs) c a h = elim (Decided-member C x) [
  | inl m ↦ inside m (front C xs (chained_tail C x xs c)) a h
  | inr out ↦ (
    (λ m. absurd (not_here out a h m)),
    (λ less. absurd (omega (arith, members_in-other C x xs out, none_counted C xs (none_behind C x xs c out)))),
  )
]
  where
    not_here : (IsMember C x → ⊥) → (a : ℕ) → a < length (x ∷ xs) → IsMember C (slice_index (x ∷ xs) a) → ⊥
    not_here out zero h m = out m
    not_here out (suc a) h m = none_behind C x xs c out a (omega arith) m

    inside : IsMember C x → ((a : ℕ) → a < length xs → (IsMember C (slice_index xs a) → a < members_in C xs) × (a < members_in C xs → IsMember C (slice_index xs a))) → (a : ℕ) → a < length (x ∷ xs) → (IsMember C (slice_index (x ∷ xs) a) → a < members_in C (x ∷ xs)) × (a < members_in C (x ∷ xs) → IsMember C (slice_index (x ∷ xs) a))
    inside m f zero h = ((λ _. omega (arith, members_in-member C x xs m)), (λ _. m))
    inside m f (suc a) h =
        let w = f a (omega arith) in
        ((λ k. omega (arith, members_in-member C x xs m, w.0 k)), (λ less. w.1 (omega (arith, members_in-member C x xs m))))

-- with more members more are counted
pub more_members : (C D : List Bool) (xs : List ℕ) → IsInside C D → members_in C xs ≤ members_in D xs
more_members C D [] inside = omega arith
more_members C D (x ∷ xs) inside = elim (Decided-member C x) [
  | inl m ↦ omega (arith, members_in-member C x xs m, members_in-member D x xs (inside x m), more_members C D xs inside)
  | inr out ↦ elim (Decided-member D x) [
    | inl k ↦ omega (arith, members_in-other C x xs out, members_in-member D x xs k, more_members C D xs inside)
    | inr k ↦ omega (arith, members_in-other C x xs out, members_in-other D x xs k, more_members C D xs inside)
  ]
]

-- a set with one more member
pub entered : (C : List Bool) (x : ℕ) → x < length C → IsMember (set C x true) x
entered C x h = get_or-set_same C x true false h

-- the others are members as before
pub is_member-set_other : (C : List Bool) (x y : ℕ) → y ≢ x → is_member (set C x true) y ≡ is_member C y
is_member-set_other C x y ne = get_or-set_other C x y true false ne

-- the items of a list are distinct
abbrev pub Differ : List ℕ → Type 0
Differ xs = (a c : ℕ) → a < c → c < length xs → slice_index xs a ≢ slice_index xs c

differ_tail : (x : ℕ) (xs : List ℕ) → Differ (x ∷ xs) → Differ xs
differ_tail x xs d a c h g = d (suc a) (suc c) (omega arith) (omega arith)

-- who isn't on the list changes no count
pub members_in-set_other : (C : List Bool) (x : ℕ) (xs : List ℕ) → ((a : ℕ) → a < length xs → slice_index xs a ≢ x) → members_in (set C x true) xs ≡ members_in C xs
members_in-set_other C x [] none = refl
members_in-set_other C x (y ∷ ys) none =
    let same : is_member (set C x true) y ≡ is_member C y = is_member-set_other C x y (none 0 (omega arith)) in
    let rest : members_in (set C x true) ys ≡ members_in C ys = members_in-set_other C x ys (λ a h. none (suc a) (omega arith)) in
    elim (Decided-member C y) [
      | inl m ↦ members_in-member (set C x true) y ys (same ∙ m) ∙ ap suc rest ∙ sym (members_in-member C y ys m)
      | inr out ↦ members_in-other (set C x true) y ys (λ m. out (sym same ∙ m)) ∙ rest ∙ sym (members_in-other C y ys out)
    ]

-- who is on it once adds one
pub members_in-set_member : (C : List Bool) (x : ℕ) (xs : List ℕ) → x < length C → (IsMember C x → ⊥) → Differ xs → (a : ℕ) → a < length xs → slice_index xs a ≡ x → members_in (set C x true) xs ≡ suc (members_in C xs)
members_in-set_member C x [] less out d a h e = absurd (omega arith)
members_in-set_member C x (y ∷ ys) less out d zero h e =
    members_in-member (set C x true) y ys (subst (IsMember (set C x true)) (sym e) (entered C x less))
    ∙ ap suc (members_in-set_other C x ys (λ a g k. d 0 (suc a) (omega arith) (omega arith) (e ∙ sym k)))
    ∙ ap suc (sym (members_in-other C y ys (λ m. out (subst (IsMember C) e m))))
members_in-set_member C x (y ∷ ys) less out d (suc a) h e =
    let same : is_member (set C x true) y ≡ is_member C y = is_member-set_other C x y (λ k. d 0 (suc a) (omega arith) (omega arith) (k ∙ sym e)) in
    let rest : members_in (set C x true) ys ≡ suc (members_in C ys) = members_in-set_member C x ys less out (differ_tail y ys d) a (omega arith) e in
    elim (Decided-member C y) [
      | inl m ↦ members_in-member (set C x true) y ys (same ∙ m) ∙ ap suc rest ∙ sym (ap suc (members_in-member C y ys m))
      | inr o ↦ members_in-other (set C x true) y ys (λ m. o (sym same ∙ m)) ∙ rest ∙ sym (ap suc (members_in-other C y ys o))
    ]
