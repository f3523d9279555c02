-- Rising numbers that are all among others, of which there are as many.
use Rattle.std.proofs.Common.{◌≡◌, ◌≢◌, ℕ, ◌+◌, ◌-◌, ◌<◌, ◌≤◌, inl, inr, arith, sym, ap, ◌∙◌, List, [], ◌∷◌, ◌++◌, length, slice_index}
use Rattle.std.specs.List.{Contains}
use Rattle.std.proofs.lemmas.List.{get_or_append_left, get_or_push, length_push, get_or_default}
use Rattle.sm_lists.specs.Rows.{place_on}
use Rattle.sm_lists.proofs.Counting.{lt_or_le, eq_or_ne, one_to_one-le}
use Rattle.sm_lists.proofs.PlaceLemmas.{get_or-place_on, place_on-lt}

-- who is on a list has a place there
pub place_in : (xs : List ℕ) (x : ℕ) → Contains xs x → place_on xs x < length xs
place_in xs x w = place_on-lt xs x w.0 w.1 (sym (get_or_default xs w.0 x 0 w.1) ∙ w.2)

-- who stands at a place of a list is on it
pub contains_at : (xs : List ℕ) (x k : ℕ) → k < length xs → slice_index xs k ≡ x → Contains xs x
contains_at xs x k less e = (k, less, get_or_default xs k x 0 less ∙ e)

-- no number comes twice on a list
pub record AreApart (xs : List ℕ) : Type 0 where
  pub apart : (i j : ℕ) → i < j → j < length xs → slice_index xs i ≢ slice_index xs j

-- numbers of which none comes twice are no more than others among which they all are
no_more : (xs ys : List ℕ) → AreApart xs → ((i : ℕ) → i < length xs → Contains ys (slice_index xs i)) → length xs ≤ length ys
no_more xs ys d among = one_to_one-le (length xs) (length ys) (λ i. place_on ys (slice_index xs i)) (λ i less. place_in ys (slice_index xs i) (among i less))
    (λ i j less inside same. d.apart i j less inside
    (sym (get_or-place_on ys (slice_index xs i) (place_in ys (slice_index xs i) (among i (omega arith)))) ∙ ap (slice_index ys) same ∙ get_or-place_on ys (slice_index xs j) (place_in ys (slice_index xs j) (among j inside))))

-- where these are as many, they are all of them
pub all_among : (xs ys : List ℕ) → AreApart xs → ((i : ℕ) → i < length xs → Contains ys (slice_index xs i)) → length ys ≤ length xs → (y : ℕ) → Contains ys y → Contains xs y
all_among xs ys d among few y w = elim (lt_or_le (place_on xs y) (length xs)) [
  | inl on ↦ contains_at xs y (place_on xs y) on (get_or-place_on xs y on)
  | inr off ↦
      let more : length (xs ++ y ∷ []) ≤ length ys = no_more (xs ++ y ∷ []) ys (record { apart = apart off }) among' in
      absurd (omega (arith, length_push xs y))
]
  where
    old : (k : ℕ) → k < length xs → slice_index (xs ++ y ∷ []) k ≡ slice_index xs k
    old k less = get_or_append_left xs (y ∷ []) 0 k less

    new : (k : ℕ) → k ≡ length xs → slice_index (xs ++ y ∷ []) k ≡ y
    new k e = get_or_push xs y 0 k (sym e)

    among' : (i : ℕ) → i < length (xs ++ y ∷ []) → Contains ys (slice_index (xs ++ y ∷ []) i)
    among' i less = elim (eq_or_ne i (length xs)) [
      | inl e ↦ rw (new i e) w
      | inr ne ↦ rw (old i (omega (arith, length_push xs y))) (among i (omega (arith, length_push xs y)))
    ]

    apart : length xs ≤ place_on xs y → (i j : ℕ) → i < j → j < length (xs ++ y ∷ []) → slice_index (xs ++ y ∷ []) i ≢ slice_index (xs ++ y ∷ []) j
    apart off i j less inside e = elim (eq_or_ne j (length xs)) [
      | inl is ↦ absurd (omega (arith, place_on-lt xs y i (omega arith) (sym (old i (omega arith)) ∙ e ∙ new j is)))
      | inr ne ↦ d.apart i j less (omega (arith, length_push xs y)) (sym (old i (omega (arith, length_push xs y))) ∙ e ∙ old j (omega (arith, length_push xs y)))
    ]

-- lists of the same numbers, of which none comes twice, are equally long
pub as_many : (xs ys : List ℕ) → AreApart xs → AreApart ys → ((i : ℕ) → i < length xs → Contains ys (slice_index xs i)) → ((i : ℕ) → i < length ys → Contains xs (slice_index ys i)) → length xs ≡ length ys
as_many xs ys d e there back = let one = no_more xs ys d there in let two = no_more ys xs e back in omega arith

-- numbers that rise don't come twice
pub apart_rising : {xs : List ℕ} → ((a b : ℕ) → a < b → b < length xs → slice_index xs a < slice_index xs b) → AreApart xs
apart_rising rising = record { apart = λ i j less inside e. omega (arith, rising i j less inside) }

-- one more number that rises
pub rising_more : (xs : List ℕ) (a : ℕ) → ((x y : ℕ) → x < y → y < a → slice_index xs x < slice_index xs y) → (0 < a → slice_index xs (a - 1) < slice_index xs a) → (x y : ℕ) → x < y → y < a + 1 → slice_index xs x < slice_index xs y
rising_more xs a rising step x y less inside = elim (eq_or_ne y a) [
  | inr ne ↦ rising x y less (omega arith)
  | inl e ↦ rw e (elim (eq_or_ne (x + 1) a) [
    | inl next ↦ let is : a - 1 ≡ x = omega arith in rw is at (step (omega arith))
    | inr ne ↦ let up = rising x (a - 1) (omega arith) (omega arith) in omega (arith, up, step (omega arith))
  ])
]

-- one more of the first numbers is among the others
pub among_more : (xs ys : List ℕ) (a : ℕ) → ((x : ℕ) → x < a → Contains ys (slice_index xs x)) → Contains ys (slice_index xs a) → (x : ℕ) → x < a + 1 → Contains ys (slice_index xs x)
among_more xs ys a among new x less = elim (eq_or_ne x a) [ inl e ↦ rw e new | inr ne ↦ among x (omega arith) ]
