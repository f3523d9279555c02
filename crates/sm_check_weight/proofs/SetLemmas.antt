-- Sets of rotations by their numbers.
use Rattle.std.proofs.Common.{◌≡◌, ◌≢◌, ℕ, ◌+◌, ◌<◌, ◌==◌, ◌||◌, arith, refl, sym, ap, ◌∙◌, Bool, true, false, List, [], ◌∷◌, ◌++◌, length, get_or, set, replicate, subst, eq-eqb}
use Rattle.std.specs.List.{list_any}
use Rattle.std.proofs.lemmas.Bool.{false≢true, eqb-true}
use Rattle.std.proofs.lemmas.List.{ext_get_or, length-set, get_or-set_same, get_or-set_other, get_or-replicate, length-replicate}
use Rattle.std.proofs.lemmas.List.Folds.{list_any-append}
use Rattle.std.proofs.lemmas.List.FromFn.{get_or-map-range_with_len, length-map-range_with_len}
use Rattle.sm_check_clauses.specs.Flows.{set_of_numbers}

-- whether number k + 1 is one of these
abbrev is_taken : List ℕ → ℕ → Bool
is_taken numbers k = list_any (λ n. n == k + 1) numbers

-- a set by its numbers has an item for each rotation
pub length-set_of : (size : ℕ) (numbers : List ℕ) → length (set_of_numbers size numbers) ≡ size
length-set_of size numbers = length-map-range_with_len (is_taken numbers) 0 size

at : (size : ℕ) (numbers : List ℕ) (k : ℕ) → k < size → get_or (set_of_numbers size numbers) k false ≡ is_taken numbers k
at size numbers k less = get_or-map-range_with_len (is_taken numbers) 0 size k k false less (omega arith)

or_false : (b : Bool) → (b || false) ≡ b
or_false true = refl
or_false false = refl

not_it : (n k : ℕ) → n ≢ k + 1 → (b : Bool) → (n == k + 1) ≡ b → b ≡ false
not_it n k other true e = absurd (other (eqb-true n (k + 1) e))
not_it n k other false e = refl

or_true : (b c : Bool) → c ≡ true → (b || c) ≡ true
or_true true c e = refl
or_true false c e = e

more : (numbers : List ℕ) (n k : ℕ) → is_taken (numbers ++ n ∷ []) k ≡ (is_taken numbers k || ((n == k + 1) || false))
more numbers n k = list_any-append (λ m. m == k + 1) numbers (n ∷ [])

-- one more number is none of these rotations
pub set_same : (size : ℕ) (numbers : List ℕ) (n : ℕ) → ((k : ℕ) → k < size → n ≢ k + 1) → set_of_numbers size (numbers ++ n ∷ []) ≡ set_of_numbers size numbers
set_same size numbers n none = ext_get_or false _ _ (length-set_of size (numbers ++ n ∷ []) ∙ sym (length-set_of size numbers)) each
  where
    each : (k : ℕ) → k < length (set_of_numbers size (numbers ++ n ∷ [])) → get_or (set_of_numbers size (numbers ++ n ∷ [])) k false ≡ get_or (set_of_numbers size numbers) k false
    each k less =
        let inside : k < size = omega (arith, less, length-set_of size (numbers ++ n ∷ [])) in
        at size (numbers ++ n ∷ []) k inside ∙ more numbers n k
        ∙ ap (λ b. is_taken numbers k || (b || false)) (not_it n k (none k inside) (n == k + 1) refl)
        ∙ or_false (is_taken numbers k) ∙ sym (at size numbers k inside)

-- it is one of them
pub set_more : (size : ℕ) (numbers : List ℕ) (i : ℕ) → i < size → set (set_of_numbers size numbers) i true ≡ set_of_numbers size (numbers ++ (i + 1) ∷ [])
set_more size numbers i there = ext_get_or false _ _ (length-set (set_of_numbers size numbers) i true ∙ length-set_of size numbers ∙ sym (length-set_of size (numbers ++ (i + 1) ∷ []))) each
  where
    each : (k : ℕ) → k < length (set (set_of_numbers size numbers) i true) → get_or (set (set_of_numbers size numbers) i true) k false ≡ get_or (set_of_numbers size (numbers ++ (i + 1) ∷ [])) k false
    each k less = go (i == k) refl
      where
        inside : k < size
        inside = omega (arith, less, length-set (set_of_numbers size numbers) i true, length-set_of size numbers)

        go : (b : Bool) → (i == k) ≡ b → get_or (set (set_of_numbers size numbers) i true) k false ≡ get_or (set_of_numbers size (numbers ++ (i + 1) ∷ [])) k false
        go true e =
            let same : i ≡ k = eqb-true i k e in
            let long = length-set_of size numbers in
            subst (λ (j : ℕ). get_or (set (set_of_numbers size numbers) i true) j false ≡ get_or (set_of_numbers size (numbers ++ (i + 1) ∷ [])) j false) same
            (get_or-set_same (set_of_numbers size numbers) i true false (omega (arith, long, there))
            ∙ sym (at size (numbers ++ (i + 1) ∷ []) i there ∙ more numbers (i + 1) i ∙ or_true (is_taken numbers i) ((i + 1 == i + 1) || false) (ap (λ b. b || false) (eq-eqb (i + 1) (i + 1) refl))))
        go false e =
            let other : i ≢ k = λ same. false≢true (sym e ∙ ap (λ j. i == j) (sym same) ∙ eq-eqb i i refl) in
            get_or-set_other (set_of_numbers size numbers) i k true false (λ same. other (sym same)) ∙ at size numbers k inside
            ∙ sym (at size (numbers ++ (i + 1) ∷ []) k inside ∙ more numbers (i + 1) k ∙ ap (λ b. is_taken numbers k || (b || false)) (not_it (i + 1) k (λ same. other (omega (arith, same))) (i + 1 == k + 1) refl) ∙ or_false (is_taken numbers k))

-- none is taken at first
pub set_none : (size : ℕ) → replicate size false ≡ set_of_numbers size []
set_none size = ext_get_or false _ _ (length-replicate size false ∙ sym (length-set_of size []))
    (λ k less. let inside : k < size = omega (arith, less, length-replicate size false) in get_or-replicate size k false false inside ∙ sym (at size [] k inside))

-- so no rotation is a member
pub none_taken : (size k : ℕ) → k < size → get_or (set_of_numbers size []) k false ≡ false
none_taken size k less = at size [] k less
