-- Texts without a byte that stands between texts.
use Rattle.std.proofs.Common.{◌≡◌, ℕ, ◌+◌, ◌==◌, Bool, true, false, not, cond, List, [], ◌∷◌, ◌++◌, length, take, drop, All, refl, ap, ◌∙◌, arith, eq-eqb}
use Rattle.std.specs.List.{list_all, slice_split, join_with_byte, position_or_len, before_first, after_first}
use Rattle.std.proofs.lemmas.Bool.{eqb-true, and_from, not-true}
use Rattle.std.proofs.lemmas.List.Elements.{All-nil, All-cons}
use Rattle.std.proofs.lemmas.List.Folds.{list_all-append}
use Rattle.std.proofs.lemmas.List.Splits.{slice_split_none, slice_split_at}
use Rattle.std.proofs.Math.Seq.{take-append_seam, drop-append-add}
use Rattle.sm_lists.proofs.BoolLemmas.{first_true, second_true}
use Rattle.sm_report.proofs.InverseLemmas.{by_answer}

-- whether a byte stands nowhere in a text
abbrev pub is_free : ℕ → List ℕ → Bool
is_free c text = list_all (λ b. not (b == c)) text

-- where each byte passes a test that the byte doesn't pass
pub free_of : (p : ℕ → Bool) (c : ℕ) → p c ≡ false → (text : List ℕ) → list_all p text ≡ true → is_free c text ≡ true
free_of p c fails [] h = refl
free_of p c fails (b ∷ text) h =
    and_from (not (b == c)) (is_free c text)
    (by_answer (b == c) (λ is. absurd (let same : b ≡ c = eqb-true b c is in let here = first_true (p b) (list_all p text) h in other (p b) here (ap p same ∙ fails))) (λ is. ap not is))
    (free_of p c fails text (second_true (p b) (list_all p text) h))
  where
    other : (t : Bool) → t ≡ true → t ≡ false → ⊥
    other t yes_ no_ = cc

-- a byte that stands in neither of two texts doesn't stand in both joined
pub free-append : (c : ℕ) (xs ys : List ℕ) → is_free c xs ≡ true → is_free c ys ≡ true → is_free c (xs ++ ys) ≡ true
free-append c xs ys h k = list_all-append (λ b. not (b == c)) xs ys ∙ and_from (is_free c xs) (is_free c ys) h k

none_is : (c : ℕ) (text : List ℕ) → is_free c text ≡ true → All (λ b. (b == c) ≡ false) text
none_is c [] h = All-nil (λ b. (b == c) ≡ false)
none_is c (b ∷ text) h =
    All-cons (λ b. (b == c) ≡ false) b text (not-true (b == c) (first_true (not (b == c)) (is_free c text) h))
    (none_is c text (second_true (not (b == c)) (is_free c text) h))

-- what was joined by a byte that none of the parts holds is cut into these parts again
pub split_joined : (c : ℕ) (x : List ℕ) (xs : List (List ℕ)) → list_all (is_free c) (x ∷ xs) ≡ true → slice_split (λ b. b == c) (join_with_byte c (x ∷ xs)) ≡ x ∷ xs
split_joined c x [] h = slice_split_none (λ b. b == c) x (none_is c x (first_true (is_free c x) true h))
split_joined c x (y ∷ ys) h =
    slice_split_at (λ b. b == c) x c (join_with_byte c (y ∷ ys)) (none_is c x (first_true (is_free c x) (list_all (is_free c) (y ∷ ys)) h)) (eq-eqb c c refl)
    ∙ ap (λ t. x ∷ t) (split_joined c y ys (second_true (is_free c x) (list_all (is_free c) (y ∷ ys)) h))

-- what stands before a byte and behind it
place_of_byte : (c : ℕ) (xs ys : List ℕ) → is_free c xs ≡ true → position_or_len (λ b. b == c) (xs ++ c ∷ ys) ≡ length xs
place_of_byte c [] ys h = ap (λ t. cond (not t) (1 + position_or_len (λ b. b == c) ys) 0) (eq-eqb c c refl)
place_of_byte c (x ∷ xs) ys h =
    let deep = place_of_byte c xs ys (second_true (not (x == c)) (is_free c xs) h) in
    ap (λ t. cond t (1 + position_or_len (λ b. b == c) (xs ++ c ∷ ys)) 0) (first_true (not (x == c)) (is_free c xs) h) ∙ omega (arith, deep)

-- xs stands before the first such byte of a text, and ys behind it
pub record IsCut (c : ℕ) (text xs ys : List ℕ) : Type 0 where
  pub before : before_first (λ b. b == c) text ≡ xs
  pub behind : after_first (λ b. b == c) text ≡ ys

-- what was joined by a byte that the first part doesn't hold is cut there
pub cut_at_byte : (c : ℕ) (xs ys : List ℕ) → is_free c xs ≡ true → IsCut c (xs ++ c ∷ ys) xs ys
cut_at_byte c xs ys h =
    let at = place_of_byte c xs ys h in
    record {
      before = ap (λ n. take n (xs ++ c ∷ ys)) at ∙ take-append_seam xs (c ∷ ys);
      behind = ap (λ n. drop (n + 1) (xs ++ c ∷ ys)) at ∙ drop-append-add xs (c ∷ ys) 1;
    }
