-- Where the items of pieces stand in the list that is joined from these.
use Rattle.std.proofs.Common.{◌≡◌, ℕ, zero, suc, ◌+◌, ◌-◌, ◌<◌, ◌≤◌, List, [], ◌∷◌, length, take, drop, get_or, refl, ap, ◌∙◌, arith, inl, inr}
use Rattle.std.specs.List.{flat_map, range_with_len}
use Rattle.std.proofs.lemmas.Bool.{cases_lt}
use Rattle.std.proofs.lemmas.List.{length-append}

-- where a piece begins
abbrev pub start_of : {X A : Type 0} → (X → List A) → List X → ℕ → ℕ
start_of f xs i = length (flat_map f (take i xs))

-- a place of the joined list is in a piece
pub record IsInPiece {X A : Type 0} (f : X → List A) (xs : List X) (e : X) (i : ℕ) : Type 0 where
  pub piece : ℕ
  pub at : ℕ
  pub there : piece < length xs
  pub inside : at < length (f (get_or xs piece e))
  pub is : i ≡ start_of f xs piece + at

-- each place is in one
pub in_piece : {X A : Type 0} (f : X → List A) (xs : List X) (e : X) (i : ℕ) → i < length (flat_map f xs) → IsInPiece f xs e i
in_piece f [] e i h = absurd (omega arith)
in_piece f (x ∷ xs) e i h = elim (cases_lt i (length (f x))) [
  | inl here ↦ record { piece = 0; at = i; there = omega arith; inside = here; is = omega arith }
  | inr past ↦
      let long = length-append (f x) (flat_map f xs) in
      let deep = in_piece f xs e (i - length (f x)) (omega arith) in
      let before = length-append (f x) (flat_map f (take deep.piece xs)) in
      record { piece = suc deep.piece; at = deep.at; there = omega (arith, deep.there); inside = deep.inside; is = omega (arith, deep.is) }
]

-- a piece ends before a later one begins
pub piece_end : {X A : Type 0} (f : X → List A) (xs : List X) (i j : ℕ) (e : X) → i < j → i < length xs → start_of f xs i + length (f (get_or xs i e)) ≤ start_of f xs j
piece_end f [] i j e less on = absurd (omega arith)
piece_end f (x ∷ xs) i zero e less on = absurd (omega arith)
piece_end f (x ∷ xs) zero (suc j) e less on = let long = length-append (f x) (flat_map f (take j xs)) in omega arith
piece_end f (x ∷ xs) (suc i) (suc j) e less on =
    let long = length-append (f x) (flat_map f (take i xs)) in
    let long' = length-append (f x) (flat_map f (take j xs)) in
    let deep = piece_end f xs i j e (omega arith) (omega arith) in
    omega arith

-- the first numbers of a range
pub take-range : (a n k : ℕ) → k ≤ n → take k (range_with_len a n) ≡ range_with_len a k
take-range a n zero le = refl
take-range a zero (suc k) le = absurd (omega arith)
take-range a (suc n) (suc k) le = ap (λ l. a ∷ l) (take-range (a + 1) n k (omega arith))

-- the numbers of a range behind the first ones
drop-range : (a k n : ℕ) → drop k (range_with_len a (k + n)) ≡ range_with_len (a + k) n
drop-range a zero n = ap (range_with_len a) (let e : 0 + n ≡ n = omega arith in e) ∙ ap (λ b. range_with_len b n) (let e : a ≡ a + 0 = omega arith in e)
drop-range a (suc k) n =
    ap (λ m. drop (suc k) (range_with_len a m)) (let e : suc k + n ≡ suc (k + n) = omega arith in e)
    ∙ drop-range (a + 1) k n
    ∙ ap (λ b. range_with_len b n) (let e : a + 1 + k ≡ a + suc k = omega arith in e)

-- some numbers of a range from 0
pub numbers_between : (n from count : ℕ) → from + count ≤ n → take count (drop from (range_with_len 0 n)) ≡ range_with_len from count
numbers_between n from count le =
    ap (λ m. take count (drop from (range_with_len 0 m))) (let e : n ≡ from + (n - from) = omega arith in e)
    ∙ ap (take count) (drop-range 0 from (n - from))
    ∙ take-range (0 + from) (n - from) count (omega arith)
    ∙ ap (λ a. range_with_len a count) (let e : 0 + from ≡ from = omega arith in e)
