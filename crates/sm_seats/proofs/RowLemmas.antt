-- Lists that are made by one push after another.
use Rattle.std.proofs.Common.{◌≡◌, ℕ, ◌+◌, ◌<◌, ◌++◌, ◌∷◌, [], List, length, take, drop, get_or, map, zero, suc, set, refl, sym, ap, ◌∙◌, arith}
use Rattle.std.specs.List.{flat_map, range_with_len}
use Rattle.std.proofs.lemmas.List.{append_assoc, append-nil}
use Rattle.std.proofs.lemmas.List.Concat.{flat_map-append}
use Rattle.std.proofs.lemmas.List.FromFn.{map-range_with_len_more}

-- the next of the items that a function gives
pub map_pushed : {X : Type 0} (f : ℕ → X) (xs ys : List X) (a n : ℕ) (y : X) → y ≡ f (a + n) → ys ≡ xs ++ map f (range_with_len a n) → ys ++ y ∷ [] ≡ xs ++ map f (range_with_len a (n + 1))
map_pushed f xs ys a n y is e =
    ap (λ l. l ++ y ∷ []) e ∙ append_assoc xs (map f (range_with_len a n)) (y ∷ []) ∙ ap (λ x. xs ++ (map f (range_with_len a n) ++ x ∷ [])) is
    ∙ ap (λ l. xs ++ l) (sym (map-range_with_len_more f a n (a + n) refl))

-- the piece of one more item
pub piece_pushed : {X Y : Type 0} (f : X → List Y) (xs : List X) (x : X) (ys zs piece : List Y) → ys ≡ flat_map f xs → zs ≡ ys ++ piece → piece ≡ f x → zs ≡ flat_map f (xs ++ x ∷ [])
piece_pushed f xs x ys zs piece e joined is =
    joined ∙ ap (λ l. l ++ piece) e ∙ ap (λ l. flat_map f xs ++ l) is ∙ ap (λ l. flat_map f xs ++ l) (sym (append-nil (f x))) ∙ sym (flat_map-append f xs (x ∷ []))

-- one more item of a list is written over another list
written_next : {X Y : Type 0} (f : X → Y) (xs : List X) (ys : List Y) (i : ℕ) (d : X) → i < length xs → length ys ≡ length xs
    → set (map f (take i xs) ++ drop i ys) i (f (get_or xs i d)) ≡ map f (take (suc i) xs) ++ drop (suc i) ys
written_next f [] ys i d on long = absurd (omega arith)
written_next f (x ∷ xs) [] i d on long = absurd (omega arith)
written_next f (x ∷ xs) (y ∷ ys) zero d on long = refl
written_next f (x ∷ xs) (y ∷ ys) (suc i) d on long = ap (λ l. f x ∷ l) (written_next f xs ys i d (omega arith) (omega arith))

-- with the changed items of the first i places written over a list, the next one is written at place i
pub written_more : {X Y : Type 0} (f : X → Y) (xs : List X) (ys : List Y) (i : ℕ) (d : X) → i < length xs → length ys ≡ length xs
    → set (map f (take i xs) ++ drop i ys) i (f (get_or xs i d)) ≡ map f (take (i + 1) xs) ++ drop (i + 1) ys
written_more f xs ys i d on long = written_next f xs ys i d on long ∙ ap (λ n. map f (take n xs) ++ drop n ys) (let e : suc i ≡ i + 1 = omega arith in e)
