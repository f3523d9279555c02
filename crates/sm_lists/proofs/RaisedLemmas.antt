-- Lists that are raised.
use Rattle.std.proofs.Common.{◌≡◌, ℕ, zero, suc, ◌+◌, ◌-◌, ◌<◌, ◌^◌, ◌++◌, ◌∷◌, [], List, length, map, take, replicate, get_or, refl, sym, ap, subst, ◌∙◌, arith, ⊎_elim}
use Rattle.std.proofs.lemmas.Bool.{cases_lt}
use Rattle.std.proofs.lemmas.List.{get_or_past, get_or-map, get_or-replicate, length-map, length-append, length-replicate, get_or_append_left, get_or-append_right}
use Rattle.std.specs.List.{range_with_len}
use Rattle.sm_lists.specs.Rows.{row, entry}
use Rattle.sm_lists.proofs.RowLemmas.{row_in_range}
use Rattle.sm_lists.specs.Raised.{raised, raised_lists}
use Rattle.sm_lists.specs.Raises.{raised_from, raised_rows, AreRaises}

-- raised by nothing
pub raised_by_none : (list : List ℕ) → raised 0 list ≡ list
raised_by_none [] = refl
raised_by_none (n ∷ list) = ap (λ k. k ∷ raised 0 list) (let e : n + 0 ≡ n = omega arith in e) ∙ ap (λ t. n ∷ t) (raised_by_none list)

-- where no number is kept, no list is raised
level_from : (a : ℕ) (rows : List (List ℕ)) → raised_from a rows [] ≡ rows
level_from a [] = refl
level_from a (list ∷ rows) =
    ap (λ k. raised k list ∷ raised_from (a + 1) rows []) (get_or_past [] a 0 (omega arith))
    ∙ ap (λ t. t ∷ raised_from (a + 1) rows []) (raised_by_none list)
    ∙ ap (λ t. list ∷ t) (level_from (a + 1) rows)

pub raised_rows-none : (rows : List (List ℕ)) → raised_rows rows [] ≡ rows
raised_rows-none rows = level_from 0 rows

-- as many lists as there were
length-raised_from : (a : ℕ) (rows : List (List ℕ)) (raises : List ℕ) → length (raised_from a rows raises) ≡ length rows
length-raised_from a [] raises = refl
length-raised_from a (list ∷ rows) raises = ap suc (length-raised_from (a + 1) rows raises)

pub length-raised_rows : (rows : List (List ℕ)) (raises : List ℕ) → length (raised_rows rows raises) ≡ length rows
length-raised_rows rows raises = length-raised_from 0 rows raises

-- an agent's list
row-raised_from : (b : ℕ) (rows : List (List ℕ)) (raises : List ℕ) (a : ℕ) → row (raised_from b rows raises) a ≡ raised (get_or raises (b + a) 0) (row rows a)
row-raised_from b [] raises a = refl
row-raised_from b (list ∷ rows) raises zero = ap (λ n. raised (get_or raises n 0) list) (let e : b ≡ b + 0 = omega arith in e)
row-raised_from b (list ∷ rows) raises (suc a) =
    row-raised_from (b + 1) rows raises a ∙ ap (λ n. raised (get_or raises n 0) (row rows a)) (let e : b + 1 + a ≡ b + suc a = omega arith in e)

pub row-raised_rows : (rows : List (List ℕ)) (raises : List ℕ) (a : ℕ) → row (raised_rows rows raises) a ≡ raised (get_or raises a 0) (row rows a)
row-raised_rows rows raises a = row-raised_from 0 rows raises a ∙ ap (λ n. raised (get_or raises n 0) (row rows a)) (let e : 0 + a ≡ a = omega arith in e)

-- its length, and an entry of it
pub length-row-raised_rows : (rows : List (List ℕ)) (raises : List ℕ) (a : ℕ) → length (row (raised_rows rows raises) a) ≡ length (row rows a)
length-row-raised_rows rows raises a = ap length (row-raised_rows rows raises a) ∙ length-map (row rows a) (λ n. n + get_or raises a 0)

pub entry-raised_rows : (rows : List (List ℕ)) (raises : List ℕ) (a i : ℕ) → i < length (row rows a) → entry (raised_rows rows raises) a i ≡ entry rows a i + get_or raises a 0
entry-raised_rows rows raises a i on = ap (λ l. get_or l i 0) (row-raised_rows rows raises a) ∙ get_or-map (λ n. n + get_or raises a 0) (row rows a) i 0 0 on

-- numbers that are the same where there are lists
same_from : (b : ℕ) (rows : List (List ℕ)) (raises others : List ℕ) → ((a : ℕ) → a < b + length rows → get_or others a 0 ≡ get_or raises a 0) → raised_from b rows others ≡ raised_from b rows raises
same_from b [] raises others h = refl
same_from b (list ∷ rows) raises others h =
    ap (λ k. raised k list ∷ raised_from (b + 1) rows others) (h b (omega arith))
    ∙ ap (λ t. raised (get_or raises b 0) list ∷ t) (same_from (b + 1) rows raises others (λ a l. h a (omega arith)))

pub raised_rows-same : (rows : List (List ℕ)) (raises others : List ℕ) → ((a : ℕ) → a < length rows → get_or others a 0 ≡ get_or raises a 0) → raised_rows rows others ≡ raised_rows rows raises
raised_rows-same rows raises others h = same_from 0 rows raises others (λ a l. h a (omega arith))

-- equal lists whose numbers are counted on
counted_from : (b k n : ℕ) (list : List ℕ) (raises : List ℕ) → ((j : ℕ) → j < n → get_or raises (b + j) 0 ≡ k + j)
    → raised_from b (replicate n list) raises ≡ map (λ j. raised j list) (range_with_len k n)
counted_from b k zero list raises h = refl
counted_from b k (suc n) list raises h =
    let first : get_or raises b 0 ≡ k = ap (λ m. get_or raises m 0) (let e : b ≡ b + 0 = omega arith in e) ∙ h 0 (omega arith) ∙ (let e : k + 0 ≡ k = omega arith in e) in
    ap (λ m. raised m list ∷ raised_from (b + 1) (replicate n list) raises) first
    ∙ ap (λ t. raised k list ∷ t)
    (counted_from (b + 1) (k + 1) n list raises
    (λ j l. ap (λ m. get_or raises m 0) (let e : b + 1 + j ≡ b + suc j = omega arith in e) ∙ h (suc j) (omega arith) ∙ (let e : k + suc j ≡ k + 1 + j = omega arith in e)))

-- lists behind others
append_from : (b : ℕ) (rows more : List (List ℕ)) (raises : List ℕ) → raised_from b (rows ++ more) raises ≡ raised_from b rows raises ++ raised_from (b + length rows) more raises
append_from b [] more raises = ap (λ n. raised_from n more raises) (let e : b ≡ b + 0 = omega arith in e)
append_from b (list ∷ rows) more raises =
    ap (λ t. raised (get_or raises b 0) list ∷ t)
    (append_from (b + 1) rows more raises ∙ ap (λ n. raised_from (b + 1) rows raises ++ raised_from n more raises) (let e : b + 1 + length rows ≡ b + suc (length rows) = omega arith in e))

pub raised_rows-pushed : (rows : List (List ℕ)) (list : List ℕ) (count : ℕ) (raises others : List ℕ) → ((a : ℕ) → a < length rows → get_or others a 0 ≡ get_or raises a 0)
    → ((k : ℕ) → k < count → get_or others (length rows + k) 0 ≡ k) → raised_rows (rows ++ replicate count list) others ≡ raised_rows rows raises ++ raised_lists list count
raised_rows-pushed rows list count raises others old new =
    append_from 0 rows (replicate count list) others
    ∙ ap (λ t. t ++ raised_from (0 + length rows) (replicate count list) others) (raised_rows-same rows raises others old)
    ∙ ap (λ t. raised_rows rows raises ++ t)
    (counted_from (0 + length rows) 0 count list others (λ k l. ap (λ n. get_or others n 0) (let e : 0 + length rows + k ≡ length rows + k = omega arith in e) ∙ new k l ∙ (let e : k ≡ 0 + k = omega arith in e)))

take_none : (n : ℕ) → let none : List ℕ = take n [] in none ≡ []
take_none zero = refl
take_none (suc n) = refl

-- a vector of numbers that was cut or filled up with zeros has what it had, as far as it was kept
zeros : (n a : ℕ) → let none : ℕ = 0 in get_or (replicate n none) a none ≡ none
zeros zero a = get_or_past [] a 0 (omega arith)
zeros (suc n) zero = refl
zeros (suc n) (suc a) = zeros n a

pub get_or-resized : (raises : List ℕ) (kept more a : ℕ) → a < kept → get_or (take kept raises ++ replicate more 0) a 0 ≡ get_or raises a 0
get_or-resized [] kept more a l = ap (λ (t : List ℕ). get_or (t ++ replicate more 0) a 0) (take_none kept) ∙ zeros more a ∙ sym (get_or_past [] a 0 (omega arith))
get_or-resized (n ∷ raises) zero more a l = absurd (omega arith)
get_or-resized (n ∷ raises) (suc kept) more zero l = refl
get_or-resized (n ∷ raises) (suc kept) more (suc a) l = get_or-resized raises kept more a (omega arith)

-- no raised entry is too great where no number is kept
pub raises_none : (rows : List (List ℕ)) → AreRaises rows []
raises_none rows = λ a i on more. absurd (let none : List ℕ = [] in let e = get_or_past none a 0 (omega arith) in omega (arith, more, e))

-- nor where the lists have the numbers that they had
pub raises_same : (rows : List (List ℕ)) (raises others : List ℕ) → AreRaises rows raises → ((a : ℕ) → a < length rows → get_or others a 0 ≡ get_or raises a 0) → AreRaises rows others
raises_same rows raises others small same = λ a i on more.
    let e = same a (row_in_range rows a i on) in
    let before = small a i on (omega (arith, more, e)) in
    omega (arith, before, e)

-- nor where lists are added whose entries leave room for it
pub raises_pushed : (rows : List (List ℕ)) (list : List ℕ) (count : ℕ) (raises others : List ℕ) → AreRaises rows raises → ((a : ℕ) → a < length rows → get_or others a 0 ≡ get_or raises a 0)
    → ((k : ℕ) → k < count → get_or others (length rows + k) 0 ≡ k) → ((i k : ℕ) → 0 < k → k < count → get_or list i 0 + k < 2 ^ 32) → AreRaises (rows ++ replicate count list) others
raises_pushed rows list count raises others small old new room = λ a i on more.
    ⊎_elim
    (λ l.
    let same : row (rows ++ replicate count list) a ≡ row rows a = get_or_append_left rows (replicate count list) [] a l in
    let here : i < length (row rows a) = subst (λ t. i < length t) same on in
    let e = old a l in
    let before = small a i here (omega (arith, more, e)) in
    let entries = ap (λ t. get_or t i 0) same in
    omega (arith, before, e, entries))
    (λ l.
    let k : ℕ = a - length rows in
    let inside : a < length (rows ++ replicate count list) = row_in_range (rows ++ replicate count list) a i on in
    let few : k < count = omega (arith, inside, length-append rows (replicate count list), length-replicate count list) in
    let e : get_or others a 0 ≡ k = ap (λ n. get_or others n 0) (let f : a ≡ length rows + k = omega arith in f) ∙ new k few in
    let is : row (rows ++ replicate count list) a ≡ list = get_or-append_right rows (replicate count list) (length rows) a [] refl l ∙ get_or-replicate count k list [] few in
    let entries = ap (λ t. get_or t i 0) is in
    let fits = room i k (omega (arith, more, e)) few in
    omega (arith, fits, e, entries))
    (cases_lt a (length rows))
