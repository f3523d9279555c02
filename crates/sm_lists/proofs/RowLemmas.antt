-- Which agents have lists, and how long a list can be.
use Rattle.std.proofs.Common.{◌≡◌, ℕ, suc, ◌+◌, ◌<◌, ◌≤◌, ◌^◌, ◌++◌, List, [], ◌∷◌, Vec, length, map, get_or, sym, ap, ◌∙◌, arith, ⊎_elim}
use Rattle.std.proofs.lemmas.Bool.{cases_lt}
use Rattle.std.proofs.lemmas.List.{get_or_past, get_or-map, map-append}
use Rattle.std.proofs.lemmas.List.FromFn.{map-range_with_len_more}
use Rattle.std.proofs.lemmas.List.Sums.{get_or-le-sum_by, sum_by-cons}
use Rattle.std.specs.List.{sum_by, range_with_len}
use Rattle.std.specs.declared.alloc.Global.{Global}
use Rattle.sm_lists.specs.Rows.{row, rows_of}
use Rattle.sm_lists.specs.Limits.{AreWithinLimits}

-- an agent with a list is in range
pub row_in_range : (rows : List (List ℕ)) (a i : ℕ) → i < length (row rows a) → a < length rows
row_in_range rows a i h =
    ⊎_elim (λ l. l) (λ l. absurd (let e = ap length (get_or_past rows a [] l) in omega arith)) (cases_lt a (length rows))

-- a list is no longer than all of them together
pub length-row-le : (rows : List (List ℕ)) (a : ℕ) → length (row rows a) ≤ sum_by (λ list. length list) rows
length-row-le rows a =
    ⊎_elim (λ l. get_or-le-sum_by (λ list. length list) rows a [] l)
    (λ l. let e = ap length (get_or_past rows a [] l) in omega arith) (cases_lt a (length rows))

-- places on the lists, one on each, are together at most the entries of all
pub entries_below : (rows : List (List ℕ)) (next : List ℕ) → length next ≡ length rows → ((a : ℕ) → get_or next a 0 ≤ length (row rows a)) → sum_by (λ i. i) next ≤ sum_by (λ list. length list) rows
entries_below rows [] long le = omega arith
entries_below [] (i ∷ next) long le = absurd (omega arith)
entries_below (list ∷ rows) (i ∷ next) long le =
    let first : i ≤ length list = le 0 in
    let rest = entries_below rows next (omega arith) (λ a. le (suc a)) in
    omega (arith, sum_by-cons (λ (list : List ℕ). length list) list rows, sum_by-cons (λ (i : ℕ). i) i next)

-- so its length and its places fit a `u32`
pub row_fits : {rows : List (List ℕ)} → AreWithinLimits rows → (a : ℕ) → length (row rows a) < 2 ^ 24
row_fits {rows} w a = let le = length-row-le rows a in let lt = w.entries in omega arith

-- a list that is read of its vector
pub row_read : (vectors : List (Vec ℕ Global)) (b : ℕ) (v : Vec ℕ Global) (list : List ℕ) → b < length vectors → v ≡ get_or vectors b v → list ≡ v.items → list ≡ row (rows_of vectors) b
row_read vectors b v list inside read is =
    is ∙ ap (λ (w : Vec ℕ Global). w.items) read ∙ sym (get_or-map (λ (w : Vec ℕ Global). w.items) vectors b v [] inside)

-- the same of vectors of any items
pub vector_read : {X : Type 0} (vectors : List (Vec X Global)) (a : ℕ) (d : Vec X Global) → a < length vectors → (get_or vectors a d).items ≡ get_or (map (λ v. v.items) vectors) a []
vector_read vectors a d inside = sym (get_or-map (λ v. v.items) vectors a d [] inside)

-- one more list, of the next agent
pub list_pushed : (rows : List (List ℕ)) (list : List ℕ) (f : ℕ → List ℕ) (a : ℕ) → rows ≡ map f (range_with_len 0 a) → list ≡ f a → rows ++ list ∷ [] ≡ map f (range_with_len 0 (a + 1))
list_pushed rows list f a e here =
    ap (λ t. t ++ list ∷ []) e ∙ ap (λ t. map f (range_with_len 0 a) ++ t ∷ []) here ∙ sym (map-range_with_len_more f 0 a a (omega arith))

-- the same of one in a vector
pub rows_of-push : (vectors : List (Vec ℕ Global)) (v : Vec ℕ Global) (f : ℕ → List ℕ) (a : ℕ) → rows_of vectors ≡ map f (range_with_len 0 a) → v.items ≡ f a
    → rows_of (vectors ++ v ∷ []) ≡ map f (range_with_len 0 (a + 1))
rows_of-push vectors v f a e here =
    map-append (λ (x : Vec ℕ Global). x.items) vectors (v ∷ []) ∙ list_pushed (rows_of vectors) v.items f a e here
