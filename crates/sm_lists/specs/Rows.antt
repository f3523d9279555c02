-- The lists of one side's agents, which are numbered from 0, as are the places on a list.
use Rattle.std.specs.Prelude.{ℕ, ◌==◌, List, [], Vec, slice_index, slice_index_or, length, map}
use Rattle.std.specs.List.{position_or_len, range_with_len}
use Rattle.std.specs.Borrow.{Bor}
use Rattle.std.specs.declared.alloc.Global.{Global}

-- the place of b on a list, or the list's length where b isn't on it
abbrev pub place_on : List ℕ → ℕ → ℕ
place_on list b = position_or_len (λ x. x == b) list

-- an agent's list, among those of its side; empty where there is no such agent
abbrev pub row : List (List ℕ) → ℕ → List ℕ
row rows a = slice_index_or rows a []

-- the agents of the side that has these lists
abbrev pub agents : List (List ℕ) → List ℕ
agents rows = range_with_len 0 (length rows)

-- whom an agent's list names at a place
abbrev pub entry : List (List ℕ) → ℕ → ℕ → ℕ
entry rows a i = slice_index (row rows a) i

-- the place of b on a's list, or the length of that list where b isn't on it
abbrev pub place_of : List (List ℕ) → ℕ → ℕ → ℕ
place_of rows a b = place_on (row rows a) b

-- lists that are held in vectors
abbrev pub rows_of : List (Vec ℕ Global) → List (List ℕ)
rows_of vectors = map (λ v. v.items) vectors

-- the lists that are lent
abbrev pub lists_in : List (Bor (List ℕ)) → List (List ℕ)
lists_in lent = map (λ (list : Bor (List ℕ)). list.now) lent
