-- Lists that are raised: a number is added to each entry.
use Rattle.std.specs.Prelude.{ℕ, ◌+◌, List, map}
use Rattle.std.specs.List.{range_with_len}

-- a list with a number added to each entry
abbrev pub raised : ℕ → List ℕ → List ℕ
raised k list = map (λ n. n + k) list

-- a list raised by 0, 1, 2 and so on, so many in all
abbrev pub raised_lists : List ℕ → ℕ → List (List ℕ)
raised_lists list count = map (λ k. raised k list) (range_with_len 0 count)
