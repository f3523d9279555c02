-- Pairs of numbers, in order.
use Rattle.std.specs.Prelude.{ℕ, List, slice_index_or}

-- the pair with a number, from 0
abbrev pub pair_at : List (ℕ × ℕ) → ℕ → ℕ × ℕ
pair_at pairs k = slice_index_or pairs k (0, 0)
