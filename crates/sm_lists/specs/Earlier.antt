-- The earlier of two numbers.
use Rattle.std.specs.Prelude.{ℕ, Option, Some, None, min}

-- the earlier of two numbers, if there are any
abbrev pub earlier_of : Option ℕ → Option ℕ → Option ℕ
earlier_of None b = b
earlier_of (Some a) None = Some a
earlier_of (Some a) (Some b) = Some (min a b)
