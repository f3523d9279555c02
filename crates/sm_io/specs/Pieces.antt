-- Bytes in memory that are given piece by piece.
use Rattle.std.specs.Prelude.{◌≡◌, ℕ, ◌<◌, List, length, take, drop, min}
use Rattle.sm_io.specs.declared.Taken.{Taken}
use Rattle.sm_io.specs.declared.Taken.TheVariants.{Got, End, Failed}

-- the bytes still to come, and at most how many of them one call gives
pub record Pieces : Type 0 where
  pub left : List ℕ
  pub piece : ℕ

-- how many bytes a call gives into a buffer of this length
abbrev pub given_len : Pieces → ℕ → ℕ
given_len p room = min (min p.piece room) (length p.left)

-- a call that doesn't fail gives exactly that many, or `End` where that is none
abbrev pub Gives : Pieces → Pieces → Taken → List ℕ → Type 0
Gives old new (Got n) into =
    (n ≡ given_len old (length into)) × (0 < n) × (take n into ≡ take n old.left) × (new ≡ record old { left = drop n old.left })
Gives old new End into = (given_len old (length into) ≡ 0) × (new ≡ old)
Gives old new Failed into = ⊥
