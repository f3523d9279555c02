-- What a `LineWriter` holds.
use Rattle.std.specs.Prelude.{◌≡◌, ℕ, ◌+◌, ◌≤◌, List, ◌++◌, ◌∷◌, length, take, Result, IsOk, OnErr, OnOk}

-- the bytes, and how many it has room for without more memory
pub record WriterData : Type 0 where
  pub bytes : List ℕ
  pub room : ℕ

-- a piece was put behind what was held, or the put was refused and left all as it was; the room never shrinks
pub record PutsPiece {E : Type 0} (old new : WriterData) (piece : List ℕ) (result : Result (Unit {0}) E) : Type 0 where
  pub ok : OnOk result (new.bytes ≡ old.bytes ++ piece)
  pub err : OnErr result (new.bytes ≡ old.bytes)
  pub fits : length old.bytes + length piece ≤ old.room → IsOk result
  pub room : old.room ≤ new.room

-- the first so many of sixteen bytes are a space and a name, if they are any
pub record IsSpacedName (bytes : List ℕ) (len : ℕ) (name : List ℕ) : Type 0 where
  pub fits : len ≤ 16
  pub text : 1 ≤ len → take len bytes ≡ 32 ∷ name
