-- What putting a text does to a writer.
use Rattle.std.specs.Prelude.{◌≡◌, ℕ, ◌+◌, ◌≤◌, List, ◌++◌, length, Result, IsOk, OnErr, OnOk}
use Rattle.sm_text.specs.Writer.{WriterData}

-- what is held is what was held and a front of the text
pub record HoldsFront (old new : WriterData) (text : List ℕ) : Type 0 where
  pub front : List ℕ
  pub rest : List ℕ
  pub held : new.bytes ≡ old.bytes ++ front
  pub whole : front ++ rest ≡ text

-- a text was put behind what was held, or the put was refused, and a front of the text may stand behind what was held.
-- It isn't refused where the text fits the room that is left, and the room never shrinks.
pub record PutsText {E : Type 0} (old new : WriterData) (text : List ℕ) (result : Result (Unit {0}) E) : Type 0 where
  pub ok : OnOk result (new.bytes ≡ old.bytes ++ text)
  pub err : OnErr result (HoldsFront old new text)
  pub fits : length old.bytes + length text ≤ old.room → IsOk result
  pub room : old.room ≤ new.room
