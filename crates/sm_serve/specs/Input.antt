-- What came of reading a source to its end.
use Rattle.std.specs.Prelude.{◌≡◌, ◌≢◌, ◌<◌, ◌≤◌, ◌+◌, ℕ, List, [], length, Option, IfSome, IsSomeAnd}
use Rattle.std.specs.Io.KnownBytes.{Consumes, IsAtEnd}
use Rattle.sm_text.specs.declared.refusal.RefusalKind.TheVariants.{TooLong}
use Rattle.sm_text.specs.Limits.{most_bytes}
use Rattle.sm_serve.specs.Texts.{RefusalData, plain_refusal}

-- a source that told its bytes before gave some from their front, and tells the others
pub record Loses (left_before left_after : Option (List ℕ)) : Type 0 where
  pub given : List ℕ
  pub consumed : Consumes left_before left_after given

-- what a call leaves of a source: it lost a front of its bytes, and its count of faults didn't fall
pub record Drains {Source : Type 0} (left : Source → Option (List ℕ)) (faults : Source → ℕ) (before after : Source) : Type 0 where
  pub lost : Loses (left before) (left after)
  pub later : faults before ≤ faults after

-- a source that told its bytes before has none left
abbrev pub IsReadWhole : Option (List ℕ) → Option (List ℕ) → Type 0
IsReadWhole left_before left_after = IfSome left_before (λ _. IsAtEnd left_after)

-- the source told its bytes, has some left, and hasn't lost more than are taken
abbrev pub IsBeingRead : Option (List ℕ) → Option (List ℕ) → Type 0
IsBeingRead before after = IsSomeAnd before (λ all. IsSomeAnd after (λ rest. (rest ≢ []) × (length all ≤ length rest + most_bytes)))

-- these are all bytes that the source had, and not too many
pub record ReadWhole (left_before left_after : Option (List ℕ)) (bytes : List ℕ) : Type 0 where
  pub given : Consumes left_before left_after bytes
  pub over : IsReadWhole left_before left_after
  pub short : length bytes ≤ most_bytes

-- more bytes than are taken were given, and the refusal is that of all of them
pub record IsTooLong (left_before left_after : Option (List ℕ)) (refusal : RefusalData) : Type 0 where
  pub given : List ℕ
  pub consumed : Consumes left_before left_after given
  pub long : most_bytes < length given
  pub says : refusal ≡ plain_refusal TooLong 0
