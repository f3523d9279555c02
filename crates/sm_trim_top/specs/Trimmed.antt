-- What an input is trimmed to, and when it is refused.
use Rattle.std.specs.Prelude.{◌≡◌, ℕ, List, None}
use Rattle.sm_agents.specs.Written.{Written}
use Rattle.sm_instance.specs.declared.inputs.Input.{Input}
use Rattle.sm_instance.specs.declared.inputs.Input.TheVariants.{Two}
use Rattle.sm_instance_lines.specs.Printed.{lines_of}
use Rattle.sm_serve.specs.declared.status.Status.{Status}
use Rattle.sm_serve.specs.declared.status.Status.TheVariants.{Done}
use Rattle.sm_serve.specs.Refusals.{too_many_in, IsTooMany}
use Rattle.sm_serve.specs.Texts.{RefusalData}
use Rattle.sm_trim.specs.Cuts.{IsTrimmed}
use Rattle.sm_trim.specs.Rounds.{IsCutFar}
use Rattle.sm_trim_top.specs.Taking.{IsTaken, IsUntaken}

-- an input is taken, and t is its instance with lists that are cut at their ends
pub record IsTrimmedTo (bytes : List ℕ) (t : Written) : Type 0 where
  pub whole : Written
  pub taken : IsTaken bytes whole
  pub trimmed : IsTrimmed whole t
  pub far : IsCutFar whole t

-- this instance, whose seats aren't too many
abbrev pub IsFewSeated : Written → Input → Type 0
IsFewSeated t input = (input ≡ Two t) × (too_many_in input ≡ None)

-- the instance of an input with lists that are cut at their ends, whose seats aren't too many
pub record IsTrimmedInput (bytes : List ℕ) (input : Input) : Type 0 where
  pub kept : Written
  pub trimmed : IsTrimmedTo bytes kept
  pub few : IsFewSeated kept input

-- the lines are those of the trimmed instance
pub record IsTrimmedText (bytes : List ℕ) (lines : List (List ℕ)) : Type 0 where
  pub input : Input
  pub trimmed : IsTrimmedInput bytes input
  pub shows : lines ≡ lines_of input

-- and with this status they are written
abbrev pub IsRightText : List ℕ → Status → List (List ℕ) → Type 0
IsRightText bytes status lines = (status ≡ Done) × IsTrimmedText bytes lines

-- an input isn't taken, or its trimmed instance has too many seats
pub data IsRefused (bytes : List ℕ) (refusal : RefusalData) : Type 0 where
  untaken : IsUntaken bytes refusal → IsRefused bytes refusal
  too_many : (t : Written) → IsTrimmedTo bytes t → IsTooMany (Two t) refusal → IsRefused bytes refusal
