-- How an answer is judged line by line.
use Rattle.std.specs.Prelude.{◌≡◌, ◌∷◌, ◌++◌, [], true, List, Option}
use Rattle.sm_instance.specs.declared.inputs.Input.{Input}
use Rattle.sm_instance.specs.declared.inputs.Input.TheVariants.{Two, Room}
use Rattle.sm_report.specs.Lines.{LineData}
use Rattle.sm_report.specs.Sound.{IsLineOf}
use Rattle.sm_check_clauses.specs.declared.verdicts.Reason.{Reason}
use Rattle.sm_check_forms.specs.Forms.{fits}
use Rattle.sm_check_clauses.specs.Judging.{Subject, answer, couples, parties, Clauses}
use Rattle.sm_check_clauses.specs.Walking.{FindsOrKeeps}

-- the instance of which an answer speaks
abbrev pub input_of : Subject → Input
input_of (answer w head) = Two w
input_of (couples persons) = Room persons
input_of (parties persons) = Room persons

-- a line of the instance that is of its form
pub record IsOwnLine (subject : Subject) (line : LineData) : Type 0 where
  pub right : IsLineOf (input_of subject) line
  pub fitting : fits (input_of subject) line ≡ true

-- there are lines of which this is known
pub record IsKnown (knows : List LineData → Type 0) : Type 0 where
  pub above : List LineData
  pub known : knows above

-- what is found at a line behind those of which all is known, and what is known with it then
abbrev pub Judges : Subject → (known knows : List LineData → Type 0) → LineData → Option Reason → Type 0
Judges subject known knows line why =
    (above : List LineData) → known above → FindsOrKeeps (Clauses subject above line) (knows (above ++ line ∷ [])) why
