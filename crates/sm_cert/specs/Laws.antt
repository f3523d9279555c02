-- The laws of verdicts. Each is the contract of a function of `laws`.
use Rattle.std.specs.Prelude.{◌≡◌, ℕ, List}
use Rattle.sm_instance.specs.Inputs.{IsInput}
use Rattle.sm_instance.specs.declared.inputs.Input.{Input}
use Rattle.sm_report.specs.Lines.{LineData}
use Rattle.sm_check_clauses.specs.declared.verdicts.Verdict.{Verdict}
use Rattle.sm_check_clauses.specs.Verdicts.{IsVerdict}
use Rattle.sm_check_forms.specs.Forms.{IsMisplaced}
use Rattle.sm_check_clauses.specs.Judging.{Holds, IsJudged, IsBadAnswerAt}

-- there is no more than one verdict on an answer
abbrev pub OneVerdict : Type 0
OneVerdict = (input : Input) (lines : List LineData) (first_line : ℕ) (v w : Verdict)
    → IsVerdict (Holds input lines) first_line v → IsVerdict (Holds input lines) first_line w → v ≡ w

-- nor is there on a text, which is that of one answer alone
abbrev pub OneJudgement : Type 0
OneJudgement = (input : Input) (texts : List (List ℕ)) (first_line : ℕ) (v w : Verdict)
    → IsInput input → IsJudged input texts first_line v → IsJudged input texts first_line w → v ≡ w

-- a text on which there is a verdict is of the form of an answer
abbrev pub JudgedIsntBad : Type 0
JudgedIsntBad = (input : Input) (texts : List (List ℕ)) (first_line line : ℕ) (v : Verdict)
    → IsJudged input texts first_line v → ¬ IsBadAnswerAt input texts first_line line

-- no more than one line of a text is the first that isn't of the form of an answer
abbrev pub OneMisplaced : Type 0
OneMisplaced = (input : Input) (texts : List (List ℕ)) (j k : ℕ) → IsMisplaced input texts j → IsMisplaced input texts k → j ≡ k
