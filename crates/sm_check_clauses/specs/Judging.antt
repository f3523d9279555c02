-- What the clauses of an answer are, by its head; and what comes of checking a text.
use Rattle.std.specs.Prelude.{ℕ, List, ◌∷◌, Some}
use Rattle.sm_agents.specs.Written.{Written, AgentData}
use Rattle.sm_instance.specs.declared.inputs.Input.{Input}
use Rattle.sm_instance.specs.declared.inputs.Input.TheVariants.{Two, Room}
use Rattle.sm_theory.specs.declared.choice.Choice.TheVariants.{Better, Worse}
use Rattle.sm_report.specs.Heads.{HeadData}
use Rattle.sm_report.specs.Lines.{LineData}
use Rattle.sm_report.specs.FirstBad.{IsFirstBadAt}
use Rattle.sm_check_clauses.specs.declared.verdicts.Reason.{Reason}
use Rattle.sm_check_clauses.specs.declared.verdicts.Verdict.{Verdict}
use Rattle.sm_check_clauses.specs.Verdicts.{AtLine, IsVerdict}
use Rattle.sm_check_forms.specs.Forms.{AreAnswer, BeginAnAnswer, MakeAnAnswer}
use Rattle.sm_check_clauses.specs.Said.{pairs_in, lefts_in, rights_in, parties_in}
use Rattle.sm_check_clauses.specs.Pairs.{SolveHolds, ChosenHold}
use Rattle.sm_check_clauses.specs.Chain.{ReducedHold, RotationsHold}
use Rattle.sm_check_clauses.specs.Flows.{WeightHolds}
use Rattle.sm_check_clauses.specs.Vectors.{ListClauses, RegretClauses}
use Rattle.sm_check_clauses.specs.Rooming.{CouplesHold, PartiesHold}

-- at a line with those above it, in an answer with this head over an instance with two sides
abbrev pub TwoClauses : Written → HeadData → List LineData → LineData → Reason → Type 0
TwoClauses w (HeadData.Solve (Some side)) above line why = SolveHolds w side (pairs_in above) line why
TwoClauses w HeadData.Reduced above line why = ReducedHold w above line why
TwoClauses w HeadData.Rotations above line why = RotationsHold w above line why
TwoClauses w (HeadData.List after limit) above line why = ListClauses w after limit above line why
TwoClauses w HeadData.Regret above line why = RegretClauses w above line why
TwoClauses w (HeadData.Weight by) above line why = WeightHolds w by above line why
TwoClauses w HeadData.Meet above line why = ChosenHold Better w (lefts_in above) (rights_in above) (pairs_in above) line why
TwoClauses w HeadData.Join above line why = ChosenHold Worse w (lefts_in above) (rights_in above) (pairs_in above) line why
TwoClauses w _ above line why = Unit {0}

-- what an answer is judged as: one with this head over an instance with two sides; or, over roommates, a matching, or the
-- parties by which there is none
pub data Subject : Type 0 where
  answer : Written → HeadData → Subject
  couples : List AgentData → Subject
  parties : List AgentData → Subject

-- the clauses of a subject at a line with those above it
abbrev pub Clauses : Subject → List LineData → LineData → Reason → Type 0
Clauses (answer w head) above line why = TwoClauses w head above line why
Clauses (couples persons) above line why = CouplesHold persons (pairs_in above) line why
Clauses (parties persons) above line why = PartiesHold persons (parties_in above) line why

-- what the clause of a reason says at line k of an answer
abbrev pub Holds : Input → List LineData → ℕ → Reason → Type 0
Holds (Two w) (LineData.Answer head ∷ lines) k why = AtLine (Clauses (answer w head)) (LineData.Answer head ∷ lines) k why
Holds (Room persons) (head ∷ LineData.Nothing ∷ lines) k why = AtLine (Clauses (parties persons)) (head ∷ LineData.Nothing ∷ lines) k why
Holds (Room persons) lines k why = AtLine (Clauses (couples persons)) lines k why
Holds (Two w) lines k why = Unit {0}

-- the texts are an answer's lines, and this is the verdict on it
pub record IsJudged (input : Input) (texts : List (List ℕ)) (first_line : ℕ) (verdict : Verdict) : Type 0 where
  pub lines : List LineData
  pub answer : AreAnswer input texts lines
  pub judged : IsVerdict (Holds input lines) first_line verdict

-- the texts aren't of the form, first at this line
abbrev pub IsBadAnswerAt : Input → List (List ℕ) → (first_line line : ℕ) → Type 0
IsBadAnswerAt input texts first_line line = IsFirstBadAt (BeginAnAnswer input) (MakeAnAnswer input) texts first_line line
