-- The answers of `meet` and `join`.
use Rattle.std.specs.Prelude.{◌≡◌, ℕ, List, [], ◌∷◌, ◌++◌, length, Option}
use Rattle.sm_answer.specs.Lines.{lines_from}
use Rattle.sm_agents.specs.Written.{Written}
use Rattle.sm_instance.specs.declared.inputs.Input.TheVariants.{Two}
use Rattle.sm_theory.specs.declared.choice.Choice.{Choice}
use Rattle.sm_report.specs.Lines.{LineData}
use Rattle.sm_holding.specs.Chosen.{chosen_places, head_for}
use Rattle.sm_holding.specs.Held.{places_in, GiveStable}
use Rattle.sm_answer_given.specs.GivenText.{AreGiven}
use Rattle.sm_answer.specs.MatchingLines.{matching_line}
use Rattle.sm_answer.specs.declared.matching_lines.PairWord.{PairWord}
use Rattle.sm_answer.specs.declared.matching_lines.PairWord.TheVariants as word

-- the pairs of a matching in the order of the proposers
abbrev pub pair_lines : PairWord → Written → List (Option ℕ) → List LineData
pair_lines word w places = lines_from (matching_line word w places) 0 (length w.proposers)

-- the two matchings and the chosen one, each in the order of the proposers
abbrev pub chosen_lines : Choice → Written → (m n : List (Option ℕ)) → List LineData
chosen_lines choice w m n =
    LineData.Answer (head_for choice)
    ∷ (pair_lines word.Left w m ++ (pair_lines word.Right w n ++ (pair_lines word.Pair w (chosen_places choice w m n) ++ LineData.End ∷ [])))

-- the lines are those of two stable matchings that were given and of the chosen one
pub record IsChosenAnswer (choice : Choice) (texts : List (List ℕ)) (w : Written) (answer : List LineData) : Type 0 where
  pub left : List (ℕ × ℕ)
  pub right : List (ℕ × ℕ)
  pub given : AreGiven (Two w) texts left right
  pub first : GiveStable w left
  pub second : GiveStable w right
  pub shows : answer ≡ chosen_lines choice w (places_in w left) (places_in w right)
