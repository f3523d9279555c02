-- The answers of `meet` and `join` have lines of the instance alone.
use Rattle.std.proofs.Common.{◌≡◌, ℕ, ◌-◌, ◌<◌, ◌++◌, ◌∷◌, [], All, List, Option, Some, None, length, refl, sym, ap, ◌∙◌, subst, arith}
use Rattle.std.specs.Option.{option_map}
use Rattle.std.proofs.lemmas.List.Elements.{All-append, All-cons}
use Rattle.sm_answer.specs.Lines.{lines_from, line_or_none}
use Rattle.sm_answer.proofs.AnswerLemmas.{one_all, lines_all}
use Rattle.sm_agents.specs.Written.{Written, row, entry}
use Rattle.sm_agents.specs.Sound.{IsInstance}
use Rattle.sm_instance.specs.Matching.{held, IsAssignment}
use Rattle.sm_instance.specs.declared.inputs.Input.{Input}
use Rattle.sm_instance.specs.declared.inputs.Input.TheVariants.{Two}
use Rattle.sm_agents.proofs.ListLemmas.{row_in_range}
use Rattle.sm_theory.specs.Choices.{chosen}
use Rattle.sm_theory.specs.declared.choice.Choice.{Choice}
use Rattle.sm_theory.specs.declared.choice.Choice.TheVariants.{Better, Worse}
use Rattle.sm_report.specs.Heads.{HeadData}
use Rattle.sm_report.specs.Lines.{LineData}
use Rattle.sm_report.specs.Sound.{IsLineOf}
use Rattle.sm_answer.specs.MatchingLines.{pair_data, matching_line}
use Rattle.sm_holding.specs.Held.{places_in}
use Rattle.sm_answer_given.specs.Given.{AreStableGiven}
use Rattle.sm_holding.specs.Chosen.{chosen_places, head_for}
use Rattle.sm_holding.proofs.ChoiceLemmas.{chosen_assigned}
use Rattle.sm_answer_given.specs.Chosen.{pair_lines, chosen_lines, IsChosenAnswer}
use Rattle.sm_answer_given.specs.declared.given.Given.{Given}
use Rattle.sm_answer.specs.declared.matching_lines.PairWord.{PairWord}
use Rattle.sm_answer.specs.declared.matching_lines.PairWord.TheVariants as word
use Rattle.sm_answer.proofs.LineLemmas.{end_sound}

-- a pair of an assignment is a line of the instance
pub pair_sound : (by : PairWord) (w : Written) (places : List (Option ℕ)) → IsInstance w → IsAssignment w places → (p : ℕ) → All (IsLineOf (Two w)) (line_or_none (matching_line by w places p))
pair_sound by w places h assigned p = by_place (held places p) refl
  where
    by_word : (by : PairWord) (i : ℕ) → i < length (row w.proposers p) → IsLineOf (Two w) (pair_data by p (entry w.proposers p i))
    by_word word.Pair i l = record { printable = (row_in_range w.proposers p i l, (h.proposer_entries.sound p i l).in_range); seats = λ k d l. absurd (omega (arith, l)); numbers = tt; head = tt }
    by_word word.Left i l = record { printable = (row_in_range w.proposers p i l, (h.proposer_entries.sound p i l).in_range); seats = λ k d l. absurd (omega (arith, l)); numbers = tt; head = tt }
    by_word word.Right i l = record { printable = (row_in_range w.proposers p i l, (h.proposer_entries.sound p i l).in_range); seats = λ k d l. absurd (omega (arith, l)); numbers = tt; head = tt }

    by_place : (o : Option ℕ) → held places p ≡ o → All (IsLineOf (Two w)) (line_or_none (option_map (λ i. pair_data by p (entry w.proposers p i)) o))
    by_place None e = λ k d l. absurd (omega (arith, l))
    by_place (Some i) e = one_all (IsLineOf (Two w)) (pair_data by p (entry w.proposers p i)) (by_word by i (assigned.on_lists p i e))

-- the lines of two assignments and of the one that is chosen of them are lines of the instance
pub lines_sound : (choice : Choice) (w : Written) (m n : List (Option ℕ)) (input : Input) → input ≡ Two w → IsInstance w → IsAssignment w m → IsAssignment w n
    → All (IsLineOf input) (chosen_lines choice w m n)
lines_sound choice w m n input two h hm hn =
    let P = IsLineOf (Two w) in
    let all : (by : PairWord) (places : List (Option ℕ)) → IsAssignment w places → All P (pair_lines by w places) = λ by places assigned. lines_all P (matching_line by w places) (pair_sound by w places h assigned) 0 (length w.proposers) in
    let pairs = pair_lines word.Pair w (chosen_places choice w m n) in
    subst (λ (i : Input). All (IsLineOf i) (chosen_lines choice w m n)) (sym two)
    (All-cons P (LineData.Answer (head_for choice)) (pair_lines word.Left w m ++ (pair_lines word.Right w n ++ (pairs ++ LineData.End ∷ []))) (head_line choice)
    (All-append P (pair_lines word.Left w m) (pair_lines word.Right w n ++ (pairs ++ LineData.End ∷ [])) (all word.Left m hm)
    (All-append P (pair_lines word.Right w n) (pairs ++ LineData.End ∷ []) (all word.Right n hn)
    (All-append P pairs (LineData.End ∷ []) (all word.Pair (chosen_places choice w m n) (chosen_assigned choice w m n hm hn)) (one_all P LineData.End (end_sound (Two w)))))))
  where
    head_line : (choice : Choice) → IsLineOf (Two w) (LineData.Answer (head_for choice))
    head_line Better = record { printable = tt; seats = λ k d l. absurd (omega (arith, l)); numbers = tt; head = tt }
    head_line Worse = record { printable = tt; seats = λ k d l. absurd (omega (arith, l)); numbers = tt; head = tt }

-- the lines of two matchings that were given and of the chosen one are right
pub lines_right : (choice : Choice) (w : Written) (texts : List (List ℕ)) (given : Given) → AreStableGiven w texts given
    → IsChosenAnswer choice texts w (chosen_lines choice w given.left.places.items given.right.places.items)
lines_right choice w texts given found = record {
  left = found.left;
  right = found.right;
  given = found.are_given;
  first = found.left_stable;
  second = found.right_stable;
  shows = ap (λ m. chosen_lines choice w m given.right.places.items) found.left_is ∙ ap (λ n. chosen_lines choice w (places_in w found.left) n) found.right_is;
}

-- the lines as they are given
abbrev pub parts_given : HeadData → Written → (m n o : List (Option ℕ)) → List LineData
parts_given head w m n o =
    let count = length w.proposers - 0 in
    (LineData.Answer head ∷ [])
    ++ (lines_from (matching_line word.Left w m) 0 count ++ (lines_from (matching_line word.Right w n) 0 count ++ (lines_from (matching_line word.Pair w o) 0 count ++ (LineData.End ∷ []))))

-- they are the lines of the answer
pub parts_are : (choice : Choice) (head : HeadData) (w : Written) (m n o : List (Option ℕ)) → head ≡ head_for choice → o ≡ chosen_places choice w m n → parts_given head w m n o ≡ chosen_lines choice w m n
parts_are choice head w m n o h chosen =
    let count : length w.proposers - 0 ≡ length w.proposers = omega arith in
    ap (λ t. LineData.Answer t ∷ (lines_from (matching_line word.Left w m) 0 (length w.proposers - 0)
    ++ (lines_from (matching_line word.Right w n) 0 (length w.proposers - 0) ++ (lines_from (matching_line word.Pair w o) 0 (length w.proposers - 0) ++ (LineData.End ∷ []))))) h
    ∙ ap (λ k. LineData.Answer (head_for choice) ∷ (lines_from (matching_line word.Left w m) 0 k
    ++ (lines_from (matching_line word.Right w n) 0 k ++ (lines_from (matching_line word.Pair w o) 0 k ++ (LineData.End ∷ []))))) count
    ∙ ap (λ t. LineData.Answer (head_for choice) ∷ (pair_lines word.Left w m ++ (pair_lines word.Right w n ++ (pair_lines word.Pair w t ++ LineData.End ∷ [])))) chosen
