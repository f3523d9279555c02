-- Lines of an instance.
use Rattle.std.proofs.Common.{◌≡◌, ℕ, ◌<◌, List, [], Option, Some, None, length, refl, arith}
use Rattle.std.specs.List.{All}
use Rattle.std.specs.Option.{option_map}
use Rattle.std.proofs.lemmas.List.Elements.{All-cons}
use Rattle.sm_agents.specs.Written.{Written, entry}
use Rattle.sm_instance.specs.Matching.{held, IsMatching}
use Rattle.sm_instance.specs.declared.inputs.Input.{Input}
use Rattle.sm_instance.specs.declared.inputs.Input.TheVariants.{Two}
use Rattle.sm_agents.proofs.ListLemmas.{row_in_range}
use Rattle.sm_report.specs.Lines.{LineData}
use Rattle.sm_report.specs.Sound.{IsLineOf}
use Rattle.sm_answer.specs.Lines.{line_or_none}
use Rattle.sm_answer.specs.MatchingLines.{pair_line}

-- a pair of a matching is a line of the instance
pub pair_sound : (w : Written) (places : List (Option ℕ)) → IsMatching w places → (p : ℕ) → All (IsLineOf (Two w)) (line_or_none (pair_line w places p))
pair_sound w places m p = by_place (held places p) refl
  where
    by_place : (o : Option ℕ) → held places p ≡ o → All (IsLineOf (Two w)) (line_or_none (option_map (λ i. LineData.Pair p (entry w.proposers p i)) o))
    by_place None e = λ k d l. absurd (omega arith)
    by_place (Some i) e =
        let both = m.acceptable p i e in
        let q : (p < length w.proposers) × (entry w.proposers p i < length w.reviewers) = (row_in_range w.proposers p _ both.proposer_lists, row_in_range w.reviewers (entry w.proposers p i) _ both.reviewer_lists) in
        All-cons (IsLineOf (Two w)) (LineData.Pair p (entry w.proposers p i)) [] (record { printable = q; seats = λ k d l. absurd (omega arith); numbers = tt; head = tt }) (λ k d l. absurd (omega arith))

-- the end is one of any
pub end_sound : (input : Input) → IsLineOf input LineData.End
end_sound input = record { printable = tt; seats = λ k d l. absurd (omega arith); numbers = tt; head = tt }
