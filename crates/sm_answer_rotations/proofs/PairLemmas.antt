-- The pairs of a matching of seats, and the lines of the answer that nothing is allowed.
use Rattle.std.proofs.Common.{◌≡◌, ℕ, ◌<◌, [], ◌∷◌, Some, sym, ap, ◌∙◌, arith, subst, inl, inr}
use Rattle.std.specs.List.{All}
use Rattle.std.specs.Option.{option_map}
use Rattle.std.proofs.lemmas.List.Elements.{All-cons}
use Rattle.sm_agents.specs.Written.{Written, entry}
use Rattle.sm_instance.specs.declared.inputs.Input.{Input}
use Rattle.sm_instance.specs.declared.inputs.Input.TheVariants.{Two}
use Rattle.sm_answer.specs.MatchingLines.{pair_line}
use Rattle.sm_answer.proofs.AnswerLemmas.{one_all}
use Rattle.sm_answer.proofs.LineLemmas.{end_sound}
use Rattle.sm_market.specs.Lists.{entry as market_entry}
use Rattle.sm_market.specs.Matching.{Places}
use Rattle.sm_market.specs.Stable.{IsStable as IsMarketStable}
use Rattle.sm_report.specs.Heads.{HeadData}
use Rattle.sm_report.specs.Lines.{LineData}
use Rattle.sm_report.specs.Sound.{IsLineOf, IsHeadOf}
use Rattle.sm_seats.specs.Seating.{Seating, reviewer_of, written_of}
use Rattle.sm_seats.specs.Correspondence.{IsSeating}
use Rattle.sm_answer_rotations.specs.PairLines.{seated_pair_line}
use Rattle.sm_answer_rotations.specs.NoneAnswer.{none_lines}
use Rattle.sm_answer_rotations.proofs.SeatingLemmas.{seat_cases}

-- the pair of a proposer's seat is its pair in the instance
pub pair_alike : {w : Written} {s : Seating} → IsSeating w s → (m : Places) → IsMarketStable s.market m → (p : ℕ)
    → seated_pair_line s m p ≡ pair_line w (written_of s m.proposers) p
pair_alike {w} {s} h m st p = elim (seat_cases h st.matching p) [
  | inl alone ↦
      ap (option_map (λ i. LineData.Pair p (reviewer_of s (market_entry s.market.proposers p i)))) alone.held_is
      ∙ sym (ap (option_map (λ i. LineData.Pair p (entry w.proposers p i))) alone.written_is)
  | inr seat ↦
      ap (option_map (λ i. LineData.Pair p (reviewer_of s (market_entry s.market.proposers p i)))) seat.held_is
      ∙ ap (λ r. Some (LineData.Pair p r)) (sym seat.there)
      ∙ sym (ap (option_map (λ i. LineData.Pair p (entry w.proposers p i))) seat.written_is)
]

-- that nothing is allowed is said by lines of the instance
pub none_sound : (head : HeadData) (input : Input) (w : Written) → input ≡ Two w → IsHeadOf w.kind head → All (IsLineOf input) (none_lines head)
none_sound head input w two named =
    let P = IsLineOf (Two w) in
    subst (λ (i : Input). All (IsLineOf i) (none_lines head)) (sym two)
    (All-cons P (LineData.Answer head) (LineData.Nothing ∷ LineData.End ∷ []) (record { printable = tt; seats = λ k d l. absurd (omega arith); numbers = tt; head = named })
    (All-cons P LineData.Nothing (LineData.End ∷ []) (record { printable = tt; seats = λ k d l. absurd (omega arith); numbers = tt; head = tt })
    (one_all P LineData.End (end_sound (Two w)))))
