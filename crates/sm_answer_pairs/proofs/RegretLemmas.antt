-- The lines of the answer of `regret`.
use Rattle.std.proofs.Common.{◌≡◌, ℕ, ◌-◌, ◌≤◌, List, [], ◌∷◌, ◌++◌, length, Option, sym, ap, ◌∙◌, arith, subst}
use Rattle.std.specs.List.{All}
use Rattle.std.proofs.lemmas.List.Elements.{All-append, All-cons}
use Rattle.sm_answer.specs.Lines.{lines_from}
use Rattle.sm_answer.proofs.AnswerLemmas.{lines_from-same, lines_all}
use Rattle.sm_agents.specs.Written.{Written}
use Rattle.sm_agents.specs.Sound.{IsInstance}
use Rattle.sm_instance.specs.Matching.{standing}
use Rattle.sm_instance.specs.Ranks.{regret_of as written_regret}
use Rattle.sm_instance.specs.declared.inputs.Input.{Input}
use Rattle.sm_instance.specs.declared.inputs.Input.TheVariants.{Two}
use Rattle.sm_report.specs.Heads.{HeadData}
use Rattle.sm_report.specs.Lines.{LineData}
use Rattle.sm_report.specs.Sound.{IsLineOf, IsSmall}
use Rattle.sm_theory.specs.Weights.{regret_of}
use Rattle.sm_seats.specs.Seating.{Seating, written_of}
use Rattle.sm_seats.specs.Correspondence.{IsSeating, worse_ranks_of}
use Rattle.sm_seats.proofs.SeatingLaws.{as_well}
use Rattle.sm_seats.proofs.VectorLaws.{allowed_seats, least_regret_written}
use Rattle.sm_answer.specs.MatchingLines.{pair_line}
use Rattle.sm_answer_rotations.specs.PairLines.{seated_pair_line}
use Rattle.sm_answer_rotations.proofs.PairLemmas.{pair_alike}
use Rattle.sm_answer.proofs.LineLemmas.{end_sound, pair_sound}
use Rattle.sm_answer_pairs.specs.RegretAnswer.{IsLeastRegret as IsWrittenLeastRegret, IsRegretAnswer, regret_lines}
use Rattle.sm_answer_pairs.specs.RegretFound.{IsLeastRegretOfSeats, regret_given}
use Rattle.sm_answer_pairs.specs.declared.least_regret.LeastRegret.{LeastRegret}

module _ {w : Written} {s : Seating} (h : IsSeating w s) (found : LeastRegret) (f : IsLeastRegretOfSeats w s found) where
  places : List (Option ℕ)
  places = written_of s found.matching.places.proposers

  -- the regret that is found is that of the matching in the instance
  pub regret_is : found.regret ≡ written_regret w (written_of s found.matching.places.proposers)
  regret_is = sym f.least.regret_is ∙ h.regrets found.matching.places f.least.stable.matching

  -- which has the least regret in the instance, too
  pub least_written : IsWrittenLeastRegret w (written_of s found.matching.places.proposers)
  least_written = record {
    stable = h.forgotten found.matching.places f.least.stable;
    allowed = (h.allowed found.matching.places f.least.stable.matching).0 f.least.allowed;
    least = least_regret_written h found.matching.places f.least.stable (λ n st a. subst (λ r. r ≤ regret_of s.market (worse_ranks_of w s) n) (sym f.least.regret_is) (f.least.least n st a));
    best = λ others st a same p.
        let n = allowed_seats h st a in
        let equal : regret_of s.market (worse_ranks_of w s) n.matching ≡ found.regret = h.regrets n.matching n.stable.matching ∙ ap (written_regret w) n.forgets ∙ same ∙ sym regret_is in
        subst (λ (x : List (Option ℕ)). standing w (written_of s found.matching.places.proposers) p ≤ standing w x p) n.forgets
        (as_well h f.least.stable n.stable p (f.least.best n.matching n.stable n.allowed equal p));
  }

  -- the lines that are given are those of the answer
  given_is : regret_given s found ≡ regret_lines w (written_of s found.matching.places.proposers)
  given_is =
      let count : length s.market.proposers - 0 ≡ length w.proposers = omega (arith, h.proposers) in
      let m = found.matching.places in
      ap (λ r. LineData.Answer HeadData.Regret ∷ LineData.Regret r ∷ (lines_from (seated_pair_line s m) 0 (length s.market.proposers - 0) ++ (LineData.End ∷ []))) regret_is
      ∙ ap (λ t. LineData.Answer HeadData.Regret ∷ LineData.Regret (written_regret w (written_of s m.proposers)) ∷ (t ++ (LineData.End ∷ [])))
      (ap (lines_from (seated_pair_line s m) 0) count ∙ lines_from-same (seated_pair_line s m) (pair_line w (written_of s m.proposers)) (pair_alike h m f.least.stable) 0 (length w.proposers))

  -- the lines say that matching with its regret, which is a right answer
  pub regret_right : IsRegretAnswer w (regret_given s found)
  regret_right = record { places = written_of s found.matching.places.proposers; least = least_written; shows = given_is }

  -- and lines of the instance
  pub regret_sound : (input : Input) → IsInstance w → input ≡ Two w → IsSmall found.regret → All (IsLineOf input) (regret_given s found)
  regret_sound input i two small =
      let P = IsLineOf (Two w) in
      let m = found.matching.places in
      let rest = lines_from (pair_line w (written_of s m.proposers)) 0 (length w.proposers) in
      subst (λ (i : Input). All (IsLineOf i) (regret_given s found)) (sym two)
      (subst (All P) (sym given_is)
      (All-cons P (LineData.Answer HeadData.Regret) (LineData.Regret (written_regret w (written_of s m.proposers)) ∷ (rest ++ LineData.End ∷ [])) (record { printable = tt; seats = λ k d l. absurd (omega arith); numbers = tt; head = tt })
      (All-cons P (LineData.Regret (written_regret w (written_of s m.proposers))) (rest ++ LineData.End ∷ []) (record { printable = tt; seats = λ k d l. absurd (omega arith); numbers = subst IsSmall regret_is small; head = tt })
      (All-append P rest (LineData.End ∷ []) (lines_all P (pair_line w (written_of s m.proposers)) (pair_sound w (written_of s m.proposers) (h.forgotten m f.least.stable).matching) 0 (length w.proposers))
      (All-cons P LineData.End [] (end_sound (Two w)) (λ k d l. absurd (omega arith)))))))
