-- What is found of an answer of `regret`.
use Rattle.std.proofs.Common.{◌≡◌, ℕ, ◌++◌, ◌∷◌, [], List, Option, None, Some, refl, sym, ap, ◌∙◌, subst}
use Rattle.std.specs.Prelude.{unwrap_or, filter_map}
use Rattle.std.specs.List.{slice_get}
use Rattle.std.specs.Option.{option_or}
use Rattle.std.proofs.lemmas.Bool.{false≢true}
use Rattle.std.proofs.lemmas.Option.{unwrap_or-slice_get}
use Rattle.std.proofs.lemmas.List.Elements.{filter_map-append}
use Rattle.sm_agents.specs.Written.{Written}
use Rattle.sm_report.specs.Lines.{LineData}
use Rattle.sm_holding.specs.declared.holding.Holding.{Holding}
use Rattle.sm_check_clauses.specs.declared.verdicts.Reason.{Reason}
use Rattle.sm_check_clauses.specs.declared.verdicts.Reason.TheVariants as reason
use Rattle.sm_check_clauses.specs.Verdicts.{Finds}
use Rattle.sm_check_clauses.specs.Said.{pair_in, pairs_in, regret_in, first_said}
use Rattle.sm_holding.specs.Held.{places_in, CanFollow}
use Rattle.sm_check_clauses.specs.Vectors.{RegretHolds, RegretClauses}
use Rattle.sm_check_answers.specs.Regrets.{EndOfRegret, AreRegretsKept}
use Rattle.sm_check_clauses.specs.Walking.{FindsOrKeeps}
use Rattle.sm_holding.specs.PairsKept.{ArePairsHeld}
use Rattle.sm_check_clauses.proofs.AnswerLemmas.{found_by, first_more}

module _ (w : Written) (regret : ℕ) (pairs : List (ℕ × ℕ)) where
  -- at a line with a pair
  pub pair_holds : (p r : ℕ) → CanFollow w pairs (p, r) → (why : Reason) → RegretHolds w regret pairs (LineData.Pair p r) why
  pair_holds p r free reason.NotAMatching = free
  pair_holds p r free reason.Blocked = λ e. absurd (false≢true e)
  pair_holds p r free reason.NotAllowed = λ e. absurd (false≢true e)
  pair_holds p r free reason.WrongRegret = λ e. absurd (false≢true e)
  pair_holds p r free _ = tt

  -- at the end
  at_end : (why : Reason) → EndOfRegret w regret (places_in w pairs) why → RegretHolds w regret pairs LineData.End why
  at_end reason.Blocked h = λ _. h
  at_end reason.NotAllowed h = λ _. h
  at_end reason.WrongRegret h = λ _. h
  at_end _ h = tt

  of_end : (why : Reason) → RegretHolds w regret pairs LineData.End why → EndOfRegret w regret (places_in w pairs) why
  of_end reason.Blocked h = h refl
  of_end reason.NotAllowed h = h refl
  of_end reason.WrongRegret h = h refl
  of_end _ h = tt

  pub found_at_end : (holding : Holding) (r : Option Reason) → ArePairsHeld w pairs holding → Finds (EndOfRegret w regret holding.matching.places.items) r → Finds (RegretHolds w regret pairs LineData.End) r
  found_at_end holding r k f = found_by at_end of_end r (subst (λ (m : List (Option ℕ)). Finds (EndOfRegret w regret m) r) k.places f)

-- what is found at a line, and what is kept then
pub regret_judged : {w : Written} {regret : Option ℕ} (line : LineData) (old new : Holding) (why : Option Reason)
    → ((pairs : List (ℕ × ℕ)) → ArePairsHeld w pairs old → FindsOrKeeps (RegretHolds w (unwrap_or regret 0) pairs line) (ArePairsHeld w (pairs ++ pairs_in (line ∷ [])) new) why)
    → (above : List LineData) → AreRegretsKept w above old regret → FindsOrKeeps (RegretClauses w above line) (AreRegretsKept w (above ++ line ∷ []) new (option_or regret (regret_in line))) why
regret_judged {w} {regret} line old new why found above k = by_said why (found (pairs_in above) k.pairs)
  where
    said : unwrap_or regret 0 ≡ first_said 0 regret_in above
    said = ap (λ (o : Option ℕ). unwrap_or o 0) k.said ∙ unwrap_or-slice_get (filter_map regret_in above) 0 0

    by_said : (why : Option Reason) → FindsOrKeeps (RegretHolds w (unwrap_or regret 0) (pairs_in above) line) (ArePairsHeld w (pairs_in above ++ pairs_in (line ∷ [])) new) why
        → FindsOrKeeps (RegretClauses w above line) (AreRegretsKept w (above ++ line ∷ []) new (option_or regret (regret_in line))) why
    by_said (Some why) f = subst (λ (n : ℕ). Finds (RegretHolds w n (pairs_in above) line) (Some why)) said f
    by_said None f = (
      subst (λ (n : ℕ). Finds (RegretHolds w n (pairs_in above) line) None) said f.0,
      record {
        pairs = subst (λ (pairs : List (ℕ × ℕ)). ArePairsHeld w pairs new) (sym (filter_map-append pair_in above (line ∷ []))) f.1;
        said = ap (λ (o : Option ℕ). option_or o (regret_in line)) k.said
            ∙ sym (ap (λ (xs : List ℕ). slice_get xs 0) (filter_map-append regret_in above (line ∷ [])) ∙ first_more regret_in _ line);
      },
    )
