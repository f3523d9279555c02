-- What is kept of an answer line by line.
use Rattle.std.proofs.Common.{◌≡◌, ℕ, suc, ◌+◌, ◌<◌, ◌++◌, ◌∷◌, [], List, map, length, get_or, take, drop, drop-cons, Option, None, Some, false, sym, ap, ◌∙◌, subst, arith}
use Rattle.std.specs.List.{list_all, slice_get}
use Rattle.std.proofs.lemmas.List.{take-append-drop, get_or_default, length-map}
use Rattle.std.proofs.lemmas.Option.{slice_get_within, slice_get-get_or, get_or_from_slice_get}
use Rattle.sm_agents.specs.Written.{Written}
use Rattle.sm_agents.specs.declared.kinds.Measure.{Measure}
use Rattle.sm_report.specs.Heads.{HeadData}
use Rattle.sm_report.specs.declared.lines.Line.{Line}
use Rattle.sm_report.specs.Lines.{LineData, line_of}
use Rattle.sm_check_answers.specs.declared.rotations.RotationsJudge.{RotationsJudge}
use Rattle.sm_check_clauses.specs.declared.verdicts.Reason.{Reason}
use Rattle.sm_check_clauses.specs.declared.verdicts.Reason.TheVariants as reason
use Rattle.sm_check_clauses.specs.Chain.{RotationsHold}
use Rattle.sm_check_clauses.specs.Flows.{WeightHolds}
use Rattle.sm_check_clauses.specs.Judges.{Judges}
use Rattle.sm_check_clauses.specs.Judging.{answer}
use Rattle.sm_check_clauses.specs.Said.{is_up_to_rotations}
use Rattle.sm_check_clauses.specs.Verdicts.{Finds}
use Rattle.sm_check_clauses.specs.Walking.{FindsOrKeeps}
use Rattle.sm_check_clauses.specs.Walks.{IsChainKept}
use Rattle.sm_check_clauses.proofs.AnswerLemmas.{kept_as}
use Rattle.sm_check_clauses.proofs.JudgingLemmas.{line_at, above_next}
use Rattle.sm_check_weight.specs.Kept.{ClaimHolds, AreTables, IsClaimAt, IsClaimOf, IsJudgeOf, IsNextLine}
use Rattle.sm_check_weight.specs.Order.{AreNeedsInOrder}
use Rattle.sm_check_weight.specs.declared.claims.Claim.{Claim}
use Rattle.sm_check_weight.specs.declared.judging.Tables.{Tables}
use Rattle.sm_check_weight.specs.declared.judging.WeightJudge.{WeightJudge}
use Rattle.sm_check_weight.proofs.ClauseLemmas.{weight_found}
use Rattle.sm_check_weight.proofs.GroundLemmas.{one_instance, not_all}
use Rattle.sm_check_weight.proofs.OrderLemmas.{needs_on}

-- a line that is read, among the lines as data
pub read_is : (lines : List Line) (k : ℕ) (x : Line) → k < length lines → x ≡ get_or lines k x → line_of x ≡ get_or (map line_of lines) k LineData.End
read_is lines k x inside e = sym (get_or_from_slice_get (map line_of lines) k (line_of x) LineData.End (line_at lines k x inside e))

-- and so it is by any line in place of a missing one
pub line_of-get_or : (lines : List Line) (k : ℕ) (d : Line) → k < length lines → line_of (get_or lines k d) ≡ get_or (map line_of lines) k LineData.End
line_of-get_or lines k d inside = read_is lines k (get_or lines k d) inside (get_or_default lines k d (get_or lines k d) inside)

-- there it is found
pub stands_at : (lines : List Line) (k : ℕ) → k < length lines → slice_get (map line_of lines) k ≡ Some (get_or (map line_of lines) k LineData.End)
stands_at lines k inside = slice_get-get_or (map line_of lines) k LineData.End (omega (arith, inside, length-map lines line_of))

-- line k follows those above it
pub next_at : (lines : List LineData) (k : ℕ) (x : LineData) → slice_get lines k ≡ Some x → IsNextLine lines (take k lines) x
next_at lines k x at = record {
  below = drop (suc k) lines;
  is =
      sym (take-append-drop k lines)
      ∙ ap (λ (rest : List LineData). take k lines ++ rest) (drop-cons lines k LineData.End (slice_get_within lines k x at)
      ∙ ap (λ (y : LineData). y ∷ drop (suc k) lines) (get_or_from_slice_get lines k x LineData.End at));
}

-- what is kept of a claim with it
pub claim_kept : (w : Written) (by : Measure) (lines : List LineData) (k : ℕ) (x : LineData) → slice_get lines k ≡ Some x → is_up_to_rotations x ≡ false → (r : Option Reason) (after : Claim)
    → FindsOrKeeps (ClaimHolds w by (take k lines) x) (IsClaimOf w by lines (take k lines ++ x ∷ []) after) r → FindsOrKeeps (ClaimHolds w by (take k lines) x) (IsClaimAt w by lines (take (k + 1) lines) (Some after)) r
claim_kept w by lines k x at behind r after found = kept_as (ClaimHolds w by (take k lines) x)
    (λ is. (
      subst (λ (above : List LineData). IsClaimOf w by lines above after) (sym (above_next lines k x at)) is,
      ap (list_all is_up_to_rotations) (above_next lines k x at) ∙ not_all (take k lines) x behind,
    ))
    r found

-- where no clause on rotations fails, what is kept with the others
pub weight_kept : (w : Written) (by : Measure) (above : List LineData) (x : LineData) {A B : Type 0} (r : Option Reason) → Finds (RotationsHold w above x) None → (A → B) → FindsOrKeeps (ClaimHolds w by above x) A r
    → FindsOrKeeps (WeightHolds w by above x) B r
weight_kept w by above x None all f found = (weight_found w by above x None all found.0, f found.1)
weight_kept w by above x (Some why) all f found = weight_found w by above x (Some why) all found

module _ {w : Written} {by : Measure} {lines : List LineData} {k : ℕ} {judge : WeightJudge} (known : IsJudgeOf w by lines k judge) where
  -- it is said of those that are kept
  pub to_own : (P : Written → Measure → List LineData → Type 0) → P w by lines → P judge.weighed.now.instance.now judge.weighed.now.by (map line_of judge.lines.now)
  to_own P h =
      subst (λ (v : Written). P v judge.weighed.now.by (map line_of judge.lines.now)) (sym known.instance_is)
      (subst (λ (b : Measure). P w b (map line_of judge.lines.now)) (sym known.by_is)
      (subst (P w by) (sym known.lines_are) h))

  -- and what is said of those is said of it
  pub of_own : (P : Written → Measure → List LineData → Type 0) → P judge.weighed.now.instance.now judge.weighed.now.by (map line_of judge.lines.now) → P w by lines
  of_own P h =
      subst (P w by) known.lines_are
      (subst (λ (b : Measure). P w b (map line_of judge.lines.now)) known.by_is
      (subst (λ (v : Written). P v judge.weighed.now.by (map line_of judge.lines.now)) known.instance_is h))

  -- what the chain finds at a line, and keeps
  pub chain_judged : (x y : LineData) → y ≡ x → (after : RotationsJudge) (r : Option Reason) → answer after.instance.now HeadData.Rotations ≡ answer judge.chain.instance.now HeadData.Rotations
      → Judges (answer judge.chain.instance.now HeadData.Rotations) (λ above. IsChainKept judge.chain.instance.now judge.chain.market.now judge.chain.firsts.now above judge.chain.pairs judge.chain.walk)
      (λ above. IsChainKept after.instance.now after.market.now after.firsts.now above after.pairs after.walk) y r
      → FindsOrKeeps (RotationsHold w (take k lines) x) (IsChainKept w after.market.now after.firsts.now (take k lines ++ x ∷ []) after.pairs after.walk) r
  chain_judged x y is after r same found =
      let same_instance = one_instance after.instance.now judge.chain.instance.now HeadData.Rotations same ∙ known.chain_of in
      subst (λ (v : Written). FindsOrKeeps (RotationsHold w (take k lines) x) (IsChainKept v after.market.now after.firsts.now (take k lines ++ x ∷ []) after.pairs after.walk) r) same_instance
      (subst (λ (z : LineData). FindsOrKeeps (RotationsHold w (take k lines) z) (IsChainKept after.instance.now after.market.now after.firsts.now (take k lines ++ z ∷ []) after.pairs after.walk) r) is
      ((subst (λ (v : Written). Judges (answer v HeadData.Rotations) (λ above. IsChainKept v judge.chain.market.now judge.chain.firsts.now above judge.chain.pairs judge.chain.walk)
      (λ above. IsChainKept after.instance.now after.market.now after.firsts.now above after.pairs after.walk) y r) known.chain_of found) (take k lines) known.chain))

  -- what is kept with line k
  pub judged : AreNeedsInOrder w lines → (x : LineData) → slice_get lines k ≡ Some x → (chain : RotationsJudge) → answer chain.instance.now HeadData.Rotations ≡ answer judge.chain.instance.now HeadData.Rotations → Finds (RotationsHold w (take k lines) x) None
      → IsChainKept w chain.market.now chain.firsts.now (take k lines ++ x ∷ []) chain.pairs chain.walk → (after : WeightJudge) → after.weighed ≡ judge.weighed → after.lines ≡ judge.lines → after.tables ≡ judge.tables → after.chain ≡ chain
      → IsClaimAt w by lines (take (k + 1) lines) after.claim → IsJudgeOf w by lines (k + 1) after
  judged order x at chain same_instance hold kept after same_weighed same_lines same_tables same_chain claim = record {
    instance_is = ap (λ r. r.now.instance.now) same_weighed ∙ known.instance_is;
    by_is = ap (λ r. r.now.by) same_weighed ∙ known.by_is;
    seats = ap (λ r. r.now.seats.now) same_weighed ∙ known.seats;
    seating = known.seating;
    lines_are = ap (λ r. map line_of r.now) same_lines ∙ known.lines_are;
    tables = subst (λ (t : Tables). AreTables w by t) (sym same_tables) known.tables;
    chain_of = ap (λ (c : RotationsJudge). c.instance.now) same_chain ∙ one_instance chain.instance.now judge.chain.instance.now HeadData.Rotations same_instance ∙ known.chain_of;
    chain = subst (λ (c : RotationsJudge). IsChainKept w c.market.now c.firsts.now (take (k + 1) lines) c.pairs c.walk) (sym same_chain)
        (subst (λ (above : List LineData). IsChainKept w chain.market.now chain.firsts.now above chain.pairs chain.walk) (sym (above_next lines k x at)) kept);
    needs = needs_on order k x at (let inside = slice_get_within lines k x at in omega (arith, inside)) ((hold reason.WrongNeeds).1) known.needs;
    claim = claim;
  }
