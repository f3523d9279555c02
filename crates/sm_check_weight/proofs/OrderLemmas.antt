-- What is kept of an answer with one line more: what its rotations need, and that nothing is claimed while they are written.
use Rattle.std.proofs.Common.{◌≡◌, ℕ, zero, suc, ◌+◌, ◌≤◌, List, [], ◌∷◌, ◌++◌, length, take, get_or, Option, None, Some, true, refl, sym, ap, ◌∙◌, subst, arith}
use Rattle.std.specs.Prelude.{IfSome, IsSome, is_some}
use Rattle.std.specs.List.{list_all, slice_get}
use Rattle.std.proofs.lemmas.Bool.{false≢true}
use Rattle.std.proofs.lemmas.List.{length_push}
use Rattle.std.proofs.lemmas.Option.{none-some, slice_get-get_or}
use Rattle.sm_agents.specs.Written.{Written}
use Rattle.sm_agents.specs.declared.kinds.Measure.{Measure}
use Rattle.sm_theory.specs.Chains.{AreNeedsOf}
use Rattle.sm_seats.specs.SeatMarket.{seat_market}
use Rattle.sm_report.specs.Lines.{LineData}
use Rattle.sm_check_forms.proofs.TakingLemmas.{all_more}
use Rattle.sm_check_clauses.specs.Chain.{last_rotation}
use Rattle.sm_check_clauses.specs.Said.{rotation_in, rotations_in, needs_in, all_needs_in, is_up_to_rotations}
use Rattle.sm_check_clauses.proofs.JudgingLemmas.{above_next}
use Rattle.sm_check_clauses.proofs.AnswerLemmas.{said_same, said_one}
use Rattle.sm_check_weight.specs.Kept.{AreNeedsSoFar, IsClaimAt}
use Rattle.sm_check_weight.specs.Order.{AreNeedsInOrder}
use Rattle.sm_check_weight.specs.declared.claims.Claim.{Claim}
use Rattle.sm_check_weight.proofs.NeedsLemmas.{needs_kept, needs_more}

-- a line with a rotation says nothing of needs
not_both : (w : Written) (x : LineData) (rotation : List (ℕ × ℕ)) (needs : List ℕ) → rotation_in w x ≡ Some rotation → needs_in x ≡ Some needs → ⊥
not_both w (LineData.Rotation i pairs) rotation needs r n = none-some needs n
not_both w _ rotation needs r n = none-some rotation r

module _ (w : Written) (above : List LineData) (x : LineData) where
  -- there are no more lines of needs than rotations
  few_more : (IsSome (needs_in x) → length (all_needs_in above) + 1 ≡ length (rotations_in w above)) → length (all_needs_in above) ≤ length (rotations_in w above)
      → length (all_needs_in (above ++ x ∷ [])) ≤ length (rotations_in w (above ++ x ∷ []))
  few_more at few = go (rotation_in w x) (needs_in x) refl refl
    where
      go : (r : Option (List (ℕ × ℕ))) (n : Option (List ℕ)) → rotation_in w x ≡ r → needs_in x ≡ n → length (all_needs_in (above ++ x ∷ [])) ≤ length (rotations_in w (above ++ x ∷ []))
      go None None r n =
          let rotations = ap (λ (rs : List (List (ℕ × ℕ))). length rs) (said_same (rotation_in w) above x r) in
          let needs = ap (λ (ns : List (List ℕ)). length ns) (said_same needs_in above x n) in
          omega (arith, few, rotations, needs)
      go (Some rotation) None r n =
          let long = ap (λ (rs : List (List (ℕ × ℕ))). length rs) (said_one (rotation_in w) above x rotation r) in
          let same = ap (λ (ns : List (List ℕ)). length ns) (said_same needs_in above x n) in
          omega (arith, few, long, same, length_push (rotations_in w above) rotation)
      go None (Some needs) r n =
          let long = ap (λ (ns : List (List ℕ)). length ns) (said_one needs_in above x needs n) in
          let same = ap (λ (rs : List (List (ℕ × ℕ))). length rs) (said_same (rotation_in w) above x r) in
          let last = at (ap is_some n) in
          omega (arith, last, long, same, length_push (all_needs_in above) needs)
      go (Some rotation) (Some needs) r n = absurd (not_both w x rotation needs r n)

  -- the rotations and what they need
  pub needs_next : length (all_needs_in above) ≤ length (rotations_in w above) → (IsSome (needs_in x) → length (all_needs_in above) + 1 ≡ length (rotations_in w above))
      → IfSome (needs_in x) (AreNeedsOf (seat_market w) (rotations_in w above) (last_rotation w above)) → AreNeedsSoFar (seat_market w) (rotations_in w above) (all_needs_in above)
      → AreNeedsSoFar (seat_market w) (rotations_in w (above ++ x ∷ [])) (all_needs_in (above ++ x ∷ []))
  needs_next few at right so_far = go (rotation_in w x) (needs_in x) refl refl
    where
      as_said : {rotations : List (List (ℕ × ℕ))} {needs : List (List ℕ)} → rotations_in w (above ++ x ∷ []) ≡ rotations → all_needs_in (above ++ x ∷ []) ≡ needs → AreNeedsSoFar (seat_market w) rotations needs
          → AreNeedsSoFar (seat_market w) (rotations_in w (above ++ x ∷ [])) (all_needs_in (above ++ x ∷ []))
      as_said {rotations} {needs} r n h =
          subst (λ (rs : List (List (ℕ × ℕ))). AreNeedsSoFar (seat_market w) rs (all_needs_in (above ++ x ∷ []))) (sym r)
          (subst (λ (ns : List (List ℕ)). AreNeedsSoFar (seat_market w) rotations ns) (sym n) h)

      go : (r : Option (List (ℕ × ℕ))) (n : Option (List ℕ)) → rotation_in w x ≡ r → needs_in x ≡ n → AreNeedsSoFar (seat_market w) (rotations_in w (above ++ x ∷ [])) (all_needs_in (above ++ x ∷ []))
      go None None r n = as_said (said_same (rotation_in w) above x r) (said_same needs_in above x n) so_far
      go (Some rotation) None r n = as_said (said_one (rotation_in w) above x rotation r) (said_same needs_in above x n) (needs_kept {l = seat_market w} (rotations_in w above) rotation (all_needs_in above) few so_far)
      go None (Some needs) r n =
          as_said (said_same (rotation_in w) above x r) (said_one needs_in above x needs n)
          (needs_more {l = seat_market w} (rotations_in w above) (all_needs_in above) needs (at (ap is_some n)) so_far (subst (λ (o : Option (List ℕ)). IfSome o (AreNeedsOf (seat_market w) (rotations_in w above) (last_rotation w above))) n right))
      go (Some rotation) (Some needs) r n = absurd (not_both w x rotation needs r n)

module _ {w : Written} {lines : List LineData} (order : AreNeedsInOrder w lines) where
  -- above any line there are no more lists of needs than rotations
  pub few_above : (k : ℕ) → k ≤ length lines → length (all_needs_in (take k lines)) ≤ length (rotations_in w (take k lines))
  few_above zero h = omega arith
  few_above (suc k) h =
      let x : LineData = get_or lines k LineData.End in
      let at : slice_get lines k ≡ Some x = slice_get-get_or lines k LineData.End (omega (arith, h)) in
      let one : suc k ≡ k + 1 = omega arith in
      subst (λ (above : List LineData). length (all_needs_in above) ≤ length (rotations_in w above)) (sym (ap (λ (n : ℕ). take n lines) one ∙ above_next lines k x at))
      (few_more w (take k lines) x (order.at k x at) (few_above k (omega (arith, h))))

  -- with the line behind those above
  pub needs_on : (k : ℕ) (x : LineData) → slice_get lines k ≡ Some x → k ≤ length lines → IfSome (needs_in x) (AreNeedsOf (seat_market w) (rotations_in w (take k lines)) (last_rotation w (take k lines)))
      → AreNeedsSoFar (seat_market w) (rotations_in w (take k lines)) (all_needs_in (take k lines)) → AreNeedsSoFar (seat_market w) (rotations_in w (take (k + 1) lines)) (all_needs_in (take (k + 1) lines))
  needs_on k x at inside right so_far =
      subst (λ (above : List LineData). AreNeedsSoFar (seat_market w) (rotations_in w above) (all_needs_in above)) (sym (above_next lines k x at))
      (needs_next w (take k lines) x (few_above k inside) (order.at k x at) right so_far)

  -- up to the rotations nothing is claimed
  pub claim_on : (by : Measure) (k : ℕ) (x : LineData) → slice_get lines k ≡ Some x → is_up_to_rotations x ≡ true → (claim : Option Claim) → IsClaimAt w by lines (take k lines) claim → IsClaimAt w by lines (take (k + 1) lines) claim
  claim_on by k x at up None all =
      subst (λ (above : List LineData). list_all is_up_to_rotations above ≡ true) (sym (above_next lines k x at)) (all_more is_up_to_rotations (take k lines) x all up)
  claim_on by k x at up (Some claim) h = absurd (false≢true (sym h.1 ∙ order.up k x at up))
