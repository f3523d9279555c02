-- There is no more than one verdict.
use Rattle.std.proofs.Common.{◌≡◌, ℕ, ◌+◌, ◌≤◌, inl, inr, arith, refl, sym, ap, ◌∙◌, List, [], ◌∷◌, slice_index_or}
use Rattle.sm_lists.proofs.Counting.{lt_or_le}
use Rattle.sm_check_clauses.specs.declared.verdicts.Reason.{Reason}
use Rattle.sm_check_clauses.specs.declared.verdicts.Reason.TheVariants as reason
use Rattle.sm_check_clauses.specs.declared.verdicts.Verdict.{Verdict}
use Rattle.sm_check_clauses.specs.declared.verdicts.Verdict.TheVariants as verdict
use Rattle.sm_check_clauses.specs.Verdicts.{IsVerdict, IsFirstFailure, number_of_reason}
use Rattle.sm_check_clauses.specs.Judging.{Holds}
use Rattle.sm_cert.specs.Laws.{OneVerdict}

reasons : List Reason
reasons = reason.NotAMatching ∷ reason.Blocked ∷ reason.NotBest ∷ reason.WrongList ∷ reason.NotExposed ∷ reason.RotationMissing ∷ reason.WrongNeeds ∷ reason.WrongGain ∷ reason.NoEdge ∷ reason.OverRoom ∷ reason.NotConserved ∷ reason.NotClosed ∷ reason.WrongValue ∷ reason.WrongCut ∷ reason.CutDiffers ∷ reason.WrongTotal ∷ reason.WrongPair ∷ reason.NotLeast ∷ reason.NotRising ∷ reason.NotAllowed ∷ reason.OverLimit ∷ reason.WrongTail ∷ reason.WrongRegret ∷ reason.NotPartition ∷ reason.NoOddParty ∷ []

reason_of : ℕ → Reason
reason_of n = slice_index_or (reason.NotAMatching ∷ reasons) n reason.NotAMatching

of_number : (why : Reason) → reason_of (number_of_reason why) ≡ why
unfolding reason_of reasons
of_number reason.NotAMatching = refl
of_number reason.Blocked = refl
of_number reason.NotBest = refl
of_number reason.WrongList = refl
of_number reason.NotExposed = refl
of_number reason.RotationMissing = refl
of_number reason.WrongNeeds = refl
of_number reason.WrongGain = refl
of_number reason.NoEdge = refl
of_number reason.OverRoom = refl
of_number reason.NotConserved = refl
of_number reason.NotClosed = refl
of_number reason.WrongValue = refl
of_number reason.WrongCut = refl
of_number reason.CutDiffers = refl
of_number reason.WrongTotal = refl
of_number reason.WrongPair = refl
of_number reason.NotLeast = refl
of_number reason.NotRising = refl
of_number reason.NotAllowed = refl
of_number reason.OverLimit = refl
of_number reason.WrongTail = refl
of_number reason.WrongRegret = refl
of_number reason.NotPartition = refl
of_number reason.NoOddParty = refl

same_reason : (a b : Reason) → number_of_reason a ≡ number_of_reason b → a ≡ b
same_reason a b e = sym (of_number a) ∙ ap reason_of e ∙ of_number b

module _ (Holds : ℕ → Reason → Type 0) where
  -- of two first failures neither is before the other
  not_before : (j k : ℕ) (a b : Reason) → IsFirstFailure Holds j a → IsFirstFailure Holds k b → k ≤ j
  not_before j k a b f g = elim (lt_or_le j k) [ inl less ↦ absurd (f.fails (g.lines_above j a less)) | inr more ↦ more ]

  not_sooner : (k : ℕ) (a b : Reason) → IsFirstFailure Holds k a → IsFirstFailure Holds k b → number_of_reason b ≤ number_of_reason a
  not_sooner k a b f g = elim (lt_or_le (number_of_reason a) (number_of_reason b)) [ inl less ↦ absurd (f.fails (g.clauses_before a less)) | inr more ↦ more ]

  same_failure : (first_line j k : ℕ) (a b : Reason) → IsFirstFailure Holds j a → IsFirstFailure Holds k b → (first_line + j ≡ first_line + k) × (a ≡ b)
  same_failure first_line j k a b f g =
      let less = not_before j k a b f g in
      let more = not_before k j b a g f in
      let e : j ≡ k = omega (arith, less, more) in
      let f' : IsFirstFailure Holds k a = rw e at f in
      (ap (λ n. first_line + n) e, same_reason a b (omega (arith, not_sooner k a b f' g, not_sooner k b a g f')))

-- so two verdicts by the same clauses are one
pub one : (Holds : ℕ → Reason → Type 0) (first_line : ℕ) (v w : Verdict) → IsVerdict Holds first_line v → IsVerdict Holds first_line w → v ≡ w
one Holds first_line verdict.Yes verdict.Yes x y = refl
one Holds first_line verdict.Yes (verdict.No line why) x y = absurd (y.2.fails (x y.0 why))
one Holds first_line (verdict.No line why) verdict.Yes x y = absurd (x.2.fails (y x.0 why))
one Holds first_line (verdict.No line why) (verdict.No line' why') x y =
    let same = same_failure Holds first_line x.0 y.0 why why' x.2 y.2 in
    let lines : line ≡ line' = x.1 ∙ same.0 ∙ sym y.1 in
    (λ i. verdict.No (lines i) (same.1 i))

-- the law that there is no more than one verdict on an answer
pub one_verdict : OneVerdict
one_verdict input lines first_line v w x y = one (Holds input lines) first_line v w x y
