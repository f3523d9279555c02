-- Clauses that hold line by line.
use Rattle.std.proofs.Common.{◌≡◌, ℕ, zero, suc, ◌<◌, inl, inr, arith, sym, List, [], ◌∷◌, ◌++◌, length, take, append-nil, append_assoc, subst, true, false}
use Rattle.std.specs.Prelude.{IfSome}
use Rattle.std.specs.List.{slice_get}
use Rattle.std.proofs.lemmas.Bool.{false≢true}
use Rattle.sm_lists.proofs.Counting.{lt_or_le}
use Rattle.sm_report.specs.Lines.{LineData}
use Rattle.sm_check_clauses.specs.declared.verdicts.Reason.{Reason}
use Rattle.sm_check_clauses.specs.Verdicts.{AtLine}
use Rattle.sm_check_clauses.proofs.JudgingLemmas.{past_end}

-- all clauses hold at each of the lines behind those above
abbrev pub AllHold : (List LineData → LineData → Reason → Type 0) → (above lines : List LineData) → Type 0
AllHold Clauses above [] = Unit {0}
AllHold Clauses above (x ∷ xs) = ((why : Reason) → Clauses above x why) × AllHold Clauses (above ++ x ∷ []) xs

-- so each clause holds at a place of those lines, with others behind them
pub hold_at : (Clauses : List LineData → LineData → Reason → Type 0) (above front rest : List LineData) → AllHold Clauses above front → (k : ℕ) (why : Reason) → k < length front
    → IfSome (slice_get (front ++ rest) k) (λ x. Clauses (above ++ take k (front ++ rest)) x why)
hold_at Clauses above [] rest h k why lt = absurd (omega (arith, lt))
hold_at Clauses above (x ∷ xs) rest h zero why lt = subst (λ a. Clauses a x why) (sym (append-nil above)) (h.0 why)
hold_at Clauses above (x ∷ xs) rest h (suc k) why lt =
    subst (λ a. IfSome (slice_get (xs ++ rest) k) (λ y. Clauses a y why)) (append_assoc above (x ∷ []) (take k (xs ++ rest)))
    (hold_at Clauses (above ++ x ∷ []) xs rest h.1 k why (omega (arith, lt)))

-- and of all lines of an answer each clause holds at each
pub all_hold : (Clauses : List LineData → LineData → Reason → Type 0) (lines : List LineData) → AllHold Clauses [] lines → (k : ℕ) (why : Reason) → AtLine Clauses lines k why
all_hold Clauses lines h k why = elim (lt_or_le k (length lines)) [
  | inl less ↦ subst (λ xs. AtLine Clauses xs k why) (append-nil lines) (hold_at Clauses [] lines [] h k why less)
  | inr more ↦ past_end Clauses lines k why more
]

-- where all hold at some lines and at those behind them, they hold at both together
pub hold_append : (Clauses : List LineData → LineData → Reason → Type 0) (above front rest : List LineData) → AllHold Clauses above front → AllHold Clauses (above ++ front) rest
    → AllHold Clauses above (front ++ rest)
hold_append Clauses above [] rest h k = subst (λ a. AllHold Clauses a rest) (append-nil above) k
hold_append Clauses above (x ∷ front) rest h k =
    (h.0, hold_append Clauses (above ++ x ∷ []) front rest h.1 (subst (λ a. AllHold Clauses a rest) (sym (append_assoc above (x ∷ []) front)) k))

-- a test that is false
pub no_end : {P : Type 0} → false ≡ true → P
no_end e = absurd (false≢true e)
