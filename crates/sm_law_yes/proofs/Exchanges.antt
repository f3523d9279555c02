-- Clauses that don't see an exchange of two neighbours hold at reordered lines.
use Rattle.std.proofs.Common.{◌≡◌, ℕ, suc, sym, true, List, [], ◌∷◌, ◌++◌, take, subst, append-nil, append_assoc}
use Rattle.std.specs.Prelude.{IfSome}
use Rattle.std.specs.List.{slice_get}
use Rattle.sm_report.specs.Lines.{LineData}
use Rattle.sm_report.specs.Keywords.{keyword_of}
use Rattle.sm_check_clauses.specs.declared.verdicts.Reason.{Reason}
use Rattle.sm_check_clauses.proofs.LinewiseLemmas.{AllHold}
use Rattle.sm_law_yes.specs.Reordered.{is_free, IsReordered}
use Rattle.sm_law_yes.specs.Reordered.IsReordered.{none, kept, exchanged, both}

-- two neighbours may stand in the other order, and what is read of the lines above stays alike
pub record Exchanges (Clauses : List LineData → LineData → Reason → Type 0) (IsAlike : List LineData → List LineData → Type 0) (above : List LineData) (x y : LineData) : Type 0 where
  pub first : (why : Reason) → Clauses above y why
  pub second : (why : Reason) → Clauses (above ++ y ∷ []) x why
  pub alike : IsAlike ((above ++ x ∷ []) ++ y ∷ []) ((above ++ y ∷ []) ++ x ∷ [])

-- what is read of lines, in which free neighbours are exchanged
pub record SeesNoOrder (Clauses : List LineData → LineData → Reason → Type 0) (IsAlike : List LineData → List LineData → Type 0) : Type 0 where
  pub carries : (a b : List LineData) (z : LineData) (why : Reason) → IsAlike a b → Clauses a z why → Clauses b z why
  pub more : (a b : List LineData) (z : LineData) → IsAlike a b → IsAlike (a ++ z ∷ []) (b ++ z ∷ [])
  pub exchanges : (above : List LineData) (x y : LineData) → keyword_of x ≡ keyword_of y → is_free (keyword_of x) ≡ true → ((why : Reason) → Clauses above x why) → ((why : Reason) → Clauses (above ++ x ∷ []) y why)
      → Exchanges Clauses IsAlike above x y

module _ {Clauses : List LineData → LineData → Reason → Type 0} {IsAlike : List LineData → List LineData → Type 0} (s : SeesNoOrder Clauses IsAlike) where
  carried : (a b lines : List LineData) → IsAlike a b → AllHold Clauses a lines → AllHold Clauses b lines
  carried a b [] alike h = tt
  carried a b (z ∷ zs) alike h = (λ why. s.carries a b z why alike (h.0 why), carried (a ++ z ∷ []) (b ++ z ∷ []) zs (s.more a b z alike) h.1)

  -- all clauses hold at reordered lines
  pub reordered_hold : {lines others : List LineData} → IsReordered lines others → (above : List LineData) → AllHold Clauses above lines → AllHold Clauses above others
  reordered_hold none above h = h
  reordered_hold (kept x r) above h = (h.0, reordered_hold r (above ++ x ∷ []) h.1)
  reordered_hold (exchanged x y lines e f) above h =
      let t = s.exchanges above x y e f h.0 h.1.0 in
      (t.first, (t.second, carried ((above ++ x ∷ []) ++ y ∷ []) ((above ++ y ∷ []) ++ x ∷ []) lines t.alike h.1.1))
  reordered_hold (both r q) above h = reordered_hold q above (reordered_hold r above h)

-- clauses at each place of some lines, line by line
pub holds_each : (Clauses : List LineData → LineData → Reason → Type 0) (above lines : List LineData)
    → ((k : ℕ) (why : Reason) → IfSome (slice_get lines k) (λ x. Clauses (above ++ take k lines) x why)) → AllHold Clauses above lines
holds_each Clauses above [] h = tt
holds_each Clauses above (x ∷ xs) h = (
  λ why. subst (λ (a : List LineData). Clauses a x why) (append-nil above) (h 0 why),
  holds_each Clauses (above ++ x ∷ []) xs
      (λ k why. subst (λ (a : List LineData). IfSome (slice_get xs k) (λ y. Clauses a y why)) (sym (append_assoc above (x ∷ []) (take k xs))) (h (suc k) why)),
)
