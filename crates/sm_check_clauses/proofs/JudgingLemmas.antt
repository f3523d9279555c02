-- From what is found at one line after another to the verdict on an answer.
use Rattle.std.proofs.Common.{◌≡◌, ℕ, suc, ◌+◌, ◌<◌, ◌≤◌, inl, inr, arith, refl, sym, ap, ◌∙◌, Bool, true, false, List, [], ◌∷◌, ◌++◌, length, map, take, slice_index_or, Option, Some, subst}
use Rattle.std.specs.Prelude.{IfSome, option_map}
use Rattle.std.specs.List.{list_all, slice_get}
use Rattle.std.proofs.lemmas.Option.{slice_get_past, slice_get_within, slice_get_read, slice_get-map, get_or_from_slice_get}
use Rattle.std.proofs.lemmas.List.Folds.{list_all_at}
use Rattle.std.proofs.lemmas.Bool.{false≢true}
use Rattle.std.proofs.Math.Seq.{take-suc}
use Rattle.sm_lists.proofs.Counting.{lt_or_le}
use Rattle.sm_report.specs.declared.lines.Line.{Line}
use Rattle.sm_report.specs.Lines.{LineData, line_of}
use Rattle.sm_check_clauses.specs.declared.verdicts.Reason.{Reason}
use Rattle.sm_check_clauses.specs.Verdicts.{AtLine, IsFirstFailure, IsFirstThere, Finds}

-- the clauses of any answer: above a line and at it
pub first_failure : {Holds : ℕ → Reason → Type 0} (k : ℕ) (why : Reason) → ((j : ℕ) (other : Reason) → j < k → Holds j other) → IsFirstThere (Holds k) why → IsFirstFailure Holds k why
first_failure k why above f = record { lines_above = above; clauses_before = f.clauses_before; fails = f.fails }

-- where all clauses hold above a line and at it, they hold above the next one
pub one_more : {Holds : ℕ → Reason → Type 0} (k : ℕ) → ((j : ℕ) (other : Reason) → j < k → Holds j other) → ((other : Reason) → Holds k other) → (j : ℕ) (other : Reason) → j < k + 1 → Holds j other
one_more {Holds} k above here j other h = elim (lt_or_le j k) [
  | inl less ↦ above j other less
  | inr more ↦ let e : k ≡ j = omega arith in rw e at (here other)
]

-- a line that was read stands among the lines as data
pub line_at : (lines : List Line) (k : ℕ) (x : Line) → k < length lines → x ≡ slice_index_or lines k x → slice_get (map line_of lines) k ≡ Some (line_of x)
line_at lines k x h e = slice_get-map line_of lines k ∙ ap (option_map line_of) (slice_get_read lines (length lines) k x refl h e)

-- what is found at it
pub found_at : (Clauses : List LineData → LineData → Reason → Type 0) (lines : List LineData) (k : ℕ) (x : LineData) (r : Option Reason) → slice_get lines k ≡ Some x → Finds (Clauses (take k lines) x) r → Finds (AtLine Clauses lines k) r
found_at Clauses lines k x r e f = subst (λ o. Finds (λ why. IfSome o (λ line. Clauses (take k lines) line why)) r) (sym e) f

-- past the end nothing is tried
pub past_end : (Clauses : List LineData → LineData → Reason → Type 0) (lines : List LineData) (k : ℕ) (why : Reason) → length lines ≤ k → AtLine Clauses lines k why
past_end Clauses lines k why h = subst (λ o. IfSome o (λ line. Clauses (take k lines) line why)) (sym (slice_get_past lines k h)) tt

-- the lines above the next one
pub above_next : (lines : List LineData) (k : ℕ) (x : LineData) → slice_get lines k ≡ Some x → take (k + 1) lines ≡ take k lines ++ x ∷ []
above_next lines k x e =
    let one : k + 1 ≡ suc k = omega arith in
    ap (λ n. take n lines) one ∙ take-suc lines k LineData.Yes (slice_get_within lines k x e)
    ∙ ap (λ y. take k lines ++ y ∷ []) (get_or_from_slice_get lines k x LineData.Yes e)

-- a test that all items pass
pub passes_at : {X : Type 0} (p : X → Bool) (xs : List X) (k : ℕ) (x : X) → list_all p xs ≡ true → slice_get xs k ≡ Some x → p x ≡ true
passes_at p xs k x all e = go (p x) refl
  where
    go : (b : Bool) → p x ≡ b → b ≡ true
    go true f = refl
    go false f = absurd (false≢true (sym (list_all_at p xs k x (slice_get_within xs k x e) (ap p (get_or_from_slice_get xs k x x e) ∙ f)) ∙ all))
