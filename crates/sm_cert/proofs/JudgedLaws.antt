-- A text is judged once, and isn't bad then.
use Rattle.std.proofs.Common.{◌≡◌, ℕ, suc, ◌<◌, inl, inr, arith, refl, sym, ap, ◌∙◌, subst, cond, Bool, true, false, List, [], ◌∷◌, length, map, take, drop}
use Rattle.std.specs.List.{list_all}
use Rattle.std.proofs.lemmas.Bool.{false≢true}
use Rattle.std.proofs.lemmas.List.{take-map, take-take, take-append-drop}
use Rattle.std.proofs.lemmas.List.Elements.{All-take}
use Rattle.std.proofs.lemmas.List.Folds.{list_all-append}
use Rattle.sm_lists.proofs.Counting.{lt_or_le}
use Rattle.sm_lists.proofs.BoolLemmas.{first_true}
use Rattle.sm_instance.specs.declared.inputs.Input.{Input}
use Rattle.sm_report.specs.Lines.{LineData}
use Rattle.sm_report.specs.Sound.{IsLineOf}
use Rattle.sm_report.specs.Texts.{text_of_line}
use Rattle.sm_check_forms.specs.Layouts.{OpeningData, Part, left_behind, is_empty, is_begun, is_whole}
use Rattle.sm_check_forms.specs.Forms.{layouts_of, opening_of, fits, is_placed, AreFirstLines, AreAnswer, BeginAnAnswer, IsMisplaced}
use Rattle.sm_check_clauses.specs.Verdicts.{IsVerdict}
use Rattle.sm_check_clauses.specs.Judging.{Holds}
use Rattle.sm_cert.specs.Laws.{JudgedIsntBad, OneJudgement, OneMisplaced}
use Rattle.sm_check_forms.proofs.LayoutLemmas.{left_behind-none, left_behind-append, whole_is_begun}
use Rattle.sm_check_forms.proofs.TakingLemmas.{same_lines}
use Rattle.sm_cert.proofs.VerdictLaws.{one_verdict}

-- all of the first lines pass a test that all lines pass
all_of_first : (p : LineData → Bool) (n : ℕ) (lines : List LineData) → list_all p lines ≡ true → list_all p (take n lines) ≡ true
all_of_first p n lines h =
    first_true (list_all p (take n lines)) (list_all p (drop n lines))
    (sym (list_all-append p (take n lines) (drop n lines)) ∙ ap (list_all p) (take-append-drop n lines) ∙ h)

-- what begins an answer in one of the layouts has a front that does
begun_front : (layouts : List (List Part)) (lines : List OpeningData) (k : ℕ) → is_begun layouts lines ≡ true → is_begun layouts (take k lines) ≡ true
begun_front layouts lines k e = go (left_behind layouts (take k lines)) refl
  where
    go : (left : List (List Part)) → left_behind layouts (take k lines) ≡ left → cond (is_empty left) false true ≡ true
    go [] h =
        let parts = ap (left_behind layouts) (sym (take-append-drop k lines)) ∙ left_behind-append layouts (take k lines) (drop k lines) in
        let none = parts ∙ ap (λ ls. left_behind ls (drop k lines)) h ∙ left_behind-none (drop k lines) in
        absurd (false≢true (sym (ap (λ (ls : List (List Part)). cond (is_empty ls) false true) none) ∙ e))
    go (x ∷ xs) h = refl

module _ (input : Input) where
  first_placed : (n : ℕ) (lines : List LineData) → is_placed is_whole input lines ≡ true → is_placed is_begun input (take (suc n) lines) ≡ true
  first_placed n [] e = absurd (false≢true e)
  first_placed n (LineData.Answer head ∷ lines) e =
      ap (is_begun (layouts_of input head)) (sym (take-map (opening_of input) n lines)) ∙ whole_is_begun (layouts_of input head) (map (opening_of input) lines) n e
  first_placed n (_ ∷ lines) e = absurd (false≢true e)

  -- the first lines of an answer begin one
  front_of_whole : (n : ℕ) (texts : List (List ℕ)) (lines : List LineData) → AreAnswer input texts lines → AreFirstLines input (take (suc n) texts) (take (suc n) lines)
  front_of_whole n texts lines a = record {
    read = sym (take-map (text_of_line input) (suc n) lines) ∙ ap (take (suc n)) a.read;
    right = All-take (IsLineOf input) (suc n) lines a.right;
    fitting = all_of_first (fits input) (suc n) lines a.fitting;
    placed = first_placed n lines a.placed;
  }

  is_front : (n : ℕ) (texts : List (List ℕ)) (lines : List LineData) → AreFirstLines input (take (suc n) texts) (take (suc n) lines) → BeginAnAnswer input (take (suc n) texts)
  is_front n [] lines f = tt
  is_front n (text ∷ texts) lines f = (take (suc n) lines, f)

  not_misplaced : (texts : List (List ℕ)) (lines : List LineData) (k : ℕ) → AreAnswer input texts lines → IsMisplaced input texts k → ⊥
  not_misplaced texts lines k a m = elim m.here [
    | inl h ↦ h.1 (is_front k texts lines (front_of_whole k texts lines a))
    | inr h ↦ h.1 (lines, a)
  ]

  -- so have the first lines of an answer
  begun_placed : (n : ℕ) (lines : List LineData) → is_placed is_begun input lines ≡ true → is_placed is_begun input (take (suc n) lines) ≡ true
  begun_placed n [] e = absurd (false≢true e)
  begun_placed n (LineData.Answer head ∷ lines) e =
      ap (is_begun (layouts_of input head)) (sym (take-map (opening_of input) n lines)) ∙ begun_front (layouts_of input head) (map (opening_of input) lines) n e
  begun_placed n (_ ∷ lines) e = absurd (false≢true e)

  front_begins : (n : ℕ) (texts : List (List ℕ)) → BeginAnAnswer input texts → BeginAnAnswer input (take (suc n) texts)
  front_begins n [] h = tt
  front_begins n (text ∷ texts) h =
      let lines = h.0 in (
        take (suc n) lines,
        record {
          read = sym (take-map (text_of_line input) (suc n) lines) ∙ ap (take (suc n)) h.1.read;
          right = All-take (IsLineOf input) (suc n) lines h.1.right;
          fitting = all_of_first (fits input) (suc n) lines h.1.fitting;
          placed = begun_placed n lines h.1.placed;
        },
      )

  none_behind : (texts : List (List ℕ)) (k : ℕ) → IsMisplaced input texts k → length texts < k → ⊥
  none_behind texts k m past = elim m.here [ inl h ↦ omega (arith, h.0, past) | inr h ↦ omega (arith, h.0, past) ]

  -- no text behind a misplaced one is misplaced
  none_later : (texts : List (List ℕ)) (j k : ℕ) → IsMisplaced input texts j → IsMisplaced input texts k → j < k → ⊥
  none_later texts j k a b less = elim a.here [
    | inl h ↦ h.1 (subst (BeginAnAnswer input) (take-take (suc j) k texts (omega (arith, less))) (front_begins j (take k texts) b.before))
    | inr h ↦ none_behind texts k b (omega (arith, h.0, less))
  ]

-- the law that no more than one text is misplaced
pub one_misplaced : OneMisplaced
one_misplaced input texts j k a b = elim (lt_or_le j k) [
  | inl less ↦ absurd (none_later input texts j k a b less)
  | inr more ↦ elim (lt_or_le k j) [ inl less ↦ absurd (none_later input texts k j b a less) | inr same ↦ omega arith ]
]

-- the law that a text with a verdict is of the form of an answer
pub judged_isnt_bad : JudgedIsntBad
judged_isnt_bad input texts first_line v line j b = not_misplaced input texts j.lines b.number j.answer b.bad

-- the law that there is no more than one verdict on a text
pub one_judgement : OneJudgement
one_judgement input texts first_line v w sound a b =
    let same : a.lines ≡ b.lines = same_lines input sound texts a.lines b.lines a.answer b.answer in
    one_verdict input b.lines first_line v w (subst (λ lines. IsVerdict (Holds input lines) first_line v) same a.judged) b.judged
