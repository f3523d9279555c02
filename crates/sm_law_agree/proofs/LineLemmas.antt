-- The lines of an answer: all clauses hold at the lines of numbers one after another, and lines by groups are a whole answer.
use Rattle.std.proofs.Common.{◌≡◌, ℕ, zero, suc, ◌+◌, ◌<◌, ◌&&◌, arith, refl, sym, ap, ◌∙◌, not, Bool, true, false, List, [], ◌∷◌, ◌++◌, map, Option, Some, None, if◌then◌else◌, subst, append-nil, append_assoc}
use Rattle.std.specs.Prelude.{◌||◌, filter_map}
use Rattle.std.specs.List.{list_all, list_any, cons_option, All}
use Rattle.std.proofs.lemmas.Bool.{false≢true}
use Rattle.std.proofs.lemmas.List.Folds.{list_all-append, list_any-append}
use Rattle.std.proofs.lemmas.List.Elements.{filter_map-append}
use Rattle.sm_instance.specs.declared.inputs.Input.{Input}
use Rattle.sm_report.specs.Lines.{LineData}
use Rattle.sm_report.specs.Sound.{IsLineOf}
use Rattle.sm_answer.specs.Lines.{line_or_none, lines_from}
use Rattle.sm_report.specs.declared.keywords.Keyword.{Keyword}
use Rattle.sm_check_forms.specs.declared.layouts.LayoutPart.{LayoutPart}
use Rattle.sm_check_forms.specs.declared.layouts.LayoutPart.TheVariants.{Many}
use Rattle.sm_check_forms.specs.declared.layouts.Opening.{Opening}
use Rattle.sm_check_forms.proofs.KeywordLayouts.{begins, behind, left_behind, is_whole, opening_of, is_placed, placed_same}
use Rattle.sm_check_forms.specs.Layouts.{is_empty}
use Rattle.sm_check_forms.specs.Forms.{fits}
use Rattle.sm_check_clauses.specs.declared.verdicts.Reason.{Reason}
use Rattle.sm_check_clauses.specs.Judging.{Clauses, Holds}
use Rattle.sm_check_clauses.proofs.LinewiseLemmas.{AllHold}
use Rattle.sm_law_agree.specs.Agree.{GetYes}

-- Clauses at the lines of numbers.

-- what is known of the lines above stays known with a number's line, and all clauses hold at it
abbrev pub Steps : (List LineData → LineData → Reason → Type 0) → (List LineData → Type 0) → List LineData → Option LineData → Type 0
Steps Clauses P above None = P above
Steps Clauses P above (Some x) = ((why : Reason) → Clauses above x why) × P (above ++ x ∷ [])

-- all clauses hold at some lines, and of those and the lines above all is known
abbrev pub Held : (List LineData → LineData → Reason → Type 0) → (List LineData → Type 0) → (above lines : List LineData) → Type 0
Held Clauses P above lines = AllHold Clauses above lines × P (above ++ lines)

one_number : (Clauses : List LineData → LineData → Reason → Type 0) (P Q : List LineData → Type 0) (above rest : List LineData) (o : Option LineData)
    → Steps Clauses Q above o → ((now : List LineData) → Q now → Held Clauses P now rest) → Held Clauses P above (line_or_none o ++ rest)
one_number Clauses P Q above rest None q go = go above q
one_number Clauses P Q above rest (Some x) q go =
    let r = go (above ++ x ∷ []) q.1 in
    ((q.0, r.0), subst P (append_assoc above (x ∷ []) rest) r.1)

module _ (Clauses : List LineData → LineData → Reason → Type 0) (P : ℕ → List LineData → Type 0) (line : ℕ → Option LineData) (b : ℕ)
    (step : (i : ℕ) (above : List LineData) → i < b → P i above → Steps Clauses (P (i + 1)) above (line i)) where
  -- all clauses hold at the lines of numbers one after another, where they do at each
  pub numbers_hold : (a n : ℕ) (above : List LineData) → a + n ≡ b → P a above → Held Clauses (P b) above (lines_from line a n)
  numbers_hold a zero above e p = (tt, subst (P b) (sym (append-nil above)) (subst (λ k. P k above) (let f : a ≡ b = omega (arith, e) in f) p))
  numbers_hold a (suc n) above e p =
      one_number Clauses (P b) (P (a + 1)) above (lines_from line (a + 1) n) (line a) (step a above (omega (arith, e)) p)
      (λ now q. numbers_hold (a + 1) n now (omega (arith, e)) q)

-- Tests that lines pass.

-- lines that pass, and others that do behind them, pass together
pub pass_append : (test : LineData → Bool) (xs ys : List LineData) → list_all test xs ≡ true → list_all test ys ≡ true → list_all test (xs ++ ys) ≡ true
pass_append test xs ys x y = list_all-append test xs ys ∙ ap (λ t. t && list_all test ys) x ∙ y

-- where the line of each number passes, all lines of numbers do
pub numbers_pass : (test : LineData → Bool) (line : ℕ → Option LineData) (b : ℕ) → ((i : ℕ) → i < b → list_all test (line_or_none (line i)) ≡ true)
    → (a n : ℕ) → a + n ≡ b → list_all test (lines_from line a n) ≡ true
numbers_pass test line b each a zero e = refl
numbers_pass test line b each a (suc n) e =
    pass_append test (line_or_none (line a)) (lines_from line (a + 1) n) (each a (omega (arith, e))) (numbers_pass test line b each (a + 1) n (omega (arith, e)))

-- where each thing has a line that passes, all of them do
pub map_pass : {X : Type 0} (test : LineData → Bool) (line : X → LineData) (xs : List X) → ((x : X) → test (line x) ≡ true) → list_all test (map line xs) ≡ true
map_pass test line [] each = refl
map_pass test line (x ∷ xs) each = ap (λ t. t && list_all test (map line xs)) (each x) ∙ map_pass test line xs each

-- Layouts.

-- a line begins with the word
abbrev pub has_word : Keyword → LineData → Bool
has_word word x = begins (opening_of x) word

-- a line begins with another word
abbrev pub has_other : Keyword → LineData → Bool
has_other word x = not (has_word word x)

-- what is left behind a line, if anything, is that of a whole answer
abbrev Whole : Option (List LayoutPart) → List LineData → Type 0
Whole left lines = list_any is_empty (left_behind (cons_option left []) (map opening_of lines)) ≡ true

-- lines of a group, and those behind it, of which none has the group's keyword
pub is_whole-group : (word : Keyword) (part : LayoutPart) (parts : List LayoutPart) (xs ys : List LineData) → list_all (has_word word) xs ≡ true → list_all (has_other word) ys ≡ true
    → is_whole ((part ∷ parts) ∷ []) (map opening_of ys) ≡ true → is_whole ((Many word ∷ part ∷ parts) ∷ []) (map opening_of (xs ++ ys)) ≡ true
is_whole-group word part parts [] [] all none whole = absurd (false≢true whole)
is_whole-group word part parts [] (y ∷ ys) all none whole = go (has_word word y) none
  where
    go : (t : Bool) → (not t && list_all (has_other word) ys) ≡ true → Whole (if t then Some (Many word ∷ part ∷ parts) else behind (part ∷ parts) (opening_of y)) ys
    go true f = absurd (false≢true f)
    go false f = whole
is_whole-group word part parts (x ∷ xs) ys all none whole = go (has_word word x) all (λ rest. is_whole-group word part parts xs ys rest none whole)
  where
    go : (t : Bool) → (t && list_all (has_word word) xs) ≡ true
        → (list_all (has_word word) xs ≡ true → is_whole ((Many word ∷ part ∷ parts) ∷ []) (map opening_of (xs ++ ys)) ≡ true)
        → Whole (if t then Some (Many word ∷ part ∷ parts) else behind (part ∷ parts) (opening_of x)) (xs ++ ys)
    go false f more = absurd (false≢true f)
    go true f more = more f

-- Of several layouts one is enough.

left_apart : (a b : List (List LayoutPart)) (lines : List Opening) → left_behind (a ++ b) lines ≡ left_behind a lines ++ left_behind b lines
left_apart a b [] = refl
left_apart a b (line ∷ lines) =
    ap (λ layouts. left_behind layouts lines) (filter_map-append (λ parts. behind parts line) a b)
    ∙ left_apart (filter_map (λ parts. behind parts line) a) (filter_map (λ parts. behind parts line) b) lines

or_second : (s t : Bool) → t ≡ true → (s || t) ≡ true
or_second true t e = refl
or_second false t e = e

apart : (a b : List (List LayoutPart)) (lines : List Opening) → is_whole (a ++ b) lines ≡ (is_whole a lines || is_whole b lines)
apart a b lines = ap (list_any is_empty) (left_apart a b lines) ∙ list_any-append is_empty (left_behind a lines) (left_behind b lines)

-- lines that are whole by the first layouts are so by both
pub is_whole-append_first : (a b : List (List LayoutPart)) (lines : List Opening) → is_whole a lines ≡ true → is_whole (a ++ b) lines ≡ true
is_whole-append_first a b lines e = apart a b lines ∙ ap (λ t. t || is_whole b lines) e

-- and so by the second layouts
pub is_whole-append_second : (a b : List (List LayoutPart)) (lines : List Opening) → is_whole b lines ≡ true → is_whole (a ++ b) lines ≡ true
is_whole-append_second a b lines e = apart a b lines ∙ or_second (is_whole a lines) (is_whole b lines) e

-- lines of the instance, of their form, that are a whole answer and at which all clauses hold
pub yes_of : (input : Input) (lines : List LineData) → All (IsLineOf input) lines → list_all (fits input) lines ≡ true → is_placed is_whole input lines ≡ true
    → ((k : ℕ) (why : Reason) → Holds input lines k why) → GetYes input lines
yes_of input lines right fitting placed holds first_line = record {
  lines = lines;
  answer = record { read = refl; right = right; fitting = fitting; placed = sym (placed_same input lines) ∙ placed };
  judged = holds;
}
