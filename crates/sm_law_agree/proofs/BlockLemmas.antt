-- The lines of rotations, by blocks of two: clauses at blocks one after another, tests that they pass, and their layout.
use Rattle.std.proofs.Common.{◌≡◌, ℕ, zero, suc, ◌+◌, ◌-◌, ◌<◌, ◌==◌, arith, refl, sym, ap, ◌∙◌, eq-eqb, Bool, true, false, List, [], ◌∷◌, ◌++◌, length, map, Option, None, Some, if◌then◌else◌, subst, append-nil, append_assoc}
use Rattle.std.specs.List.{flat_map, range_with_len, list_all, list_any, cons_option}
use Rattle.std.proofs.lemmas.Bool.{false≢true}
use Rattle.sm_agents.specs.declared.kinds.Side.TheVariants.{Proposers}
use Rattle.sm_market.specs.Lists.{row}
use Rattle.sm_market.specs.Matching.{Places}
use Rattle.sm_report.specs.Heads.{HeadData}
use Rattle.sm_report.specs.Lines.{LineData}
use Rattle.sm_answer.specs.Lines.{lines_from}
use Rattle.sm_seats.specs.Seating.{Seating}
use Rattle.sm_answer_rotations.specs.Reduction.{seat_line}
use Rattle.sm_answer_rotations.specs.RotationLines.{numbers_of, shown_of, shown_lines}
use Rattle.sm_answer_rotations.specs.GivenLines.{two_lines}
use Rattle.sm_answer_rotations.proofs.RotationLemmas.{given_is}
use Rattle.sm_check_forms.specs.declared.layouts.LayoutPart.{LayoutPart}
use Rattle.sm_check_forms.specs.declared.layouts.LayoutPart.TheVariants.{Blocks}
use Rattle.sm_check_forms.specs.declared.layouts.Opening.{Opening}
use Rattle.sm_check_forms.proofs.KeywordLayouts.{left_behind, is_whole, opening_of, closing}
use Rattle.sm_check_forms.specs.Layouts.{is_empty}
use Rattle.sm_check_clauses.specs.declared.verdicts.Reason.{Reason}
use Rattle.sm_check_clauses.proofs.LinewiseLemmas.{hold_append}
use Rattle.sm_law_agree.proofs.LineLemmas.{Held, pass_append}

-- Blocks of lines, by their numbers.

-- one block and those behind it
both_held : (Clauses : List LineData → LineData → Reason → Type 0) (P Q : List LineData → Type 0) (above front rest : List LineData) → Held Clauses Q above front → (Q (above ++ front) → Held Clauses P (above ++ front) rest)
    → Held Clauses P above (front ++ rest)
both_held Clauses P Q above front rest h go =
    let r = go h.1 in
    (hold_append Clauses above front rest h.0 r.0, subst P (append_assoc above front rest) r.1)

module _ (Clauses : List LineData → LineData → Reason → Type 0) (P : ℕ → List LineData → Type 0) (block : ℕ → List LineData) (b : ℕ)
    (step : (k : ℕ) (above : List LineData) → k < b → P k above → Held Clauses (P (k + 1)) above (block k)) where
  -- all clauses hold at the lines of blocks one after another, where they do at each block
  pub blocks_hold : (a n : ℕ) (above : List LineData) → a + n ≡ b → P a above → Held Clauses (P b) above (flat_map block (range_with_len a n))
  blocks_hold a zero above e p = (tt, subst (P b) (sym (append-nil above)) (subst (λ k. P k above) (let f : a ≡ b = omega (arith, e) in f) p))
  blocks_hold a (suc n) above e p =
      both_held Clauses (P b) (P (a + 1)) above (block a) (flat_map block (range_with_len (a + 1) n)) (step a above (omega (arith, e)) p)
      (λ q. blocks_hold (a + 1) n (above ++ block a) (omega (arith, e)) q)

-- a test that the lines of each block pass
pub blocks_pass : (test : LineData → Bool) (block : ℕ → List LineData) → ((k : ℕ) → list_all test (block k) ≡ true) → (a n : ℕ) → list_all test (flat_map block (range_with_len a n)) ≡ true
blocks_pass test block each a zero = refl
blocks_pass test block each a (suc n) = pass_append test (block a) (flat_map block (range_with_len (a + 1) n)) (each a) (blocks_pass test block each (a + 1) n)

-- The layout.

-- what is left behind a line, if anything, is that of a whole answer
abbrev pub Whole : Option (List LayoutPart) → List Opening → Type 0
Whole left lines = list_any is_empty (left_behind (cons_option left []) lines) ≡ true

-- where a test holds the parts that are left are those of a whole answer
pub if_whole : (t : Bool) (left : List LayoutPart) (lines : List Opening) → t ≡ true → Whole (Some left) lines → Whole (if t then Some left else None) lines
if_whole true left lines e whole = whole
if_whole false left lines e whole = absurd (false≢true e)

-- the blocks of some rotations, from any number on, and the end
module _ (s : Seating) (rotations : List (List (ℕ × ℕ))) (needs : List (List ℕ)) where
  abbrev turn_at : (place number : ℕ) → LayoutPart
  turn_at place number = Blocks (record { lines = 2; place = place; number = number })

  -- the blocks from any number on, and the end, are a whole answer
  pub blocks_whole : (k n : ℕ) → is_whole ((turn_at 0 (k + 1) ∷ closing) ∷ []) (map opening_of (flat_map (two_lines s rotations needs) (range_with_len k n) ++ LineData.End ∷ [])) ≡ true
  blocks_whole k zero = refl
  blocks_whole k (suc n) =
      let rest = map opening_of (flat_map (two_lines s rotations needs) (range_with_len (k + 1) n) ++ LineData.End ∷ []) in
      let needed = opening_of (LineData.Needs (k + 1) (numbers_of (row needs k))) in
      let same : (k + 1 == k + 1) ≡ true = eq-eqb (k + 1) (k + 1) refl in
      if_whole (k + 1 == k + 1) (turn_at 1 (k + 1) ∷ closing) (needed ∷ rest) same
      (if_whole (k + 1 == k + 1) (turn_at 0 (k + 1 + 1) ∷ closing) rest same (blocks_whole (k + 1) n))

-- The lines that are shown.

module _ (s : Seating) (first : Places) (rotations : List (List (ℕ × ℕ))) (needs : List (List ℕ)) where
  -- the first seats of so many proposers, and the blocks of so many rotations
  abbrev pub lines_of : (n m : ℕ) → List LineData
  lines_of n m =
      LineData.Answer HeadData.Rotations ∷ (lines_from (seat_line Proposers s first) 0 n ++ (flat_map (two_lines s rotations needs) (range_with_len 0 m) ++ LineData.End ∷ []))

  pub shown_is : length first.proposers ≡ length s.market.proposers → shown_lines (shown_of s first rotations needs) ≡ lines_of (length s.market.proposers) (length rotations)
  shown_is one =
      let n : length s.market.proposers - 0 ≡ length s.market.proposers = omega arith in
      let m : length rotations - 0 ≡ length rotations = omega arith in
      sym (given_is s first rotations needs one) ∙ ap (λ k. lines_of k (length rotations - 0)) n ∙ ap (lines_of (length s.market.proposers)) m
