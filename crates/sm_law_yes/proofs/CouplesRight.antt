-- An answer of `solve` over roommates that gets a yes and gives a matching is a right one, but for the order of its couples.
use Rattle.std.proofs.Common.{◌≡◌, ◌≢◌, ℕ, ◌<◌, nat_lt, arith, refl, sym, ap, ◌∙◌, cond, Bool, true, false, List, [], ◌∷◌, ◌++◌, length, map, Option, Some, None, subst}
use Rattle.std.specs.List.{slice_get}
use Rattle.std.specs.Option.{option_map}
use Rattle.std.proofs.lemmas.Bool.{false≢true, lt-ltb, ltb-true}
use Rattle.std.proofs.lemmas.Option.{same_Some}
use Rattle.sm_agents.specs.Written.{AgentData}
use Rattle.sm_theory.specs.Rooms.{mate_of}
use Rattle.sm_report.specs.Heads.{HeadData}
use Rattle.sm_report.specs.Lines.{LineData}
use Rattle.sm_answer.specs.Lines.{lines_from}
use Rattle.sm_answer.proofs.AnswerLemmas.{lines_from-same}
use Rattle.sm_answer_roommates.specs.RoomAnswer.{couple_with, couple_line, couple_lines, IsMatched}
use Rattle.sm_check_forms.proofs.KeywordLayouts.{is_whole, solve_layout, parties_layout, opening_of}
use Rattle.sm_check_clauses.specs.Said.{pairs_in}
use Rattle.sm_cert.specs.Yes.{IsCoupled, CouplesYes}
use Rattle.sm_cert.proofs.YesLines.{by_head}
use Rattle.sm_cert.proofs.YesPairs.{held_there}
use Rattle.sm_law_yes.specs.Reordered.{IsReordered, IsRightButForOrder}
use Rattle.sm_law_yes.specs.Reordered.IsReordered.{kept}
use Rattle.sm_law_yes.specs.YesIsRight.{CouplesAreRight}
use Rattle.sm_law_yes.proofs.ReorderLemmas.{nothing, AreThose, in_order, reordered_before}
use Rattle.sm_law_yes.proofs.PairLines.{proposer_of, numbered_pairs}
use Rattle.sm_law_yes.proofs.SolveRight.{pair_data, pairs_and_end}

-- the couple in which a person stands first
abbrev couple_from : ℕ → Option ℕ → Option (ℕ × ℕ)
couple_from x None = None
couple_from x (Some y) = cond (nat_lt x y) (Some (x, y)) None

-- it has the person first, whose mate is the other one, with a higher number
record IsCouple (mates : List (Option ℕ)) (x : ℕ) (pair : ℕ × ℕ) : Type 0 where
  first : pair.0 ≡ x
  rises : pair.0 < pair.1
  mates_are : mate_of mates pair.0 ≡ Some pair.1

couple_is : (mates : List (Option ℕ)) (x : ℕ) (pair : ℕ × ℕ) → couple_from x (mate_of mates x) ≡ Some pair → IsCouple mates x pair
couple_is mates x pair e = go (mate_of mates x) refl e
  where
    by_test : (y : ℕ) (t : Bool) → mate_of mates x ≡ Some y → nat_lt x y ≡ t → cond t (Some (x, y)) None ≡ Some pair → IsCouple mates x pair
    by_test y true m t e =
        let same : (x, y) ≡ pair = same_Some _ _ e in
        subst (IsCouple mates x) same (record { first = refl; rises = ltb-true x y t; mates_are = m })
    by_test y false m t e = absurd (nothing e)

    go : (o : Option ℕ) → mate_of mates x ≡ o → couple_from x o ≡ Some pair → IsCouple mates x pair
    go None m e = absurd (nothing e)
    go (Some y) m e = by_test y (nat_lt x y) m refl e

couple_at : (mates : List (Option ℕ)) (x y : ℕ) → x < y → mate_of mates x ≡ Some y → couple_from x (mate_of mates x) ≡ Some (x, y)
couple_at mates x y less m = ap (couple_from x) m ∙ ap (λ t. cond t (Some (x, y)) None) (lt-ltb x y less)

-- the pairs of a matching are the couples of its persons
those_couples : (persons : List AgentData) (pairs : List (ℕ × ℕ)) (c : IsCoupled persons pairs) → AreThose proposer_of (λ x. couple_from x (mate_of c.mates x)) 0 (length c.mates) pairs
those_couples persons pairs c = record {
  each = λ x at.
      let both = (c.each x.0 x.1).0 at in
      let inside = held_there c.mates x.0 x.1 both.1 in
      (couple_at c.mates x.0 x.1 both.0 both.1, omega arith, omega (arith, inside));
  once = numbered_pairs pairs c.once;
  all = λ k x low high is. let d = couple_is c.mates k x is in (c.each x.0 x.1).1 (d.rises, d.mates_are);
}

couples_in_order : (persons : List AgentData) (pairs : List (ℕ × ℕ)) (c : IsCoupled persons pairs) → IsReordered (map pair_data pairs) (lines_from (couple_line c.mates) 0 (length c.mates))
couples_in_order persons pairs c =
    subst (IsReordered (map pair_data pairs)) (lines_from-same given (couple_line c.mates) (λ x. by_mate x (mate_of c.mates x)) 0 (length c.mates))
    (in_order pair_data (λ x y. refl) (λ x. refl) proposer_of (λ x. couple_from x (mate_of c.mates x)) (λ k x is. let d = couple_is c.mates k x is in d.first) 0 (length c.mates) pairs (those_couples persons pairs c))
  where
    given : ℕ → Option LineData
    given x = option_map pair_data (couple_from x (mate_of c.mates x))

    by_test : (x y : ℕ) (t : Bool) → option_map pair_data (cond t (Some (x, y)) None) ≡ cond t (Some (LineData.Pair x y)) None
    by_test x y true = refl
    by_test x y false = refl

    by_mate : (x : ℕ) (o : Option ℕ) → option_map pair_data (couple_from x o) ≡ couple_with x o
    by_mate x None = refl
    by_mate x (Some y) = by_test x y (nat_lt x y)

-- lines that don't begin with `none` are a whole answer by the layout of pairs
no_none : (rest : List LineData) → slice_get rest 0 ≢ Some LineData.Nothing → is_whole (solve_layout ∷ parties_layout ∷ []) (map opening_of rest) ≡ true → is_whole (solve_layout ∷ []) (map opening_of rest) ≡ true
no_none [] some placed = absurd (false≢true placed)
no_none (LineData.Nothing ∷ xs) some placed = absurd (some refl)
no_none (x ∷ xs) some placed = placed

behind_head : (persons : List AgentData) (rest : List LineData) → is_whole (solve_layout ∷ []) (map opening_of rest) ≡ true → IsCoupled persons (pairs_in rest)
    → IsRightButForOrder (IsMatched persons) (LineData.Answer (HeadData.Solve None) ∷ rest)
behind_head persons rest placed c = record {
  answer = couple_lines c.mates;
  right = record { mates = c.mates; stable = c.stable; shows = refl };
  reordered = kept (LineData.Answer (HeadData.Solve None))
      (subst (λ (ls : List LineData). IsReordered ls (lines_from (couple_line c.mates) 0 (length c.mates) ++ LineData.End ∷ [])) (sym (pairs_and_end rest placed))
      (reordered_before (couples_in_order persons (pairs_in rest) c) (LineData.End ∷ [])));
}

-- the law of `solve` over roommates, where a matching is written
pub couples_are_right : CouplesYes → CouplesAreRight
couples_are_right meaning persons lines g some =
    by_head (λ (ls : List LineData). slice_get ls 1 ≢ Some LineData.Nothing → IsCoupled persons (pairs_in ls) → IsRightButForOrder (IsMatched persons) ls) g
    (λ rest placed _ other c. behind_head persons rest (no_none rest other placed) c) some (meaning persons lines g some)
