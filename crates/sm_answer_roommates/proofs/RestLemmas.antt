-- Noting who is left out, and the lines of the answer of `rest`.
use Rattle.std.proofs.Common.{◌≡◌, ℕ, zero, suc, ◌+◌, ◌-◌, ◌<◌, ◌≤◌, ◌^◌, List, [], ◌∷◌, ◌++◌, Option, Contains, length, get_or, refl, sym, ap, subst, ◌∙◌, arith, inl, inr}
use Rattle.std.specs.List.{All}
use Rattle.std.proofs.lemmas.List.{get_or_append_left}
use Rattle.std.proofs.lemmas.List.Elements.{All-append, All-cons, Contains-append_left, Contains-push}
use Rattle.sm_answer.specs.Lines.{line_or_none, lines_from}
use Rattle.sm_answer.proofs.AnswerLemmas.{lines_each, one_all}
use Rattle.sm_agents.specs.Written.{AgentData, lists_of}
use Rattle.sm_agents.specs.Sound.{ArePersons}
use Rattle.sm_instance.specs.declared.inputs.Input.{Input}
use Rattle.sm_instance.specs.declared.inputs.Input.TheVariants.{Room}
use Rattle.sm_lists.proofs.Counting.{eq_or_ne}
use Rattle.sm_lists.proofs.ItemLemmas.{push_cases}
use Rattle.sm_report.specs.Heads.{HeadData}
use Rattle.sm_report.specs.Lines.{LineData}
use Rattle.sm_report.specs.Sound.{IsLineOf}
use Rattle.sm_theory.specs.Partitions.{IsLowestOfOdd}
use Rattle.sm_answer_roommates.specs.RoomAnswer.{couple_line}
use Rattle.sm_answer_roommates.specs.RestAnswer.{AreLeftOut, IsRestOf, out_line, rest_lines}
use Rattle.sm_answer_roommates.specs.Resting.{AreLeftOutBelow}
use Rattle.sm_answer_roommates.proofs.LineLemmas.{couple_sound, end_sound, many}

-- one more person that isn't left out
pub noted_same : {rows : List (List ℕ)} {next : List ℕ} {x : ℕ} {out : List ℕ} → AreLeftOutBelow rows next x out → (IsLowestOfOdd rows next x → ⊥) → AreLeftOutBelow rows next (x + 1) out
noted_same {rows} {next} {x} {out} w isnt = record {
  below = λ i on. let lt = w.below i on in omega arith;
  rising = w.rising;
  each = w.each;
  all = λ y lt l. elim (eq_or_ne y x) [ inl e ↦ absurd (isnt (subst (IsLowestOfOdd rows next) e l)) | inr ne ↦ w.all y (omega (arith, lt, ne)) l ];
}

-- one more that is
pub noted_more : {rows : List (List ℕ)} {next : List ℕ} {x : ℕ} {out : List ℕ} → AreLeftOutBelow rows next x out → IsLowestOfOdd rows next x → AreLeftOutBelow rows next (x + 1) (out ++ x ∷ [])
noted_more {rows} {next} {x} {out} w is = record {
  below = push_cases (λ j y. y < x + 1) out x 0 (omega arith) (λ j on. let lt = w.below j on in omega arith);
  rising = λ i j less on. push_cases (λ j y. i < j → get_or (out ++ x ∷ []) i 0 < y) out x 0
      (λ in_front. let lt = w.below i in_front in omega (arith, get_or_append_left out (x ∷ []) 0 i in_front, lt))
      (λ k inside before. let lt = w.rising i k before inside in omega (arith, get_or_append_left out (x ∷ []) 0 i (omega (arith, before, inside)), lt)) j on less;
  each = push_cases (λ j y. IsLowestOfOdd rows next y) out x 0 is w.each;
  all = λ y lt l. elim (eq_or_ne y x) [
    | inl e ↦ subst (Contains (out ++ x ∷ [])) (sym e) (Contains-push out x)
    | inr ne ↦ Contains-append_left out (x ∷ []) y (w.all y (omega (arith, lt, ne)) l)
  ];
}

-- Lines of the instance.

head_sound : (persons : List AgentData) → IsLineOf (Room persons) (LineData.Answer HeadData.Rest)
head_sound persons = record { printable = tt; seats = λ k d l. absurd (omega arith); numbers = tt; head = tt }

out_sound : (persons : List AgentData) {next out : List ℕ} → AreLeftOut (lists_of persons) next out → (k : ℕ) → k < length out → All (IsLineOf (Room persons)) (line_or_none (out_line out k))
out_sound persons {next} {out} l k on =
    let inside = (l.each k on).odd.in_range in
    one_all (IsLineOf (Room persons)) (LineData.Out (get_or out k 0)) (record { printable = omega (arith, inside, many persons); seats = λ k d l. absurd (omega arith); numbers = tt; head = tt })

-- they are lines of the instance
pub rest_sound : {input : Input} {persons : List AgentData} {out : List ℕ} {mates : List (Option ℕ)} → input ≡ Room persons → IsRestOf (lists_of persons) out mates → All (IsLineOf input) (rest_lines out mates)
rest_sound {input} {persons} {out} {mates} room found =
    let P = IsLineOf (Room persons) in
    let outs = lines_from (out_line out) 0 (length out) in
    let couples = lines_from (couple_line mates) 0 (length mates) in
    let behind : All P (couples ++ (LineData.End ∷ [])) = All-append P couples (LineData.End ∷ [])
    (lines_each P (couple_line mates) 0 (length mates) (λ x l. couple_sound persons mates found.rest.matching x)) (one_all P LineData.End (end_sound persons)) in
    let whole : All P (rest_lines out mates) = All-cons P (LineData.Answer HeadData.Rest) _ (head_sound persons)
    (All-append P outs (couples ++ (LineData.End ∷ [])) (lines_each P (out_line out) 0 (length out) (λ k l. out_sound persons found.left_out k (omega (arith, l)))) behind) in
    subst (λ (i : Input). All (IsLineOf i) (rest_lines out mates)) (sym room) whole

-- the answer as it is given, piece by piece
abbrev pub rest_given : List ℕ → List (Option ℕ) → List LineData
rest_given out mates = (LineData.Answer HeadData.Rest ∷ []) ++ (lines_from (out_line out) 0 (length out - 0) ++ (lines_from (couple_line mates) 0 (length mates - 0) ++ (LineData.End ∷ [])))

-- together these are all its lines
pub rest_is : (out : List ℕ) (mates : List (Option ℕ)) → rest_given out mates ≡ rest_lines out mates
rest_is out mates =
    let n : length out - 0 ≡ length out = omega arith in
    let k : length mates - 0 ≡ length mates = omega arith in
    ap (λ i. (LineData.Answer HeadData.Rest ∷ []) ++ (lines_from (out_line out) 0 i ++ (lines_from (couple_line mates) 0 (length mates - 0) ++ (LineData.End ∷ [])))) n
    ∙ ap (λ i. (LineData.Answer HeadData.Rest ∷ []) ++ (lines_from (out_line out) 0 (length out) ++ (lines_from (couple_line mates) 0 i ++ (LineData.End ∷ [])))) k

-- There are few of both.

-- numbers that rise are each no lower than their place
place_below : (out : List ℕ) → ((i j : ℕ) → i < j → j < length out → get_or out i 0 < get_or out j 0) → (k : ℕ) → k < length out → k ≤ get_or out k 0
place_below out rising zero on = omega arith
place_below out rising (suc k) on = let deep = place_below out rising k (omega arith) in let less = rising k (suc k) (omega arith) on in omega arith

-- those who are left out are few
pub out_fits : {persons : List AgentData} {out : List ℕ} {mates : List (Option ℕ)} → ArePersons persons → IsRestOf (lists_of persons) out mates → length out < 2 ^ 32
out_fits {persons} {out} {mates} h found = fits (length out) refl
  where
    fits : (n : ℕ) → length out ≡ n → length out < 2 ^ 32
    fits zero none = omega arith
    fits (suc k) some =
        let deep = place_below out found.left_out.rising k (omega (arith, some)) in
        let inside = (found.left_out.each k (omega (arith, some))).odd.in_range in
        omega (arith, deep, inside, some, many persons, h.limits.proposers)

-- so what is given are lines of the instance
pub given_rest_sound : {input : Input} {persons : List AgentData} {out : List ℕ} {mates : List (Option ℕ)} → input ≡ Room persons → IsRestOf (lists_of persons) out mates → All (IsLineOf input) (rest_given out mates)
given_rest_sound {input} {persons} {out} {mates} room found = subst (All (IsLineOf input)) (sym (rest_is out mates)) (rest_sound room found)
