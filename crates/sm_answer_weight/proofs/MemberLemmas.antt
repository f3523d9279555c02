-- The numbers of the members of a set.
use Rattle.std.proofs.Common.{◌≡◌, ℕ, zero, suc, ◌+◌, ◌<◌, ◌≤◌, ◌^◌, Bool, true, false, cond, List, [], ◌∷◌, ◌++◌, All, length, map, get_or, if◌then◌else◌, refl, sym, ap, ◌∙◌, subst, arith, inl, inr}
use Rattle.std.specs.List.{filter, range_with_len}
use Rattle.std.specs.List.Sorted.{IsStrictlyIncreasing}
use Rattle.std.proofs.lemmas.Bool.{cases_lt}
use Rattle.std.proofs.lemmas.List.{get_or_append_left, get_or_push, length-append, map-append, append-nil}
use Rattle.std.proofs.lemmas.List.Elements.{All-append}
use Rattle.sm_lists.proofs.RangeLemmas.{filter_more}
use Rattle.sm_answer.proofs.AnswerLemmas.{one_all}
use Rattle.sm_theory.specs.ClosedSets.{is_member}
use Rattle.sm_report.specs.Sound.{AreRotations}
use Rattle.sm_answer_weight.specs.WeightAnswer.{member_numbers}

-- a number that a set may have among its first n
record IsNumberTo (n i : ℕ) : Type 0 where
  least : 1 ≤ i
  most : i ≤ n

-- they are below the next, and rise
record AreNumbersTo (n : ℕ) (numbers : List ℕ) : Type 0 where
  each : All (IsNumberTo n) numbers
  rising : IsStrictlyIncreasing numbers

one_more : (n : ℕ) (numbers : List ℕ) → AreNumbersTo n numbers → AreNumbersTo (suc n) numbers
one_more n numbers a = record { each = λ k d l. let x = a.each k d l in let most = x.most in record { least = x.least; most = omega (arith, most) }; rising = a.rising }

pushed : (n : ℕ) (numbers : List ℕ) → AreNumbersTo n numbers → AreNumbersTo (suc n) (numbers ++ suc n ∷ [])
pushed n numbers a = record {
  each = All-append (IsNumberTo (suc n)) numbers (suc n ∷ []) (one_more n numbers a).each (one_all (IsNumberTo (suc n)) (suc n) (record { least = omega arith; most = omega arith }));
  rising = λ k l.
      let long : length (numbers ++ suc n ∷ []) ≡ length numbers + 1 = length-append numbers (suc n ∷ []) in
      let here : get_or (numbers ++ suc n ∷ []) k 0 ≡ get_or numbers k 0 = get_or_append_left numbers (suc n ∷ []) 0 k (omega (arith, l, long)) in
      elim (cases_lt (k + 1) (length numbers)) [
        | inl more ↦
            let next : get_or (numbers ++ suc n ∷ []) (k + 1) 0 ≡ get_or numbers (k + 1) 0 = get_or_append_left numbers (suc n ∷ []) 0 (k + 1) more in
            omega (arith, here, next, a.rising k more)
        | inr last ↦
            let next : get_or (numbers ++ suc n ∷ []) (k + 1) 0 ≡ suc n = get_or_push numbers (suc n) 0 (k + 1) (omega (arith, l, long, last)) in
            omega (arith, here, next, (a.each k 0 (omega (arith, l, long))).most)
      ];
}

-- one more number, where it is that of a member
pub members_more : (set : List Bool) (n : ℕ) → member_numbers set (suc n) ≡ member_numbers set n ++ (if is_member set n then suc n ∷ [] else [])
members_more set n =
    ap (map suc) (filter_more (is_member set) n) ∙ map-append suc (filter (is_member set) (range_with_len 0 n)) (cond (is_member set n) (n ∷ []) [])
    ∙ ap (λ t. member_numbers set n ++ t) (last (is_member set n)) where
      last : (b : Bool) → map suc (cond b (n ∷ []) []) ≡ cond b (suc n ∷ []) []
      last true = refl
      last false = refl

-- the same for the numbers so far
pub number_pushed : (set : List Bool) (n : ℕ) (numbers : List ℕ) → numbers ≡ member_numbers set n → is_member set n ≡ true → numbers ++ (n + 1) ∷ [] ≡ member_numbers set (n + 1)
number_pushed set n numbers so_far member =
    let next : n + 1 ≡ suc n = omega arith in
    ap (λ k. numbers ++ k ∷ []) next ∙ ap (λ xs. xs ++ suc n ∷ []) so_far ∙ ap (λ b. member_numbers set n ++ cond b (suc n ∷ []) []) (sym member) ∙ sym (members_more set n) ∙ ap (member_numbers set) (sym next)

pub number_passed : (set : List Bool) (n : ℕ) (numbers : List ℕ) → numbers ≡ member_numbers set n → is_member set n ≡ false → numbers ≡ member_numbers set (n + 1)
number_passed set n numbers so_far other =
    let next : n + 1 ≡ suc n = omega arith in
    so_far ∙ sym (append-nil (member_numbers set n)) ∙ ap (λ b. member_numbers set n ++ cond b (suc n ∷ []) []) (sym other) ∙ sym (members_more set n) ∙ ap (member_numbers set) (sym next)

numbers_to : (set : List Bool) (n : ℕ) → AreNumbersTo n (member_numbers set n)
numbers_to set zero = record { each = λ k d l. absurd (omega arith); rising = λ k l. absurd (omega arith) }
numbers_to set (suc n) = subst (AreNumbersTo (suc n)) (sym (members_more set n)) (by_member (numbers_to set n) (is_member set n))
  where
    by_member : AreNumbersTo n (member_numbers set n) → (b : Bool) → AreNumbersTo (suc n) (member_numbers set n ++ cond b (suc n ∷ []) [])
    by_member a true = pushed n (member_numbers set n) a
    by_member a false = subst (AreNumbersTo (suc n)) (sym (append-nil (member_numbers set n))) (one_more n (member_numbers set n) a)

-- so they are numbers of rotations
pub are_rotations : (set : List Bool) (n : ℕ) → n < 2 ^ 24 → AreRotations (member_numbers set n)
are_rotations set n few =
    let a = numbers_to set n in
    record { each = λ k d l. let x = a.each k d l in let most = x.most in record { least = x.least; greatest = omega (arith, most, few) }; rising = a.rising }
