-- The first positions in an order whose levels the rotations change, and what enters with regard to them.
use Rattle.std.proofs.Common.{◌≡◌, ℕ, ◌+◌, ◌<◌, ◌≤◌, ◌++◌, ◌∷◌, inl, inr, arith, refl, sym, ap, ◌∙◌, subst, List, [], true, length, slice_index, set, take}
use Rattle.std.proofs.lemmas.List.{length_push}
use Rattle.sm_market.specs.Lists.{row}
use Rattle.sm_lists.proofs.Counting.{Decided, Decided-eq, Decided-lt, Decided-and, search_below, eq_or_ne}
use Rattle.sm_board.specs.Board.{Board, leave, stay_level, Changes, IsFirstChange}
use Rattle.sm_theory.specs.ClosedSets.{IsMember}
use Rattle.sm_board.specs.Courses.{Course, IsCourse, AreFirstFrom, Held, IsHeld, HoldsMore}
use Rattle.sm_board.proofs.MemberLemmas.{entered, is_member-set_other}

-- whether a rotation changes the level of p is found by a look at each of p's stays
pub Decided-changes : (b : Board) (x p : ℕ) → Decided (Changes b x p)
Decided-changes b x p =
    elim (search_below (length (row b.leaves p)) (λ a. (leave b p a ≡ x) × (stay_level b p a < stay_level b p (a + 1))) (λ a _. Decided-and (Decided-eq (leave b p a) x) (Decided-lt (stay_level b p a) (stay_level b p (a + 1))))) [
      | inl w ↦ inl (record { at = w.at; within = w.below; is = w.holds.0; rises = w.holds.1 })
      | inr none ↦ inr (λ w. none w.at w.within (w.is, w.rises))
    ]

-- the numbers of one more position are written
pub first_more : {b : Board} {order before after : List ℕ} (j : ℕ) → j < length order → AreFirstFrom b order (j + 1) before → length after ≡ length before
    → ((x : ℕ) → Changes b x (slice_index order j) → slice_index after x ≡ j)
    → ((x : ℕ) → (Changes b x (slice_index order j) → ⊥) → slice_index after x ≡ slice_index before x)
    → AreFirstFrom b order j after
first_more {b} {order} {before} {after} j less w e marked others = record {
  first_each = e ∙ w.first_each;
  from = λ x h. elim (Decided-changes b x (slice_index order j)) [
    | inl ch ↦ omega (arith, marked x ch)
    | inr still ↦ omega (arith, others x still, w.from x h)
  ];
  within = λ x h. elim (Decided-changes b x (slice_index order j)) [
    | inl ch ↦ omega (arith, marked x ch)
    | inr still ↦ omega (arith, others x still, w.within x h)
  ];
  changes = λ x h in_it. elim (Decided-changes b x (slice_index order j)) [
    | inl ch ↦ subst (λ k. Changes b x (slice_index order k)) (sym (marked x ch)) ch
    | inr still ↦ subst (λ k. Changes b x (slice_index order k)) (sym (others x still)) (w.changes x h (omega (arith, others x still)))
  ];
  none_before = λ x k h le early ch. elim (Decided-changes b x (slice_index order j)) [
    | inl here ↦ omega (arith, marked x here)
    | inr still ↦ elim (eq_or_ne k j) [
      | inl e ↦ still (subst (λ i. Changes b x (slice_index order i)) e ch)
      | inr ne ↦ w.none_before x k h (omega arith) (omega (arith, others x still)) ch
    ]
  ];
}

-- from the first position on they are the first of all
pub first_of_all : {b : Board} {order first : List ℕ} → AreFirstFrom b order 0 first → (x : ℕ) → x < length b.needs → IsFirstChange b order x (slice_index first x)
first_of_all {b} {order} {first} w x less = record {
  within = w.within x less;
  changes = λ h. w.changes x less h;
  none_before = λ k h. w.none_before x k less (omega arith) h;
}

-- a rotation enters that changes no level before the bar
pub grows_enter : {t : Course} {bar : ℕ} {h k : Held} (y : ℕ) → IsCourse t → IsHeld t.board h → IsHeld t.board k → y < length t.board.needs → k.set ≡ set h.set y true → k.log ≡ h.log ++ y ∷ [] → bar ≤ slice_index t.first y → HoldsMore t bar h k
grows_enter {t} {bar} {h} {k} y course w v less sets logs free = record {
  held = v;
  front = ap (take (length h.log)) logs ∙ take-append h.log (y ∷ []);
  longer = omega (arith, ap length logs, length_push h.log y);
  more = λ x m. elim (eq_or_ne x y) [
    | inl e ↦ subst (λ s. IsMember s x) (sym sets) (subst (IsMember (set h.set y true)) (sym e) (entered h.set y (omega (arith, w.logged.one_each))))
    | inr ne ↦ subst (λ s. IsMember s x) (sym sets) (is_member-set_other h.set y x ne ∙ m)
  ];
  free = λ x j m out early ch. elim (eq_or_ne x y) [
    | inl e ↦ (course.first_are y less).none_before j (omega arith) (subst (λ z. Changes t.board z (slice_index t.order j)) e ch)
    | inr ne ↦ out (sym (is_member-set_other h.set y x ne) ∙ subst (λ s. IsMember s x) sets m)
  ];
}
  where
    take-append : (xs ys : List ℕ) → take (length xs) (xs ++ ys) ≡ xs
    take-append [] ys = refl
    take-append (x ∷ xs) ys = ap (λ zs. x ∷ zs) (take-append xs ys)
