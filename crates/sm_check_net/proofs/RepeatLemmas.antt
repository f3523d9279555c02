-- Lines of a flow with the ends of earlier ones.
use Rattle.std.proofs.Common.{◌≡◌, ℕ, ◌+◌, ◌<◌, ◌↔◌, inl, inr, arith, refl, sym, ◌∙◌, subst, Bool, true, false, List, [], ◌∷◌, ◌++◌, length, map, set, get_or, take, eq-eqb}
use Rattle.std.specs.Prelude.{◌==◌, ◌&&◌}
use Rattle.std.specs.List.{All}
use Rattle.std.proofs.lemmas.List.{length-map, length-set, length_push, get_or-map, get_or_append_left, get_or_push, get_or_default, get_or-take, length-take-le}
use Rattle.std.proofs.lemmas.List.Folds.{list_any_at}
use Rattle.std.proofs.lemmas.Bool.{and_from}
use Rattle.sm_lists.proofs.Counting.{eq_or_ne, lt_or_le}
use Rattle.sm_lists.proofs.ItemLemmas.{set_cases}
use Rattle.sm_theory.specs.ClosedSets.{IsMember}
use Rattle.sm_theory.specs.declared.flow_lines.FlowLine.{FlowLine}
use Rattle.sm_theory.specs.FlowLines.{line_at, HaveSameEnds}
use Rattle.sm_check_net.specs.Pairs.{has_pair, IsFirstAt}
use Rattle.sm_check_net.specs.Repeats.{ends_of, IsRepeated, AreRepeats}

-- one of the first i lines has its ends at this place
pub record IsMetAt (lines : List FlowLine) (ends : List (ℕ × ℕ)) (i k : ℕ) : Type 0 where
  pub at : ℕ
  pub earlier : at < i
  pub there : IsFirstAt ends (ends_of (line_at lines at)) k

-- what is known of the first i lines
pub record AreMet (lines : List FlowLine) (ends : List (ℕ × ℕ)) (met repeats : List Bool) (i : ℕ) : Type 0 where
  pub one_each : length met ≡ length ends
  pub said : length repeats ≡ i
  pub known : (k : ℕ) → k < length ends → IsMember met k ↔ IsMetAt lines ends i k
  pub each : (a : ℕ) → a < i → IsMember repeats a ↔ IsRepeated lines a

-- the ends of all lines are among the ends
pub has_pair-ends : (lines : List FlowLine) (j : ℕ) → j < length lines → has_pair (map ends_of lines) (line_at lines j).from (line_at lines j).to ≡ true
has_pair-ends lines j less =
    list_any_at (λ (x : ℕ × ℕ). x.0 == (line_at lines j).from && x.1 == (line_at lines j).to) (map ends_of lines) j (0, 0) (rw (length-map lines ends_of) less)
    (and_from _ _ (eq-eqb _ _ (λ t. (here t).0)) (eq-eqb _ _ (λ t. (here t).1)))
  where
    here : get_or (map ends_of lines) j (0, 0) ≡ ends_of (line_at lines j)
    here = get_or-map ends_of lines j (record { from = 0; to = 0; amount = 0 }) (0, 0) less

-- one line more, whose ends are first met at this place
pub one_met : {lines : List FlowLine} {ends : List (ℕ × ℕ)} {met repeats : List Bool} (i k : ℕ) (was : Bool) → AreMet lines ends met repeats i → i < length lines → IsFirstAt ends (ends_of (line_at lines i)) k → was ≡ get_or met k was
    → AreMet lines ends (set met k true) (repeats ++ was ∷ []) (i + 1)
one_met {lines} {ends} {met} {repeats} i k was m less f is = record {
  one_each = length-set met k true ∙ m.one_each;
  said = length_push repeats _ ∙ (λ t. m.said t + 1);
  known = λ j few. elim (eq_or_ne j k) [
    | inl e ↦ (
      (λ _. record { at = i; earlier = omega arith; there = subst (IsFirstAt ends (ends_of (line_at lines i))) (sym e) f }),
      (λ _. set_cases (λ n x. n ≡ k → x ≡ true) met k true false there (λ _. refl) (λ n ne same. absurd (ne same)) j e),
    )
    | inr ne ↦ (
      (λ y. let w = (m.known j few).0 (sym (set_cases (λ n x. (n ≡ k → ⊥) → x ≡ get_or met n false) met k true false there (λ h. absurd (h refl)) (λ n _ _. refl) j ne) ∙ y) in record { at = w.at; earlier = omega (arith, w.earlier); there = w.there }),
      (λ w. set_cases (λ n x. (n ≡ k → ⊥) → x ≡ get_or met n false) met k true false there (λ h. absurd (h refl)) (λ n _ _. refl) j ne ∙ (m.known j few).1 (elim (eq_or_ne w.at i) [
        | inl e ↦ absurd (ne (same_place (subst (λ a. IsFirstAt ends (ends_of (line_at lines a)) j) e w.there) f))
        | inr other ↦ record { at = w.at; earlier = omega (arith, w.earlier); there = w.there }
      ])),
    )
  ];
  each = λ a few. elim (eq_or_ne a i) [
    | inl e ↦ subst (λ b. IsMember more b ↔ IsRepeated lines b) (sym e) (
      (λ y. met_is ((m.known k f.there).0 (sym (get_or_push repeats was false i m.said ∙ old) ∙ y))),
      (λ r. get_or_push repeats was false i m.said ∙ old ∙ (m.known k f.there).1 (record { at = r.at; earlier = r.earlier; there = subst (λ x. IsFirstAt ends x k) (λ t. (sym r.same.0 t, sym r.same.1 t)) f })),
    )
    | inr ne ↦ (
      (λ y. (m.each a (omega arith)).0 (sym (get_or_append_left repeats _ false a (omega (arith, m.said))) ∙ y)),
      (λ r. get_or_append_left repeats _ false a (omega (arith, m.said)) ∙ (m.each a (omega arith)).1 r),
    )
  ];
}
  where
    more : List Bool
    more = repeats ++ was ∷ []

    there : k < length met
    there = omega (arith, m.one_each, f.there)

    old : was ≡ get_or met k false
    old = is ∙ get_or_default met k was false there

    same_place : {x : ℕ × ℕ} {a b : ℕ} → IsFirstAt ends x a → IsFirstAt ends x b → a ≡ b
    same_place {x} {a} {b} v w = elim (lt_or_le a b) [
      | inl h ↦ absurd (w.new a h v.is)
      | inr h ↦ elim (eq_or_ne a b) [ inl e ↦ e | inr ne ↦ absurd (v.new b (omega arith) w.is) ]
    ]

    met_is : IsMetAt lines ends i k → IsRepeated lines i
    met_is w = let e : ends_of (line_at lines w.at) ≡ ends_of (line_at lines i) = sym w.there.is ∙ f.is in record { at = w.at; earlier = w.earlier; same = ((λ t. (e t).0), (λ t. (e t).1)) }

-- a line that isn't repeated has other ends than all before it
pub new_of : {lines : List FlowLine} {repeats : List Bool} (a : ℕ) → AreRepeats lines repeats → a < length lines → (IsMember repeats a → ⊥) → All (λ other. HaveSameEnds other (line_at lines a) → ⊥) (take a lines)
new_of {lines} a r less fresh k d few = λ same. fresh ((r.each a less).1 (record { at = k; earlier = early; same = subst (λ x. HaveSameEnds x (line_at lines a)) (get_or-take a lines k d early ∙ get_or_default lines k d _ (omega (arith, early))) same }))
  where
    early : k < a
    early = omega (arith, length-take-le a lines (omega arith), few)

-- a line with other ends than all before it isn't repeated
pub old_of : {lines : List FlowLine} {repeats : List Bool} (a : ℕ) → AreRepeats lines repeats → a < length lines → All (λ other. HaveSameEnds other (line_at lines a) → ⊥) (take a lines) → IsMember repeats a → ⊥
old_of {lines} a r less all m =
    let w = (r.each a less).0 m in
    all w.at (record { from = 0; to = 0; amount = 0 }) (omega (arith, length-take-le a lines (omega arith), w.earlier))
    (subst (λ x. HaveSameEnds x (line_at lines a)) (sym (get_or-take a lines w.at _ w.earlier)) w.same)
