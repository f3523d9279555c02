-- Behind each rotation of an answer of `weight` stands what it needs.
use Rattle.std.proofs.Common.{◌≡◌, ℕ, zero, suc, ◌+◌, ◌-◌, ◌<◌, ◌≤◌, ◌&&◌, inl, inr, arith, refl, sym, ap, ◌∙◌, Bool, true, false, List, [], ◌∷◌, ◌++◌, length, take, Option, Some, None, append-nil}
use Rattle.std.specs.Prelude.{filter_map}
use Rattle.std.specs.List.{list_all, slice_get}
use Rattle.std.proofs.Math.Seq.{take-append-add}
use Rattle.std.proofs.lemmas.Bool.{false≢true, cases_lt}
use Rattle.std.proofs.lemmas.List.Elements.{filter_map-append}
use Rattle.std.proofs.lemmas.List.{take-append-le}
use Rattle.std.proofs.lemmas.Option.{same_Some}
use Rattle.sm_lists.proofs.BoolLemmas.{first_true, second_true}
use Rattle.sm_agents.specs.Written.{Written}
use Rattle.sm_instance.specs.declared.inputs.Input.TheVariants.{Two}
use Rattle.sm_agents.specs.declared.kinds.Measure.{Measure}
use Rattle.sm_seats.specs.Levels.{has_two_levels}
use Rattle.sm_report.specs.Heads.{HeadData}
use Rattle.sm_report.specs.Lines.{LineData}
use Rattle.sm_check_forms.specs.declared.layouts.LayoutPart.{LayoutPart}
use Rattle.sm_check_forms.specs.Layouts.{is_whole}
use Rattle.sm_check_forms.specs.Forms.{is_placed}
use Rattle.sm_check_forms.proofs.KeywordLayouts.{whole_same}
use Rattle.sm_check_clauses.specs.Said.{rotation_in, needs_in, is_up_to_rotations}
use Rattle.sm_check_weight.specs.Order.{AreNeedsInOrder}
use Rattle.sm_cert.specs.Checking.{first_head}
use Rattle.sm_cert.proofs.GroupLemmas.{AllOut, AreDown, all_down, down_taken, none_said}
use Rattle.sm_cert.proofs.RotationLines.{rotation_words, rotations_tell, needs_in-none, rotation_up, Splits, Turns}
use Rattle.sm_cert.proofs.WeightYes.{turns_behind}

-- a line among those that are up to somewhere is up to there
up_front : (up : LineData → Bool) (before below : List LineData) (k : ℕ) (x : LineData) → list_all up before ≡ true → slice_get (before ++ below) k ≡ Some x → k < length before → up x ≡ true
up_front up [] below k x ups there less = absurd (omega arith)
up_front up (y ∷ ys) below zero x ups there less = ap up (sym (same_Some _ _ there)) ∙ first_true (up y) (list_all up ys) ups
up_front up (y ∷ ys) below (suc k) x ups there less = up_front up ys below k x (second_true (up y) (list_all up ys) ups) there (omega arith)

-- the front of those that are up to somewhere
all_up : (up : LineData → Bool) (before : List LineData) (k : ℕ) → list_all up before ≡ true → list_all up (take k before) ≡ true
all_up up before zero ups = refl
all_up up [] (suc k) ups = refl
all_up up (y ∷ ys) (suc k) ups =
    ap (λ b. b && list_all up (take k ys)) (first_true (up y) (list_all up ys) ups) ∙ all_up up ys k (second_true (up y) (list_all up ys) ups)

-- a line behind those
down_behind : (up : LineData → Bool) (before below : List LineData) → AreDown up below → (k : ℕ) (x : LineData) → length before ≤ k → slice_get (before ++ below) k ≡ Some x → up x ≡ false
down_behind up [] [] downs k x more there = absurd cc
down_behind up [] (y ∷ ys) downs zero x more there = ap up (sym (same_Some _ _ there)) ∙ downs.0
down_behind up [] (y ∷ ys) downs (suc k) x more there = down_behind up [] ys downs.1 k x (omega arith) there
down_behind up (y ∷ ys) below downs zero x more there = absurd (omega (arith, more))
down_behind up (y ∷ ys) below downs (suc k) x more there = down_behind up ys below downs k x (omega (arith, more)) there

module _ {w : Written} {rest : List LayoutPart} {out : AllOut rotation_words rest} {lines : List LineData} (t : Turns w rest out [] lines) where
  abbrev s : Splits is_up_to_rotations rest lines
  s = t.splits

  downs : AreDown is_up_to_rotations s.below
  downs = all_down rotations_tell rest s.below out s.whole

  far : (k : ℕ) (x : LineData) → slice_get lines k ≡ Some x → is_up_to_rotations x ≡ false → length s.before ≤ k
  far k x there down = elim (cases_lt k (length s.before)) [
    | inl less ↦ absurd (false≢true (sym down ∙ up_front is_up_to_rotations s.before s.below k x s.ups (ap (λ (ls : List LineData). slice_get ls k) (sym s.is) ∙ there) less))
    | inr more ↦ more
  ]

  only_before : {X : Type 0} (said : LineData → Option X) → ((x : LineData) → is_up_to_rotations x ≡ false → said x ≡ None) → (n : ℕ) → filter_map said (s.before ++ take n s.below) ≡ filter_map said s.before
  only_before said none n =
      filter_map-append said s.before (take n s.below)
      ∙ ap (λ xs. filter_map said s.before ++ xs) (none_said is_up_to_rotations said none (take n s.below) (down_taken is_up_to_rotations n s.below downs)) ∙ append-nil (filter_map said s.before)

  all_before : {X : Type 0} (said : LineData → Option X) → ((x : LineData) → is_up_to_rotations x ≡ false → said x ≡ None) → filter_map said lines ≡ filter_map said s.before
  all_before said none =
      ap (filter_map said) s.is ∙ filter_map-append said s.before s.below
      ∙ ap (λ xs. filter_map said s.before ++ xs) (none_said is_up_to_rotations said none s.below downs) ∙ append-nil (filter_map said s.before)

  front : (k : ℕ) → length s.before ≤ k → take k lines ≡ s.before ++ take (k - length s.before) s.below
  front k more =
      let e : k ≡ length s.before + (k - length s.before) = omega (arith, more) in
      ap (λ (ls : List LineData). take k ls) s.is ∙ ap (λ n. take n (s.before ++ s.below)) e ∙ take-append-add s.before s.below (k - length s.before)

  said_there : {X : Type 0} (said : LineData → Option X) → ((x : LineData) → is_up_to_rotations x ≡ false → said x ≡ None) → (k : ℕ) → length s.before ≤ k → filter_map said (take k lines) ≡ filter_map said lines
  said_there said none k more = ap (filter_map said) (front k more) ∙ only_before said none (k - length s.before) ∙ sym (all_before said none)

  near : (k : ℕ) (x : LineData) → slice_get lines k ≡ Some x → is_up_to_rotations x ≡ true → list_all is_up_to_rotations (take k lines) ≡ true
  near k x there up = elim (cases_lt k (length s.before)) [
    | inl less ↦
        ap (λ (ls : List LineData). list_all is_up_to_rotations (take k ls)) s.is
        ∙ ap (list_all is_up_to_rotations) (take-append-le k s.before s.below (omega (arith, less))) ∙ all_up is_up_to_rotations s.before k s.ups
    | inr more ↦ absurd (false≢true (sym (down_behind is_up_to_rotations s.before s.below downs k x more (ap (λ (ls : List LineData). slice_get ls k) (sym s.is) ∙ there)) ∙ up))
  ]

  -- lines in which rotations and what they need take turns are in order
  pub in_order : AreNeedsInOrder w lines
  in_order = record {
    at = t.at;
    up = near;
    behind = λ k x there down.
        let more = far k x there down in
        ap (λ xs. length xs) (said_there needs_in needs_in-none k more) ∙ t.all ∙ sym (ap (λ xs. length xs) (said_there (rotation_in w) (rotation_up w) k more));
  }

-- so it is in any answer of `weight` in its form
pub weight_order : (w : Written) (lines : List LineData) → is_placed is_whole (Two w) lines ≡ true → (by : Measure) → first_head lines ≡ Some (HeadData.Weight by) → AreNeedsInOrder w lines
weight_order w (LineData.Answer (HeadData.Weight by) ∷ rest) placed by' head = in_order (turns_behind w by (has_two_levels by w) rest (whole_same (Two w) (HeadData.Weight by) rest ∙ placed))
weight_order w _ placed by head = absurd cc
