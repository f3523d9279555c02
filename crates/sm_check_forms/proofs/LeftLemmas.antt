-- What is left of a layout behind its parts, one after another.
use Rattle.std.proofs.Common.{◌≡◌, ℕ, ◌≤◌, inl, inr, arith, sym, ap, ◌∙◌, true, false, List, [], ◌∷◌, drop, length, if◌then◌else◌, nat_eq, ne_eqb, eq-eqb}
use Rattle.std.specs.Prelude.{◌||◌}
use Rattle.std.specs.List.{list_any}
use Rattle.std.proofs.lemmas.List.{drop_more, drop_all}
use Rattle.sm_lists.proofs.Counting.{lt_or_le}
use Rattle.sm_check_forms.specs.declared.layouts.LayoutPart.{LayoutPart}
use Rattle.sm_check_forms.specs.declared.layouts.Layout.{Layout}
use Rattle.sm_check_forms.specs.Layouts.{is_empty}
use Rattle.sm_check_forms.specs.Lefts.{parts_of, part_at, layout_left}

-- nothing is left past the last part
pub none_left : (parts : List LayoutPart) (at : ℕ) → at ≤ length parts → nat_eq at (length parts) ≡ (is_empty (parts_of (drop at parts)) || false)
none_left parts at h = elim (lt_or_le at (length parts)) [
  | inl less ↦ ne_eqb at (length parts) (λ e. omega (arith, e, less)) ∙ ap (λ ps. is_empty (parts_of ps) || false) (sym (drop_more parts at (part_at parts at) less))
  | inr more ↦ eq-eqb at (length parts) (omega (arith, h, more)) ∙ ap (λ ps. is_empty (parts_of ps) || false) (sym (drop_all at parts more))
]

-- a layout is used up where the place in it is past its last part
pub whole_left : (layout : Layout) → layout.fits ≡ true → layout.at ≤ length layout.parts.items → nat_eq layout.at (length layout.parts.items) ≡ list_any is_empty (layout_left layout)
whole_left layout fits h = none_left layout.parts.items layout.at h ∙ ap (λ t. list_any is_empty (if t then parts_of (drop layout.at layout.parts.items) ∷ [] else [])) (sym fits)
