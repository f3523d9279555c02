-- What holds of the tokens of a line holds of the list on it.
use Rattle.std.proofs.Common.{◌≡◌, ℕ, cond, eqb, ◌&&◌, Bool, true, false, List, [], ◌∷◌, Option, Some, None, refl, sym, subst}
use Rattle.std.specs.Option.{option_or}
use Rattle.std.specs.List.{list_all}
use Rattle.std.specs.Str.{bytes_eq}
use Rattle.std.specs.Prelude.{codes}
use Rattle.sm_text.specs.Tokens.{begins_run}
use Rattle.sm_lists.proofs.BoolLemmas.{second_true}
use Rattle.sm_agents.specs.Sound.{is_single}
use Rattle.sm_agents.specs.declared.kinds.Kind.{Kind}
use Rattle.sm_agents.specs.declared.kinds.Kind.TheVariants.{Marriage, Hospitals, Roommates}
use Rattle.sm_agents.specs.declared.kinds.Side.{Side}
use Rattle.sm_agents.specs.declared.kinds.Side.TheVariants.{Proposers, Reviewers}
use Rattle.sm_forms.specs.declared.forms.Condition.{Condition}
use Rattle.sm_forms.specs.declared.forms.Condition.TheVariants.{Force, Forbid}
use Rattle.sm_forms.specs.Forms.{Form, declares, uses, are_brackets, shares, orders, weighs, binds, list_form, capacity_form, weight_form, pair_form, reviewer_form, two_sided_form, form_behind, is_colon, master_form, use_form, capacity_use_form, reviewer_use_form, order_form, second_form, two_sided_added_form, added_form, form_under}
use Rattle.sm_agents.specs.Kinds.{has_two_sides}
use Rattle.sm_forms.specs.Forms.{entries_in}

-- the list of a line that may have one
abbrev pub listed : Option Form → List (List ℕ)
listed None = []
listed (Some form) = entries_in form

-- what holds of tokens and of those behind the first of them, and so of runs among them, holds of the list of a line
module _ (P Q : List (List ℕ) → Type 0) (tail : (t : List ℕ) (ts : List (List ℕ)) → P (t ∷ ts) → P ts)
    (none : Q []) (of_runs : (ts : List (List ℕ)) → list_all begins_run ts ≡ true → P ts → Q ts) where
  of_list : (side : Side) (rest : List (List ℕ)) → P rest → Q (listed (list_form side rest))
  unfolding list_form
  of_list side [] h = none
  of_list side (name ∷ []) h = none
  of_list side (name ∷ colon ∷ entries) h = by_test (begins_run name && is_colon colon && list_all begins_run entries) refl
    where
      by_test : (t : Bool) → (begins_run name && is_colon colon && list_all begins_run entries) ≡ t → Q (listed (cond t (Some (declares side name None entries)) None))
      by_test true e = of_runs entries (second_true (begins_run name && is_colon colon) (list_all begins_run entries) e) (tail colon entries (tail name (colon ∷ entries) h))
      by_test false e = none

  of_capacity : (rest : List (List ℕ)) → P rest → Q (listed (capacity_form rest))
  unfolding capacity_form
  of_capacity [] h = none
  of_capacity (a ∷ []) h = none
  of_capacity (a ∷ b ∷ []) h = none
  of_capacity (a ∷ b ∷ c ∷ []) h = none
  of_capacity (a ∷ b ∷ c ∷ d ∷ []) h = none
  of_capacity (name ∷ opening ∷ number ∷ closing ∷ colon ∷ entries) h =
      by_test (begins_run name && bytes_eq opening (codes "[") && begins_run number && bytes_eq closing (codes "]") && is_colon colon && list_all begins_run entries) refl
    where
      by_test : (t : Bool) → (begins_run name && bytes_eq opening (codes "[") && begins_run number && bytes_eq closing (codes "]") && is_colon colon && list_all begins_run entries) ≡ t
          → Q (listed (cond t (Some (declares Reviewers name (Some number) entries)) None))
      by_test true e =
          of_runs entries (second_true (begins_run name && bytes_eq opening (codes "[") && begins_run number && bytes_eq closing (codes "]") && is_colon colon) (list_all begins_run entries) e)
          (tail colon entries (tail closing (colon ∷ entries) (tail number (closing ∷ colon ∷ entries) (tail opening (number ∷ closing ∷ colon ∷ entries) (tail name (opening ∷ number ∷ closing ∷ colon ∷ entries) h)))))
      by_test false e = none

  of_weight : (rest : List (List ℕ)) → Q (listed (weight_form rest))
  unfolding weight_form
  of_weight [] = none
  of_weight (a ∷ []) = none
  of_weight (a ∷ b ∷ []) = none
  of_weight (a ∷ b ∷ c ∷ []) = elim (begins_run a && begins_run b && begins_run c) as (λ t. Q (listed (cond t (Some (weighs a b c None)) None))) [ true ↦ none | false ↦ none ]
  of_weight (a ∷ b ∷ c ∷ d ∷ rest) = none

  of_pair : (condition : Condition) (rest : List (List ℕ)) → Q (listed (pair_form condition rest))
  unfolding pair_form
  of_pair condition [] = none
  of_pair condition (a ∷ []) = none
  of_pair condition (a ∷ b ∷ []) = elim (begins_run a && begins_run b) as (λ t. Q (listed (cond t (Some (binds condition a b)) None))) [ true ↦ none | false ↦ none ]
  of_pair condition (a ∷ b ∷ c ∷ rest) = none

  -- of two, and of five
  of_or : (a b : Option Form) → Q (listed a) → Q (listed b) → Q (listed (option_or a b))
  of_or None b h k = k
  of_or (Some form) b h k = h

  of_cond : (t : Bool) (a b : Option Form) → Q (listed a) → Q (listed b) → Q (listed (cond t a b))
  of_cond true a b h k = h
  of_cond false a b h k = k

  of_reviewer : (kind : Kind) (rest : List (List ℕ)) → P rest → Q (listed (reviewer_form kind rest))
  unfolding reviewer_form
  of_reviewer kind rest h =
      of_cond (is_single kind) (list_form Reviewers rest) (option_or (list_form Reviewers rest) (capacity_form rest)) (of_list Reviewers rest h)
      (of_or (list_form Reviewers rest) (capacity_form rest) (of_list Reviewers rest h) (of_capacity rest h))

  of_two_sided : (kind : Kind) (word : List ℕ) (rest : List (List ℕ)) → P rest → Q (listed (two_sided_form kind word rest))
  unfolding two_sided_form
  of_two_sided kind word rest h =
      of_cond (bytes_eq word (codes "r")) (reviewer_form kind rest) _ (of_reviewer kind rest h)
      (of_cond (bytes_eq word (codes "weight")) (weight_form rest) _ (of_weight rest)
      (of_cond (bytes_eq word (codes "force")) (pair_form Force rest) _ (of_pair Force rest)
      (of_cond (bytes_eq word (codes "forbid")) (pair_form Forbid rest) None (of_pair Forbid rest) none)))

  -- so it does of a line that begins with any word
  list_behind : (kind : Kind) (word : List ℕ) (rest : List (List ℕ)) → P rest → Q (listed (form_behind kind word rest))
  unfolding form_behind
  list_behind Roommates word rest h = of_cond (bytes_eq word (codes "p")) (list_form Proposers rest) None (of_list Proposers rest h) none
  list_behind Marriage word rest h = of_cond (bytes_eq word (codes "p")) (list_form Proposers rest) (two_sided_form Marriage word rest) (of_list Proposers rest h) (of_two_sided Marriage word rest h)
  list_behind Hospitals word rest h = of_cond (bytes_eq word (codes "p")) (list_form Proposers rest) (two_sided_form Hospitals word rest) (of_list Proposers rest h) (of_two_sided Hospitals word rest h)

  -- so it does of the forms that format 2 adds
  of_master : (rest : List (List ℕ)) → P rest → Q (listed (master_form rest))
  unfolding master_form
  of_master [] h = none
  of_master (name ∷ []) h = none
  of_master (name ∷ colon ∷ entries) h = by_test (begins_run name && is_colon colon && list_all begins_run entries) refl
    where
      by_test : (t : Bool) → (begins_run name && is_colon colon && list_all begins_run entries) ≡ t → Q (listed (cond t (Some (shares name entries)) None))
      by_test true e = of_runs entries (second_true (begins_run name && is_colon colon) (list_all begins_run entries) e) (tail colon entries (tail name (colon ∷ entries) h))
      by_test false e = none

  of_order : (rest : List (List ℕ)) → P rest → Q (listed (order_form rest))
  unfolding order_form
  of_order rest h = by_test (list_all begins_run rest) refl
    where
      by_test : (t : Bool) → list_all begins_run rest ≡ t → Q (listed (cond t (Some (orders rest)) None))
      by_test true e = of_runs rest e h
      by_test false e = none

  of_some : (t : Bool) (form : Form) → entries_in form ≡ [] → Q (listed (cond t (Some form) None))
  of_some true form e = subst Q (sym e) none
  of_some false form e = none

  of_use : (side : Side) (rest : List (List ℕ)) → Q (listed (use_form side rest))
  unfolding use_form
  of_use side [] = none
  of_use side (a ∷ []) = none
  of_use side (a ∷ b ∷ []) = none
  of_use side (a ∷ b ∷ c ∷ []) = none
  of_use side (a ∷ b ∷ c ∷ d ∷ []) = none
  of_use side (a ∷ b ∷ c ∷ d ∷ e ∷ []) = of_some (begins_run a && is_colon b && are_brackets c e && begins_run d) (uses side a None d) refl
  of_use side (a ∷ b ∷ c ∷ d ∷ e ∷ f ∷ rest) = none

  of_capacity_use : (rest : List (List ℕ)) → Q (listed (capacity_use_form rest))
  unfolding capacity_use_form
  of_capacity_use [] = none
  of_capacity_use (a ∷ []) = none
  of_capacity_use (a ∷ b ∷ []) = none
  of_capacity_use (a ∷ b ∷ c ∷ []) = none
  of_capacity_use (a ∷ b ∷ c ∷ d ∷ []) = none
  of_capacity_use (a ∷ b ∷ c ∷ d ∷ e ∷ []) = none
  of_capacity_use (a ∷ b ∷ c ∷ d ∷ e ∷ f ∷ []) = none
  of_capacity_use (a ∷ b ∷ c ∷ d ∷ e ∷ f ∷ g ∷ []) = none
  of_capacity_use (a ∷ b ∷ c ∷ d ∷ e ∷ f ∷ g ∷ h ∷ []) =
      of_some (begins_run a && are_brackets b d && begins_run c && is_colon e && are_brackets f h && begins_run g) (uses Reviewers a (Some c) g) refl
  of_capacity_use (a ∷ b ∷ c ∷ d ∷ e ∷ f ∷ g ∷ h ∷ i ∷ rest) = none

  of_second : (rest : List (List ℕ)) → Q (listed (second_form rest))
  unfolding second_form
  of_second [] = none
  of_second (a ∷ []) = none
  of_second (a ∷ b ∷ []) = none
  of_second (a ∷ b ∷ c ∷ []) = none
  of_second (a ∷ b ∷ c ∷ d ∷ []) = of_some (begins_run a && begins_run b && begins_run c && begins_run d) (weighs a b c (Some d)) refl
  of_second (a ∷ b ∷ c ∷ d ∷ e ∷ rest) = none

  of_reviewer_use : (kind : Kind) (rest : List (List ℕ)) → Q (listed (reviewer_use_form kind rest))
  unfolding reviewer_use_form
  of_reviewer_use kind rest =
      of_cond (is_single kind) (use_form Reviewers rest) (option_or (use_form Reviewers rest) (capacity_use_form rest)) (of_use Reviewers rest)
      (of_or (use_form Reviewers rest) (capacity_use_form rest) (of_use Reviewers rest) (of_capacity_use rest))

  of_two_sided_added : (kind : Kind) (word : List ℕ) (rest : List (List ℕ)) → P rest → Q (listed (two_sided_added_form kind word rest))
  unfolding two_sided_added_form
  of_two_sided_added kind word rest h =
      of_cond (bytes_eq word (codes "r")) (reviewer_use_form kind rest) _ (of_reviewer_use kind rest)
      (of_cond (bytes_eq word (codes "order")) (order_form rest) _ (of_order rest h)
      (of_cond (bytes_eq word (codes "weight")) (second_form rest) None (of_second rest) none))

  of_added : (kind : Kind) (word : List ℕ) (rest : List (List ℕ)) → P rest → Q (listed (added_form kind word rest))
  unfolding added_form
  of_added kind word rest h =
      of_cond (bytes_eq word (codes "p")) (use_form Proposers rest) _ (of_use Proposers rest)
      (of_cond (bytes_eq word (codes "master")) (master_form rest) _ (of_master rest h)
      (of_cond (has_two_sides kind) (two_sided_added_form kind word rest) None (of_two_sided_added kind word rest h) none))

  -- and of all forms under a header
  pub list_under : (kind : Kind) (format : ℕ) (word : List ℕ) (rest : List (List ℕ)) → P rest → Q (listed (form_under kind format word rest))
  unfolding form_under
  list_under kind format word rest h =
      of_cond (eqb format 2) (option_or (form_behind kind word rest) (added_form kind word rest)) (form_behind kind word rest)
      (of_or (form_behind kind word rest) (added_form kind word rest) (list_behind kind word rest h) (of_added kind word rest h)) (list_behind kind word rest h)
