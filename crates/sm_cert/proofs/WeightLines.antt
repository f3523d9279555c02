-- The lines of an answer of `weight` behind its flows.
use Rattle.std.proofs.Common.{◌≡◌, ℕ, ◌==◌, ◌||◌, ◌⊎◌, inl, inr, arith, refl, sym, ap, ◌∙◌, Bool, true, false, List, [], ◌∷◌, ◌++◌, map, Option, Some, None, if◌then◌else◌, subst, append_assoc, append-nil, ℤ}
use Rattle.std.specs.Prelude.{filter_map}
use Rattle.std.specs.List.{cons_option, list_all, list_any}
use Rattle.std.proofs.lemmas.Bool.{false≢true, and_from}
use Rattle.std.proofs.lemmas.List.Folds.{list_all-append}
use Rattle.std.proofs.lemmas.List.Elements.{filter_map-append}
use Rattle.std.proofs.lemmas.Option.{same_Some}
use Rattle.sm_theory.proofs.Net.Tests.{and_parts}
use Rattle.sm_report.specs.Lines.{LineData}
use Rattle.sm_report.specs.declared.keywords.Keyword.{Keyword}
use Rattle.sm_report.specs.declared.keywords.Keyword.TheVariants as keyword
use Rattle.sm_check_forms.specs.declared.layouts.LayoutPart.{LayoutPart}
use Rattle.sm_check_forms.specs.declared.layouts.LayoutPart.TheVariants.{One, Many}
use Rattle.sm_check_forms.proofs.KeywordNumbers.{keyword_number}
use Rattle.sm_report.specs.Keywords.{keyword_of}
use Rattle.sm_check_forms.proofs.KeywordLayouts.{begins, behind, left_behind, is_whole, closing, opening_of}
use Rattle.sm_check_forms.specs.Layouts.{is_empty}
use Rattle.sm_check_clauses.specs.Said.{taken_in, value_in, second_value_in, cut_in, second_cut_in, total_in, second_total_in, is_up_to_rotations}
use Rattle.sm_cert.proofs.GroupLemmas.{AllOut, Tells, Parted, goes, all_down, none_said, none_up}
use Rattle.sm_cert.proofs.RotationLines.{Splits, one_split}

-- Parts of a layout, one after the other.

no_parts : {left : List LayoutPart} → ◌≡◌ {A = Option (List LayoutPart)} None (Some left) → ⊥
no_parts e = grind arith

many_split : (word : Keyword) (up : LineData → Bool) (rest : List LayoutPart) (lines : List LineData) → ((x : LineData) → begins (opening_of x) word ≡ true → up x ≡ true)
    → is_whole ((Many word ∷ rest) ∷ []) (map opening_of lines) ≡ true → Splits up rest lines
many_split word up rest [] ups e = absurd (false≢true e)
many_split word up rest (x ∷ xs) ups e =
    let g = goes (Many word ∷ rest) (opening_of x) (map opening_of xs) e in
    go (begins (opening_of x) word) refl g.left g.is g.whole (λ whole. many_split word up rest xs ups whole)
  where
    go : (t : Bool) → begins (opening_of x) word ≡ t → (left : List LayoutPart) → (if t then Some (Many word ∷ rest) else behind rest (opening_of x)) ≡ Some left → is_whole (left ∷ []) (map opening_of xs) ≡ true
        → (is_whole ((Many word ∷ rest) ∷ []) (map opening_of xs) ≡ true → Splits up rest xs) → Splits up rest (x ∷ xs)
    go true b left is whole deep = one_split up rest x xs (ups x b) (deep (subst (λ (parts : List LayoutPart). is_whole (parts ∷ []) (map opening_of xs) ≡ true) (sym (same_Some _ _ is)) whole))
    go false b left is whole deep = record {
      before = [];
      below = x ∷ xs;
      is = refl;
      ups = refl;
      whole = ap (λ (o : Option (List LayoutPart)). list_any is_empty (left_behind (cons_option o []) (map opening_of xs))) is ∙ whole;
    }

record Peels (word : Keyword) (rest : List LayoutPart) (lines : List LineData) : Type 0 where
  line : LineData
  others : List LineData
  is : lines ≡ line ∷ others
  opens : begins (opening_of line) word ≡ true
  whole : is_whole (rest ∷ []) (map opening_of others) ≡ true

one_peel : (word : Keyword) (rest : List LayoutPart) (lines : List LineData) → is_whole ((One word ∷ rest) ∷ []) (map opening_of lines) ≡ true → Peels word rest lines
one_peel word rest [] e = absurd (false≢true e)
one_peel word rest (x ∷ xs) e =
    let g = goes (One word ∷ rest) (opening_of x) (map opening_of xs) e in
    go (begins (opening_of x) word) refl g.left g.is g.whole
  where
    go : (t : Bool) → begins (opening_of x) word ≡ t → (left : List LayoutPart) → (if t then Some rest else None) ≡ Some left → is_whole (left ∷ []) (map opening_of xs) ≡ true → Peels word rest (x ∷ xs)
    go true b left is whole = record { line = x; others = xs; is = refl; opens = b; whole = subst (λ (parts : List LayoutPart). is_whole (parts ∷ []) (map opening_of xs) ≡ true) (sym (same_Some _ _ is)) whole }
    go false b left is whole = absurd (no_parts is)

-- The lines up to the flow, those up to both flows, and those up to the totals.

-- the keywords up to the flow
abbrev pub flow_words : ℕ → Bool
flow_words n = (n == 3) || ((n == 7) || ((n == 8) || ((n == 9) || ((n == 28) || (n == 10)))))

-- a line stands up to the flow
abbrev pub is_up_to_flow : LineData → Bool
is_up_to_flow (LineData.Flow from to amount) = true
is_up_to_flow line = is_up_to_rotations line

-- the test of lines up to the flow tells these keywords
pub flow_tells : Tells flow_words is_up_to_flow
flow_tells = record { other = refl; same = same }
  where
    same : (x : LineData) → (is_up_to_flow x ≡ flow_words (keyword_number (keyword_of x))) ⊎ (keyword_number (keyword_of x) ≡ 21)
    same (LineData.Answer head) = inr refl
    same _ = inl refl

-- the keywords up to both flows
abbrev pub flows_words : ℕ → Bool
flows_words n = flow_words n || (n == 29)

-- a line stands up to both flows
abbrev pub is_up_to_flows : LineData → Bool
is_up_to_flows (LineData.SecondFlow from to amount) = true
is_up_to_flows line = is_up_to_flow line

-- the test of lines up to the flows tells these keywords
pub flows_tell : Tells flows_words is_up_to_flows
flows_tell = record { other = refl; same = same }
  where
    same : (x : LineData) → (is_up_to_flows x ≡ flows_words (keyword_number (keyword_of x))) ⊎ (keyword_number (keyword_of x) ≡ 21)
    same (LineData.Answer head) = inr refl
    same _ = inl refl

-- the keywords up to the totals
abbrev pub total_words : ℕ → Bool
total_words n = flows_words n || ((n == 11) || ((n == 12) || ((n == 13) || ((n == 14) || ((n == 30) || ((n == 31) || (n == 32)))))))

-- a line stands up to the totals
abbrev pub is_up_to_totals : LineData → Bool
is_up_to_totals (LineData.Taken taken) = true
is_up_to_totals (LineData.Value value) = true
is_up_to_totals (LineData.Cut value) = true
is_up_to_totals (LineData.Total weight) = true
is_up_to_totals (LineData.SecondValue value) = true
is_up_to_totals (LineData.SecondCut value) = true
is_up_to_totals (LineData.SecondTotal weight) = true
is_up_to_totals line = is_up_to_flows line

-- the test of lines up to the totals tells these keywords
pub totals_tell : Tells total_words is_up_to_totals
totals_tell = record { other = refl; same = same }
  where
    same : (x : LineData) → (is_up_to_totals x ≡ total_words (keyword_number (keyword_of x))) ⊎ (keyword_number (keyword_of x) ≡ 21)
    same (LineData.Answer head) = inr refl
    same _ = inl refl

flow_too : (x : LineData) → is_up_to_rotations x ≡ true → is_up_to_flows x ≡ true
flow_too (LineData.Answer head) e = refl
flow_too (LineData.First p seat) e = refl
flow_too (LineData.Rotation i pairs) e = refl
flow_too (LineData.Needs i needed) e = refl
flow_too (LineData.Gain i gain) e = refl
flow_too (LineData.SecondGain i gain) e = refl
flow_too _ e = absurd (false≢true e)

opens_second_flow : (x : LineData) → begins (opening_of x) keyword.SecondFlow ≡ true → is_up_to_flows x ≡ true
opens_second_flow (LineData.SecondFlow from to amount) e = refl
opens_second_flow _ e = absurd (false≢true e)

opens_taken : (x : LineData) → begins (opening_of x) keyword.Taken ≡ true → (t : List ℕ) × (x ≡ LineData.Taken t)
opens_taken (LineData.Taken t) e = (t, refl)
opens_taken _ e = absurd (false≢true e)

opens_value : (x : LineData) → begins (opening_of x) keyword.Value ≡ true → (v : ℕ) × (x ≡ LineData.Value v)
opens_value (LineData.Value v) e = (v, refl)
opens_value _ e = absurd (false≢true e)

opens_cut : (x : LineData) → begins (opening_of x) keyword.Cut ≡ true → (v : ℕ) × (x ≡ LineData.Cut v)
opens_cut (LineData.Cut v) e = (v, refl)
opens_cut _ e = absurd (false≢true e)

opens_total : (x : LineData) → begins (opening_of x) keyword.Total ≡ true → (z : ℤ) × (x ≡ LineData.Total z)
opens_total (LineData.Total z) e = (z, refl)
opens_total _ e = absurd (false≢true e)

opens_second_value : (x : LineData) → begins (opening_of x) keyword.SecondValue ≡ true → (v : ℕ) × (x ≡ LineData.SecondValue v)
opens_second_value (LineData.SecondValue v) e = (v, refl)
opens_second_value _ e = absurd (false≢true e)

opens_second_cut : (x : LineData) → begins (opening_of x) keyword.SecondCut ≡ true → (v : ℕ) × (x ≡ LineData.SecondCut v)
opens_second_cut (LineData.SecondCut v) e = (v, refl)
opens_second_cut _ e = absurd (false≢true e)

opens_second_total : (x : LineData) → begins (opening_of x) keyword.SecondTotal ≡ true → (z : ℤ) × (x ≡ LineData.SecondTotal z)
opens_second_total (LineData.SecondTotal z) e = (z, refl)
opens_second_total _ e = absurd (false≢true e)

all_too : (p q : LineData → Bool) (xs : List LineData) → ((x : LineData) → p x ≡ true → q x ≡ true) → list_all p xs ≡ true → list_all q xs ≡ true
all_too p q [] more h = refl
all_too p q (x ∷ xs) more h = let parts = and_parts (p x) (list_all p xs) h in and_from (q x) (list_all q xs) (more x parts.0) (all_too p q xs more parts.1)

all_both : (q : LineData → Bool) (xs ys : List LineData) → list_all q xs ≡ true → list_all q ys ≡ true → list_all q (xs ++ ys) ≡ true
all_both q xs ys a b = list_all-append q xs ys ∙ and_from (list_all q xs) (list_all q ys) a b

-- The four lines behind the flows, and in two levels three more.

-- the layout behind the totals: the pairs and the end
abbrev pub pairs_left : List LayoutPart
pairs_left = Many keyword.Pair ∷ closing

-- the layout behind the first total
abbrev pub behind_total : (two : Bool) → List LayoutPart
behind_total true = One keyword.SecondValue ∷ One keyword.SecondCut ∷ One keyword.SecondTotal ∷ pairs_left
behind_total false = pairs_left

-- the layout behind the flows: the set that is taken, the value, the cut, the total and the rest
abbrev pub behind_flows : (two : Bool) → List LayoutPart
behind_flows two = One keyword.Taken ∷ One keyword.Value ∷ One keyword.Cut ∷ One keyword.Total ∷ behind_total two

-- the layout behind the rotations
abbrev pub behind_rotations : (two : Bool) → List LayoutPart
behind_rotations true = Many keyword.Flow ∷ Many keyword.SecondFlow ∷ behind_flows true
behind_rotations false = Many keyword.Flow ∷ behind_flows false

-- lines up to the flows, the four lines one after another, and a whole rest
pub record FourLines (two : Bool) (lines : List LineData) : Type 0 where
  pub above : List LineData
  pub taken : List ℕ
  pub value : ℕ
  pub cut : ℕ
  pub total : ℤ
  pub below : List LineData
  pub is : lines ≡ above ++ LineData.Taken taken ∷ LineData.Value value ∷ LineData.Cut cut ∷ LineData.Total total ∷ below
  pub ups : list_all is_up_to_flows above ≡ true
  pub whole : is_whole (behind_total two ∷ []) (map opening_of below) ≡ true

four_of : (two : Bool) (lines : List LineData) → Splits is_up_to_flows (behind_flows two) lines → FourLines two lines
four_of two lines s =
    let a = one_peel keyword.Taken (One keyword.Value ∷ One keyword.Cut ∷ One keyword.Total ∷ behind_total two) s.below s.whole in
    let b = one_peel keyword.Value (One keyword.Cut ∷ One keyword.Total ∷ behind_total two) a.others a.whole in
    let c = one_peel keyword.Cut (One keyword.Total ∷ behind_total two) b.others b.whole in
    let d = one_peel keyword.Total (behind_total two) c.others c.whole in
    let t = opens_taken a.line a.opens in
    let v = opens_value b.line b.opens in
    let u = opens_cut c.line c.opens in
    let z = opens_total d.line d.opens in
    record {
      above = s.before;
      taken = t.0;
      value = v.0;
      cut = u.0;
      total = z.0;
      below = d.others;
      is = s.is ∙ ap (λ (ls : List LineData). s.before ++ ls)
          (a.is ∙ (λ i. t.1 i ∷ (b.is ∙ (λ j. v.1 j ∷ (c.is ∙ (λ k. u.1 k ∷ (d.is ∙ (λ m. z.1 m ∷ d.others)) k)) j)) i));
      ups = s.ups;
      whole = d.whole;
    }

-- the lines up to somewhere further, which all lines up to the first place are
further : (up more : LineData → Bool) (rest : List LayoutPart) (lines : List LineData) → ((x : LineData) → up x ≡ true → more x ≡ true) → (s : Splits up rest lines) → {left : List LayoutPart} → Splits more left s.below → Splits more left lines
further up more rest lines too s f = record {
  before = s.before ++ f.before;
  below = f.below;
  is = s.is ∙ ap (λ (ls : List LineData). s.before ++ ls) f.is ∙ sym (append_assoc s.before f.before f.below);
  ups = all_both more s.before f.before (all_too up more s.before too s.ups) f.ups;
  whole = f.whole;
}

opens_flows : (x : LineData) → begins (opening_of x) keyword.Flow ≡ true → is_up_to_flows x ≡ true
opens_flows (LineData.Flow from to amount) e = refl
opens_flows _ e = absurd (false≢true e)

same_too : (x : LineData) → is_up_to_flows x ≡ true → is_up_to_flows x ≡ true
same_too x e = e

-- the lines of an answer whose layout goes on with the flows have these four behind them
pub four_lines : (two : Bool) (lines : List LineData) → Splits is_up_to_rotations (behind_rotations two) lines → FourLines two lines
four_lines false lines s =
    four_of false lines (further is_up_to_rotations is_up_to_flows (behind_rotations false) lines flow_too s (many_split keyword.Flow is_up_to_flows (behind_flows false) s.below opens_flows s.whole))
four_lines true lines s =
    let flow : Splits is_up_to_flows (Many keyword.SecondFlow ∷ behind_flows true) lines =
    further is_up_to_rotations is_up_to_flows (behind_rotations true) lines flow_too s (many_split keyword.Flow is_up_to_flows (Many keyword.SecondFlow ∷ behind_flows true) s.below opens_flows s.whole) in
    four_of true lines (further is_up_to_flows is_up_to_flows (Many keyword.SecondFlow ∷ behind_flows true) lines same_too flow (many_split keyword.SecondFlow is_up_to_flows (behind_flows true) flow.below opens_second_flow flow.whole))

-- the three lines of the second level
pub record ThreeLines (lines : List LineData) : Type 0 where
  pub value : ℕ
  pub cut : ℕ
  pub total : ℤ
  pub below : List LineData
  pub is : lines ≡ LineData.SecondValue value ∷ LineData.SecondCut cut ∷ LineData.SecondTotal total ∷ below
  pub whole : is_whole (pairs_left ∷ []) (map opening_of below) ≡ true

-- behind the first total in two levels
pub three_lines : (lines : List LineData) → is_whole (behind_total true ∷ []) (map opening_of lines) ≡ true → ThreeLines lines
three_lines lines whole =
    let a = one_peel keyword.SecondValue (One keyword.SecondCut ∷ One keyword.SecondTotal ∷ pairs_left) lines whole in
    let b = one_peel keyword.SecondCut (One keyword.SecondTotal ∷ pairs_left) a.others a.whole in
    let c = one_peel keyword.SecondTotal pairs_left b.others b.whole in
    let v = opens_second_value a.line a.opens in
    let u = opens_second_cut b.line b.opens in
    let z = opens_second_total c.line c.opens in
    record {
      value = v.0;
      cut = u.0;
      total = z.0;
      below = c.others;
      is = a.is ∙ (λ i. v.1 i ∷ (b.is ∙ (λ j. u.1 j ∷ (c.is ∙ (λ m. z.1 m ∷ c.others)) j)) i);
      whole = c.whole;
    }

-- One value, one cut and one total are said, and the first set that is taken is that of its line.

figures : ℕ → Bool
figures n = n == 12 || (n == 13 || n == 14)

abbrev is_figure : LineData → Bool
is_figure (LineData.Value value) = true
is_figure (LineData.Cut value) = true
is_figure (LineData.Total weight) = true
is_figure _ = false

figure_tells : Tells figures is_figure
unfolding figures
figure_tells = record { other = refl; same = same }
  where
    same : (x : LineData) → (is_figure x ≡ figures (keyword_number (keyword_of x))) ⊎ (keyword_number (keyword_of x) ≡ 21)
    same (LineData.Value value) = inl refl
    same (LineData.Cut value) = inl refl
    same (LineData.Total weight) = inl refl
    same _ = inl refl

no_value : (x : LineData) → is_figure x ≡ false → value_in x ≡ None
no_value (LineData.Value value) e = absurd (false≢true (sym e))
no_value _ e = refl

no_cut : (x : LineData) → is_figure x ≡ false → cut_in x ≡ None
no_cut (LineData.Cut value) e = absurd (false≢true (sym e))
no_cut _ e = refl

no_total : (x : LineData) → is_figure x ≡ false → total_in x ≡ None
no_total (LineData.Total weight) e = absurd (false≢true (sym e))
no_total _ e = refl

no_total_up : (x : LineData) → is_up_to_flows x ≡ true → total_in x ≡ None
no_total_up (LineData.Total weight) e = absurd (false≢true e)
no_total_up _ e = refl

no_value_up : (x : LineData) → is_up_to_flows x ≡ true → value_in x ≡ None
no_value_up (LineData.Value value) e = absurd (false≢true e)
no_value_up _ e = refl

no_cut_up : (x : LineData) → is_up_to_flows x ≡ true → cut_in x ≡ None
no_cut_up (LineData.Cut value) e = absurd (false≢true e)
no_cut_up _ e = refl

no_second_value_up : (x : LineData) → is_up_to_flows x ≡ true → second_value_in x ≡ None
no_second_value_up (LineData.SecondValue value) e = absurd (false≢true e)
no_second_value_up _ e = refl

no_second_cut_up : (x : LineData) → is_up_to_flows x ≡ true → second_cut_in x ≡ None
no_second_cut_up (LineData.SecondCut value) e = absurd (false≢true e)
no_second_cut_up _ e = refl

no_second_total_up : (x : LineData) → is_up_to_flows x ≡ true → second_total_in x ≡ None
no_second_total_up (LineData.SecondTotal weight) e = absurd (false≢true e)
no_second_total_up _ e = refl

no_taken_up : (x : LineData) → is_up_to_flows x ≡ true → taken_in x ≡ None
no_taken_up (LineData.Taken taken) e = absurd (false≢true e)
no_taken_up _ e = refl

second_figures : ℕ → Bool
second_figures n = n == 30 || (n == 31 || n == 32)

abbrev is_second_figure : LineData → Bool
is_second_figure (LineData.SecondValue value) = true
is_second_figure (LineData.SecondCut value) = true
is_second_figure (LineData.SecondTotal weight) = true
is_second_figure _ = false

second_figure_tells : Tells second_figures is_second_figure
unfolding second_figures
second_figure_tells = record { other = refl; same = same }
  where
    same : (x : LineData) → (is_second_figure x ≡ second_figures (keyword_number (keyword_of x))) ⊎ (keyword_number (keyword_of x) ≡ 21)
    same (LineData.SecondValue value) = inl refl
    same (LineData.SecondCut value) = inl refl
    same (LineData.SecondTotal weight) = inl refl
    same _ = inl refl

no_second_value : (x : LineData) → is_second_figure x ≡ false → second_value_in x ≡ None
no_second_value (LineData.SecondValue value) e = absurd (false≢true (sym e))
no_second_value _ e = refl

no_second_cut : (x : LineData) → is_second_figure x ≡ false → second_cut_in x ≡ None
no_second_cut (LineData.SecondCut value) e = absurd (false≢true (sym e))
no_second_cut _ e = refl

no_second_total : (x : LineData) → is_second_figure x ≡ false → second_total_in x ≡ None
no_second_total (LineData.SecondTotal weight) e = absurd (false≢true (sym e))
no_second_total _ e = refl

module _ {two : Bool} {lines : List LineData} (f : FourLines two lines) where
  -- the lines above say no set
  pub no_taken_above : filter_map taken_in f.above ≡ []
  no_taken_above = none_up is_up_to_flows taken_in no_taken_up f.above f.ups

  -- nor a value
  pub no_value_above : filter_map value_in f.above ≡ []
  no_value_above = none_up is_up_to_flows value_in no_value_up f.above f.ups

  -- nor a second one
  pub no_second_value_above : filter_map second_value_in f.above ≡ []
  no_second_value_above = none_up is_up_to_flows second_value_in no_second_value_up f.above f.ups

  figures_out : (b : Bool) → AllOut figures (behind_total b)
  unfolding figures
  figures_out true = ((refl, refl), ((refl, refl), ((refl, refl), ((refl, refl), ((refl, refl), tt)))))
  figures_out false = ((refl, refl), ((refl, refl), tt))

  -- what neither the lines up to the flows nor those behind the total say is said by the four lines alone
  one_figure : {X : Type 0} (said : LineData → Option X) → ((x : LineData) → is_up_to_flows x ≡ true → said x ≡ None) → ((x : LineData) → is_figure x ≡ false → said x ≡ None)
      → filter_map said lines ≡ filter_map said (LineData.Taken f.taken ∷ LineData.Value f.value ∷ LineData.Cut f.cut ∷ LineData.Total f.total ∷ [])
  one_figure said up other =
      let four : List LineData = LineData.Taken f.taken ∷ LineData.Value f.value ∷ LineData.Cut f.cut ∷ LineData.Total f.total ∷ [] in
      ap (filter_map said) f.is
      ∙ filter_map-append said f.above (four ++ f.below)
      ∙ ap (λ xs. xs ++ filter_map said (four ++ f.below)) (none_up is_up_to_flows said up f.above f.ups)
      ∙ filter_map-append said four f.below
      ∙ ap (λ xs. filter_map said four ++ xs) (none_said is_figure said other f.below (all_down figure_tells (behind_total two) f.below (figures_out two) f.whole))
      ∙ append-nil (filter_map said four)

  -- all lines together say one value, one cut and one total
  pub one_value : filter_map value_in lines ≡ f.value ∷ []
  one_value = one_figure value_in no_value_up no_value

  pub one_cut : filter_map cut_in lines ≡ f.cut ∷ []
  one_cut = one_figure cut_in no_cut_up no_cut

  pub one_total : filter_map total_in lines ≡ f.total ∷ []
  one_total = one_figure total_in no_total_up no_total

  pub flows_out : (b : Bool) → AllOut flows_words (behind_total b)
  flows_out true = ((refl, refl), ((refl, refl), ((refl, refl), ((refl, refl), ((refl, refl), tt)))))
  flows_out false = ((refl, refl), ((refl, refl), tt))

  -- the lines up to the flows, and those behind them
  abbrev pub flows_parted : Parted is_up_to_flows lines
  flows_parted = record {
    above = f.above;
    below = LineData.Taken f.taken ∷ LineData.Value f.value ∷ LineData.Cut f.cut ∷ LineData.Total f.total ∷ f.below;
    is = f.is;
    ups = f.ups;
    downs = (refl, (refl, (refl, (refl, all_down flows_tell (behind_total two) f.below (flows_out two) f.whole))));
  }

  second_figures_out : AllOut second_figures pairs_left
  unfolding second_figures
  second_figures_out = ((refl, refl), ((refl, refl), tt))

  -- what in two levels neither the lines up to the first total nor those behind the second one say is said by the three lines alone
  one_second_figure : (t : ThreeLines f.below) → {X : Type 0} (said : LineData → Option X) → ((x : LineData) → is_up_to_flows x ≡ true → said x ≡ None) → ((x : LineData) → is_second_figure x ≡ false → said x ≡ None)
      → filter_map said lines ≡ filter_map said (LineData.SecondValue t.value ∷ LineData.SecondCut t.cut ∷ LineData.SecondTotal t.total ∷ [])
  one_second_figure t said up other =
      let four : List LineData = LineData.Taken f.taken ∷ LineData.Value f.value ∷ LineData.Cut f.cut ∷ LineData.Total f.total ∷ [] in
      let three : List LineData = LineData.SecondValue t.value ∷ LineData.SecondCut t.cut ∷ LineData.SecondTotal t.total ∷ [] in
      ap (filter_map said) f.is
      ∙ filter_map-append said f.above (four ++ f.below)
      ∙ ap (λ xs. xs ++ filter_map said (four ++ f.below)) (none_up is_up_to_flows said up f.above f.ups)
      ∙ filter_map-append said four f.below
      ∙ ap (λ xs. xs ++ filter_map said f.below) (none_said is_second_figure said other four (refl, (refl, (refl, (refl, tt)))))
      ∙ ap (filter_map said) t.is
      ∙ filter_map-append said three t.below
      ∙ ap (λ xs. filter_map said three ++ xs) (none_said is_second_figure said other t.below (all_down second_figure_tells pairs_left t.below second_figures_out t.whole))
      ∙ append-nil (filter_map said three)

  -- in two levels they say one second value, cut and total
  pub one_second_value : (t : ThreeLines f.below) → filter_map second_value_in lines ≡ t.value ∷ []
  one_second_value t = one_second_figure t second_value_in no_second_value_up no_second_value

  pub one_second_cut : (t : ThreeLines f.below) → filter_map second_cut_in lines ≡ t.cut ∷ []
  one_second_cut t = one_second_figure t second_cut_in no_second_cut_up no_second_cut

  pub one_second_total : (t : ThreeLines f.below) → filter_map second_total_in lines ≡ t.total ∷ []
  one_second_total t = one_second_figure t second_total_in no_second_total_up no_second_total
