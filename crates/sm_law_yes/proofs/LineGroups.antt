-- The lines of an answer by its groups, as its layout has them.
use Rattle.std.proofs.Common.{◌≡◌, ℕ, inl, inr, arith, refl, sym, ap, ◌∙◌, Bool, true, false, List, [], ◌∷◌, ◌++◌, map, Option, Some, None, if◌then◌else◌, subst, append-nil}
use Rattle.std.specs.Prelude.{filter_map, Contains}
use Rattle.std.specs.List.{All, cons_option, list_all, list_any}
use Rattle.std.proofs.lemmas.Bool.{false≢true}
use Rattle.std.proofs.lemmas.List.Elements.{All-head, All-tail, filter_map-append}
use Rattle.sm_lists.proofs.BoolLemmas.{first_true, second_true}
use Rattle.sm_agents.specs.Written.{Written}
use Rattle.sm_instance.specs.declared.inputs.Input.{Input}
use Rattle.sm_instance.specs.declared.inputs.Input.TheVariants.{Two}
use Rattle.sm_report.specs.Heads.{HeadData}
use Rattle.sm_report.specs.Lines.{LineData}
use Rattle.sm_report.specs.Sound.{IsLineOf}
use Rattle.sm_report.specs.declared.keywords.Keyword.{Keyword}
use Rattle.sm_check_forms.specs.declared.layouts.LayoutPart.{LayoutPart}
use Rattle.sm_check_forms.specs.declared.layouts.LayoutPart.TheVariants.{Many}
use Rattle.sm_check_forms.proofs.KeywordLayouts.{begins, behind, left_behind, is_whole, closing, opening_of, left_behind-none}
use Rattle.sm_check_forms.specs.Layouts.{is_empty}
use Rattle.sm_check_forms.specs.Forms.{fits}
use Rattle.sm_cert.specs.Yes.{GetsYes}
use Rattle.sm_law_yes.proofs.ReorderLemmas.{first_or_rest}

-- each of some lines begins with a keyword
abbrev pub HaveWord : Keyword → List LineData → Type 0
HaveWord word [] = Unit {0}
HaveWord word (x ∷ xs) = (begins (opening_of x) word ≡ true) × HaveWord word xs

-- the lines of a group, and those of the rest of a layout behind them
pub record Grouped (word : Keyword) (parts : List LayoutPart) (lines : List LineData) : Type 0 where
  pub group : List LineData
  pub rest : List LineData
  pub is : lines ≡ group ++ rest
  pub words : HaveWord word group
  pub whole : is_whole (parts ∷ []) (map opening_of rest) ≡ true

-- a whole answer of a layout that begins with a group falls into these
pub grouped : (word : Keyword) (parts : List LayoutPart) (lines : List LineData) → is_whole ((Many word ∷ parts) ∷ []) (map opening_of lines) ≡ true → Grouped word parts lines
grouped word parts [] e = absurd (false≢true e)
grouped word parts (x ∷ xs) e = go (begins (opening_of x) word) refl e (λ whole. grouped word parts xs whole)
  where
    go : (t : Bool) → begins (opening_of x) word ≡ t → list_any is_empty (left_behind (cons_option (if t then Some (Many word ∷ parts) else behind parts (opening_of x)) []) (map opening_of xs)) ≡ true
        → (is_whole ((Many word ∷ parts) ∷ []) (map opening_of xs) ≡ true → Grouped word parts xs) → Grouped word parts (x ∷ xs)
    go true b whole deep =
        let d = deep whole in
        record { group = x ∷ d.group; rest = d.rest; is = ap (λ (ls : List LineData). x ∷ ls) d.is; words = (b, d.words); whole = d.whole }
    go false b whole deep = record { group = []; rest = x ∷ xs; is = refl; words = tt; whole = whole }

-- where no layout is left, lines are no whole answer
pub none_left : (lines : List LineData) → list_any is_empty (left_behind [] (map opening_of lines)) ≡ true → ⊥
none_left lines e = false≢true (sym (ap (list_any is_empty) (left_behind-none (map opening_of lines))) ∙ e)

-- behind the closing line there is none
pub closes : (lines : List LineData) → is_whole (closing ∷ []) (map opening_of lines) ≡ true → lines ≡ LineData.End ∷ []
closes [] e = absurd (false≢true e)
closes (LineData.End ∷ []) e = refl
closes (LineData.End ∷ y ∷ ys) e = absurd (none_left ys e)
closes (x ∷ xs) e = absurd (none_left xs e)

-- Lines of an instance.

-- each of some lines is of its instance, and of its form
abbrev pub AreOwn : Input → List LineData → Type 0
AreOwn input [] = Unit {0}
AreOwn input (x ∷ xs) = IsLineOf input x × (fits input x ≡ true) × AreOwn input xs

own_lines : (input : Input) (lines : List LineData) → All (IsLineOf input) lines → list_all (fits input) lines ≡ true → AreOwn input lines
own_lines input [] right fitting = tt
own_lines input (x ∷ xs) right fitting = (
  All-head (IsLineOf input) x xs right,
  first_true (fits input x) (list_all (fits input) xs) fitting,
  own_lines input xs (All-tail (IsLineOf input) x xs right) (second_true (fits input x) (list_all (fits input) xs) fitting),
)

-- those of an answer that gets a yes
pub are_own : {input : Input} {head : HeadData} {lines : List LineData} → GetsYes input head lines → AreOwn input lines
are_own {input} {head} {lines} g = own_lines input lines g.answer.right g.answer.fitting

-- the first of two parts
pub own_front : (input : Input) (xs ys : List LineData) → AreOwn input (xs ++ ys) → AreOwn input xs
own_front input [] ys h = tt
own_front input (x ∷ xs) ys h = (h.0, h.1, own_front input xs ys h.2)

-- the second of two parts
pub own_back : (input : Input) (xs ys : List LineData) → AreOwn input (xs ++ ys) → AreOwn input ys
own_back input [] ys h = h
own_back input (x ∷ xs) ys h = own_back input xs ys h.2

-- What the lines of a group say.

-- a line says a thing, and is the line of it
pub record IsLineFor {X : Type 0} (line : X → LineData) (said : LineData → Option X) (y : LineData) : Type 0 where
  pub thing : X
  pub says : said y ≡ Some thing
  pub is : line thing ≡ y

module _ {X : Type 0} (said : LineData → Option X) where
  -- a group whose lines are of this instance is the lines of what it says
  pub lines_said : (w : Written) (word : Keyword) (line : X → LineData) → ((y : LineData) → IsLineOf (Two w) y → fits (Two w) y ≡ true → begins (opening_of y) word ≡ true → IsLineFor line said y)
      → (lines : List LineData) → AreOwn (Two w) lines → HaveWord word lines → lines ≡ map line (filter_map said lines)
  lines_said w word line read [] own h = refl
  lines_said w word line read (y ∷ ys) own h =
      let r = read y own.0 own.1 h.0 in
      ap (λ z. z ∷ ys) (sym r.is) ∙ ap (λ (zs : List LineData). line r.thing ∷ zs) (lines_said w word line read ys own.2 h.1)
      ∙ ap (λ (o : Option X). map line (cons_option o (filter_map said ys))) (sym r.says)

  -- what a line of the instance says has a property
  pub all_said : (w : Written) (P : X → Type 0) → ((y : LineData) → IsLineOf (Two w) y → fits (Two w) y ≡ true → (x : X) → said y ≡ Some x → P x) → (lines : List LineData) → AreOwn (Two w) lines
      → (x : X) → Contains (filter_map said lines) x → P x
  all_said w P each [] own x c = absurd (let l = c.1 in omega (arith, l))
  all_said w P each (y ∷ ys) own x c = go (said y) refl c (λ d. all_said w P each ys own.2 x d)
    where
      go : (o : Option X) → said y ≡ o → Contains (cons_option o (filter_map said ys)) x → (Contains (filter_map said ys) x → P x) → P x
      go None e c deep = deep c
      go (Some z) e c deep = elim (first_or_rest z (filter_map said ys) x c) [
        | inl is ↦ subst P is (each y own.0 own.1 z e)
        | inr rest ↦ deep rest
      ]

  -- lines of another group say nothing of it
  pub skipped : (word : Keyword) → ((y : LineData) → begins (opening_of y) word ≡ true → said y ≡ None) → (group rest : List LineData) → HaveWord word group → filter_map said (group ++ rest) ≡ filter_map said rest
  skipped word none [] rest h = refl
  skipped word none (y ∷ ys) rest h = ap (λ (o : Option X). cons_option o (filter_map said (ys ++ rest))) (none y h.0) ∙ skipped word none ys rest h.1

  -- where the lines behind a group say nothing, the group says it all
  pub said_first : (group rest : List LineData) → filter_map said rest ≡ [] → filter_map said (group ++ rest) ≡ filter_map said group
  said_first group rest none = filter_map-append said group rest ∙ ap (λ xs. filter_map said group ++ xs) none ∙ append-nil (filter_map said group)

-- what the lines of a layout say
module _ {X : Type 0} (said : LineData → Option X) {word : Keyword} {parts : List LayoutPart} {lines : List LineData} (g : Grouped word parts lines) where
  -- is what those behind its first group say, where that says nothing of it
  pub passed : ((y : LineData) → begins (opening_of y) word ≡ true → said y ≡ None) → filter_map said lines ≡ filter_map said g.rest
  passed none = ap (filter_map said) g.is ∙ skipped said word none g.group g.rest g.words

  -- or what that group says, where those behind it say nothing of it
  pub ended : filter_map said g.rest ≡ [] → filter_map said lines ≡ filter_map said g.group
  ended none = ap (filter_map said) g.is ∙ said_first said g.group g.rest none

-- lines with the keyword of pairs are those that pairs are written by
pub pairs_written : (said : LineData → Option (ℕ × ℕ)) (word : Keyword) (line : ℕ × ℕ → LineData) → ((y : LineData) → begins (opening_of y) word ≡ true → IsLineFor line said y)
    → (lines : List LineData) → HaveWord word lines → lines ≡ map line (filter_map said lines)
pairs_written said word line read [] h = refl
pairs_written said word line read (y ∷ ys) h =
    let r = read y h.0 in
    ap (λ z. z ∷ ys) (sym r.is) ∙ ap (λ (zs : List LineData). line r.thing ∷ zs) (pairs_written said word line read ys h.1)
    ∙ ap (λ (o : Option (ℕ × ℕ)). map line (cons_option o (filter_map said ys))) (sym r.says)
