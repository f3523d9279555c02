-- The lines of an answer by groups: those that stand in its first groups, and those behind them.
use Rattle.std.proofs.Common.{◌≡◌, ℕ, zero, suc, ◌+◌, ◌<◌, ◌≤◌, ◌⊎◌, ◌==◌, ◌&&◌, inl, inr, arith, refl, sym, ap, ◌∙◌, not, Bool, true, false, List, [], ◌∷◌, ◌++◌, length, map, take, get_or, Option, Some, None, if◌then◌else◌, subst, append-nil, length-append, ⊎_elim}
use Rattle.std.specs.Prelude.{IfSome, filter_map}
use Rattle.std.specs.List.{cons_option, list_any, list_all, slice_get}
use Rattle.std.proofs.lemmas.Bool.{false≢true, cases_lt}
use Rattle.std.proofs.lemmas.List.{get_or_append_left}
use Rattle.std.proofs.lemmas.List.Folds.{list_all_at}
use Rattle.std.proofs.lemmas.List.Elements.{filter_map-append}
use Rattle.std.proofs.lemmas.Option.{get_or_from_slice_get}
use Rattle.sm_agents.specs.Written.{Written}
use Rattle.sm_instance.specs.declared.inputs.Input.TheVariants.{Two}
use Rattle.sm_report.specs.Heads.{HeadData}
use Rattle.sm_report.specs.Lines.{LineData}
use Rattle.sm_report.specs.declared.keywords.Keyword.{Keyword}
use Rattle.sm_report.specs.declared.keywords.Keyword.TheVariants as keyword
use Rattle.sm_check_forms.specs.declared.layouts.LayoutPart.{LayoutPart}
use Rattle.sm_check_forms.specs.declared.layouts.LayoutPart.TheVariants.{One, Many, Blocks}
use Rattle.sm_check_forms.specs.declared.layouts.Opening.{Opening}
use Rattle.sm_check_clauses.specs.declared.verdicts.Reason.{Reason}
use Rattle.sm_check_forms.proofs.KeywordNumbers.{keyword_number, same_number}
use Rattle.sm_report.specs.Keywords.{keyword_of}
use Rattle.sm_check_forms.proofs.KeywordLayouts.{begins, keyword_at, behind, left_behind, is_whole, layouts_of, opening_of, left_behind-none}
use Rattle.sm_check_forms.specs.Layouts.{is_empty}
use Rattle.sm_check_clauses.specs.Verdicts.{AtLine}
use Rattle.sm_check_clauses.specs.Said.{IsFirstBehind}
use Rattle.sm_check_clauses.specs.Judging.{Subject, Clauses}
use Rattle.sm_cert.specs.Yes.{GetsYes}
use Rattle.sm_theory.proofs.Net.Tests.{and_parts}
use Rattle.sm_cert.proofs.YesLines.{IsRight, by_head, got_at, taken_front}

-- What is left of a layout behind a line of a whole answer.
pub record Goes (parts : List LayoutPart) (line : Opening) (lines : List Opening) : Type 0 where
  pub left : List LayoutPart
  pub is : behind parts line ≡ Some left
  pub whole : is_whole (left ∷ []) lines ≡ true

-- the first line of a whole answer leaves a layout, of which the lines behind it are a whole answer
pub goes : (parts : List LayoutPart) (line : Opening) (lines : List Opening) → is_whole (parts ∷ []) (line ∷ lines) ≡ true → Goes parts line lines
goes parts line lines e = go (behind parts line) refl e
  where
    go : (o : Option (List LayoutPart)) → behind parts line ≡ o → list_any is_empty (left_behind (cons_option o []) lines) ≡ true → Goes parts line lines
    go None is whole = absurd (false≢true (sym (ap (list_any is_empty) (left_behind-none lines)) ∙ whole))
    go (Some left) is whole = record { left = left; is = is; whole = whole }

-- Groups of keywords, by their numbers: the parts of a layout in a group, and those behind it.
module _ (group : ℕ → Bool) where
  -- a keyword that layouts name is outside the group
  abbrev pub IsOutside : ℕ → Type 0
  IsOutside n = (group n ≡ false) × ((n == 21) ≡ false)

  -- all lines of a part are in the group
  abbrev pub IsIn : LayoutPart → Type 0
  IsIn (One word) = group (keyword_number word) ≡ true
  IsIn (Many word) = group (keyword_number word) ≡ true
  IsIn (Blocks turn) = (group 7 ≡ true) × (group 8 ≡ true) × (group 9 ≡ true) × (group 28 ≡ true)

  -- all lines of a part are outside the group
  abbrev pub IsOut : LayoutPart → Type 0
  IsOut (One word) = IsOutside (keyword_number word)
  IsOut (Many word) = IsOutside (keyword_number word)
  IsOut (Blocks turn) = IsOutside 7 × IsOutside 8 × IsOutside 9 × IsOutside 28

  -- the parts of a layout are all outside it
  abbrev pub AllOut : List LayoutPart → Type 0
  AllOut [] = Unit {0}
  AllOut (part ∷ parts) = IsOut part × AllOut parts

  -- the first parts of a layout are in it, and the others outside it
  abbrev pub Begins : List LayoutPart → Type 0
  Begins [] = Unit {0}
  Begins (part ∷ parts) = (IsIn part × Begins parts) ⊎ (IsOut part × AllOut parts)

  abbrev of_line : Opening → ℕ
  of_line line = keyword_number line.keyword

  -- a line that a layout takes is outside, and so are all parts that are left
  abbrev pub OutStep : Opening → Option (List LayoutPart) → Type 0
  OutStep line None = Unit {0}
  OutStep line (Some left) = IsOutside (of_line line) × AllOut left

  abbrev Step : Opening → Option (List LayoutPart) → Type 0
  Step line None = Unit {0}
  Step line (Some left) = ((group (of_line line) ≡ true) × Begins left) ⊎ (IsOutside (of_line line) × AllOut left)

  by_word : (P : ℕ → Type 0) (line : Opening) (word : Keyword) → begins line word ≡ true → P (keyword_number word) → P (of_line line)
  by_word P line word e h = subst P (sym (same_number line.keyword word e)) h

  by_place : (P : ℕ → Type 0) (place : ℕ) → P 7 → P 8 → P 9 → P 28 → P (keyword_number (keyword_at place))
  by_place P place a b c d = go (place == 0) (place == 1) (place == 2)
    where
      go : (s t u : Bool) → P (keyword_number (if s then keyword.Rotation else (if t then keyword.Needs else (if u then keyword.Gain else keyword.SecondGain))))
      go true t u = a
      go false true u = b
      go false false true = c
      go false false false = d

  out_if : (line : Opening) (t : Bool) (o p : Option (List LayoutPart)) → (t ≡ true → OutStep line o) → OutStep line p → OutStep line (if t then o else p)
  out_if line true o p x y = x refl
  out_if line false o p x y = y

  step_if : (line : Opening) (t : Bool) (o p : Option (List LayoutPart)) → (t ≡ true → Step line o) → Step line p → Step line (if t then o else p)
  step_if line true o p x y = x refl
  step_if line false o p x y = y

  -- a layout whose parts are all outside takes only lines outside
  pub out_step : (line : Opening) (parts : List LayoutPart) → AllOut parts → OutStep line (behind parts line)
  out_step line [] h = tt
  out_step line (One word ∷ parts) h = out_if line (begins line word) _ _ (λ e. (by_word IsOutside line word e h.0, h.1)) tt
  out_step line (Many word ∷ parts) h = out_if line (begins line word) _ _ (λ e. (by_word IsOutside line word e h.0, h)) (out_step line parts h.1)
  out_step line (Blocks turn ∷ parts) h =
      out_if line (begins line (keyword_at turn.place)) _ _
      (λ e. out_if line (line.number == turn.number) _ _ (λ _. (by_word IsOutside line (keyword_at turn.place) e (by_place IsOutside turn.place h.0.0 h.0.1 h.0.2 h.0.3), h)) tt)
      (out_if line (turn.place == 0) _ _ (λ _. out_step line parts h.1) tt)

  of_out : (line : Opening) (o : Option (List LayoutPart)) → OutStep line o → Step line o
  of_out line None h = tt
  of_out line (Some left) h = inr h

  abbrev Inside : ℕ → Type 0
  Inside n = group n ≡ true

  step : (line : Opening) (parts : List LayoutPart) → Begins parts → Step line (behind parts line)
  step line [] h = tt
  step line (part ∷ parts) (inr h) = of_out line (behind (part ∷ parts) line) (out_step line (part ∷ parts) h)
  step line (One word ∷ parts) (inl h) = step_if line (begins line word) _ _ (λ e. inl (by_word Inside line word e h.0, h.1)) tt
  step line (Many word ∷ parts) (inl h) = step_if line (begins line word) _ _ (λ e. inl (by_word Inside line word e h.0, inl h)) (step line parts h.1)
  step line (Blocks turn ∷ parts) (inl h) =
      step_if line (begins line (keyword_at turn.place)) _ _
      (λ e. step_if line (line.number == turn.number) _ _ (λ _. inl (by_word Inside line (keyword_at turn.place) e (by_place Inside turn.place h.0.0 h.0.1 h.0.2 h.0.3), inl h)) tt)
      (step_if line (turn.place == 0) _ _ (λ _. step line parts h.1) tt)

-- a test of lines tells which are in a group, but for heads
pub record Tells (group : ℕ → Bool) (up : LineData → Bool) : Type 0 where
  pub other : group 21 ≡ false
  pub same : (x : LineData) → (up x ≡ group (keyword_number (keyword_of x))) ⊎ (keyword_number (keyword_of x) ≡ 21)

module _ {group : ℕ → Bool} {up : LineData → Bool} (t : Tells group up) where
  -- a line in the group passes the test
  pub is_up : (x : LineData) → group (keyword_number (keyword_of x)) ≡ true → up x ≡ true
  is_up x e = elim (t.same x) [
    | inl same ↦ same ∙ e
    | inr head ↦ absurd (false≢true (sym t.other ∙ ap group (sym head) ∙ e))
  ]

  -- a line outside it fails the test
  pub is_down : (x : LineData) → IsOutside group (keyword_number (keyword_of x)) → up x ≡ false
  is_down x h = elim (t.same x) [
    | inl same ↦ same ∙ h.0
    | inr head ↦ absurd (false≢true (sym h.1 ∙ ap (λ (n : ℕ). n == 21) head))
  ]

-- all these lines fail the test
abbrev pub AreDown : (LineData → Bool) → List LineData → Type 0
AreDown up [] = Unit {0}
AreDown up (x ∷ xs) = (up x ≡ false) × AreDown up xs

-- the lines up to somewhere, and those behind
pub record Parted (up : LineData → Bool) (lines : List LineData) : Type 0 where
  pub above : List LineData
  pub below : List LineData
  pub is : lines ≡ above ++ below
  pub ups : list_all up above ≡ true
  pub downs : AreDown up below

one_up : (up : LineData → Bool) (x : LineData) (lines : List LineData) → up x ≡ true → Parted up lines → Parted up (x ∷ lines)
one_up up x lines e p = record {
  above = x ∷ p.above;
  below = p.below;
  is = ap (λ (ls : List LineData). x ∷ ls) p.is;
  ups = ap (λ b. b && list_all up p.above) e ∙ p.ups;
  downs = p.downs;
}

module _ {group : ℕ → Bool} {up : LineData → Bool} (t : Tells group up) where
  -- lines that are a whole answer of parts outside the group fail the test
  pub all_down : (parts : List LayoutPart) (lines : List LineData) → AllOut group parts → is_whole (parts ∷ []) (map opening_of lines) ≡ true → AreDown up lines
  all_down parts [] h e = tt
  all_down parts (x ∷ xs) h e =
      let g = goes parts (opening_of x) (map opening_of xs) e in
      let s = subst (OutStep group (opening_of x)) g.is (out_step group (opening_of x) parts h) in
      (is_down t x s.0, all_down g.left xs s.1 g.whole)

  -- a whole answer of a layout that begins with the group falls into the lines of the group and those behind it
  pub parted : (parts : List LayoutPart) (lines : List LineData) → Begins group parts → is_whole (parts ∷ []) (map opening_of lines) ≡ true → Parted up lines
  parted parts [] h e = record { above = []; below = []; is = refl; ups = refl; downs = tt }
  parted parts (x ∷ xs) h e =
      let g = goes parts (opening_of x) (map opening_of xs) e in
      elim (subst (Step group (opening_of x)) g.is (step group (opening_of x) parts h)) [
        | inl s ↦ one_up up x xs (is_up t x s.0) (parted g.left xs s.1 g.whole)
        | inr s ↦ record { above = []; below = x ∷ xs; is = refl; ups = refl; downs = (is_down t x s.0, all_down g.left xs s.1 g.whole) }
      ]

  -- an answer with one layout that begins with the group
  pub parted_behind : {w : Written} {head : HeadData} {lines : List LineData} (layout : List LayoutPart) → layouts_of (Two w) head ≡ layout ∷ [] → Begins group layout → up (LineData.Answer head) ≡ true
      → GetsYes (Two w) head lines → Parted up lines
  parted_behind {w} {head} layout one h e g =
      by_head (Parted up) g (λ rest placed _. one_up up (LineData.Answer head) rest e
      (parted layout rest h (subst (λ layouts. is_whole layouts (map opening_of rest) ≡ true) one placed)))

-- What lines up to somewhere say.

-- lines behind say nothing of what only lines up to there say
pub none_said : {X : Type 0} (up : LineData → Bool) (said : LineData → Option X) → ((x : LineData) → up x ≡ false → said x ≡ None) → (lines : List LineData) → AreDown up lines → filter_map said lines ≡ []
none_said up said none [] h = refl
none_said {X} up said none (x ∷ xs) h = ap (λ (o : Option X). cons_option o (filter_map said xs)) (none x h.0) ∙ none_said up said none xs h.1

-- the first of the lines behind are behind too
pub down_taken : (up : LineData → Bool) (k : ℕ) (lines : List LineData) → AreDown up lines → AreDown up (take k lines)
down_taken up zero lines h = tt
down_taken up (suc k) [] h = tt
down_taken up (suc k) (x ∷ xs) h = (h.0, down_taken up k xs h.1)

taken_past : (xs ys : List LineData) (j : ℕ) → take (length xs + j) (xs ++ ys) ≡ xs ++ take j ys
taken_past [] ys j = ap (λ n. take n ys) (let e : 0 + j ≡ j = omega arith in e)
taken_past (x ∷ xs) ys j =
    ap (λ n. take n (x ∷ xs ++ ys)) (let e : length (x ∷ xs) + j ≡ suc (length xs + j) = omega arith in e)
    ∙ ap (λ (zs : List LineData). x ∷ zs) (taken_past xs ys j)

module _ {up : LineData → Bool} {lines : List LineData} (p : Parted up lines) where
  module _ {X : Type 0} (said : LineData → Option X) (none : (x : LineData) → up x ≡ false → said x ≡ None) where
    -- all of it is said by the lines up to there
    pub said_up : filter_map said p.above ≡ filter_map said lines
    said_up =
        sym (ap (filter_map said) p.is ∙ filter_map-append said p.above p.below
        ∙ ap (λ xs. filter_map said p.above ++ xs) (none_said up said none p.below p.downs) ∙ append-nil (filter_map said p.above))

    said_past : (j : ℕ) → filter_map said (take (length p.above + j) lines) ≡ filter_map said lines
    said_past j =
        ap (λ (ls : List LineData). filter_map said (take (length p.above + j) ls)) p.is
        ∙ ap (filter_map said) (taken_past p.above p.below j)
        ∙ filter_map-append said p.above (take j p.below)
        ∙ ap (λ xs. filter_map said p.above ++ xs) (none_said up said none (take j p.below) (down_taken up j p.below p.downs))
        ∙ append-nil (filter_map said p.above) ∙ said_up

    -- all of it stands above a line that isn't up to there
    pub said_then : (k : ℕ) (x : LineData) → slice_get lines k ≡ Some x → up x ≡ false → filter_map said (take k lines) ≡ filter_map said lines
    said_then k x e down = ⊎_elim
        (λ (less : k < length p.above). absurd (false≢true (sym (list_all_at up p.above k x less (ap up (here less) ∙ down)) ∙ p.ups)))
        (λ (past : length p.above ≤ k).
        let d : (j : ℕ) × (length p.above + j ≡ k) = split (length p.above) k past in
        ap (λ n. filter_map said (take n lines)) (sym d.1) ∙ said_past d.0)
        (cases_lt k (length p.above))
      where
        here : k < length p.above → get_or p.above k x ≡ x
        here less =
            sym (get_or_append_left p.above p.below x k less) ∙ ap (λ (ls : List LineData). get_or ls k x) (sym p.is)
            ∙ get_or_from_slice_get lines k x x e

        split : (a b : ℕ) → a ≤ b → (j : ℕ) × (a + j ≡ b)
        split zero b le = (b, omega arith)
        split (suc a) zero le = absurd (omega arith)
        split (suc a) (suc b) le = let d = split a b (omega arith) in (d.0, (let e = d.1 in omega arith))

-- and lines that are up to somewhere say nothing of what stands behind it
pub none_up : {X : Type 0} (up : LineData → Bool) (said : LineData → Option X) → ((x : LineData) → up x ≡ true → said x ≡ None) → (lines : List LineData) → list_all up lines ≡ true → filter_map said lines ≡ []
none_up up said none [] h = refl
none_up {X} up said none (x ∷ xs) h =
    let parts = and_parts (up x) (list_all up xs) h in
    ap (λ (o : Option X). cons_option o (filter_map said xs)) (none x parts.0) ∙ none_up up said none xs parts.1

-- The first line behind, and its clauses.
pub record StandsBehind (up : LineData → Bool) (subject : Subject) (above : List LineData) (why : Reason) : Type 0 where
  pub line : LineData
  pub first : IsFirstBehind up above line
  pub holds : Clauses subject above line why

-- the lines up to there have a line behind them, and the clauses of the answer hold at it
pub stands_behind : {up : LineData → Bool} {subject : Subject} {lines : List LineData} → up LineData.End ≡ false → IsRight subject lines → (p : Parted up lines) (why : Reason) → StandsBehind up subject p.above why
stands_behind {up} {subject} {lines} end r p why = go p.below p.is p.downs
  where
    go : (below : List LineData) → lines ≡ p.above ++ below → AreDown up below → StandsBehind up subject p.above why
    go [] is h =
        let e : p.above ≡ r.front ++ LineData.End ∷ [] = sym (append-nil p.above) ∙ sym is ∙ r.ends in
        let there = got_at r.front LineData.End [] in
        let long = length-append r.front (LineData.End ∷ []) in
        absurd (false≢true (sym (list_all_at up (r.front ++ LineData.End ∷ []) (length r.front) LineData.End (omega arith)
        (ap up (get_or_from_slice_get (r.front ++ LineData.End ∷ []) (length r.front) LineData.End LineData.End there) ∙ end))
        ∙ ap (list_all up) (sym e) ∙ p.ups))
    go (x ∷ xs) is h =
        let k : ℕ = length p.above in
        let all = subst (λ (ls : List LineData). AtLine (Clauses subject) ls k why) is (r.holds k why) in
        let here = subst (λ o. IfSome o (λ line. Clauses subject (take k (p.above ++ x ∷ xs)) line why)) (got_at p.above x xs) all in
        record {
          line = x;
          first = record { all_above = p.ups; behind = ap not h.0 };
          holds = subst (λ (ls : List LineData). Clauses subject ls x why) (taken_front p.above (x ∷ xs)) here;
        }
