-- The lines of an answer that gets a yes: all clauses hold at each, and the last one closes it.
use Rattle.std.proofs.Common.{◌≡◌, ◌≢◌, ℕ, zero, suc, ◌≤◌, ◌||◌, arith, refl, sym, ap, ◌∙◌, Bool, true, false, List, [], ◌∷◌, ◌++◌, length, map, take, slice_index_or, codes, Option, Some, None, subst, append-nil, length-append, take_all}
use Rattle.std.specs.Prelude.{IfSome, filter_map}
use Rattle.std.specs.List.{cons_option, list_any, slice_get}
use Rattle.std.proofs.lemmas.Bool.{false≢true}
use Rattle.std.proofs.lemmas.List.{map-append}
use Rattle.std.proofs.lemmas.List.Elements.{filter_map-append}
use Rattle.std.proofs.lemmas.Option.{slice_get-get_or, same_Some}
use Rattle.std.proofs.Math.Seq.{take-suc}
use Rattle.sm_agents.specs.Written.{Written, AgentData}
use Rattle.sm_instance.specs.declared.inputs.Input.{Input}
use Rattle.sm_instance.specs.declared.inputs.Input.TheVariants.{Two, Room}
use Rattle.sm_report.specs.Heads.{HeadData}
use Rattle.sm_report.specs.Lines.{LineData}
use Rattle.sm_check_clauses.specs.declared.verdicts.Reason.{Reason}
use Rattle.sm_check_forms.specs.Layouts.{OpeningData, begins}
use Rattle.sm_check_forms.specs.Layouts as words
use Rattle.sm_check_forms.specs.Forms as form
use Rattle.sm_check_forms.proofs.KeywordLayouts.{is_whole, layouts_of, opening_of, is_placed, whole_same, placed_same}
use Rattle.sm_check_clauses.specs.Verdicts.{AtLine}
use Rattle.sm_check_clauses.specs.Judging.{Subject, answer, couples, parties, Clauses, Holds}
use Rattle.sm_check_forms.specs.Laws.{closing_of, EndsWith}
use Rattle.sm_cert.specs.Yes.{GetsYes}
use Rattle.sm_check_forms.proofs.LayoutLemmas.{whole_ends}

-- a line isn't found where there is none
pub no_line : {line : LineData} → ◌≡◌ {A = Option LineData} None (Some line) → ⊥
no_line e = grind arith

-- The last line.

record LastOf (lines : List LineData) : Type 0 where
  front : List LineData
  last : LineData
  is : lines ≡ front ++ last ∷ []

last_of : (x : LineData) (xs : List LineData) → LastOf (x ∷ xs)
last_of x [] = record { front = []; last = x; is = refl }
last_of x (y ∷ ys) = let l = last_of y ys in record { front = x ∷ l.front; last = l.last; is = ap (λ (zs : List LineData). x ∷ zs) l.is }

same_last : (xs ys : List OpeningData) (x y : OpeningData) → xs ++ x ∷ [] ≡ ys ++ y ∷ [] → x ≡ y
same_last [] [] x y e = cc
same_last [] (z ∷ ys) x y e = absurd (let n = ap (λ (l : List OpeningData). length l) e in let m = length-append ys (y ∷ []) in omega arith)
same_last (z ∷ xs) [] x y e = absurd (let n = ap (λ (l : List OpeningData). length l) e in let m = length-append xs (x ∷ []) in omega arith)
same_last (z ∷ xs) (u ∷ ys) x y e = same_last xs ys x y cc

closing_only : (input : Input) (line : LineData) → begins (form.opening_of input line) (codes "end") ≡ true → line ≡ LineData.End
closing_only input LineData.End e = refl
closing_only input _ e = absurd (false≢true e)

or_false : (b : Bool) → (b || false) ≡ true → b ≡ true
or_false true e = refl
or_false false e = e

record Closes (lines : List LineData) : Type 0 where
  front : List LineData
  is : lines ≡ front ++ LineData.End ∷ []

closes : (input : Input) (head : HeadData) (rest : List LineData) → closing_of head ≡ codes "end" ∷ []
    → words.is_whole (form.layouts_of input head) (map (form.opening_of input) rest) ≡ true → Closes rest
closes input head [] c e = absurd (no_end (whole_ends input head [] e))
  where
    no_end : EndsWith (closing_of head) [] → ⊥
    no_end w = let n = ap (λ (l : List OpeningData). length l) w.is in let m = length-append w.front (w.last ∷ []) in omega arith
closes input head (x ∷ xs) c e =
    let w = whole_ends input head (map (form.opening_of input) (x ∷ xs)) e in
    let l = last_of x xs in
    let last : OpeningData = form.opening_of input l.last in
    let o : last ≡ w.last = same_last (map (form.opening_of input) l.front) w.front last w.last
    (sym (ap (map (form.opening_of input)) l.is ∙ map-append (form.opening_of input) l.front (l.last ∷ [])) ∙ w.is) in
    let t : (begins last (codes "end") || false) ≡ true =
    ap (λ z. list_any (begins z) (codes "end" ∷ [])) o ∙ ap (λ ends. list_any (begins w.last) ends) (sym c) ∙ w.closes in
    record { front = l.front; is = l.is ∙ ap (λ (y : LineData). l.front ++ y ∷ []) (closing_only input l.last (or_false (begins last (codes "end")) t)) }

-- a closed answer at each line of which all clauses hold
pub record IsRight (subject : Subject) (lines : List LineData) : Type 0 where
  pub front : List LineData
  pub ends : lines ≡ front ++ LineData.End ∷ []
  pub holds : (k : ℕ) (why : Reason) → AtLine (Clauses subject) lines k why

right : (input : Input) (subject : Subject) (head : HeadData) (rest : List LineData) → closing_of head ≡ codes "end" ∷ [] → is_whole (layouts_of input head) (map opening_of rest) ≡ true
    → ((k : ℕ) (why : Reason) → AtLine (Clauses subject) (LineData.Answer head ∷ rest) k why) → IsRight subject (LineData.Answer head ∷ rest)
right input subject head rest c placed holds =
    let l = closes input head rest c (sym (whole_same input head rest) ∙ placed) in
    record { front = LineData.Answer head ∷ l.front; ends = ap (λ (ls : List LineData). LineData.Answer head ∷ ls) l.is; holds = holds }

-- what is so of an answer's lines behind its head
pub by_head : {input : Input} {head : HeadData} {lines : List LineData} (P : List LineData → Type 0) → GetsYes input head lines
    → ((rest : List LineData) → is_whole (layouts_of input head) (map opening_of rest) ≡ true
    → ((k : ℕ) (why : Reason) → Holds input (LineData.Answer head ∷ rest) k why) → P (LineData.Answer head ∷ rest)) → P lines
by_head {input} {head} {lines} P g f = go lines g.head_is (placed_same input lines ∙ g.answer.placed) g.yes
  where
    go : (ls : List LineData) → slice_get ls 0 ≡ Some (LineData.Answer head) → is_placed is_whole input ls ≡ true → ((k : ℕ) (why : Reason) → Holds input ls k why) → P ls
    go [] e placed h = absurd (no_line e)
    go (x ∷ xs) e placed h =
        let same : x ≡ LineData.Answer head = same_Some _ _ e in
        subst (λ y. P (y ∷ xs)) (sym same)
        (f xs (subst (λ y. is_placed is_whole input (y ∷ xs) ≡ true) same placed)
        (subst (λ y. (k : ℕ) (why : Reason) → Holds input (y ∷ xs) k why) same h))

-- over two sides an answer with a yes is right, where only `end` can close it
pub right_two : {w : Written} {head : HeadData} {lines : List LineData} → closing_of head ≡ codes "end" ∷ [] → GetsYes (Two w) head lines → IsRight (answer w head) lines
right_two {w} {head} c g = by_head (IsRight (answer w head)) g (λ rest placed h. right (Two w) (answer w head) head rest c placed h)

-- over roommates an answer with a yes that doesn't say `none` is right by the clauses of couples
pub right_couples : {persons : List AgentData} {lines : List LineData} → GetsYes (Room persons) (HeadData.Solve None) lines → slice_get lines 1 ≢ Some LineData.Nothing → IsRight (couples persons) lines
right_couples {persons} g =
    by_head (λ (ls : List LineData). slice_get ls 1 ≢ Some LineData.Nothing → IsRight (couples persons) ls) g
    (λ rest placed h some. right (Room persons) (couples persons) (HeadData.Solve None) rest refl placed (claims rest some h))
  where
    claims : (rest : List LineData) → slice_get rest 0 ≢ Some LineData.Nothing → ((k : ℕ) (why : Reason) → Holds (Room persons) (LineData.Answer (HeadData.Solve None) ∷ rest) k why)
        → (k : ℕ) (why : Reason) → AtLine (Clauses (couples persons)) (LineData.Answer (HeadData.Solve None) ∷ rest) k why
    claims [] some h = h
    claims (LineData.Nothing ∷ xs) some h = absurd (some refl)
    claims (x ∷ xs) some h = h

-- over roommates an answer with a yes that says `none` is right by the clauses of parties
pub right_parties : {persons : List AgentData} {lines : List LineData} → GetsYes (Room persons) (HeadData.Solve None) lines → slice_get lines 1 ≡ Some LineData.Nothing → IsRight (parties persons) lines
right_parties {persons} g =
    by_head (λ (ls : List LineData). slice_get ls 1 ≡ Some LineData.Nothing → IsRight (parties persons) ls) g
    (λ rest placed h none. right (Room persons) (parties persons) (HeadData.Solve None) rest refl placed (claims rest none h))
  where
    claims : (rest : List LineData) → slice_get rest 0 ≡ Some LineData.Nothing → ((k : ℕ) (why : Reason) → Holds (Room persons) (LineData.Answer (HeadData.Solve None) ∷ rest) k why)
        → (k : ℕ) (why : Reason) → AtLine (Clauses (parties persons)) (LineData.Answer (HeadData.Solve None) ∷ rest) k why
    claims [] none h = absurd (no_line none)
    claims (x ∷ xs) none h =
        let same : x ≡ LineData.Nothing = same_Some _ _ none in
        let head : LineData = LineData.Answer (HeadData.Solve None) in
        subst (λ y. (k : ℕ) (why : Reason) → AtLine (Clauses (parties persons)) (head ∷ y ∷ xs) k why) (sym same)
        (subst (λ y. (k : ℕ) (why : Reason) → Holds (Room persons) (head ∷ y ∷ xs) k why) same h)

-- At the closing line.

-- behind the first lines stands the next one
pub got_at : (xs : List LineData) (y : LineData) (ys : List LineData) → slice_get (xs ++ y ∷ ys) (length xs) ≡ Some y
got_at [] y ys = refl
got_at (x ∷ xs) y ys = got_at xs y ys

-- as many lines as these, of these and more, are these
pub taken_front : (xs ys : List LineData) → take (length xs) (xs ++ ys) ≡ xs
taken_front [] ys = refl
taken_front (x ∷ xs) ys = ap (λ (zs : List LineData). x ∷ zs) (taken_front xs ys)

-- all clauses hold at the closing line
pub at_closing : {subject : Subject} {lines : List LineData} (r : IsRight subject lines) (why : Reason) → Clauses subject r.front LineData.End why
at_closing {subject} {lines} r why =
    let all = subst (λ (ls : List LineData). AtLine (Clauses subject) ls (length r.front) why) r.ends (r.holds (length r.front) why) in
    let here = subst (λ o. IfSome o (λ line. Clauses subject (take (length r.front) (r.front ++ LineData.End ∷ [])) line why)) (got_at r.front LineData.End []) all in
    subst (λ (ls : List LineData). Clauses subject ls LineData.End why) (taken_front r.front (LineData.End ∷ [])) here

-- the lines above it say all that the answer says
pub said_above : {X : Type 0} (said : LineData → Option X) {subject : Subject} {lines : List LineData} (r : IsRight subject lines) → said LineData.End ≡ None → filter_map said r.front ≡ filter_map said lines
said_above {X} said r none =
    sym (ap (filter_map said) r.ends ∙ filter_map-append said r.front (LineData.End ∷ [])
    ∙ ap (λ (o : Option X). filter_map said r.front ++ cons_option o []) none ∙ append-nil (filter_map said r.front))

-- at a line that stands behind others
pub at_line : {subject : Subject} {lines : List LineData} (r : IsRight subject lines) (above : List LineData) (x : LineData) (below : List LineData) → lines ≡ above ++ x ∷ below → (why : Reason) → Clauses subject above x why
at_line {subject} {lines} r above x below is why =
    let all = subst (λ (ls : List LineData). AtLine (Clauses subject) ls (length above) why) is (r.holds (length above) why) in
    let here = subst (λ o. IfSome o (λ line. Clauses subject (take (length above) (above ++ x ∷ below)) line why)) (got_at above x below) all in
    subst (λ (ls : List LineData). Clauses subject ls x why) (taken_front above (x ∷ below)) here

-- At all lines.

if_some : {X : Type 0} {P Q : X → Type 0} (o : Option X) → IfSome o P → ((x : X) → P x → Q x) → IfSome o Q
if_some None h f = tt
if_some (Some x) h f = f x h

-- a part of what the clause of a reason says
pub each_line : {subject : Subject} {lines : List LineData} (r : IsRight subject lines) (why : Reason) {Q : List LineData → LineData → Type 0} → ((above : List LineData) (line : LineData) → Clauses subject above line why → Q above line)
    → (k : ℕ) → IfSome (slice_get lines k) (Q (take k lines))
each_line {subject} {lines} r why f k = if_some (slice_get lines k) (r.holds k why) (f (take k lines))

-- what is so of what all lines say, one after another
pub grown : {X : Type 0} (said : LineData → Option X) (P : List X → Type 0) (Q : List X → X → Type 0) (lines : List LineData) → P [] → ((xs : List X) (x : X) → P xs → Q xs x → P (xs ++ x ∷ []))
    → ((k : ℕ) → IfSome (slice_get lines k) (λ line. IfSome (said line) (Q (filter_map said (take k lines))))) → P (filter_map said lines)
grown {X} said P Q lines none step at = subst (λ (ls : List LineData). P (filter_map said ls)) (take_all (length lines) lines (omega arith)) (front (length lines) (omega arith))
  where
    add : (xs : List X) (o : Option X) → P xs → IfSome o (Q xs) → P (xs ++ cons_option o [])
    add xs None h q = subst P (sym (append-nil xs)) h
    add xs (Some x) h q = step xs x h q

    front : (k : ℕ) → k ≤ length lines → P (filter_map said (take k lines))
    front zero h = none
    front (suc k) h =
        let x = slice_index_or lines k LineData.Yes in
        let there : slice_get lines k ≡ Some x = slice_get-get_or lines k LineData.Yes (omega (arith, h)) in
        let more : filter_map said (take (suc k) lines) ≡ filter_map said (take k lines) ++ filter_map said (x ∷ []) =
        ap (filter_map said) (take-suc lines k LineData.Yes (omega (arith, h))) ∙ filter_map-append said (take k lines) (x ∷ []) in
        subst P (sym more)
        (add (filter_map said (take k lines)) (said x) (front k (omega (arith, h)))
        (subst (λ o. IfSome o (λ line. IfSome (said line) (Q (filter_map said (take k lines))))) there (at k)))
