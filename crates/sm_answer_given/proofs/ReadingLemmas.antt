-- Which lines may stand behind some lines of two given matchings.
use Rattle.std.proofs.Common.{◌≡◌, ◌≢◌, ℕ, suc, ◌+◌, ◌-◌, ◌<◌, ◌++◌, ◌∷◌, [], List, length, map, take, get_or, true, false, Bool, All, refl, sym, ap, ◌∙◌, subst, arith, inl, inr}
use Rattle.std.proofs.lemmas.List.{append_assoc, append-nil, map-append, length-map, length-append, get_or-map, take_all}
use Rattle.std.proofs.lemmas.List.Elements.{All-append, All-map, All-head, All-tail, All-take, All-drop}
use Rattle.std.proofs.Math.Seq.{take-append_seam, drop-append_seam}
use Rattle.sm_answer.proofs.AnswerLemmas.{one_all}
use Rattle.sm_text.specs.Lines.{lines}
use Rattle.sm_instance.specs.Inputs.{IsInput}
use Rattle.sm_instance.specs.declared.inputs.Input.{Input}
use Rattle.sm_report.specs.Lines.{LineData}
use Rattle.sm_report.specs.Sound.{IsLineOf, ArePair}
use Rattle.sm_report.specs.Reading.{HasText}
use Rattle.sm_report.specs.Texts.{text_of_line}
use Rattle.sm_report.proofs.ReadLemmas.{one_line}
use Rattle.sm_answer_given.specs.GivenText.{left_pair, right_pair, given_lines, ArePairs, AreGiven, AreBegun, IsBadLine}
use Rattle.sm_answer_given.specs.Taking.{end_so_far, lines_so_far, FitsGroup, AreInTurn, HasPlace, Took, TookText, TakesLine, TakesText}
use Rattle.sm_answer_given.specs.declared.pairs.Group.{Group}
use Rattle.sm_answer_given.specs.declared.pairs.Group.TheVariants.{Left, Right, Ended}
use Rattle.sm_answer_given.specs.declared.pairs.GivenPairs.{GivenPairs}
use Rattle.sm_answer.proofs.LineLemmas.{end_sound}

-- Behind lines that stand in front of those of two matchings stand the lines that are left of these.
pub record IsLeft (l r : List (ℕ × ℕ)) (more : List LineData) (rs : List (ℕ × ℕ)) : Type 0 where
  pub left : List (ℕ × ℕ)
  pub right : List (ℕ × ℕ)
  pub same : given_lines left right ≡ more
  pub late : rs ≢ [] → left ≡ []

behind_left : (l r ls : List (ℕ × ℕ)) (more : List LineData) → given_lines l r ≡ map left_pair ls ++ more → IsLeft l r more []
behind_left l r [] more e = record { left = l; right = r; same = e; late = λ ne. absurd (ne refl) }
behind_left [] [] (y ∷ ls) more e = absurd cc
behind_left [] (z ∷ r) (y ∷ ls) more e = absurd cc
behind_left (x ∷ l) r (y ∷ ls) more e =
    let deep = behind_left l r ls more (let t : given_lines l r ≡ map left_pair ls ++ more = cc in t) in
    record { left = deep.left; right = deep.right; same = deep.same; late = deep.late }

right_only : (r rs : List (ℕ × ℕ)) (more : List LineData) → given_lines [] r ≡ map right_pair rs ++ more → IsLeft [] r more rs
right_only r [] more e = record { left = []; right = r; same = e; late = λ ne. refl }
right_only [] (y ∷ rs) more e = absurd cc
right_only (z ∷ r) (y ∷ rs) more e =
    let deep = right_only r rs more (let t : given_lines [] r ≡ map right_pair rs ++ more = cc in t) in
    let none = no_left deep.left deep.right more rs r deep.same e in
    record { left = []; right = deep.right; same = ap (λ l. given_lines l deep.right) (sym none) ∙ deep.same; late = λ ne. refl }
  where
    no_left : (l' r' : List (ℕ × ℕ)) (more : List LineData) (rs r : List (ℕ × ℕ)) → given_lines l' r' ≡ more → given_lines [] (z ∷ r) ≡ map right_pair (y ∷ rs) ++ more → l' ≡ []
    no_left [] r' more rs r s t = refl
    no_left (x ∷ l') r' more rs r s t = absurd (never r rs (given_lines l' r') (let u : map right_pair r ++ LineData.End ∷ [] ≡ map right_pair rs ++ more = cc in u ∙ ap (λ m. map right_pair rs ++ m) (sym s)))
      where
        never : (r rs : List (ℕ × ℕ)) (m : List LineData) → map right_pair r ++ LineData.End ∷ [] ≡ map right_pair rs ++ left_pair x ∷ m → ⊥
        never [] [] m u = cc
        never [] (b ∷ rs) m u = cc
        never (a ∷ r) [] m u = cc
        never (a ∷ r) (b ∷ rs) m u = never r rs m (let t : map right_pair r ++ LineData.End ∷ [] ≡ map right_pair rs ++ left_pair x ∷ m = cc in t)

behind_right : (l r rs : List (ℕ × ℕ)) (more : List LineData) → given_lines l r ≡ map right_pair rs ++ more → IsLeft l r more rs
behind_right l r [] more e = record { left = l; right = r; same = e; late = λ ne. absurd (ne refl) }
behind_right [] r (y ∷ rs) more e = let deep = right_only r (y ∷ rs) more e in record { left = deep.left; right = deep.right; same = deep.same; late = deep.late }
behind_right (x ∷ l) r (y ∷ rs) more e = absurd cc

-- so a line that stands there may stand there
first_line_of : (l r : List (ℕ × ℕ)) (x : LineData) (rest : List LineData) → given_lines l r ≡ x ∷ rest → HasPlace Left x
first_line_of [] [] x rest e = subst (HasPlace Left) (let t : LineData.End ≡ x = cc in t) tt
first_line_of [] (z ∷ r) x rest e = subst (HasPlace Left) (let t : right_pair z ≡ x = cc in t) tt
first_line_of (y ∷ l) r x rest e = subst (HasPlace Left) (let t : left_pair y ≡ x = cc in t) tt

first_right : (r : List (ℕ × ℕ)) (x : LineData) (rest : List LineData) → given_lines [] r ≡ x ∷ rest → HasPlace Right x
first_right [] x rest e = subst (HasPlace Right) (let t : LineData.End ≡ x = cc in t) tt
first_right (z ∷ r) x rest e = subst (HasPlace Right) (let t : right_pair z ≡ x = cc in t) tt

nothing_behind : (l r : List (ℕ × ℕ)) (x : LineData) (rest : List LineData) → given_lines l r ≡ LineData.End ∷ x ∷ rest → ⊥
nothing_behind [] [] x rest e = cc
nothing_behind [] (z ∷ r) x rest e = cc
nothing_behind (y ∷ l) r x rest e = cc

some_given : (l r : List (ℕ × ℕ)) → given_lines l r ≢ []
some_given [] [] e = cc
some_given [] (z ∷ r) e = cc
some_given (y ∷ l) r e = cc

-- what is left behind the lines so far
left_behind : (pairs : GivenPairs) (l r : List (ℕ × ℕ)) (more : List LineData) → given_lines l r ≡ lines_so_far pairs ++ more → IsLeft l r (end_so_far pairs.group ++ more) pairs.right.items
left_behind pairs l r more e =
    let ls = pairs.left.items in
    let rs = pairs.right.items in
    let a = behind_left l r ls (map right_pair rs ++ (end_so_far pairs.group ++ more))
    (e ∙ append_assoc (map left_pair ls ++ map right_pair rs) (end_so_far pairs.group) more ∙ append_assoc (map left_pair ls) (map right_pair rs) (end_so_far pairs.group ++ more)) in
    let b = behind_right a.left a.right rs (end_so_far pairs.group ++ more) a.same in
    record { left = b.left; right = b.right; same = b.same; late = b.late }

-- the line that stands next in the lines of two matchings may stand there
pub has_place : (pairs : GivenPairs) (l r : List (ℕ × ℕ)) (x : LineData) (rest : List LineData) → AreInTurn pairs → given_lines l r ≡ lines_so_far pairs ++ x ∷ rest → HasPlace pairs.group x
has_place pairs l r x rest turn e = by_group pairs.group turn (left_behind pairs l r (x ∷ rest) e)
  where
    by_group : (g : Group) → FitsGroup g pairs.right.items → IsLeft l r (end_so_far g ++ x ∷ rest) pairs.right.items → HasPlace g x
    by_group Left fits b = first_line_of b.left b.right x rest b.same
    by_group Right fits b = first_right b.right x rest (ap (λ l'. given_lines l' b.right) (sym (b.late fits)) ∙ b.same)
    by_group Ended fits b = absurd (nothing_behind b.left b.right x rest b.same)

-- these lines aren't all there while the end is missing
pub not_ended : (pairs : GivenPairs) (l r : List (ℕ × ℕ)) → given_lines l r ≡ lines_so_far pairs → end_so_far pairs.group ≡ [] → ⊥
not_ended pairs l r e none = let b = left_behind pairs l r [] (e ∙ sym (append-nil (lines_so_far pairs))) in some_given b.left b.right (b.same ∙ ap (λ m. m ++ []) none)

-- a text that no line that may stand there has, or one whose line was taken
pub takes_text : (input : Input) → IsInput input → (before after : GivenPairs) (line : LineData) (text : List ℕ) (fits : Bool)
    → HasText input text line → TakesLine before after line fits → TakesText input before after text fits
takes_text input h before after line text true has took = record { line = line; has = has; took = took }
takes_text input h before after line text false has cant = λ other has' place. cant (subst (HasPlace before.group) (one_line input text other line h has' has) place)

-- the texts of some lines, and what stands behind them
pub record AreTaken (input : Input) (texts : List (List ℕ)) (pairs : GivenPairs) (rest : List (List ℕ)) : Type 0 where
  pub sound : All (IsLineOf input) (lines_so_far pairs)
  pub spelled : texts ≡ map (text_of_line input) (lines_so_far pairs) ++ rest

-- one text more was taken
pub taken_more : (input : Input) (texts : List (List ℕ)) (before after : GivenPairs) (text : List ℕ) (rest : List (List ℕ))
    → AreTaken input texts before (text ∷ rest) → TookText input before after text → AreTaken input texts after rest
taken_more input texts before after text rest t k =
    let more = k.took.lines in
    record {
      sound = subst (All (IsLineOf input)) (sym more) (All-append (IsLineOf input) (lines_so_far before) (k.line ∷ []) t.sound (one_all (IsLineOf input) k.line k.has.sound));
      spelled =
          t.spelled
          ∙ ap (λ x. map (text_of_line input) (lines_so_far before) ++ x ∷ rest) (sym k.has.spelled)
          ∙ sym (append_assoc (map (text_of_line input) (lines_so_far before)) (text_of_line input k.line ∷ []) rest)
          ∙ ap (λ xs. xs ++ rest) (sym (map-append (text_of_line input) (lines_so_far before) (k.line ∷ [])))
          ∙ ap (λ lines. map (text_of_line input) lines ++ rest) (sym more);
    }

-- lines with equal texts are equal
parse : (input : Input) → IsInput input → (a b : List LineData) (rest : List (List ℕ)) → All (IsLineOf input) a → All (IsLineOf input) b
    → map (text_of_line input) a ++ rest ≡ map (text_of_line input) b → (m : List LineData) × (b ≡ a ++ m) × (rest ≡ map (text_of_line input) m) × All (IsLineOf input) m
parse input h [] b rest sa sb e = (b, refl, e, sb)
parse input h (x ∷ a) [] rest sa sb e = absurd cc
parse input h (x ∷ a) (y ∷ b) rest sa sb e =
    let first : text_of_line input x ≡ text_of_line input y = cc in
    let same : x ≡ y = one_line input (text_of_line input y) x y h (record { sound = All-head (IsLineOf input) x a sa; spelled = first }) (record { sound = All-head (IsLineOf input) y b sb; spelled = refl }) in
    let deep = parse input h a b rest (All-tail (IsLineOf input) x a sa) (All-tail (IsLineOf input) y b sb) (let t : map (text_of_line input) a ++ rest ≡ map (text_of_line input) b = cc in t) in
    (deep.0, ap (λ z. z ∷ b) (sym same) ∙ ap (λ xs. x ∷ xs) deep.1, deep.2, deep.3)

All-left : (P : LineData → Type 0) (xs ys : List LineData) → All P (xs ++ ys) → All P xs
All-left P xs ys all = subst (All P) (take-append_seam xs ys) (All-take P (length xs) (xs ++ ys) all)

All-right : (P : LineData → Type 0) (xs ys : List LineData) → All P (xs ++ ys) → All P ys
All-right P xs ys all = subst (All P) (drop-append_seam xs ys) (All-drop P (length xs) (xs ++ ys) all)

take_front : (xs ys : List (List ℕ)) (n : ℕ) → n ≡ length xs → take n (xs ++ ys) ≡ xs
take_front xs ys n e = ap (λ k. take k (xs ++ ys)) e ∙ take-append_seam xs ys

given_sound : (input : Input) (l r : List (ℕ × ℕ)) → ArePairs input l → ArePairs input r → All (IsLineOf input) (given_lines l r)
given_sound input l r hl hr =
    let P = IsLineOf input in
    All-append P (map left_pair l ++ map right_pair r) (LineData.End ∷ [])
    (All-append P (map left_pair l) (map right_pair r)
    (All-map P left_pair l (λ k d lt. record { printable = hl k d lt; seats = λ k d l. absurd (omega (arith, l)); numbers = tt; head = tt }))
    (All-map P right_pair r (λ k d lt. record { printable = hr k d lt; seats = λ k d l. absurd (omega (arith, l)); numbers = tt; head = tt })))
    (one_all P LineData.End (end_sound input))

-- and the pairs of lines that are those of the instance
pairs_there : (input : Input) (pairs : GivenPairs) → All (IsLineOf input) (lines_so_far pairs) → ArePairs input pairs.left.items × ArePairs input pairs.right.items
pairs_there input pairs sound =
    let L = map left_pair pairs.left.items in
    let R = map right_pair pairs.right.items in
    let front = All-left (IsLineOf input) (L ++ R) (end_so_far pairs.group) sound in (
      (λ k d lt. left_of_line k d lt (All-left (IsLineOf input) L R front)),
      (λ k d lt. right_of_line k d lt (All-right (IsLineOf input) L R front)),
    )
  where
    left_of_line : (k : ℕ) (d : ℕ × ℕ) → k < length pairs.left.items → All (IsLineOf input) (map left_pair pairs.left.items) → ArePair input (get_or pairs.left.items k d).0 (get_or pairs.left.items k d).1
    left_of_line k d lt all =
        let long = length-map pairs.left.items left_pair in
        (subst (IsLineOf input) (get_or-map left_pair pairs.left.items k d (left_pair d) lt) (all k (left_pair d) (omega (arith, lt, long)))).printable

    right_of_line : (k : ℕ) (d : ℕ × ℕ) → k < length pairs.right.items → All (IsLineOf input) (map right_pair pairs.right.items) → ArePair input (get_or pairs.right.items k d).0 (get_or pairs.right.items k d).1
    right_of_line k d lt all =
        let long = length-map pairs.right.items right_pair in
        (subst (IsLineOf input) (get_or-map right_pair pairs.right.items k d (right_pair d) lt) (all k (right_pair d) (omega (arith, lt, long)))).printable

-- where the lines so far are the first of two matchings' lines
fronts : (input : Input) (pairs : GivenPairs) → All (IsLineOf input) (lines_so_far pairs) → AreBegun input (map (text_of_line input) (lines_so_far pairs))
fronts input pairs sound =
    let there = pairs_there input pairs sound in
    record {
      rest = map (text_of_line input) (closing pairs.group);
      all = record {
        left = pairs.left.items;
        right = pairs.right.items;
        given = record {
          left_there = there.0;
          right_there = there.1;
          spelled =
              sym (map-append (text_of_line input) (lines_so_far pairs) (closing pairs.group))
              ∙ ap (map (text_of_line input))
              (append_assoc (map left_pair pairs.left.items ++ map right_pair pairs.right.items) (end_so_far pairs.group) (closing pairs.group)
              ∙ ap (λ e. map left_pair pairs.left.items ++ map right_pair pairs.right.items ++ e) (closed pairs.group));
        };
      };
    }
  where
    closing : Group → List LineData
    closing Left = LineData.End ∷ []
    closing Right = LineData.End ∷ []
    closing Ended = []

    closed : (g : Group) → end_so_far g ++ closing g ≡ LineData.End ∷ []
    closed Left = refl
    closed Right = refl
    closed Ended = refl

-- the text of the next line can't stand there
pub bad_line : (input : Input) → IsInput input → (texts : List (List ℕ)) (before after : GivenPairs) (text : List ℕ) (rest : List (List ℕ)) → AreInTurn before
    → AreTaken input texts before (text ∷ rest) → TakesText input before after text false → IsBadLine input texts (length (lines_so_far before))
bad_line input h texts before after text rest turn t cant =
    let so_far = map (text_of_line input) (lines_so_far before) in
    let long = length-map (lines_so_far before) (text_of_line input) in
    let whole = ap length t.spelled ∙ length-append so_far (text ∷ rest) in
    let front : take (length (lines_so_far before)) texts ≡ so_far = ap (take (length (lines_so_far before))) t.spelled ∙ take_front so_far (text ∷ rest) (length (lines_so_far before)) (sym long) in
    let one_more : take (suc (length (lines_so_far before))) texts ≡ so_far ++ text ∷ [] =
    ap (take (suc (length (lines_so_far before)))) (t.spelled ∙ sym (append_assoc so_far (text ∷ []) rest))
    ∙ take_front (so_far ++ text ∷ []) rest (suc (length (lines_so_far before))) (let e = length-append so_far (text ∷ []) in omega (arith, e, long)) in
    record {
      before = subst (AreBegun input) (sym front) (fronts input before t.sound);
      here = inl (omega (arith, whole, long), λ b. by_begun (subst (AreBegun input) one_more b));
    }
  where
    by_begun : AreBegun input (map (text_of_line input) (lines_so_far before) ++ text ∷ []) → ⊥
    by_begun b =
        let so_far = map (text_of_line input) (lines_so_far before) in
        let given = b.all.given in
        let all = given_sound input b.all.left b.all.right given.left_there given.right_there in
        let p = parse input h (lines_so_far before) (given_lines b.all.left b.all.right) (text ∷ b.rest) t.sound all (sym (append_assoc so_far (text ∷ []) b.rest) ∙ given.spelled) in
        by_line b p.0 p.1 p.2 p.3
      where
        by_line : (b : AreBegun input (map (text_of_line input) (lines_so_far before) ++ text ∷ [])) (m : List LineData) → given_lines b.all.left b.all.right ≡ lines_so_far before ++ m
            → text ∷ b.rest ≡ map (text_of_line input) m → All (IsLineOf input) m → ⊥
        by_line b [] e s a = absurd cc
        by_line b (x ∷ m) e s a =
            cant x (record { sound = All-head (IsLineOf input) x m a; spelled = (let u : text ≡ text_of_line input x = cc in sym u) }) (has_place before b.all.left b.all.right x m turn e)

-- the text ends where lines are missing
pub missing_end : (input : Input) → IsInput input → (texts : List (List ℕ)) (pairs : GivenPairs) → AreTaken input texts pairs [] → end_so_far pairs.group ≡ [] → IsBadLine input texts (length (lines_so_far pairs))
missing_end input h texts pairs t open_still =
    let so_far = map (text_of_line input) (lines_so_far pairs) in
    let same : texts ≡ so_far = t.spelled ∙ append-nil so_far in
    let long = ap length same ∙ length-map (lines_so_far pairs) (text_of_line input) in
    record {
      before = subst (AreBegun input) (sym (take_all (length (lines_so_far pairs)) texts (omega (arith, long)) ∙ same)) (fronts input pairs t.sound);
      here = inr (sym long, λ a. by_given a.left a.right a.given);
    }
  where
    by_given : (l r : List (ℕ × ℕ)) → AreGiven input texts l r → ⊥
    by_given l r g =
        let all = given_sound input l r g.left_there g.right_there in
        let p = parse input h (lines_so_far pairs) (given_lines l r) [] t.sound all (sym t.spelled ∙ g.spelled) in
        not_ended pairs l r (p.1 ∙ ap (λ m. lines_so_far pairs ++ m) (none_left p.0 p.2) ∙ append-nil (lines_so_far pairs)) open_still
      where
        none_left : (m : List LineData) → [] ≡ map (text_of_line input) m → m ≡ []
        none_left [] e = refl
        none_left (x ∷ m) e = absurd cc

-- or they are all there
pub all_given : (input : Input) (texts : List (List ℕ)) (pairs : GivenPairs) → AreTaken input texts pairs [] → end_so_far pairs.group ≡ LineData.End ∷ [] → AreGiven input texts pairs.left.items pairs.right.items
all_given input texts pairs t ended =
    let there = pairs_there input pairs t.sound in
    record {
      left_there = there.0;
      right_there = there.1;
      spelled =
          t.spelled ∙ append-nil (map (text_of_line input) (lines_so_far pairs))
          ∙ ap (λ e. map (text_of_line input) (map left_pair pairs.left.items ++ map right_pair pairs.right.items ++ e)) ended;
    }

-- there is one line more behind a line that was taken
pub taken_long : (before after : GivenPairs) (line : LineData) → Took before after line → length (lines_so_far after) ≡ length (lines_so_far before) + 1
taken_long before after line t = ap length t.lines ∙ length-append (lines_so_far before) (line ∷ [])
