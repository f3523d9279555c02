-- Which lines may stand behind some lines of an answer.
use Rattle.std.proofs.Common.{◌≡◌, ◌≢◌, ℕ, suc, ◌+◌, ◌-◌, ◌≤◌, ◌∙◌, arith, refl, sym, ap, subst, inl, inr, true, false, Bool, All, List, [], ◌∷◌, ◌++◌, length, map, take, if◌then◌else◌}
use Rattle.std.specs.Prelude.{filter_map}
use Rattle.std.specs.List.{list_all}
use Rattle.std.proofs.lemmas.List.{append_assoc, append-nil, map-append, length-map, length-append}
use Rattle.std.proofs.lemmas.List.Elements.{All-append, All-cons, All-head, All-tail}
use Rattle.std.proofs.lemmas.Bool.{false≢true, and_from}
use Rattle.std.proofs.Math.Seq.{take-append_seam}
use Rattle.sm_text.specs.Lines.{lines}
use Rattle.sm_lists.proofs.BoolLemmas.{first_true, second_true}
use Rattle.sm_instance.specs.Inputs.{IsInput}
use Rattle.sm_instance.specs.declared.inputs.Input.{Input}
use Rattle.sm_report.specs.declared.lines.Line.{Line}
use Rattle.sm_report.specs.Lines.{LineData, line_of}
use Rattle.sm_report.specs.Sound.{IsLineOf}
use Rattle.sm_report.specs.Reading.{HasText}
use Rattle.sm_report.specs.Texts.{text_of_line}
use Rattle.sm_report.proofs.ReadLemmas.{one_line}
use Rattle.sm_check_forms.specs.declared.answers.Answer.{Answer}
use Rattle.sm_check_forms.specs.Layouts.{Part, behind, left_behind, is_empty, is_begun, is_whole}
use Rattle.sm_check_forms.specs.Forms.{layouts_of, opening_of, fits, is_placed, AreFirstLines, AreAnswer, BeginAnAnswer, IsMisplaced}
use Rattle.sm_check_forms.specs.Taking.{lines_in, HasLefts, IsSoFar, may_stand, Took, TakesLine, TookText, TakesText}
use Rattle.sm_check_forms.proofs.LayoutLemmas.{left_behind-append}

-- what is left behind one line more
left_next : (input : Input) (layouts lefts next : List (List Part)) (lines : List LineData) (line : LineData) → lefts ≡ left_behind layouts (map (opening_of input) lines)
    → next ≡ filter_map (λ parts. behind parts (opening_of input line)) lefts → next ≡ left_behind layouts (map (opening_of input) (lines ++ line ∷ []))
left_next input layouts lefts next lines line is e =
    e ∙ ap (filter_map (λ parts. behind parts (opening_of input line))) is ∙ sym (left_behind-append layouts (map (opening_of input) lines) (opening_of input line ∷ []))
    ∙ ap (left_behind layouts) (sym (map-append (opening_of input) lines (line ∷ [])))

-- they are the layouts that go on behind the line
pub lefts_next : (input : Input) (lines : List LineData) (lefts next : List (List Part)) (line : LineData) → lines ≢ [] → HasLefts input lines lefts
    → next ≡ filter_map (λ parts. behind parts (opening_of input line)) lefts → HasLefts input (lines ++ line ∷ []) next
lefts_next input [] lefts next line some h e = absurd (some refl)
lefts_next input (LineData.Answer head ∷ lines) lefts next line some h e = left_next input (layouts_of input head) lefts next lines line h e
lefts_next input (_ ∷ lines) lefts next line some h e = absurd h

-- while some layout is left the lines begin an answer
pub begun_next : (input : Input) (lines : List LineData) (lefts : List (List Part)) → lines ≢ [] → HasLefts input lines lefts
    → (if is_empty lefts then false else true) ≡ is_placed is_begun input lines
begun_next input [] lefts some h = absurd (some refl)
begun_next input (LineData.Answer head ∷ lines) lefts some h = ap (λ left. if is_empty left then false else true) h
begun_next input (_ ∷ lines) lefts some h = absurd h

-- with one more there are lines
pub some_more : (lines : List LineData) (line : LineData) → lines ++ line ∷ [] ≢ []
some_more [] line e = cc
some_more (x ∷ lines) line e = cc

-- lines that are read are there as data
pub not_empty : (items : List Line) → 1 ≤ length items → map line_of items ≢ []
not_empty [] h e = absurd (omega (arith, h))
not_empty (x ∷ items) h e = cc

-- one more line that passes passes with those that do
pub all_more : (p : LineData → Bool) (xs : List LineData) (x : LineData) → list_all p xs ≡ true → p x ≡ true → list_all p (xs ++ x ∷ []) ≡ true
all_more p [] x h e = and_from (p x) true e refl
all_more p (y ∷ xs) x h e = and_from (p y) (list_all p (xs ++ x ∷ [])) (first_true (p y) (list_all p xs) h) (all_more p xs x (second_true (p y) (list_all p xs) h) e)

last_of_all : (p : LineData → Bool) (xs : List LineData) (x : LineData) → list_all p (xs ++ x ∷ []) ≡ true → p x ≡ true
last_of_all p [] x h = first_true (p x) true h
last_of_all p (y ∷ xs) x h = last_of_all p xs x (second_true (p y) (list_all p (xs ++ x ∷ [])) h)

-- a text that no line that may stand there has, or one whose line was taken
pub takes_text : (input : Input) → IsInput input → (before after : Answer) (line : LineData) (text : List ℕ) (taken : Bool)
    → HasText input text line → TakesLine input before after line taken → TakesText input before after text taken
takes_text input h before after line text true has took = record { line = line; has = has; took = took }
takes_text input h before after line text false has cant =
    λ other other_has. subst (λ x. may_stand input (lines_in before) x ≡ false) (one_line input text line other h has other_has) cant

-- The texts of some lines, and what stands behind them.
abbrev IsBegun : Input → List LineData → Type 0
IsBegun input [] = Unit {0}
IsBegun input (x ∷ lines) = is_placed is_begun input (x ∷ lines) ≡ true

begun : (input : Input) (lines : List LineData) → is_placed is_begun input lines ≡ true → IsBegun input lines
begun input [] e = tt
begun input (x ∷ lines) e = e

-- the lines so far are of the form and have the first texts, and these others stand behind them
pub record AreTaken (input : Input) (texts : List (List ℕ)) (answer : Answer) (rest : List (List ℕ)) : Type 0 where
  pub so_far : IsSoFar input answer
  pub sound : All (IsLineOf input) (lines_in answer)
  pub fitting : list_all (fits input) (lines_in answer) ≡ true
  pub placed : IsBegun input (lines_in answer)
  pub spelled : texts ≡ map (text_of_line input) (lines_in answer) ++ rest

-- at first all texts stand behind them
pub taken_none : (input : Input) (answer : Answer) (texts : List (List ℕ)) → IsSoFar input answer → lines_in answer ≡ [] → AreTaken input texts answer texts
taken_none input answer texts so_far none = record {
  so_far = so_far;
  sound = subst (All (IsLineOf input)) (sym none) (λ k d l. absurd (omega (arith, l)));
  fitting = ap (list_all (fits input)) none;
  placed = subst (IsBegun input) (sym none) tt;
  spelled = ap (λ lines. map (text_of_line input) lines ++ texts) (sym none);
}

-- one text more was taken
pub taken_more : (input : Input) (texts : List (List ℕ)) (before after : Answer) (text : List ℕ) (rest : List (List ℕ))
    → AreTaken input texts before (text ∷ rest) → TookText input before after text → AreTaken input texts after rest
taken_more input texts before after text rest t k =
    let front = lines_in before in
    let more = k.took.lines in
    let stands = k.took.stands in
    let fit = first_true (fits input k.line) (is_placed is_begun input (front ++ k.line ∷ [])) stands in
    let place = second_true (fits input k.line) (is_placed is_begun input (front ++ k.line ∷ [])) stands in
    record {
      so_far = k.took.so_far;
      sound = subst (All (IsLineOf input)) (sym more)
          (All-append (IsLineOf input) front (k.line ∷ []) t.sound (All-cons (IsLineOf input) k.line [] k.has.sound (λ i d l. absurd (omega (arith, l)))));
      fitting = ap (list_all (fits input)) more ∙ all_more (fits input) front k.line t.fitting fit;
      placed = subst (IsBegun input) (sym more) (begun input (front ++ k.line ∷ []) place);
      spelled =
          t.spelled
          ∙ ap (λ x. map (text_of_line input) front ++ x ∷ rest) (sym k.has.spelled)
          ∙ sym (append_assoc (map (text_of_line input) front) (text_of_line input k.line ∷ []) rest)
          ∙ ap (λ xs. xs ++ rest) (sym (map-append (text_of_line input) front (k.line ∷ [])))
          ∙ ap (λ lines. map (text_of_line input) lines ++ rest) (sym more);
    }

-- there is one line more behind a line that was taken
pub taken_long : (input : Input) (before after : Answer) (line : LineData) → Took input before after line → length (lines_in after) ≡ length (lines_in before) + 1
taken_long input before after line t = ap length t.lines ∙ length-append (lines_in before) (line ∷ [])

-- lines with equal texts are equal
pub record IsRest (input : Input) (a b : List LineData) (rest : List (List ℕ)) : Type 0 where
  pub more : List LineData
  pub is : b ≡ a ++ more
  pub texts : rest ≡ map (text_of_line input) more
  pub sound : All (IsLineOf input) more

parse : (input : Input) → IsInput input → (a b : List LineData) (rest : List (List ℕ)) → All (IsLineOf input) a → All (IsLineOf input) b
    → map (text_of_line input) a ++ rest ≡ map (text_of_line input) b → IsRest input a b rest
parse input h [] b rest sa sb e = record { more = b; is = refl; texts = e; sound = sb }
parse input h (x ∷ a) [] rest sa sb e = absurd cc
parse input h (x ∷ a) (y ∷ b) rest sa sb e =
    let first : text_of_line input x ≡ text_of_line input y = cc in
    let same : x ≡ y =
    one_line input (text_of_line input y) x y h (record { sound = All-head (IsLineOf input) x a sa; spelled = first })
    (record { sound = All-head (IsLineOf input) y b sb; spelled = refl }) in
    let deep = parse input h a b rest (All-tail (IsLineOf input) x a sa) (All-tail (IsLineOf input) y b sb)
    (let t : map (text_of_line input) a ++ rest ≡ map (text_of_line input) b = cc in t) in
    record { more = deep.more; is = ap (λ z. z ∷ b) (sym same) ∙ ap (λ xs. x ∷ xs) deep.is; texts = deep.texts; sound = deep.sound }

-- so a text is that of one answer alone
pub same_lines : (input : Input) → IsInput input → (texts : List (List ℕ)) (a b : List LineData) → AreAnswer input texts a → AreAnswer input texts b → a ≡ b
same_lines input h texts a b x y = by_rest (parse input h a b [] x.right y.right (append-nil (map (text_of_line input) a) ∙ x.read ∙ sym y.read))
  where
    by_more : (more : List LineData) → b ≡ a ++ more → [] ≡ map (text_of_line input) more → a ≡ b
    by_more [] is e = sym (is ∙ append-nil a)
    by_more (z ∷ more) is e = absurd cc

    by_rest : IsRest input a b [] → a ≡ b
    by_rest r = by_more r.more r.is r.texts

-- the lines so far begin an answer
front_of : (input : Input) (lines : List LineData) → All (IsLineOf input) lines → list_all (fits input) lines ≡ true → IsBegun input lines
    → BeginAnAnswer input (map (text_of_line input) lines)
front_of input [] sound fitting placed = tt
front_of input (x ∷ lines) sound fitting placed = (x ∷ lines, record { read = refl; right = sound; fitting = fitting; placed = placed })

lines_of_front : (input : Input) (texts : List (List ℕ)) → texts ≢ [] → BeginAnAnswer input texts → (lines : List LineData) × AreFirstLines input texts lines
lines_of_front input [] some front = absurd (some refl)
lines_of_front input (text ∷ texts) some front = front

some_texts : (texts : List (List ℕ)) (text : List ℕ) → texts ++ text ∷ [] ≢ []
some_texts [] text e = cc
some_texts (x ∷ texts) text e = cc

take_front : (xs ys : List (List ℕ)) (n : ℕ) → n ≡ length xs → take n (xs ++ ys) ≡ xs
take_front xs ys n e = ap (λ k. take k (xs ++ ys)) e ∙ take-append_seam xs ys

module _ (input : Input) (h : IsInput input) (texts : List (List ℕ)) (answer : Answer) where
  abbrev so_far : List (List ℕ)
  so_far = map (text_of_line input) (lines_in answer)

  long : length so_far ≡ length (lines_in answer)
  long = length-map (lines_in answer) (text_of_line input)

  front_is : (rest : List (List ℕ)) → AreTaken input texts answer rest → BeginAnAnswer input (take (length (lines_in answer)) texts)
  front_is rest t =
      subst (BeginAnAnswer input)
      (sym (ap (take (length (lines_in answer))) t.spelled ∙ take_front so_far rest (length (lines_in answer)) (sym long)))
      (front_of input (lines_in answer) t.sound t.fitting t.placed)

  -- no line with the next text may stand there
  not_next : (text : List ℕ) → All (IsLineOf input) (lines_in answer)
      → ((line : LineData) → HasText input text line → may_stand input (lines_in answer) line ≡ false)
      → (lines : List LineData) → AreFirstLines input (so_far ++ text ∷ []) lines → ⊥
  not_next text sound cant lines f = by_rest (parse input h (lines_in answer) lines (text ∷ []) sound f.right (sym f.read))
    where
      by_rest : IsRest input (lines_in answer) lines (text ∷ []) → ⊥
      by_rest r = by_more r.more r.is r.texts r.sound
        where
          by_more : (more : List LineData) → lines ≡ lines_in answer ++ more → text ∷ [] ≡ map (text_of_line input) more → All (IsLineOf input) more → ⊥
          by_more [] is e s = absurd cc
          by_more (x ∷ y ∷ more) is e s = absurd cc
          by_more (x ∷ []) is e s =
              let fit = last_of_all (fits input) (lines_in answer) x (ap (list_all (fits input)) (sym is) ∙ f.fitting) in
              let place = ap (is_placed is_begun input) (sym is) ∙ f.placed in
              let has : HasText input text x = record { sound = All-head (IsLineOf input) x [] s; spelled = (let u : text ≡ text_of_line input x = cc in sym u) } in
              false≢true (sym (cant x has) ∙ and_from (fits input x) (is_placed is_begun input (lines_in answer ++ x ∷ [])) fit place)

  -- its text is the first that isn't of the form
  pub bad_line : (text : List ℕ) (rest : List (List ℕ)) → AreTaken input texts answer (text ∷ rest)
      → ((line : LineData) → HasText input text line → may_stand input (lines_in answer) line ≡ false) → IsMisplaced input texts (length (lines_in answer))
  bad_line text rest t cant =
      let whole = ap length t.spelled ∙ length-append so_far (text ∷ rest) in
      let one_more : take (suc (length (lines_in answer))) texts ≡ so_far ++ text ∷ [] =
      ap (take (suc (length (lines_in answer)))) (t.spelled ∙ sym (append_assoc so_far (text ∷ []) rest))
      ∙ take_front (so_far ++ text ∷ []) rest (suc (length (lines_in answer))) (let e = length-append so_far (text ∷ []) in omega (arith, e, long)) in
      record {
        before = front_is (text ∷ rest) t;
        here = inl (
          omega (arith, whole, long),
          λ front. (let f = lines_of_front input (so_far ++ text ∷ []) (some_texts so_far text) (subst (BeginAnAnswer input) one_more front) in
              not_next text t.sound cant f.0 f.1),
        );
      }

  -- the text ends where the closing line is missing
  pub missing_end : AreTaken input texts answer [] → is_placed is_whole input (lines_in answer) ≡ false → IsMisplaced input texts (length (lines_in answer))
  missing_end t open_still =
      let same : texts ≡ so_far = t.spelled ∙ append-nil so_far in
      let whole = ap length same ∙ long in
      record {
        before = front_is [] t;
        here = inr (sym whole, λ a. by_rest a.0 a.1 (parse input h (lines_in answer) a.0 [] t.sound a.1.right (append-nil so_far ∙ sym same ∙ sym a.1.read)));
      }
    where
      by_rest : (lines : List LineData) → AreAnswer input texts lines → IsRest input (lines_in answer) lines [] → ⊥
      by_rest lines a r = false≢true (sym open_still ∙ ap (is_placed is_whole input) (sym (r.is ∙ ap (λ m. lines_in answer ++ m) (none_left r.more r.texts) ∙ append-nil (lines_in answer))) ∙ a.placed)
        where
          none_left : (m : List LineData) → [] ≡ map (text_of_line input) m → m ≡ []
          none_left [] e = refl
          none_left (x ∷ m) e = absurd cc
