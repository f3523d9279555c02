-- Layouts behind lines.
use Rattle.std.proofs.Common.{◌≡◌, ℕ, ◌==◌, codes, refl, sym, ap, ◌∙◌, Bool, true, false, List, [], ◌∷◌, ◌++◌, take, drop, Option, None, Some, if◌then◌else◌, subst, append_assoc}
use Rattle.std.specs.Prelude.{filter_map, ◌||◌}
use Rattle.std.specs.List.{list_any, cons_option}
use Rattle.std.proofs.lemmas.List.{take-append-drop}
use Rattle.std.proofs.lemmas.Bool.{false≢true, or_left, or_right}
use Rattle.sm_instance.specs.declared.inputs.Input.{Input}
use Rattle.sm_instance.specs.declared.inputs.Input.TheVariants.{Two, Room}
use Rattle.sm_seats.specs.Levels.{has_two_levels}
use Rattle.sm_report.specs.Heads.{HeadData}
use Rattle.sm_check_forms.specs.Layouts.{OpeningData, Part, begins, word_at, later, behind, left_behind, is_empty}
use Rattle.sm_check_forms.specs.Layouts.Part.{One, Many, Blocks}
use Rattle.sm_check_forms.specs.Forms.{layouts_of, weight_layout}
use Rattle.sm_check_forms.specs.Laws.{WholeIsBegun, closing_of, EndsWith, WholeEnds}

-- where no layout is left, none is left behind more lines
pub left_behind-none : (lines : List OpeningData) → left_behind [] lines ≡ []
left_behind-none [] = refl
left_behind-none (line ∷ lines) = left_behind-none lines

-- what is left behind lines and more of them is what the latter leave of what the former left
pub left_behind-append : (layouts : List (List Part)) (xs ys : List OpeningData) → left_behind layouts (xs ++ ys) ≡ left_behind (left_behind layouts xs) ys
left_behind-append layouts [] ys = refl
left_behind-append layouts (x ∷ xs) ys = left_behind-append (filter_map (λ parts. behind parts x) layouts) xs ys

begun_of : (left : List (List Part)) (ys : List OpeningData) → list_any is_empty (left_behind left ys) ≡ true → (if is_empty left then false else true) ≡ true
begun_of [] ys e = absurd (false≢true (sym (ap (list_any is_empty) (left_behind-none ys)) ∙ e))
begun_of (x ∷ xs) ys e = refl

-- the law that the lines of a whole answer begin one
pub whole_is_begun : WholeIsBegun
whole_is_begun layouts lines k e =
    begun_of (left_behind layouts (take k lines)) (drop k lines) (ap (list_any is_empty) (sym (left_behind-append layouts (take k lines) (drop k lines)) ∙ ap (left_behind layouts) (take-append-drop k lines)) ∙ e)

module _ (closing_words : List (List ℕ)) where
  -- the last part of a layout is one line that has one of these words
  abbrev Within : List ℕ → Type 0
  Within word = (line : OpeningData) → begins line word ≡ true → list_any (begins line) closing_words ≡ true

  abbrev Ends : List Part → Type 0
  Ends [] = ⊥
  Ends (One word ∷ []) = Within word
  Ends (Many word ∷ []) = ⊥
  Ends (Blocks turn ∷ []) = ⊥
  Ends (part ∷ more ∷ parts) = Ends (more ∷ parts)

  -- behind a line the layout still ends so, or it is used up and the line is a closing one
  abbrev Left : OpeningData → Option (List Part) → Type 0
  Left line None = Unit {0}
  Left line (Some []) = list_any (begins line) closing_words ≡ true
  Left line (Some (part ∷ parts)) = Ends (part ∷ parts)

  left_if : (line : OpeningData) (t : Bool) (o p : Option (List Part)) → Left line o → Left line p → Left line (if t then o else p)
  left_if line true o p x y = x
  left_if line false o p x y = y

  ends_more : (part more : Part) (parts : List Part) → Ends (more ∷ parts) → Ends (part ∷ more ∷ parts)
  ends_more (One word) more parts h = h
  ends_more (Many word) more parts h = h
  ends_more (Blocks turn) more parts h = h

  left_part : (line : OpeningData) (parts : List Part) → Ends parts → Left line (behind parts line)
  left_part line [] h = absurd h
  left_part line (One word ∷ []) h = go (begins line word) refl
    where
      go : (t : Bool) → begins line word ≡ t → Left line (if t then Some [] else None)
      go true e = h line e
      go false e = tt
  left_part line (Many word ∷ []) h = absurd h
  left_part line (Blocks turn ∷ []) h = absurd h
  left_part line (One word ∷ more ∷ parts) h = left_if line (begins line word) _ _ h tt
  left_part line (Many word ∷ more ∷ parts) h = left_if line (begins line word) _ _ h (left_part line (more ∷ parts) h)
  left_part line (Blocks turn ∷ more ∷ parts) h =
      left_if line (begins line (word_at turn.place)) _ _
      (left_if line (line.number == turn.number) _ _ (ends_more (Blocks (later turn)) more parts h) tt)
      (left_if line (turn.place == 0) _ _ (left_part line (more ∷ parts) h) tt)

  -- of several layouts: each ends so, or is used up behind a closing line
  abbrev AllLeft : OpeningData → List (List Part) → Type 0
  AllLeft line [] = Unit {0}
  AllLeft line ([] ∷ layouts) = (list_any (begins line) closing_words ≡ true) × AllLeft line layouts
  AllLeft line ((part ∷ parts) ∷ layouts) = Ends (part ∷ parts) × AllLeft line layouts

  all_left : (line next : OpeningData) (layouts : List (List Part)) → AllLeft line layouts → AllLeft next (filter_map (λ parts. behind parts next) layouts)
  all_left line next [] h = tt
  all_left line next ([] ∷ layouts) h = all_left line next layouts h.1
  all_left line next ((part ∷ parts) ∷ layouts) h = go (behind (part ∷ parts) next) (left_part next (part ∷ parts) h.0) (all_left line next layouts h.1)
    where
      go : (o : Option (List Part)) → Left next o → AllLeft next (filter_map (λ parts. behind parts next) layouts) → AllLeft next (cons_option o (filter_map (λ parts. behind parts next) layouts))
      go None x y = y
      go (Some []) x y = (x, y)
      go (Some (part ∷ parts)) x y = (x, y)

  used_up : (line : OpeningData) (layouts : List (List Part)) → AllLeft line layouts → list_any is_empty layouts ≡ true → list_any (begins line) closing_words ≡ true
  used_up line [] h e = absurd (false≢true e)
  used_up line ([] ∷ layouts) h e = h.0
  used_up line ((part ∷ parts) ∷ layouts) h e = used_up line layouts h.1 e

  ends_behind : (front : List OpeningData) (line : OpeningData) (layouts : List (List Part)) (lines : List OpeningData) → AllLeft line layouts → list_any is_empty (left_behind layouts lines) ≡ true → EndsWith closing_words (front ++ line ∷ lines)
  ends_behind front line layouts [] h e = record { front = front; last = line; is = refl; closes = used_up line layouts h e }
  ends_behind front line layouts (next ∷ lines) h e =
      subst (EndsWith closing_words) (append_assoc front (line ∷ []) (next ∷ lines)) (ends_behind (front ++ line ∷ []) next (filter_map (λ parts. behind parts next) layouts) lines (all_left line next layouts h) e)

  -- a layout that ends so
  abbrev AllEnd : List (List Part) → Type 0
  AllEnd [] = Unit {0}
  AllEnd (layout ∷ layouts) = Ends layout × AllEnd layouts

  first_left : (line : OpeningData) (layouts : List (List Part)) → AllEnd layouts → AllLeft line (filter_map (λ parts. behind parts line) layouts)
  first_left line [] h = tt
  first_left line (layout ∷ layouts) h = go (behind layout line) (left_part line layout h.0) (first_left line layouts h.1)
    where
      go : (o : Option (List Part)) → Left line o → AllLeft line (filter_map (λ parts. behind parts line) layouts) → AllLeft line (cons_option o (filter_map (λ parts. behind parts line) layouts))
      go None x y = y
      go (Some []) x y = (x, y)
      go (Some (part ∷ parts)) x y = (x, y)

  not_empty : (layouts : List (List Part)) → AllEnd layouts → list_any is_empty layouts ≡ true → ⊥
  not_empty [] h e = false≢true e
  not_empty ([] ∷ layouts) h e = h.0
  not_empty ((part ∷ parts) ∷ layouts) h e = not_empty layouts h.1 e

weight_ends : (two : Bool) → AllEnd (codes "end" ∷ []) (weight_layout two ∷ [])
weight_ends true = ((λ line e. or_left (begins line (codes "end")) false e), tt)
weight_ends false = ((λ line e. or_left (begins line (codes "end")) false e), tt)

all_end : (input : Input) (head : HeadData) → AllEnd (closing_of head) (layouts_of input head)
all_end (Two w) (HeadData.Solve side) = ((λ line e. or_left (begins line (codes "end")) false e), tt)
all_end (Two w) HeadData.Reduced = ((λ line e. or_left (begins line (codes "end")) false e), tt)
all_end (Two w) HeadData.Rotations = ((λ line e. or_left (begins line (codes "end")) false e), tt)
all_end (Two w) (HeadData.List after limit) = (
  (λ line e. or_left (begins line (codes "end")) (begins line (codes "more") || false) e),
  ((λ line e. or_right (begins line (codes "end")) (begins line (codes "more") || false) (or_left (begins line (codes "more")) false e)), tt),
)
all_end (Two w) HeadData.Regret = ((λ line e. or_left (begins line (codes "end")) false e), tt)
all_end (Two w) (HeadData.Weight by) = weight_ends (has_two_levels by w)
all_end (Two w) HeadData.Meet = ((λ line e. or_left (begins line (codes "end")) false e), tt)
all_end (Two w) HeadData.Join = ((λ line e. or_left (begins line (codes "end")) false e), tt)
all_end (Two w) _ = tt
all_end (Room persons) (HeadData.Solve side) = (
  (λ line e. or_left (begins line (codes "end")) false e),
  ((λ line e. or_left (begins line (codes "end")) false e), tt),
)
all_end (Room persons) _ = tt

-- the law that a whole answer ends with a closing line
pub whole_ends : WholeEnds
whole_ends input head [] e = absurd (not_empty (closing_of head) (layouts_of input head) (all_end input head) e)
whole_ends input head (line ∷ lines) e = ends_behind (closing_of head) [] line (filter_map (λ parts. behind parts line) (layouts_of input head)) lines (first_left (closing_of head) line (layouts_of input head) (all_end input head)) e
