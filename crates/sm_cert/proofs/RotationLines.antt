-- The lines of rotations and of what they need, which take turns; and those behind them.
use Rattle.std.proofs.Common.{◌≡◌, ℕ, zero, suc, ◌+◌, ◌==◌, ◌||◌, ◌&&◌, ◌⊎◌, inl, inr, arith, refl, sym, ap, ◌∙◌, Bool, true, false, List, [], ◌∷◌, ◌++◌, length, map, take, Option, Some, None, IsSome, if◌then◌else◌, subst, append-nil, append_assoc, length-append}
use Rattle.std.specs.Prelude.{filter_map}
use Rattle.std.specs.List.{cons_option, list_all, list_any, slice_get}
use Rattle.std.proofs.lemmas.Bool.{false≢true}
use Rattle.std.proofs.lemmas.List.Elements.{filter_map-append}
use Rattle.std.proofs.lemmas.Option.{same_Some}
use Rattle.sm_agents.specs.Written.{Written}
use Rattle.sm_report.specs.Lines.{LineData}
use Rattle.sm_report.specs.declared.keywords.Keyword.TheVariants as keyword
use Rattle.sm_check_forms.specs.declared.layouts.LayoutPart.{LayoutPart}
use Rattle.sm_check_forms.specs.declared.layouts.LayoutPart.TheVariants.{Many, Blocks}
use Rattle.sm_check_forms.proofs.KeywordNumbers.{keyword_number}
use Rattle.sm_report.specs.Keywords.{keyword_of}
use Rattle.sm_check_forms.proofs.KeywordLayouts.{behind, is_whole, left_behind, blocks_of, opening_of}
use Rattle.sm_check_forms.specs.Layouts.{is_empty}
use Rattle.sm_check_clauses.specs.Said.{first_in, rotation_in, rotations_in, needs_in, all_needs_in, is_up_to_rotations}
use Rattle.sm_cert.proofs.GroupLemmas.{Tells, AllOut, AreDown, goes, all_down, none_said}
use Rattle.sm_cert.proofs.YesLines.{no_line}

-- the keywords up to the rotations: of first seats, and of rotations, needs and gains
abbrev pub rotation_words : ℕ → Bool
rotation_words n = (n == 3) || ((n == 7) || ((n == 8) || ((n == 9) || (n == 28))))

-- the test of lines up to the rotations tells these
pub rotations_tell : Tells rotation_words is_up_to_rotations
rotations_tell = record { other = refl; same = same }
  where
    same : (x : LineData) → (is_up_to_rotations x ≡ rotation_words (keyword_number (keyword_of x))) ⊎ (keyword_number (keyword_of x) ≡ 21)
    same (LineData.Answer head) = inr refl
    same _ = inl refl

-- a line behind the rotations doesn't say what one needs
pub needs_in-none : (x : LineData) → is_up_to_rotations x ≡ false → needs_in x ≡ None
needs_in-none (LineData.Needs i needed) e = absurd (false≢true (sym e))
needs_in-none _ e = refl

module _ (w : Written) where
  -- nor a first seat
  pub first_up : (x : LineData) → is_up_to_rotations x ≡ false → first_in w x ≡ None
  first_up (LineData.First p seat) e = absurd (false≢true (sym e))
  first_up _ e = refl

  -- nor a rotation
  pub rotation_up : (x : LineData) → is_up_to_rotations x ≡ false → rotation_in w x ≡ None
  rotation_up (LineData.Rotation i pairs) e = absurd (false≢true (sym e))
  rotation_up _ e = refl

-- where the next line stands: among the first seats, or at a line of the block with a number
pub data Spot : Type 0 where
  firsts : Spot
  rotation : ℕ → Spot
  needs : ℕ → Spot
  gains : ℕ → Spot
  second_gains : ℕ → Spot

-- how many rotations still want what they need
abbrev pub owed : Spot → ℕ
owed (needs i) = 1
owed _ = 0

no_parts : {left : List LayoutPart} → ◌≡◌ {A = Option (List LayoutPart)} None (Some left) → ⊥
no_parts e = grind arith

abbrev no_list : Option (List ℕ)
no_list = None

not_some : {P : Type 0} → IsSome no_list → P
not_some e = absurd cc

-- the blocks of rotations: with their needs, with gains too, and with second gains
pub data Kind : Type 0 where
  bare : Kind
  gained : Kind
  twice_gained : Kind

abbrev lines_of : Kind → ℕ
lines_of bare = 2
lines_of gained = 3
lines_of twice_gained = 4

-- the places of gains and second gains, where there are any
abbrev gains_place : Kind → ℕ
gains_place bare = 0
gains_place _ = 2

abbrev second_place : Kind → ℕ
second_place twice_gained = 3
second_place _ = 0

down_at : (up : LineData → Bool) (lines : List LineData) (j : ℕ) (y : LineData) → AreDown up lines → slice_get lines j ≡ Some y → up y ≡ false
down_at up [] j y h e = absurd (no_line e)
down_at up (x ∷ xs) zero y h e = ap up (sym (same_Some _ _ e)) ∙ h.0
down_at up (x ∷ xs) (suc j) y h e = down_at up xs j y h.1 e

-- the lines of the rest of a layout behind those that are up to somewhere
pub record Splits (up : LineData → Bool) (rest : List LayoutPart) (lines : List LineData) : Type 0 where
  pub before : List LineData
  pub below : List LineData
  pub is : lines ≡ before ++ below
  pub ups : list_all up before ≡ true
  pub whole : is_whole (rest ∷ []) (map opening_of below) ≡ true

-- with one more line in front that is up to there they are split in the same way
pub one_split : (up : LineData → Bool) (rest : List LayoutPart) (x : LineData) (lines : List LineData) → up x ≡ true → Splits up rest lines → Splits up rest (x ∷ lines)
one_split up rest x lines e s = record {
  before = x ∷ s.before;
  below = s.below;
  is = ap (λ (ls : List LineData). x ∷ ls) s.is;
  ups = ap (λ b. b && list_all up s.before) e ∙ s.ups;
  whole = s.whole;
}

module _ (w : Written) (rest : List LayoutPart) (out : AllOut rotation_words rest) where
  -- what is left of the layout there
  abbrev pub left_at : Kind → Spot → List LayoutPart
  left_at kind firsts = Many keyword.First ∷ blocks_of (lines_of kind) ∷ rest
  left_at kind (rotation i) = Blocks (record { lines = lines_of kind; place = 0; number = i }) ∷ rest
  left_at kind (needs i) = Blocks (record { lines = lines_of kind; place = 1; number = i }) ∷ rest
  left_at kind (gains i) = Blocks (record { lines = lines_of kind; place = gains_place kind; number = i }) ∷ rest
  left_at kind (second_gains i) = Blocks (record { lines = lines_of kind; place = second_place kind; number = i }) ∷ rest

  abbrev rotations_of : LineData → ℕ
  rotations_of x = length (cons_option (rotation_in w x) [])

  abbrev needs_of : LineData → ℕ
  needs_of x = length (cons_option (needs_in x) [])

  record Stays (kind : Kind) (spot : Spot) (x : LineData) (left : List LayoutPart) : Type 0 where
    to : Spot
    is : left ≡ left_at kind to
    counts : needs_of x + owed to ≡ owed spot + rotations_of x
    needed : IsSome (needs_in x) → owed spot ≡ 1
    up : is_up_to_rotations x ≡ true

  record Leaves (spot : Spot) (x : LineData) (left : List LayoutPart) : Type 0 where
    is : behind rest (opening_of x) ≡ Some left
    none : owed spot ≡ 0

  abbrev Moves : Kind → Spot → LineData → List LayoutPart → Type 0
  Moves kind spot x left = Stays kind spot x left ⊎ Leaves spot x left

  stays : (kind : Kind) (spot to : Spot) (x : LineData) (left : List LayoutPart) (t : Bool) → (if t then Some (left_at kind to) else None) ≡ Some left → needs_of x + owed to ≡ owed spot + rotations_of x → (IsSome (needs_in x) → owed spot ≡ 1) → is_up_to_rotations x ≡ true
      → Moves kind spot x left
  stays kind spot to x left true e counts needed up = inl (record { to = to; is = sym (same_Some _ _ e); counts = counts; needed = needed; up = up })
  stays kind spot to x left false e counts needed up = absurd (no_parts e)

  leaves : (kind : Kind) (spot : Spot) (x : LineData) (left : List LayoutPart) → behind rest (opening_of x) ≡ Some left → owed spot ≡ 0 → Moves kind spot x left
  leaves kind spot x left e none = inr (record { is = e; none = none })

  at_rotation : (kind : Kind) (n : ℕ) (x : LineData) (left : List LayoutPart) → behind (left_at kind (rotation n)) (opening_of x) ≡ Some left → Moves kind (rotation n) x left
  at_rotation bare n (LineData.Rotation i pairs) left e = stays bare (rotation n) (needs n) (LineData.Rotation i pairs) left (i == n) e refl (λ some. not_some some) refl
  at_rotation gained n (LineData.Rotation i pairs) left e = stays gained (rotation n) (needs n) (LineData.Rotation i pairs) left (i == n) e refl (λ some. not_some some) refl
  at_rotation twice_gained n (LineData.Rotation i pairs) left e = stays twice_gained (rotation n) (needs n) (LineData.Rotation i pairs) left (i == n) e refl (λ some. not_some some) refl
  at_rotation kind n x left e = leaves kind (rotation n) x left e refl

  moves : (kind : Kind) (spot : Spot) (x : LineData) (left : List LayoutPart) → behind (left_at kind spot) (opening_of x) ≡ Some left → Moves kind spot x left
  moves kind firsts (LineData.First p seat) left e = stays kind firsts firsts (LineData.First p seat) left true e refl (λ some. not_some some) refl
  moves bare firsts (LineData.Rotation i pairs) left e = stays bare firsts (needs 1) (LineData.Rotation i pairs) left (i == 1) e refl (λ some. not_some some) refl
  moves gained firsts (LineData.Rotation i pairs) left e = stays gained firsts (needs 1) (LineData.Rotation i pairs) left (i == 1) e refl (λ some. not_some some) refl
  moves twice_gained firsts (LineData.Rotation i pairs) left e = stays twice_gained firsts (needs 1) (LineData.Rotation i pairs) left (i == 1) e refl (λ some. not_some some) refl
  moves kind firsts x left e = leaves kind firsts x left e refl
  moves kind (rotation n) x left e = at_rotation kind n x left e
  moves bare (needs n) (LineData.Needs i list) left e = stays bare (needs n) (rotation (n + 1)) (LineData.Needs i list) left (i == n) e refl (λ some. refl) refl
  moves gained (needs n) (LineData.Needs i list) left e = stays gained (needs n) (gains n) (LineData.Needs i list) left (i == n) e refl (λ some. refl) refl
  moves twice_gained (needs n) (LineData.Needs i list) left e = stays twice_gained (needs n) (gains n) (LineData.Needs i list) left (i == n) e refl (λ some. refl) refl
  moves kind (needs n) _ left e = absurd (no_parts e)
  moves gained (gains n) (LineData.Gain i gain) left e = stays gained (gains n) (rotation (n + 1)) (LineData.Gain i gain) left (i == n) e refl (λ some. not_some some) refl
  moves gained (gains n) _ left e = absurd (no_parts e)
  moves twice_gained (gains n) (LineData.Gain i gain) left e = stays twice_gained (gains n) (second_gains n) (LineData.Gain i gain) left (i == n) e refl (λ some. not_some some) refl
  moves twice_gained (gains n) _ left e = absurd (no_parts e)
  moves bare (gains n) (LineData.Rotation i pairs) left e = stays bare (gains n) (needs n) (LineData.Rotation i pairs) left (i == n) e refl (λ some. not_some some) refl
  moves bare (gains n) x left e = leaves bare (gains n) x left e refl
  moves twice_gained (second_gains n) (LineData.SecondGain i gain) left e = stays twice_gained (second_gains n) (rotation (n + 1)) (LineData.SecondGain i gain) left (i == n) e refl (λ some. not_some some) refl
  moves twice_gained (second_gains n) _ left e = absurd (no_parts e)
  moves bare (second_gains n) (LineData.Rotation i pairs) left e = stays bare (second_gains n) (needs n) (LineData.Rotation i pairs) left (i == n) e refl (λ some. not_some some) refl
  moves bare (second_gains n) x left e = leaves bare (second_gains n) x left e refl
  moves gained (second_gains n) (LineData.Rotation i pairs) left e = stays gained (second_gains n) (needs n) (LineData.Rotation i pairs) left (i == n) e refl (λ some. not_some some) refl
  moves gained (second_gains n) x left e = leaves gained (second_gains n) x left e refl

  -- at each line with what a rotation needs, that rotation is the last one above, and all others above have theirs
  pub record Turns (above lines : List LineData) : Type 0 where
    pub at : (j : ℕ) (x : LineData) → slice_get lines j ≡ Some x → IsSome (needs_in x) → length (all_needs_in (above ++ take j lines)) + 1 ≡ length (rotations_in w (above ++ take j lines))
    pub all : length (all_needs_in (above ++ lines)) ≡ length (rotations_in w (above ++ lines))
    pub splits : Splits is_up_to_rotations rest lines

  said_more : {X : Type 0} (said : LineData → Option X) (above : List LineData) (x : LineData) → length (filter_map said (above ++ x ∷ [])) ≡ length (filter_map said above) + length (cons_option (said x) [])
  said_more said above x = ap (λ xs. length xs) (filter_map-append said above (x ∷ [])) ∙ length-append (filter_map said above) (cons_option (said x) [])

  -- behind the rotations
  out_turns : (above lines : List LineData) → is_whole (rest ∷ []) (map opening_of lines) ≡ true → length (all_needs_in above) ≡ length (rotations_in w above) → Turns above lines
  out_turns above lines whole same = record {
    at = λ j x there some. absurd (let none = subst IsSome (needs_in-none x (down_at is_up_to_rotations lines j x down there)) some in cc);
    all = ap (λ xs. length xs) (said_down needs_in needs_in-none) ∙ same ∙ sym (ap (λ xs. length xs) (said_down (rotation_in w) (rotation_up w)));
    splits = record { before = []; below = lines; is = refl; ups = refl; whole = whole };
  }
    where
      down : AreDown is_up_to_rotations lines
      down = all_down rotations_tell rest lines out whole

      said_down : {X : Type 0} (said : LineData → Option X) → ((x : LineData) → is_up_to_rotations x ≡ false → said x ≡ None) → filter_map said (above ++ lines) ≡ filter_map said above
      said_down said none =
          filter_map-append said above lines
          ∙ ap (λ xs. filter_map said above ++ xs) (none_said is_up_to_rotations said none lines down) ∙ append-nil (filter_map said above)

  -- the lines of a layout from this spot on take turns, where above them as many rotations want their needs as the spot owes
  pub turns : (kind : Kind) (spot : Spot) (above lines : List LineData) → is_whole (left_at kind spot ∷ []) (map opening_of lines) ≡ true → length (all_needs_in above) + owed spot ≡ length (rotations_in w above) → Turns above lines
  turns kind spot above [] e h = absurd (not_empty spot e)
    where
      not_empty : (spot : Spot) → is_whole (left_at kind spot ∷ []) [] ≡ true → ⊥
      not_empty firsts e = false≢true e
      not_empty (rotation i) e = false≢true e
      not_empty (needs i) e = false≢true e
      not_empty (gains i) e = false≢true e
      not_empty (second_gains i) e = false≢true e
  turns kind spot above (x ∷ xs) e h =
      let g = goes (left_at kind spot) (opening_of x) (map opening_of xs) e in
      elim (moves kind spot x g.left g.is) [
        | inl m ↦ on m (turns kind m.to (above ++ x ∷ []) xs (subst (λ (left : List LayoutPart). is_whole (left ∷ []) (map opening_of xs) ≡ true) m.is g.whole) (counted m))
        | inr m ↦ out_turns above (x ∷ xs) (back g.left m.is g.whole) (let o = m.none in omega (arith, h, o))
      ]
    where
      back : (left : List LayoutPart) → behind rest (opening_of x) ≡ Some left → is_whole (left ∷ []) (map opening_of xs) ≡ true → is_whole (rest ∷ []) (map opening_of (x ∷ xs)) ≡ true
      back left is whole = ap (λ (o : Option (List LayoutPart)). list_any is_empty (left_behind (cons_option o []) (map opening_of xs))) is ∙ whole

      counted : {left : List LayoutPart} (m : Stays kind spot x left) → length (all_needs_in (above ++ x ∷ [])) + owed m.to ≡ length (rotations_in w (above ++ x ∷ []))
      counted m =
          let one = said_more needs_in above x in
          let other = said_more (rotation_in w) above x in
          let c = m.counts in
          omega (arith, h)

      on : {left : List LayoutPart} → Stays kind spot x left → Turns (above ++ x ∷ []) xs → Turns above (x ∷ xs)
      on m deep = record {
        at = at;
        all = subst (λ (ls : List LineData). length (all_needs_in ls) ≡ length (rotations_in w ls)) (append_assoc above (x ∷ []) xs) deep.all;
        splits = one_split is_up_to_rotations rest x xs m.up deep.splits;
      }
        where
          at : (j : ℕ) (y : LineData) → slice_get (x ∷ xs) j ≡ Some y → IsSome (needs_in y) → length (all_needs_in (above ++ take j (x ∷ xs))) + 1 ≡ length (rotations_in w (above ++ take j (x ∷ xs)))
          at zero y there some =
              let same : x ≡ y = same_Some _ _ there in
              let o = m.needed (subst (λ (z : LineData). IsSome (needs_in z)) (sym same) some) in
              subst (λ (ls : List LineData). length (all_needs_in ls) + 1 ≡ length (rotations_in w ls)) (sym (append-nil above)) (omega (arith, o, h))
          at (suc j) y there some =
              subst (λ (ls : List LineData). length (all_needs_in ls) + 1 ≡ length (rotations_in w ls)) (append_assoc above (x ∷ []) (take j xs)) (deep.at j y there some)

  -- one more line above, which tells of no rotation
  pub turns_from : (x : LineData) {lines : List LineData} → is_up_to_rotations x ≡ true → rotation_in w x ≡ None → needs_in x ≡ None → Turns (x ∷ []) lines → Turns [] (x ∷ lines)
  turns_from x {lines} u a b t = record { at = at; all = t.all; splits = one_split is_up_to_rotations rest x lines u t.splits }
    where
      at : (j : ℕ) (y : LineData) → slice_get (x ∷ lines) j ≡ Some y → IsSome (needs_in y) → length (all_needs_in (take j (x ∷ lines))) + 1 ≡ length (rotations_in w (take j (x ∷ lines)))
      at zero y there some = absurd (let same : x ≡ y = same_Some _ _ there in let none = subst IsSome b (subst (λ (z : LineData). IsSome (needs_in z)) (sym same) some) in cc)
      at (suc j) y there some = t.at j y there some
