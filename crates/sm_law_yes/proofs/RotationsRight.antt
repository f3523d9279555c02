-- An answer of `rotations` that gets a yes is a right one, but for the order of its first seats.
use Rattle.std.proofs.Common.{◌≡◌, ℕ, zero, suc, ◌+◌, ◌-◌, ◌<◌, ◌≤◌, ◌==◌, arith, refl, sym, ap, ap₂, ◌∙◌, cond, pred, Bool, true, false, List, [], ◌∷◌, ◌++◌, length, map, slice_index_or, Option, Some, None, if◌then◌else◌, subst}
use Rattle.std.specs.Prelude.{filter_map}
use Rattle.std.specs.List.{All, cons_option, flat_map, range_with_len, list_all, list_any}
use Rattle.std.specs.Option.{option_map}
use Rattle.std.proofs.lemmas.Bool.{false≢true, eqb-true}
use Rattle.std.proofs.lemmas.List.{get_or-map, length-map}
use Rattle.sm_lists.proofs.BoolLemmas.{first_true, second_true}
use Rattle.sm_agents.specs.Written.{Written}
use Rattle.sm_agents.specs.Sound.{IsInstance}
use Rattle.sm_instance.specs.declared.inputs.Input.TheVariants.{Two}
use Rattle.sm_agents.specs.declared.kinds.Side.TheVariants.{Proposers}
use Rattle.sm_market.specs.Lists.{row, entry, agents}
use Rattle.sm_market.specs.Matching.{held}
use Rattle.sm_report.specs.declared.lines.Seat.{Seat}
use Rattle.sm_report.specs.Heads.{HeadData}
use Rattle.sm_report.specs.Lines.{LineData}
use Rattle.sm_report.specs.Sound.{IsRotation}
use Rattle.sm_report.specs.declared.keywords.Keyword.{Keyword}
use Rattle.sm_report.specs.declared.keywords.Keyword.TheVariants as keyword
use Rattle.sm_answer.specs.Lines.{lines_from}
use Rattle.sm_theory.specs.Chains.{rotation_at}
use Rattle.sm_seats.specs.SeatMarket.{seat_market}
use Rattle.sm_seats.specs.Seating.{seating_of}
use Rattle.sm_seats.proofs.CorrespondenceLaws.{is_seating, sound_entries}
use Rattle.sm_answer_rotations.specs.Reduction.{seat_of, seat_line}
use Rattle.sm_answer_rotations.specs.RotationLines.{first_seat, seated_rotation, numbers_of, shown_of}
use Rattle.sm_answer_rotations.specs.RotationAnswer.{IsRotationAnswer, IsCorrespondence}
use Rattle.sm_answer_rotations.specs.GivenLines.{two_lines, rotations_given}
use Rattle.sm_answer_rotations.proofs.RotationLemmas.{rotations_right}
use Rattle.sm_answer_rotations.proofs.ShownLemmas.{correspondence}
use Rattle.sm_check_forms.specs.Keywords.{is_same}
use Rattle.sm_check_forms.specs.Seats.{is_seat, seat_number, all_numbered}
use Rattle.sm_check_forms.specs.declared.layouts.LayoutPart.{LayoutPart}
use Rattle.sm_check_forms.specs.declared.layouts.LayoutPart.TheVariants.{Blocks}
use Rattle.sm_check_forms.proofs.KeywordLayouts.{begins, left_behind, is_whole, closing, blocks_of, rotations_layout, opening_of}
use Rattle.sm_check_forms.specs.Layouts.{is_empty}
use Rattle.sm_check_clauses.specs.Said.{first_in, firsts_in, rotation_in, rotations_in, needs_in, all_needs_in}
use Rattle.sm_holding.specs.Held.{partner_in}
use Rattle.sm_cert.specs.Yes.{IsChainWritten, RotationsYes}
use Rattle.sm_cert.proofs.YesLines.{by_head}
use Rattle.sm_law_yes.specs.Reordered.{IsReordered, IsRightButForOrder}
use Rattle.sm_law_yes.specs.Reordered.IsReordered.{kept}
use Rattle.sm_law_yes.specs.YesIsRight.{RotationsAreRight}
use Rattle.sm_law_yes.specs.Correspond.{first_seat_in, pairs_said, numbers_said, shown_in, RotationsCorrespond}
use Rattle.sm_law_yes.proofs.ReorderLemmas.{reordered_before}
use Rattle.sm_law_yes.proofs.LineGroups.{HaveWord, AreOwn, are_own, own_front, own_back, none_left, grouped, closes, lines_said, skipped, said_first}
use Rattle.sm_law_yes.proofs.PairLines.{partner_held}
use Rattle.sm_law_yes.proofs.SeatLines.{seat_back, seat_data, read_first, market_held, firsts_in_order}

-- Blocks of two lines.

-- the pairs of a rotation, and the numbers of what it needs, as they are written
abbrev Block : Type 0
Block = List (ℕ × Seat) × List ℕ

-- their lines, from a number on
abbrev block_lines : ℕ → List Block → List LineData
block_lines number [] = []
block_lines number (block ∷ blocks) = LineData.Rotation number block.0 ∷ LineData.Needs number block.1 ∷ block_lines (number + 1) blocks

-- a block from the line with this place on
abbrev turn_at : (place number : ℕ) → LayoutPart
turn_at place number = Blocks (record { lines = 2; place = place; number = number })

record Blocked (number : ℕ) (lines : List LineData) : Type 0 where
  blocks : List Block
  is : lines ≡ block_lines number blocks ++ LineData.End ∷ []

-- behind the pairs of a rotation stands what it needs
record NeedsFirst (number : ℕ) (lines : List LineData) : Type 0 where
  needed : List ℕ
  rest : List LineData
  is : lines ≡ LineData.Needs number needed ∷ rest
  whole : is_whole ((turn_at 0 (number + 1) ∷ closing) ∷ []) (map opening_of rest) ≡ true

needs_first : (number : ℕ) (lines : List LineData) → is_whole ((turn_at 1 number ∷ closing) ∷ []) (map opening_of lines) ≡ true → NeedsFirst number lines
needs_first number [] e = absurd (false≢true e)
needs_first number (LineData.Needs i needed ∷ ys) e = go (i == number) refl e
  where
    go : (t : Bool) → (i == number) ≡ t → list_any is_empty (left_behind (cons_option (if t then Some (turn_at 0 (number + 1) ∷ closing) else None) []) (map opening_of ys)) ≡ true
        → NeedsFirst number (LineData.Needs i needed ∷ ys)
    go false b whole = absurd (none_left ys whole)
    go true b whole = record { needed = needed; rest = ys; is = ap (λ (n : ℕ). LineData.Needs n needed ∷ ys) (eqb-true i number b); whole = whole }
needs_first number (y ∷ ys) e = absurd (none_left ys e)

-- the lines of blocks from a number on, and the closing one
blocked : (n number : ℕ) (lines : List LineData) → length lines ≤ n → is_whole ((turn_at 0 number ∷ closing) ∷ []) (map opening_of lines) ≡ true → Blocked number lines
blocked n number [] few e = absurd (false≢true e)
blocked zero number (y ∷ ys) few e = absurd (omega (arith, few))
blocked (suc n) number (LineData.Rotation i pairs ∷ ys) few e = go (i == number) refl e (λ rest few whole. blocked n (number + 1) rest few whole)
  where
    go : (t : Bool) → (i == number) ≡ t → list_any is_empty (left_behind (cons_option (if t then Some (turn_at 1 number ∷ closing) else None) []) (map opening_of ys)) ≡ true
        → ((rest : List LineData) → length rest ≤ n → is_whole ((turn_at 0 (number + 1) ∷ closing) ∷ []) (map opening_of rest) ≡ true → Blocked (number + 1) rest)
        → Blocked number (LineData.Rotation i pairs ∷ ys)
    go false b whole deep = absurd (none_left ys whole)
    go true b whole deep =
        let f = needs_first number ys whole in
        let long = ap (λ (ls : List LineData). length ls) f.is in
        let d = deep f.rest (omega (arith, few, long)) f.whole in
        record {
          blocks = (pairs, f.needed) ∷ d.blocks;
          is = ap (λ (k : ℕ). LineData.Rotation k pairs ∷ ys) (eqb-true i number b) ∙ ap (λ (ls : List LineData). LineData.Rotation number pairs ∷ ls) f.is
              ∙ ap (λ (ls : List LineData). LineData.Rotation number pairs ∷ LineData.Needs number f.needed ∷ ls) d.is;
        }
blocked (suc n) number (y ∷ ys) few e = record { blocks = []; is = closes (y ∷ ys) e }

-- What blocks say.

module _ (w : Written) where
  rotations_said : (number : ℕ) (blocks : List Block) → rotations_in w (block_lines number blocks ++ LineData.End ∷ []) ≡ map (λ (b : Block). all_numbered w b.0) blocks
  rotations_said number [] = refl
  rotations_said number (b ∷ bs) = ap (λ (xs : List (List (ℕ × ℕ))). all_numbered w b.0 ∷ xs) (rotations_said (number + 1) bs)

  needs_said : (number : ℕ) (blocks : List Block) → all_needs_in (block_lines number blocks ++ LineData.End ∷ []) ≡ map (λ (b : Block). map pred b.1) blocks
  needs_said number [] = refl
  needs_said number (b ∷ bs) = ap (λ (xs : List (List ℕ)). map pred b.1 ∷ xs) (needs_said (number + 1) bs)

  no_firsts : (number : ℕ) (blocks : List Block) → firsts_in w (block_lines number blocks ++ LineData.End ∷ []) ≡ []
  no_firsts number [] = refl
  no_firsts number (b ∷ bs) = no_firsts (number + 1) bs

  -- pairs with seats, by the numbers of these, and back
  pairs_back : (pairs : List (ℕ × Seat)) → list_all (is_seat w) (map (λ pair. pair.1) pairs) ≡ true → seated_rotation (seating_of w) (all_numbered w pairs) ≡ pairs
  pairs_back [] e = refl
  pairs_back (pair ∷ pairs) e =
      ap (λ (seat : Seat). (pair.0, seat) ∷ seated_rotation (seating_of w) (all_numbered w pairs)) (seat_back w pair.1 (first_true (is_seat w pair.1) (list_all (is_seat w) (map (λ pair. pair.1) pairs)) e))
      ∙ ap (λ (xs : List (ℕ × Seat)). pair ∷ xs) (pairs_back pairs (second_true (is_seat w pair.1) (list_all (is_seat w) (map (λ pair. pair.1) pairs)) e))

  -- numbers from 1, from 0 and back
  numbers_back : (needed : List ℕ) → All IsRotation needed → numbers_of (map pred needed) ≡ needed
  numbers_back [] h = refl
  numbers_back (n ∷ ns) h =
      let least = (h 0 0 (omega arith)).least in
      ap (λ (k : ℕ). k ∷ numbers_of (map pred ns)) (let same : pred n + 1 ≡ n = omega (arith, least) in same)
      ∙ ap (λ (ks : List ℕ). n ∷ ks) (numbers_back ns (λ k d less. h (suc k) d (omega (arith, less))))

  -- the blocks say what they show
  abbrev AreBack : List Block → Type 0
  AreBack [] = Unit {0}
  AreBack (b ∷ bs) = (seated_rotation (seating_of w) (all_numbered w b.0) ≡ b.0) × (numbers_of (map pred b.1) ≡ b.1) × AreBack bs

  are_back : (number : ℕ) (blocks : List Block) → AreOwn (Two w) (block_lines number blocks ++ LineData.End ∷ []) → AreBack blocks
  are_back number [] own = tt
  are_back number (b ∷ bs) own = (pairs_back b.0 own.1, numbers_back b.1 own.2.0.numbers.1.each, are_back (number + 1) bs own.2.2)

  module _ (rotation : ℕ → List (ℕ × ℕ)) (needed : ℕ → List ℕ) where
    abbrev two : ℕ → List LineData
    two k = LineData.Rotation (k + 1) (seated_rotation (seating_of w) (rotation k)) ∷ LineData.Needs (k + 1) (numbers_of (needed k)) ∷ []

    abbrev nothing_said : Block
    nothing_said = ([], [])

    blocks_are : (k : ℕ) (blocks : List Block) → AreBack blocks
        → ((j : ℕ) → j < length blocks → rotation (k + j) ≡ all_numbered w (slice_index_or blocks j nothing_said).0)
        → ((j : ℕ) → j < length blocks → needed (k + j) ≡ map pred (slice_index_or blocks j nothing_said).1)
        → block_lines (k + 1) blocks ≡ flat_map two (range_with_len k (length blocks))
    blocks_are k [] back r n = refl
    blocks_are k (b ∷ bs) back r n =
        let none : k + 0 ≡ k = omega arith in
        let pairs : b.0 ≡ seated_rotation (seating_of w) (rotation k) =
        sym back.0 ∙ ap (seated_rotation (seating_of w)) (sym (r 0 (omega arith)) ∙ ap rotation none) in
        let numbers : b.1 ≡ numbers_of (needed k) = sym back.1 ∙ ap numbers_of (sym (n 0 (omega arith)) ∙ ap needed none) in
        let one : (j : ℕ) → k + 1 + j ≡ k + suc j = λ j. omega arith in
        ap (λ (ps : List (ℕ × Seat)). LineData.Rotation (k + 1) ps ∷ LineData.Needs (k + 1) b.1 ∷ block_lines (k + 1 + 1) bs) pairs
        ∙ ap (λ (ns : List ℕ). LineData.Rotation (k + 1) (seated_rotation (seating_of w) (rotation k)) ∷ LineData.Needs (k + 1) ns ∷ block_lines (k + 1 + 1) bs) numbers
        ∙ ap (λ (ls : List LineData). two k ++ ls)
        (blocks_are (k + 1) bs back.2 (λ j less. ap rotation (one j) ∙ r (suc j) (omega (arith, less))) (λ j less. ap needed (one j) ∙ n (suc j) (omega (arith, less))))

-- The whole answer.

not_first : (w : Written) (word : Keyword) → is_same keyword.First word ≡ false → (y : LineData) → begins (opening_of y) word ≡ true → first_in w y ≡ None
not_first w word other (LineData.First p seat) e = absurd (false≢true (sym other ∙ e))
not_first w word other _ e = refl

not_rotation : (w : Written) (word : Keyword) → is_same keyword.Rotation word ≡ false → (y : LineData) → begins (opening_of y) word ≡ true → rotation_in w y ≡ None
not_rotation w word other (LineData.Rotation i pairs) e = absurd (false≢true (sym other ∙ e))
not_rotation w word other _ e = refl

not_needs : (word : Keyword) → is_same keyword.Needs word ≡ false → (y : LineData) → begins (opening_of y) word ≡ true → needs_in y ≡ None
not_needs word other (LineData.Needs i needed) e = absurd (false≢true (sym other ∙ e))
not_needs word other _ e = refl

-- the first seats, the blocks of rotations, and the closing line
record Shaped (w : Written) (rest : List LineData) : Type 0 where
  group : List LineData
  blocks : List Block
  is : rest ≡ group ++ (block_lines 1 blocks ++ LineData.End ∷ [])
  words : HaveWord keyword.First group
  own : AreOwn (Two w) group
  back : AreBack w blocks

shaped : (w : Written) (rest : List LineData) → is_whole (rotations_layout ∷ []) (map opening_of rest) ≡ true → AreOwn (Two w) rest → Shaped w rest
shaped w rest placed own =
    let g = grouped keyword.First (blocks_of 2 ∷ closing) rest placed in
    let b = blocked (length g.rest) 1 g.rest (omega arith) g.whole in
    let owned = subst (AreOwn (Two w)) g.is own in
    record {
      group = g.group;
      blocks = b.blocks;
      is = g.is ∙ ap (λ (ls : List LineData). g.group ++ ls) b.is;
      words = g.words;
      own = own_front (Two w) g.group g.rest owned;
      back = are_back w 1 b.blocks (subst (AreOwn (Two w)) b.is (own_back (Two w) g.group g.rest owned));
    }

module _ (w : Written) (rest : List LineData) (h : Shaped w rest) where
  abbrev behind : List LineData
  behind = block_lines 1 h.blocks ++ LineData.End ∷ []

  firsts_are : firsts_in w rest ≡ firsts_in w h.group
  firsts_are = ap (firsts_in w) h.is ∙ said_first (first_in w) h.group behind (no_firsts w 1 h.blocks)

  rotations_are : rotations_in w rest ≡ map (λ (b : Block). all_numbered w b.0) h.blocks
  rotations_are = ap (rotations_in w) h.is ∙ skipped (rotation_in w) keyword.First (not_rotation w keyword.First refl) h.group behind h.words ∙ rotations_said w 1 h.blocks

  needs_are : all_needs_in rest ≡ map (λ (b : Block). map pred b.1) h.blocks
  needs_are = ap all_needs_in h.is ∙ skipped needs_in keyword.First (not_needs keyword.First refl) h.group behind h.words ∙ needs_said w 1 h.blocks

  rotation_is : (j : ℕ) → j < length h.blocks → rotation_at (rotations_in w rest) (0 + j) ≡ all_numbered w (slice_index_or h.blocks j ([], [])).0
  rotation_is j less =
      ap (λ (xs : List (List (ℕ × ℕ))). rotation_at xs (0 + j)) rotations_are ∙ ap (rotation_at (map (λ (b : Block). all_numbered w b.0) h.blocks)) (let same : 0 + j ≡ j = omega arith in same)
      ∙ get_or-map (λ (b : Block). all_numbered w b.0) h.blocks j ([], []) [] less

  needed_is : (j : ℕ) → j < length h.blocks → row (all_needs_in rest) (0 + j) ≡ map pred (slice_index_or h.blocks j ([], [])).1
  needed_is j less =
      ap (λ (xs : List (List ℕ)). row xs (0 + j)) needs_are ∙ ap (row (map (λ (b : Block). map pred b.1) h.blocks)) (let same : 0 + j ≡ j = omega arith in same)
      ∙ get_or-map (λ (b : Block). map pred b.1) h.blocks j ([], []) [] less

  abbrev shown_blocks : List LineData
  shown_blocks = flat_map (two_lines (seating_of w) (rotations_in w rest) (all_needs_in rest)) (range_with_len 0 (length (rotations_in w rest) - 0))

  blocks_shown : block_lines 1 h.blocks ≡ shown_blocks
  blocks_shown =
      let same = ap (λ (xs : List (List (ℕ × ℕ))). length xs) rotations_are in
      let count = length-map h.blocks (λ (b : Block). all_numbered w b.0) in
      let long : length h.blocks ≡ length (rotations_in w rest) - 0 = omega (arith, same, count) in
      blocks_are w (rotation_at (rotations_in w rest)) (row (all_needs_in rest)) 0 h.blocks h.back rotation_is needed_is
      ∙ ap (λ (n : ℕ). flat_map (two_lines (seating_of w) (rotations_in w rest) (all_needs_in rest)) (range_with_len 0 n)) long

  lines_are : rest ≡ map (seat_data w Proposers) (firsts_in w rest) ++ (shown_blocks ++ LineData.End ∷ [])
  lines_are =
      let read = lines_said (first_in w) w keyword.First (seat_data w Proposers) (λ y _ f e. read_first w y f e) h.group h.own h.words in
      h.is ∙ ap (λ (ls : List LineData). ls ++ behind) (read ∙ ap (map (seat_data w Proposers)) (sym firsts_are))
      ∙ ap (λ (ls : List LineData). map (seat_data w Proposers) (firsts_in w rest) ++ (ls ++ LineData.End ∷ [])) blocks_shown

behind_head : (w : Written) (rest : List LineData) → IsInstance w → is_whole (rotations_layout ∷ []) (map opening_of rest) ≡ true → AreOwn (Two w) rest → IsChainWritten w (LineData.Answer HeadData.Rotations ∷ rest)
    → IsRightButForOrder (IsRotationAnswer w) (LineData.Answer HeadData.Rotations ∷ rest)
behind_head w rest i placed own c =
    let l = seat_market w in
    let s = seating_of w in
    let h = is_seating (sound_entries i) in
    let shape = shaped w rest placed own in
    let behind = shown_blocks w rest shape ++ LineData.End ∷ [] in
    let all : length l.proposers ≡ length l.proposers - 0 = omega arith in
    let ordered = subst (λ (n : ℕ). IsReordered (map (seat_data w Proposers) (firsts_in w rest)) (lines_from (seat_line Proposers s c.first) 0 n)) all
    (firsts_in_order w c.first (firsts_in w rest) h.market c.chain.chain.from_best.stable.matching c.first_written) in
    record {
      answer = rotations_given s c.first (rotations_in w rest) (all_needs_in rest);
      right = rotations_right w s c.first (rotations_in w rest) (all_needs_in rest) refl h c.chain c.one_each c.needs;
      reordered = kept (LineData.Answer HeadData.Rotations)
          (subst (λ (ls : List LineData). IsReordered ls (lines_from (seat_line Proposers s c.first) 0 (length l.proposers - 0) ++ behind)) (sym (lines_are w rest shape)) (reordered_before ordered behind));
    }

-- the law of `rotations`
pub rotations_are_right : RotationsYes → RotationsAreRight
rotations_are_right meaning w lines i g =
    by_head (λ (ls : List LineData). AreOwn (Two w) ls → IsChainWritten w ls → IsRightButForOrder (IsRotationAnswer w) ls) g
    (λ rest placed _ own c. behind_head w rest i placed own.2 c) (are_own g) (meaning w lines i g)

-- What the lines show themselves.

rotation_pairs : (w : Written) (rest : List LineData) (h : Shaped w rest) → filter_map pairs_said rest ≡ map (seated_rotation (seating_of w)) (rotations_in w rest)
rotation_pairs w rest h =
    ap (filter_map pairs_said) h.is ∙ skipped pairs_said keyword.First (no_pairs keyword.First refl) h.group (behind w rest h) h.words ∙ said 1 h.blocks h.back
    ∙ sym (ap (map (seated_rotation (seating_of w))) (rotations_are w rest h))
  where
    no_pairs : (word : Keyword) → is_same keyword.Rotation word ≡ false → (y : LineData) → begins (opening_of y) word ≡ true → pairs_said y ≡ None
    no_pairs word other (LineData.Rotation i pairs) e = absurd (false≢true (sym other ∙ e))
    no_pairs word other _ e = refl

    said : (number : ℕ) (blocks : List Block) → AreBack w blocks → filter_map pairs_said (block_lines number blocks ++ LineData.End ∷ []) ≡ map (seated_rotation (seating_of w)) (map (λ (b : Block). all_numbered w b.0) blocks)
    said number [] back = refl
    said number (b ∷ bs) back =
        ap (λ (xs : List (List (ℕ × Seat))). b.0 ∷ xs) (said (number + 1) bs back.2)
        ∙ ap (λ (pairs : List (ℕ × Seat)). pairs ∷ map (seated_rotation (seating_of w)) (map (λ (b : Block). all_numbered w b.0) bs)) (sym back.0)

needs_numbers : (w : Written) (rest : List LineData) (h : Shaped w rest) → filter_map numbers_said rest ≡ map numbers_of (all_needs_in rest)
needs_numbers w rest h =
    ap (filter_map numbers_said) h.is ∙ skipped numbers_said keyword.First (no_numbers keyword.First refl) h.group (behind w rest h) h.words ∙ said 1 h.blocks h.back
    ∙ sym (ap (map numbers_of) (needs_are w rest h))
  where
    no_numbers : (word : Keyword) → is_same keyword.Needs word ≡ false → (y : LineData) → begins (opening_of y) word ≡ true → numbers_said y ≡ None
    no_numbers word other (LineData.Needs i needed) e = absurd (false≢true (sym other ∙ e))
    no_numbers word other _ e = refl

    said : (number : ℕ) (blocks : List Block) → AreBack w blocks → filter_map numbers_said (block_lines number blocks ++ LineData.End ∷ []) ≡ map numbers_of (map (λ (b : Block). map pred b.1) blocks)
    said number [] back = refl
    said number (b ∷ bs) back =
        ap (λ (xs : List (List ℕ)). b.1 ∷ xs) (said (number + 1) bs back.2)
        ∙ ap (λ (ns : List ℕ). ns ∷ map numbers_of (map (λ (b : Block). map pred b.1) bs)) (sym back.1)

-- the first seat that lines say of a proposer is that of the pair that they say
first_said_is : (w : Written) (lines : List LineData) → AreOwn (Two w) lines → (p : ℕ) → first_seat_in lines p ≡ option_map (seat_of (seating_of w)) (partner_in (firsts_in w lines) p)
first_said_is w [] own p = refl
first_said_is w (LineData.First q seat ∷ lines) own p = go (q == p) (first_said_is w lines own.2 p)
  where
    go : (t : Bool) → first_seat_in lines p ≡ option_map (seat_of (seating_of w)) (partner_in (firsts_in w lines) p)
        → cond t (Some seat) (first_seat_in lines p) ≡ option_map (seat_of (seating_of w)) (cond t (Some (seat_number w seat)) (partner_in (firsts_in w lines) p))
    go true e = ap Some (sym (seat_back w seat (first_true (is_seat w seat) true own.1)))
    go false e = e
first_said_is w (_ ∷ lines) own p = first_said_is w lines own.2 p

correspond : (w : Written) (rest : List LineData) → IsInstance w → is_whole (rotations_layout ∷ []) (map opening_of rest) ≡ true → AreOwn (Two w) rest → IsChainWritten w (LineData.Answer HeadData.Rotations ∷ rest)
    → IsCorrespondence w (shown_in w (LineData.Answer HeadData.Rotations ∷ rest))
correspond w rest i placed own c =
    let s = seating_of w in
    let l = seat_market w in
    let h = is_seating (sound_entries i) in
    let shape = shaped w rest placed own in
    let firsts : map (first_seat_in rest) (range_with_len 0 (length w.proposers)) ≡ map (first_seat s c.first) (agents l.proposers) =
    ap₂ (λ (f : ℕ → Option Seat) (n : ℕ). map f (range_with_len 0 n)) (λ j p. first_is p j) (sym h.proposers) in
    let same : shown_in w (LineData.Answer HeadData.Rotations ∷ rest) ≡ shown_of s c.first (rotations_in w rest) (all_needs_in rest) =
    (λ j. record { firsts = firsts j; rotations = rotation_pairs w rest shape j; needs = needs_numbers w rest shape j }) in
    subst (IsCorrespondence w) (sym same) (correspondence (all_needs_in rest) h c.chain.chain c.needs)
  where
    first_is : (p : ℕ) → first_seat_in rest p ≡ first_seat (seating_of w) c.first p
    first_is p =
        let market = is_seating (sound_entries i) in
        first_said_is w rest own p
        ∙ ap (option_map (seat_of (seating_of w)))
        (partner_held (seat_market w).proposers c.first.proposers (firsts_in w rest) (market_held market.market c.chain.chain.from_best.stable.matching) c.first_written p)
        ∙ twice (held c.first.proposers p)
      where
        twice : (o : Option ℕ) → option_map (seat_of (seating_of w)) (option_map (entry (seat_market w).proposers p) o) ≡ option_map (λ i. seat_of (seating_of w) (entry (seat_market w).proposers p i)) o
        twice None = refl
        twice (Some i) = refl

-- the law that the closed sets that are shown correspond to the stable matchings
pub rotations_correspond : RotationsYes → RotationsCorrespond
rotations_correspond meaning w lines i g =
    by_head (λ (ls : List LineData). AreOwn (Two w) ls → IsChainWritten w ls → IsCorrespondence w (shown_in w ls)) g
    (λ rest placed _ own c. correspond w rest i placed own.2 c) (are_own g) (meaning w lines i g)
