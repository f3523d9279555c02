-- Layouts by keywords: a means of proofs, in which cases of keywords are told apart by computing. They are those of the definitions,
-- with each word as the keyword that it stands for, and leave the same behind lines.
use Rattle.std.proofs.Common.{◌≡◌, ℕ, ◌==◌, ap, ◌∙◌, refl, Bool, true, false, List, [], ◌∷◌, map, Option, None, Some, option_map, if◌then◌else◌}
use Rattle.std.specs.Prelude.{filter_map}
use Rattle.std.specs.List.{cons_option, list_any}
use Rattle.sm_instance.specs.declared.inputs.Input.{Input}
use Rattle.sm_instance.specs.declared.inputs.Input.TheVariants.{Two, Room}
use Rattle.sm_seats.specs.Levels.{has_two_levels}
use Rattle.sm_report.specs.Heads.{HeadData}
use Rattle.sm_report.specs.Lines.{LineData}
use Rattle.sm_report.specs.Keywords.{keyword_of}
use Rattle.sm_report.specs.Meanings.{look_up, keywords}
use Rattle.sm_report.specs.declared.keywords.Keyword.{Keyword}
use Rattle.sm_report.specs.declared.keywords.Keyword.TheVariants as keyword
use Rattle.sm_check_forms.specs.declared.layouts.LayoutPart.{LayoutPart}
use Rattle.sm_check_forms.specs.declared.layouts.LayoutPart.TheVariants.{One, Many, Blocks}
use Rattle.sm_check_forms.specs.declared.layouts.Opening.{Opening}
use Rattle.sm_check_forms.specs.Keywords.{is_same, word_of}
use Rattle.sm_check_forms.specs.Layouts as words
use Rattle.sm_check_forms.specs.Layouts.{OpeningData, Part, later, is_empty}
use Rattle.sm_check_forms.specs.Layouts.Part.{One as OneWord, Many as ManyWord, Blocks as WordBlocks}
use Rattle.sm_check_forms.specs.Forms.{number_in}
use Rattle.sm_check_forms.specs.Forms as form
use Rattle.sm_check_forms.specs.Lefts.{parts_of, opening_by}
use Rattle.sm_check_forms.proofs.KeywordWords.{same_words, begins_with}

-- What is left behind lines.

-- a line begins with a keyword
abbrev pub begins : Opening → Keyword → Bool
begins line word = is_same line.keyword word

-- the keywords of a block, by their places in it
abbrev pub keyword_at : ℕ → Keyword
keyword_at place =
    if place == 0 then keyword.Rotation
    else (if place == 1 then keyword.Needs else (if place == 2 then keyword.Gain else keyword.SecondGain))

-- what is left of a layout behind a line
abbrev pub behind : List LayoutPart → Opening → Option (List LayoutPart)
behind [] line = None
behind (One word ∷ parts) line = if begins line word then Some parts else None
behind (Many word ∷ parts) line = if begins line word then Some (Many word ∷ parts) else behind parts line
behind (Blocks turn ∷ parts) line =
    if begins line (keyword_at turn.place)
    then (if line.number == turn.number then Some (Blocks (later turn) ∷ parts) else None)
    else (if turn.place == 0 then behind parts line else None)

-- what is left of several layouts behind lines
abbrev pub left_behind : List (List LayoutPart) → List Opening → List (List LayoutPart)
left_behind layouts [] = layouts
left_behind layouts (line ∷ lines) = left_behind (filter_map (λ parts. behind parts line) layouts) lines

-- where no layout is left, none is left behind more lines
pub left_behind-none : (lines : List Opening) → left_behind [] lines ≡ []
left_behind-none [] = refl
left_behind-none (line ∷ lines) = left_behind-none lines

-- the lines are a whole answer in one of the layouts
abbrev pub is_whole : List (List LayoutPart) → List Opening → Bool
is_whole layouts lines = list_any is_empty (left_behind layouts lines)

-- the keyword and the number of a line
abbrev pub opening_of : LineData → Opening
opening_of line = record { keyword = keyword_of line; number = number_in line }

-- The layouts.

abbrev known : Option Keyword → Keyword
known None = keyword.Answer
known (Some word) = word

-- a part by its keyword
abbrev by_keyword : Part → LayoutPart
by_keyword (OneWord word) = One (known (look_up keywords word))
by_keyword (ManyWord word) = Many (known (look_up keywords word))
by_keyword (WordBlocks turn) = Blocks turn

-- a layout by keywords
abbrev pub by_keywords : List Part → List LayoutPart
by_keywords parts = map by_keyword parts

-- the layouts of the definitions
abbrev pub closing : List LayoutPart
closing = by_keywords form.closing

-- any number of blocks of so many lines
abbrev pub blocks_of : ℕ → LayoutPart
blocks_of lines = Blocks (form.first_turn lines)

-- that of pairs
abbrev pub solve_layout : List LayoutPart
solve_layout = by_keywords form.solve_layout

-- that of parties
abbrev pub parties_layout : List LayoutPart
parties_layout = by_keywords form.parties_layout

-- that of `reduced`
abbrev pub reduced_layout : List LayoutPart
reduced_layout = by_keywords form.reduced_layout

-- that of `rotations`
abbrev pub rotations_layout : List LayoutPart
rotations_layout = by_keywords form.rotations_layout

-- that of `list`, with the keyword of its last line
abbrev pub list_layout : Keyword → List LayoutPart
list_layout last = Many keyword.Vector ∷ One last ∷ []

-- that of `regret`
abbrev pub regret_layout : List LayoutPart
regret_layout = by_keywords form.regret_layout

-- that of `weight`
abbrev pub weight_layout : (two : Bool) → List LayoutPart
weight_layout two = by_keywords (form.weight_layout two)

-- that of `meet` and `join`
abbrev pub given_layout : List LayoutPart
given_layout = by_keywords form.given_layout

-- the layouts of an answer behind its head
abbrev pub layouts_of : Input → HeadData → List (List LayoutPart)
layouts_of input head = map by_keywords (form.layouts_of input head)

-- the lines are those of a whole answer
abbrev pub is_placed : (List (List LayoutPart) → List Opening → Bool) → Input → List LineData → Bool
is_placed test input (LineData.Answer head ∷ lines) = test (layouts_of input head) (map opening_of lines)
is_placed test input _ = false

-- They are those by words.

abbrev all_of : List (List LayoutPart) → List (List Part)
all_of layouts = map parts_of layouts

at_place : (place : ℕ) → word_of (keyword_at place) ≡ words.word_at place
unfolding word_of
at_place place = go (place == 0) (place == 1) (place == 2)
  where
    go : (s t u : Bool) → word_of (if s then keyword.Rotation else (if t then keyword.Needs else (if u then keyword.Gain else keyword.SecondGain)))
        ≡ (if s then word_of keyword.Rotation else (if t then word_of keyword.Needs else (if u then word_of keyword.Gain else word_of keyword.SecondGain)))
    go true t u = refl
    go false true u = refl
    go false false true = refl
    go false false false = refl

tested : (s t : Bool) (o p : Option (List LayoutPart)) (q r : Option (List Part)) → s ≡ t → option_map parts_of o ≡ q → option_map parts_of p ≡ r → option_map parts_of (if s then o else p) ≡ (if t then q else r)
tested s true o p q r e a b = ap (λ z. option_map parts_of (if z then o else p)) e ∙ a
tested s false o p q r e a b = ap (λ z. option_map parts_of (if z then o else p)) e ∙ b

behind_same : (parts : List LayoutPart) (line : Opening) → option_map parts_of (behind parts line) ≡ words.behind (parts_of parts) (opening_by line)
behind_same [] line = refl
behind_same (One k ∷ parts) line = tested (begins line k) (words.begins (opening_by line) (word_of k)) (Some parts) None (Some (parts_of parts)) None (same_words line.keyword k) refl refl
behind_same (Many k ∷ parts) line =
    tested (begins line k) (words.begins (opening_by line) (word_of k)) (Some (Many k ∷ parts)) (behind parts line) (Some (parts_of (Many k ∷ parts))) (words.behind (parts_of parts) (opening_by line))
    (same_words line.keyword k) refl (behind_same parts line)
behind_same (Blocks turn ∷ parts) line =
    let next : List LayoutPart = Blocks (later turn) ∷ parts in
    let deep : Option (List Part) = words.behind (parts_of parts) (opening_by line) in
    tested (begins line (keyword_at turn.place)) (words.begins (opening_by line) (words.word_at turn.place)) (if line.number == turn.number then Some next else None) (if turn.place == 0 then behind parts line else None)
    (if line.number == turn.number then Some (parts_of next) else None) (if turn.place == 0 then deep else None)
    (same_words line.keyword (keyword_at turn.place) ∙ ap (λ w. words.begins (opening_by line) w) (at_place turn.place))
    (tested (line.number == turn.number) (line.number == turn.number) (Some next) None (Some (parts_of next)) None refl refl refl)
    (tested (turn.place == 0) (turn.place == 0) (behind parts line) None deep None refl (behind_same parts line) refl)

cons_same : (o : Option (List LayoutPart)) (layouts : List (List LayoutPart)) → all_of (cons_option o layouts) ≡ cons_option (option_map parts_of o) (all_of layouts)
cons_same None layouts = refl
cons_same (Some parts) layouts = refl

filtered : (line : Opening) (layouts : List (List LayoutPart)) → all_of (filter_map (λ parts. behind parts line) layouts) ≡ filter_map (λ parts. words.behind parts (opening_by line)) (all_of layouts)
filtered line [] = refl
filtered line (parts ∷ layouts) =
    cons_same (behind parts line) (filter_map (λ ps. behind ps line) layouts)
    ∙ ap (λ o. cons_option o (all_of (filter_map (λ ps. behind ps line) layouts))) (behind_same parts line)
    ∙ ap (cons_option (words.behind (parts_of parts) (opening_by line))) (filtered line layouts)

left_same : (layouts : List (List LayoutPart)) (lines : List Opening) → all_of (left_behind layouts lines) ≡ words.left_behind (all_of layouts) (map opening_by lines)
left_same layouts [] = refl
left_same layouts (line ∷ lines) = left_same (filter_map (λ parts. behind parts line) layouts) lines ∙ ap (λ left. words.left_behind left (map opening_by lines)) (filtered line layouts)

any_same : (layouts : List (List LayoutPart)) → list_any is_empty layouts ≡ list_any is_empty (all_of layouts)
any_same [] = refl
any_same ([] ∷ layouts) = refl
any_same ((part ∷ parts) ∷ layouts) = any_same layouts

openings_same : (input : Input) (lines : List LineData) → map opening_by (map opening_of lines) ≡ map (form.opening_of input) lines
openings_same input [] = refl
openings_same input (line ∷ lines) =
    let o : OpeningData = form.opening_of input line in
    ap (λ w. let first : OpeningData = record { word = w; number = number_in line } in first ∷ map opening_by (map opening_of lines)) (begins_with input line)
    ∙ ap (λ rest. o ∷ rest) (openings_same input lines)

weight_same : (two : Bool) → parts_of (weight_layout two) ≡ form.weight_layout two
unfolding word_of
weight_same true = refl
weight_same false = refl

layouts_same : (input : Input) (head : HeadData) → all_of (layouts_of input head) ≡ form.layouts_of input head
unfolding word_of
layouts_same (Two w) (HeadData.Weight by) = ap (λ layout. layout ∷ []) (weight_same (has_two_levels by w))
layouts_same (Two w) _ = refl
layouts_same (Room persons) (HeadData.Solve side) = refl
layouts_same (Room persons) _ = refl

-- lines are a whole answer by keywords where they are one by words
pub whole_same : (input : Input) (head : HeadData) (lines : List LineData)
    → is_whole (layouts_of input head) (map opening_of lines) ≡ words.is_whole (form.layouts_of input head) (map (form.opening_of input) lines)
whole_same input head lines =
    any_same (left_behind (layouts_of input head) (map opening_of lines))
    ∙ ap (list_any is_empty)
    (left_same (layouts_of input head) (map opening_of lines) ∙ ap (λ layouts. words.left_behind layouts (map opening_by (map opening_of lines))) (layouts_same input head)
    ∙ ap (words.left_behind (form.layouts_of input head)) (openings_same input lines))

-- the same of all lines, with the head
pub placed_same : (input : Input) (lines : List LineData) → is_placed is_whole input lines ≡ form.is_placed words.is_whole input lines
placed_same input [] = refl
placed_same input (LineData.Answer head ∷ lines) = whole_same input head lines
placed_same input (_ ∷ lines) = refl
