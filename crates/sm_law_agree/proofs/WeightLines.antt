-- The lines of an answer of `weight`: what they say, line by line, and their form.
use Rattle.std.proofs.Common.{◌≡◌, ℕ, zero, suc, ◌+◌, ◌==◌, refl, sym, ap, ◌∙◌, eq-eqb, not, Bool, true, false, List, [], ◌∷◌, ◌++◌, length, map, take, Option, None, Some, if◌then◌else◌, subst}
use Rattle.std.specs.Prelude.{◌&&◌, filter_map}
use Rattle.std.specs.List.{flat_map, range_with_len, list_all}
use Rattle.std.proofs.lemmas.Bool.{false≢true}
use Rattle.std.proofs.lemmas.List.FromFn.{length-map-range_with_len}
use Rattle.sm_agents.specs.Written.{Written}
use Rattle.sm_instance.specs.Ranks.{weight_of, second_of}
use Rattle.sm_agents.specs.declared.kinds.Measure.{Measure}
use Rattle.sm_agents.specs.declared.kinds.Side.TheVariants.{Proposers}
use Rattle.sm_market.specs.Matching.{Places}
use Rattle.sm_theory.specs.Net.{cut_of}
use Rattle.sm_theory.specs.Flows.{flow_value}
use Rattle.sm_theory.specs.FlowLines.{amount_on}
use Rattle.sm_theory.specs.declared.flow_lines.FlowLine.{FlowLine}
use Rattle.sm_report.specs.Heads.{HeadData}
use Rattle.sm_report.specs.Lines.{LineData}
use Rattle.sm_answer.specs.Lines.{lines_from}
use Rattle.sm_answer.proofs.AnswerLemmas.{lines_from-same}
use Rattle.sm_seats.specs.SeatMarket.{seat_market}
use Rattle.sm_seats.specs.Seating.{Seating, seating_of}
use Rattle.sm_seats.specs.Levels.{has_two_levels}
use Rattle.sm_seats.specs.ShownNet.{gain_shown, second_gain_shown}
use Rattle.sm_answer.specs.MatchingLines.{pair_line}
use Rattle.sm_answer_rotations.specs.Reduction.{seat_line}
use Rattle.sm_answer_rotations.specs.RotationLines.{first_seat, first_seat_line, rotation_line, needs_line}
use Rattle.sm_answer_rotations.proofs.RotationLemmas.{flat_map_alike, first_shown}
use Rattle.sm_answer_weight.specs.WeightAnswer.{WeightParts, shown_in, net_in, second_net_in, matching_in, in_two, gained_lines, flow_line, second_flow_line, member_numbers, second_figures, weight_lines}
use Rattle.sm_answer_weight.proofs.RightLemmas.{gained_shown}
use Rattle.sm_report.specs.declared.keywords.Keyword.TheVariants as keyword
use Rattle.sm_check_forms.specs.declared.layouts.LayoutPart.{LayoutPart}
use Rattle.sm_check_forms.specs.declared.layouts.LayoutPart.TheVariants.{Blocks}
use Rattle.sm_check_forms.proofs.KeywordLayouts.{behind, is_whole, opening_of}
use Rattle.sm_check_forms.specs.Layouts.{later}
use Rattle.sm_check_clauses.specs.Said.{first_in, rotation_in, rotations_in, needs_in, all_needs_in, flow_in, flows_in, second_flow_in, taken_in, value_in, second_value_in, pair_in, pairs_in}
use Rattle.sm_check_clauses.specs.SeatMatchings.{seat_places_in, first_of}
use Rattle.sm_check_clauses.proofs.AnswerLemmas.{said_same, said_one as said_with}
use Rattle.sm_law_agree.proofs.LineLemmas.{has_word, has_other}
use Rattle.sm_law_agree.proofs.FlowLemmas.{shown_on}
use Rattle.sm_law_agree.proofs.BlockLemmas.{Whole, if_whole}

-- What lines say.

-- beside the first seats and the pairs
pub record Said : Type 0 where
  pub rotations : List (List (ℕ × ℕ))
  pub needs : List (List ℕ)
  pub flows : List FlowLine
  pub second_flows : List FlowLine
  pub taken : List (List ℕ)
  pub values : List ℕ
  pub second_values : List ℕ

-- what these lines say
abbrev pub said_in : Written → List LineData → Said
said_in w lines = record {
  rotations = rotations_in w lines;
  needs = all_needs_in lines;
  flows = flows_in lines;
  second_flows = filter_map second_flow_in lines;
  taken = filter_map taken_in lines;
  values = filter_map value_in lines;
  second_values = filter_map second_value_in lines;
}

-- with what one more line says
abbrev pub grown : {X : Type 0} → List X → Option X → List X
grown xs None = xs
grown xs (Some x) = xs ++ x ∷ []

-- what is said with one more line
abbrev pub with_line : Written → Said → LineData → Said
with_line w d x = record {
  rotations = grown d.rotations (rotation_in w x);
  needs = grown d.needs (needs_in x);
  flows = grown d.flows (flow_in x);
  second_flows = grown d.second_flows (second_flow_in x);
  taken = grown d.taken (taken_in x);
  values = grown d.values (value_in x);
  second_values = grown d.second_values (second_value_in x);
}

one_more : {X : Type 0} (said : LineData → Option X) (lines : List LineData) (x : LineData) → filter_map said (lines ++ x ∷ []) ≡ grown (filter_map said lines) (said x)
one_more {X} said lines x = go (said x) refl
  where
    go : (o : Option X) → said x ≡ o → filter_map said (lines ++ x ∷ []) ≡ grown (filter_map said lines) o
    go None e = said_same said lines x e
    go (Some a) e = said_with said lines x a e

-- the lines above say this, and their first seats give the matching
pub record AreSaid (w : Written) (first : Places) (d : Said) (above : List LineData) : Type 0 where
  pub first_is : first_of w above ≡ first
  pub said_is : said_in w above ≡ d

-- behind one more line
pub said_one : (w : Written) (above : List LineData) (x : LineData) → said_in w (above ++ x ∷ []) ≡ with_line w (said_in w above) x
said_one w above x = λ i. record {
  rotations = one_more (rotation_in w) above x i;
  needs = one_more needs_in above x i;
  flows = one_more flow_in above x i;
  second_flows = one_more second_flow_in above x i;
  taken = one_more taken_in above x i;
  values = one_more value_in above x i;
  second_values = one_more second_value_in above x i;
}

module _ (w : Written) (first : Places) where
  -- behind one more line, which is none of a first seat
  pub said_more : (d : Said) (above : List LineData) (x : LineData) → first_in w x ≡ None → AreSaid w first d above → AreSaid w first (with_line w d x) (above ++ x ∷ [])
  said_more d above x none said = record {
    first_is = ap (seat_places_in (seat_market w)) (said_same (first_in w) above x none) ∙ said.first_is;
    said_is = said_one w above x ∙ ap (λ (d : Said). with_line w d x) said.said_is;
  }

  -- so what holds of it holds of the lines
  pub told : (P : Places → Said → Type 0) (d : Said) (above : List LineData) → AreSaid w first d above → P first d → P (first_of w above) (said_in w above)
  told P d above said p = subst (λ (f : Places). P f (said_in w above)) (sym said.first_is) (subst (P first) (sym said.said_is) p)

  -- and they say no pair
  abbrev pub Early : Said → List LineData → Type 0
  Early d above = AreSaid w first d above × (pairs_in above ≡ [])

  -- behind one more line, which is none of a first seat or a pair, they say what it says too
  pub early_more : (d : Said) (above : List LineData) (x : LineData) → first_in w x ≡ None → pair_in x ≡ None → Early d above → Early (with_line w d x) (above ++ x ∷ [])
  early_more d above x none no_pair said = (said_more d above x none said.0, said_same pair_in above x no_pair ∙ said.1)

  -- the same in other words
  pub early_as : (d e : Said) (above : List LineData) → d ≡ e → Early d above → Early e above
  early_as d e above same said = (record { first_is = said.0.first_is; said_is = said.0.said_is ∙ same }, said.1)

-- What is said behind so many rotations and what so many of them need, behind lines of the flows, and behind the figures.

-- behind so many rotations and what so many of them need
abbrev pub in_blocks : List (List (ℕ × ℕ)) → List (List ℕ) → (j k : ℕ) → Said
in_blocks rotations needs j k =
    record { rotations = take j rotations; needs = take k needs; flows = []; second_flows = []; taken = []; values = []; second_values = [] }

-- a flow as it is shown
abbrev pub shown_flow : WeightParts → List FlowLine → List FlowLine
shown_flow parts flow = map (shown_on (suc (length parts.rotations))) flow

-- behind these lines of the flow
abbrev pub in_flow : WeightParts → List FlowLine → Said
in_flow parts front =
    record { rotations = parts.rotations; needs = parts.needs; flows = shown_flow parts front; second_flows = []; taken = []; values = []; second_values = [] }

-- behind the flow and these lines of the second one
abbrev pub in_second : WeightParts → List FlowLine → Said
in_second parts front = record {
  rotations = parts.rotations;
  needs = parts.needs;
  flows = shown_flow parts parts.flow;
  second_flows = shown_flow parts front;
  taken = [];
  values = [];
  second_values = [];
}

-- behind the flows, the set that is taken, and these values of both
abbrev pub in_figures : WeightParts → (values second_values : List ℕ) → Said
in_figures parts values second_values = record {
  rotations = parts.rotations;
  needs = parts.needs;
  flows = shown_flow parts parts.flow;
  second_flows = shown_flow parts parts.second;
  taken = member_numbers parts.taken (length parts.taken) ∷ [];
  values = values;
  second_values = second_values;
}

-- Blocks of three lines, and of four in two levels.

-- the line of a gain
abbrev pub gain_shown_at : Measure → Written → List (List (ℕ × ℕ)) → ℕ → LineData
gain_shown_at by w rotations k = LineData.Gain (k + 1) (gain_shown by w rotations k)

-- that of a second gain
abbrev pub second_shown_at : Written → List (List (ℕ × ℕ)) → ℕ → LineData
second_shown_at w rotations k = LineData.SecondGain (k + 1) (second_gain_shown w rotations k)

-- the lines of a rotation, of what it needs and of its gains
abbrev pub block_lines : (two : Bool) → Measure → Written → List (List (ℕ × ℕ)) → List (List ℕ) → ℕ → List LineData
block_lines two by w rotations needs k =
    rotation_line (seating_of w) rotations k
    ∷ needs_line needs k
    ∷ gain_shown_at by w rotations k
    ∷ in_two two (second_shown_at w rotations k ∷ [])

-- how many lines a block has
abbrev pub block_size : Bool → ℕ
block_size true = 4
block_size false = 3

-- Their layout, with others behind them, of which none begins a block.
module _ (by : Measure) (w : Written) (rotations : List (List (ℕ × ℕ))) (needs : List (List ℕ)) (part : LayoutPart) (parts : List LayoutPart) where
  abbrev turn_at : (lines place number : ℕ) → LayoutPart
  turn_at lines place number = Blocks (record { lines = lines; place = place; number = number })

  none_whole : (lines k : ℕ) (rest : List LineData) → list_all (has_other keyword.Rotation) rest ≡ true → is_whole ((part ∷ parts) ∷ []) (map opening_of rest) ≡ true
      → is_whole ((turn_at lines 0 (k + 1) ∷ part ∷ parts) ∷ []) (map opening_of rest) ≡ true
  none_whole lines k [] others whole = absurd (false≢true whole)
  none_whole lines k (y ∷ rest) others whole = go (has_word keyword.Rotation y) others
    where
      go : (t : Bool) → (not t && list_all (has_other keyword.Rotation) rest) ≡ true
          → Whole (if t then (if (opening_of y).number == k + 1 then Some (Blocks (later (record { lines = lines; place = 0; number = k + 1 })) ∷ part ∷ parts) else None) else behind (part ∷ parts) (opening_of y)) (map opening_of rest)
      go true f = absurd (false≢true f)
      go false f = whole

  -- the blocks of so many rotations, with others behind them, are a whole answer where these are
  pub blocks_whole : (two : Bool) (rest : List LineData) → list_all (has_other keyword.Rotation) rest ≡ true → is_whole ((part ∷ parts) ∷ []) (map opening_of rest) ≡ true
      → (k n : ℕ) → is_whole ((turn_at (block_size two) 0 (k + 1) ∷ part ∷ parts) ∷ []) (map opening_of (flat_map (block_lines two by w rotations needs) (range_with_len k n) ++ rest)) ≡ true
  blocks_whole two rest others whole k zero = none_whole (block_size two) k rest others whole
  blocks_whole false rest others whole k (suc n) =
      let behind_it = map opening_of (flat_map (block_lines false by w rotations needs) (range_with_len (k + 1) n) ++ rest) in
      let needed = opening_of (needs_line needs k) in
      let gained = opening_of (gain_shown_at by w rotations k) in
      let same : (k + 1 == k + 1) ≡ true = eq-eqb (k + 1) (k + 1) refl in
      if_whole (k + 1 == k + 1) (turn_at 3 1 (k + 1) ∷ part ∷ parts) (needed ∷ gained ∷ behind_it) same
      (if_whole (k + 1 == k + 1) (turn_at 3 2 (k + 1) ∷ part ∷ parts) (gained ∷ behind_it) same
      (if_whole (k + 1 == k + 1) (turn_at 3 0 (k + 1 + 1) ∷ part ∷ parts) behind_it same (blocks_whole false rest others whole (k + 1) n)))
  blocks_whole true rest others whole k (suc n) =
      let behind_it = map opening_of (flat_map (block_lines true by w rotations needs) (range_with_len (k + 1) n) ++ rest) in
      let needed = opening_of (needs_line needs k) in
      let gained = opening_of (gain_shown_at by w rotations k) in
      let second = opening_of (second_shown_at w rotations k) in
      let same : (k + 1 == k + 1) ≡ true = eq-eqb (k + 1) (k + 1) refl in
      if_whole (k + 1 == k + 1) (turn_at 4 1 (k + 1) ∷ part ∷ parts) (needed ∷ gained ∷ second ∷ behind_it) same
      (if_whole (k + 1 == k + 1) (turn_at 4 2 (k + 1) ∷ part ∷ parts) (gained ∷ second ∷ behind_it) same
      (if_whole (k + 1 == k + 1) (turn_at 4 3 (k + 1) ∷ part ∷ parts) (second ∷ behind_it) same
      (if_whole (k + 1 == k + 1) (turn_at 4 0 (k + 1 + 1) ∷ part ∷ parts) behind_it same (blocks_whole true rest others whole (k + 1) n))))

-- The lines that are shown.

-- behind the lines of a flow
abbrev pub taken_line : WeightParts → LineData
taken_line parts = LineData.Taken (member_numbers parts.taken (length parts.taken))

-- the value of the flow
abbrev pub value_of : Measure → Written → WeightParts → ℕ
value_of by w parts = flow_value (net_in by w parts) (amount_on parts.flow)

-- the line of the value
abbrev pub value_line : Measure → Written → WeightParts → LineData
value_line by w parts = LineData.Value (value_of by w parts)

-- the line of the cut
abbrev pub cut_line : Measure → Written → WeightParts → LineData
cut_line by w parts = LineData.Cut (cut_of (net_in by w parts) parts.taken)

-- the line of the total
abbrev pub total_line : Measure → Written → WeightParts → LineData
total_line by w parts = LineData.Total (weight_of by w (matching_in w parts))

-- the value of the second flow
abbrev pub second_value_of : Measure → Written → WeightParts → ℕ
second_value_of by w parts = flow_value (second_net_in by w parts) (amount_on parts.second)

-- the line of that value
abbrev pub second_value_line : Measure → Written → WeightParts → LineData
second_value_line by w parts = LineData.SecondValue (second_value_of by w parts)

-- the line of the second cut
abbrev pub second_cut_line : Measure → Written → WeightParts → LineData
second_cut_line by w parts = LineData.SecondCut (cut_of (second_net_in by w parts) parts.taken)

-- the line of the second total
abbrev pub second_total_line : Measure → Written → WeightParts → LineData
second_total_line by w parts = LineData.SecondTotal (second_of by w (matching_in w parts))

-- the pairs and the end
abbrev pub last_lines : Written → WeightParts → List LineData
last_lines w parts = lines_from (pair_line w (matching_in w parts)) 0 (length w.proposers) ++ LineData.End ∷ []

-- the figures, with the pairs and the end behind them
abbrev pub lines_of_figures : (two : Bool) → Measure → Written → WeightParts → List LineData
lines_of_figures two by w parts =
    taken_line parts ∷ value_line by w parts ∷ cut_line by w parts ∷ total_line by w parts
    ∷ (in_two two (second_figures by w parts) ++ last_lines w parts)

-- the lines of a second flow
abbrev pub second_edges : (two : Bool) → WeightParts → List LineData
second_edges two parts = in_two two (map (second_flow_line (suc (length parts.rotations))) parts.second)

-- all of them
abbrev pub lines_of : (two : Bool) → Measure → Written → WeightParts → List LineData
lines_of two by w parts =
    LineData.Answer (HeadData.Weight by) ∷
    (lines_from (seat_line Proposers (seating_of w) parts.first) 0 (length (seat_market w).proposers)
    ++ (flat_map (block_lines two by w parts.rotations parts.needs) (range_with_len 0 (length parts.rotations))
    ++ (map (flow_line (suc (length parts.rotations))) parts.flow
    ++ (second_edges two parts ++ lines_of_figures two by w parts))))

module _ (by : Measure) (w : Written) (parts : WeightParts) where
  abbrev s : Seating
  s = seating_of w

  pub weight_shown : length parts.first.proposers ≡ length (seat_market w).proposers → weight_lines by w parts ≡ lines_of (has_two_levels by w) by w parts
  weight_shown one =
      let shown = shown_in w parts in
      let n = length s.market.proposers in
      let two = has_two_levels by w in
      let flow = map (flow_line (suc (length parts.rotations))) parts.flow in
      let rest = second_edges two parts ++ lines_of_figures two by w parts in
      let form : List LineData → List LineData → List LineData = (λ x y. LineData.Answer (HeadData.Weight by) ∷ (x ++ (y ++ (flow ++ rest)))) in
      let blocks = flat_map (gained_lines by w parts) (range_with_len 0 (length parts.rotations)) in
      let long : length shown.firsts ≡ n = length-map-range_with_len (first_seat s parts.first) 0 n in
      let firsts = sym (lines_from-same (seat_line Proposers s parts.first) (first_seat_line shown) (first_shown s parts.first parts.rotations parts.needs one) 0 n) in
      ap (λ k. form (lines_from (first_seat_line shown) 0 k) blocks) long ∙ ap (λ x. form x blocks) firsts
      ∙ ap (form (lines_from (seat_line Proposers s parts.first) 0 n)) (flat_map_alike (gained_lines by w parts) (block_lines two by w parts.rotations parts.needs) 0 (length parts.rotations) (λ k l. gained_shown by w parts k))
