-- A right answer of `weight` gets a yes.
use Rattle.std.proofs.Common.{◌≡◌, ℕ, suc, ◌&&◌, ◌<◌, ◌^◌, arith, refl, sym, ap, ◌∙◌, Bool, true, false, List, [], ◌∷◌, ◌++◌, length, map, take, Option, subst, append-nil}
use Rattle.std.specs.List.{All, list_all, flat_map, range_with_len}
use Rattle.std.proofs.lemmas.List.{take_all}
use Rattle.sm_agents.specs.Written.{Written, entry}
use Rattle.sm_instance.specs.Matching.{IsAssignment}
use Rattle.sm_agents.specs.Sound.{IsInstance}
use Rattle.sm_instance.specs.declared.inputs.Input.TheVariants.{Two}
use Rattle.sm_agents.specs.declared.kinds.Measure.{Measure}
use Rattle.sm_agents.specs.declared.kinds.Side.TheVariants.{Proposers}
use Rattle.sm_market.specs.Matching.{Places}
use Rattle.sm_theory.specs.Chains.{IsPrintedChain, AreNeeds}
use Rattle.sm_theory.specs.ClosedSets.{IsClosed, matching_of}
use Rattle.sm_theory.specs.declared.flow_lines.FlowLine.{FlowLine}
use Rattle.sm_theory.proofs.Bridge.Chain.{eliminable_of}
use Rattle.sm_theory.proofs.Chains.Length.{short_eliminable}
use Rattle.sm_report.specs.Heads.{HeadData}
use Rattle.sm_report.specs.Lines.{LineData}
use Rattle.sm_report.specs.Sound.{IsLineOf}
use Rattle.sm_answer.specs.Lines.{lines_from}
use Rattle.sm_seats.specs.SeatMarket.{seat_market}
use Rattle.sm_seats.specs.SeatEntries.{AreFewSeats}
use Rattle.sm_seats.specs.Seating.{Seating, seating_of, written_of}
use Rattle.sm_seats.proofs.CorrespondenceLaws.{is_seating, sound_entries}
use Rattle.sm_seats.proofs.LawsProved.{few_seats_fit}
use Rattle.sm_seats.specs.Levels.{has_two_levels}
use Rattle.sm_answer_rotations.specs.Reduction.{seat_line}
use Rattle.sm_answer_rotations.proofs.ShownLemmas.{matching_is}
use Rattle.sm_answer_weight.specs.WeightAnswer.{AreCertificates, WeightParts, net_in, second_net_in, matching_in, in_two, shown_node, flow_line, second_flow_line, second_figures}
use Rattle.sm_instance.specs.Lightest.{IsLightestByBoth}
use Rattle.sm_report.specs.declared.keywords.Keyword.{Keyword}
use Rattle.sm_report.specs.declared.keywords.Keyword.TheVariants as keyword
use Rattle.sm_check_forms.specs.declared.layouts.LayoutPart.{LayoutPart}
use Rattle.sm_check_forms.specs.declared.layouts.LayoutPart.TheVariants.{One, Many}
use Rattle.sm_check_forms.proofs.KeywordLayouts.{is_whole, opening_of, blocks_of, closing, weight_layout}
use Rattle.sm_check_forms.specs.Forms.{fits}
use Rattle.sm_check_clauses.specs.declared.verdicts.Reason.{Reason}
use Rattle.sm_check_clauses.specs.Said.{pair_in, pairs_in}
use Rattle.sm_check_clauses.proofs.LinewiseLemmas.{AllHold, all_hold, hold_append}
use Rattle.sm_law_agree.specs.Agree.{GetYes, WeightAgrees}
use Rattle.sm_law_agree.proofs.LineLemmas.{Held, pass_append, map_pass, has_word, has_other, is_whole-group, yes_of}
use Rattle.sm_law_agree.proofs.PairLemmas.{wanted_pair, all_wanted, lines_with, Above, pairs_hold, pairs_pass}
use Rattle.sm_law_agree.proofs.WeightLines.{AreSaid, said_more, Early, early_more, early_as, in_blocks, in_flow, in_second, in_figures, block_lines, block_size, blocks_whole, taken_line, value_of, value_line, cut_line, total_line, second_value_of, second_value_line, second_cut_line, second_total_line, last_lines, lines_of_figures, second_edges, lines_of, weight_shown}
use Rattle.sm_law_agree.proofs.WeightBlocks.{C, head_holds, pass_in_two, firsts_are, blocks_are, firsts_pass, lines_pass, firsts_fit, blocks_fit}
use Rattle.sm_law_agree.proofs.ReachLemmas.{certified_closed}
use Rattle.sm_law_agree.proofs.WeightFigures.{IsRight, edges_hold, second_edges_hold, none_said, taken_line_holds, value_holds, cut_holds, total_holds, second_value_holds, second_cut_holds, second_total_holds, pair_holds, end_holds}

-- The lines of a right answer.

module _ (w : Written) (by : Measure) (parts : WeightParts) (i : IsInstance w) (few : AreFewSeats w) (printed : IsPrintedChain (seat_market w) parts.first parts.rotations) (needed : AreNeeds (seat_market w) parts.rotations parts.needs)
    (certificates : AreCertificates (has_two_levels by w) (net_in by w parts) (second_net_in by w parts) parts.flow parts.second parts.taken) (closed : IsClosed (seat_market w) parts.rotations parts.taken)
    (matching : matching_in w parts ≡ written_of (seating_of w) (matching_of (seat_market w) parts.first parts.rotations parts.taken).proposers) (lightest : IsLightestByBoth by w (matching_in w parts)) where
  abbrev s : Seating
  s = seating_of w

  abbrev first : Places
  first = parts.first

  abbrev rotations : List (List (ℕ × ℕ))
  rotations = parts.rotations

  abbrev needs : List (List ℕ)
  needs = parts.needs

  abbrev flow : List FlowLine
  flow = parts.flow

  abbrev n : ℕ
  n = length (seat_market w).proposers

  abbrev m : ℕ
  m = length rotations

  abbrev places : List (Option ℕ)
  places = matching_in w parts

  abbrev value : ℕ
  value = value_of by w parts

  abbrev second_value : ℕ
  second_value = second_value_of by w parts

  -- a chain is short
  short : m < 2 ^ 24
  short =
      let market = (is_seating (sound_entries i)).market in
      omega (arith, short_eliminable market printed.chain.from_best.stable.matching (eliminable_of printed.chain), (few_seats_fit w i few).proposers.entries)

  right : IsRight w by parts
  right = record { few = omega (arith, short); chain = printed.chain; certificates = certificates; closed = closed; matching = matching; allowed = lightest.allowed }

  -- All lines.

  abbrev head : LineData
  head = LineData.Answer (HeadData.Weight by)

  abbrev firsts : List LineData
  firsts = lines_from (seat_line Proposers s first) 0 n

  abbrev edges : List LineData
  edges = map (flow_line (suc m)) flow

  abbrev others : List LineData
  others = map (second_flow_line (suc m)) parts.second

  abbrev pairs : List LineData
  pairs = lines_with LineData.Pair w places

  assigned : IsAssignment w places
  assigned = lightest.stable.matching.assigned

  all_blocks : in_blocks rotations needs m m ≡ in_flow parts []
  all_blocks =
      let a : take m rotations ≡ rotations = take_all m rotations (omega arith) in
      let b : take m needs ≡ needs = take_all m needs (omega (arith, needed.one_each)) in
      λ i. record { rotations = a i; needs = b i; flows = []; second_flows = []; taken = []; values = []; second_values = [] }

  -- The figures of the second level, and the pairs and the end, wherever they begin.

  pairs_are : (values : List ℕ) (above : List LineData) → Early w first (in_figures parts (value ∷ []) values) above
      → Held (C w by) (Above (C w by) w places pair_in LineData.Pair (λ p r. refl) (AreSaid w first (in_figures parts (value ∷ []) values)) (length w.proposers)) above pairs
  pairs_are values above said =
      pairs_hold (C w by) w places pair_in LineData.Pair (λ p r. refl) (AreSaid w first (in_figures parts (value ∷ []) values))
      (λ above p r k. said_more w first (in_figures parts (value ∷ []) values) above (LineData.Pair p r) refl k)
      (λ above p j k e. pair_holds right above (value ∷ []) values k.1 p (entry w.proposers p j) (wanted_pair i places assigned (pairs_in above) p j k.0 e)) above said.1 said.0

  last_hold : (values : List ℕ) (above : List LineData) → Early w first (in_figures parts (value ∷ []) values) above → AllHold (C w by) above (last_lines w parts)
  last_hold values above said =
      let known = pairs_are values above said in
      let ends : (why : Reason) → C w by (above ++ pairs) LineData.End why = end_holds right (above ++ pairs) (value ∷ []) values known.1.1 (all_wanted i places assigned (pairs_in (above ++ pairs)) known.1.0) in
      hold_append (C w by) above pairs (LineData.End ∷ []) known.0 (ends, tt)

  figures_hold : (two : Bool) (above : List LineData) → Early w first (in_figures parts (value ∷ []) []) above → AllHold (C w by) above (in_two two (second_figures by w parts) ++ last_lines w parts)
  figures_hold false above said = last_hold [] above said
  figures_hold true above said =
      let one = above ++ second_value_line by w parts ∷ [] in
      let two = one ++ second_cut_line by w parts ∷ [] in
      let three = two ++ second_total_line by w parts ∷ [] in
      let d = in_figures parts (value ∷ []) (second_value ∷ []) in
      let said_one : Early w first d one = early_more w first (in_figures parts (value ∷ []) []) above (second_value_line by w parts) refl refl said in
      let said_two : Early w first d two = early_more w first d one (second_cut_line by w parts) refl refl said_one in
      let said_three : Early w first d three = early_more w first d two (second_total_line by w parts) refl refl said_two in
      (second_value_holds right above said, (second_cut_holds right one said_one, (second_total_holds right two said_two, last_hold (second_value ∷ []) three said_three)))

  -- Tests that lines pass from the flow on.

  flow_pass : (test : LineData → Bool) → ((from to amount : ℕ) → test (LineData.Flow from to amount) ≡ true) → list_all test edges ≡ true
  flow_pass test each = map_pass test (flow_line (suc m)) flow (λ (x : FlowLine). each (shown_node (suc m) x.from) (shown_node (suc m) x.to) x.amount)

  others_pass : (test : LineData → Bool) → ((from to amount : ℕ) → test (LineData.SecondFlow from to amount) ≡ true) → list_all test others ≡ true
  others_pass test each = map_pass test (second_flow_line (suc m)) parts.second (λ (x : FlowLine). each (shown_node (suc m) x.from) (shown_node (suc m) x.to) x.amount)

  last_pass : (two : Bool) (test : LineData → Bool) → list_all test (second_figures by w parts) ≡ true → ((p r : ℕ) → test (LineData.Pair p r) ≡ true) → test LineData.End ≡ true
      → list_all test (in_two two (second_figures by w parts) ++ last_lines w parts) ≡ true
  last_pass two test figures pair end =
      pass_append test (in_two two (second_figures by w parts)) (last_lines w parts) (pass_in_two test two (second_figures by w parts) figures)
      (pass_append test pairs (LineData.End ∷ []) (pairs_pass LineData.Pair w places test pair) (ap (λ t. t && true) end))

  -- the layout behind the line of the set
  abbrev figures_parts : Bool → List LayoutPart
  figures_parts true =
      One keyword.Value ∷ One keyword.Cut ∷ One keyword.Total ∷ One keyword.SecondValue ∷ One keyword.SecondCut ∷ One keyword.SecondTotal ∷ Many keyword.Pair ∷ closing
  figures_parts false = One keyword.Value ∷ One keyword.Cut ∷ One keyword.Total ∷ Many keyword.Pair ∷ closing

  pairs_whole : is_whole ((Many keyword.Pair ∷ closing) ∷ []) (map opening_of (last_lines w parts)) ≡ true
  pairs_whole = is_whole-group keyword.Pair (One keyword.End) [] pairs (LineData.End ∷ []) (pairs_pass LineData.Pair w places (has_word keyword.Pair) (λ p r. refl)) refl refl

  module _ (two : Bool) (is : has_two_levels by w ≡ two) where
    abbrev blocks : List LineData
    blocks = flat_map (block_lines two by w rotations needs) (range_with_len 0 m)

    abbrev to_blocks : List LineData
    to_blocks = (head ∷ firsts) ++ blocks

    abbrev to_flow : List LineData
    to_flow = to_blocks ++ edges

    abbrev to_second : List LineData
    to_second = to_flow ++ second_edges two parts

    edges_are : Held (C w by) (Early w first (in_flow parts flow)) to_blocks edges
    edges_are = edges_hold right to_blocks (early_as w first (in_blocks rotations needs m m) (in_flow parts []) to_blocks all_blocks (blocks_are two by i printed needed).1)

    second_are : Held (C w by) (Early w first (in_second parts parts.second)) to_flow (second_edges two parts)
    second_are = by_two two is
      where
        by_two : (two : Bool) → has_two_levels by w ≡ two → Held (C w by) (Early w first (in_second parts parts.second)) to_flow (second_edges two parts)
        by_two true e = second_edges_hold right to_flow edges_are.1
        by_two false e = (tt, subst (Early w first (in_second parts parts.second)) (sym (append-nil to_flow)) (none_said right e to_flow edges_are.1))

    taken_said : Early w first (in_figures parts [] []) (to_second ++ taken_line parts ∷ [])
    taken_said = early_more w first (in_second parts parts.second) to_second (taken_line parts) refl refl second_are.1

    value_said : Early w first (in_figures parts (value ∷ []) []) ((to_second ++ taken_line parts ∷ []) ++ value_line by w parts ∷ [])
    value_said = early_more w first (in_figures parts [] []) (to_second ++ taken_line parts ∷ []) (value_line by w parts) refl refl taken_said

    cut_said : Early w first (in_figures parts (value ∷ []) []) (((to_second ++ taken_line parts ∷ []) ++ value_line by w parts ∷ []) ++ cut_line by w parts ∷ [])
    cut_said = early_more w first (in_figures parts (value ∷ []) []) ((to_second ++ taken_line parts ∷ []) ++ value_line by w parts ∷ []) (cut_line by w parts) refl refl value_said

    abbrev to_figures : List LineData
    to_figures = (((to_second ++ taken_line parts ∷ []) ++ value_line by w parts ∷ []) ++ cut_line by w parts ∷ []) ++ total_line by w parts ∷ []

    total_said : Early w first (in_figures parts (value ∷ []) []) to_figures
    total_said = early_more w first (in_figures parts (value ∷ []) []) (((to_second ++ taken_line parts ∷ []) ++ value_line by w parts ∷ []) ++ cut_line by w parts ∷ []) (total_line by w parts) refl refl cut_said

    all : AllHold (C w by) [] (lines_of two by w parts)
    all = (
      head_holds w by,
      hold_append (C w by) (head ∷ []) firsts (blocks ++ (edges ++ (second_edges two parts ++ lines_of_figures two by w parts))) (firsts_are two by i printed needed).0
          (hold_append (C w by) (head ∷ firsts) blocks (edges ++ (second_edges two parts ++ lines_of_figures two by w parts)) (blocks_are two by i printed needed).0
          (hold_append (C w by) to_blocks edges (second_edges two parts ++ lines_of_figures two by w parts) edges_are.0
          (hold_append (C w by) to_flow (second_edges two parts) (lines_of_figures two by w parts) second_are.0 (
            taken_line_holds right to_second second_are.1,
            (
              value_holds right (to_second ++ taken_line parts ∷ []) taken_said,
              (
                cut_holds right ((to_second ++ taken_line parts ∷ []) ++ value_line by w parts ∷ []) value_said,
                (total_holds right (((to_second ++ taken_line parts ∷ []) ++ value_line by w parts ∷ []) ++ cut_line by w parts ∷ []) cut_said, figures_hold two to_figures total_said),
              ),
            ),
          )))),
    )

    -- Their form.

    fitting : list_all (fits (Two w)) (lines_of two by w parts) ≡ true
    fitting =
        pass_append (fits (Two w)) firsts (blocks ++ (edges ++ (second_edges two parts ++ lines_of_figures two by w parts))) (firsts_fit two by i printed needed)
        (pass_append (fits (Two w)) blocks (edges ++ (second_edges two parts ++ lines_of_figures two by w parts)) (blocks_fit two by i printed needed)
        (pass_append (fits (Two w)) edges (second_edges two parts ++ lines_of_figures two by w parts) (flow_pass (fits (Two w)) (λ from to amount. refl))
        (pass_append (fits (Two w)) (second_edges two parts) (lines_of_figures two by w parts) (pass_in_two (fits (Two w)) two others (others_pass (fits (Two w)) (λ from to amount. refl)))
        (last_pass two (fits (Two w)) refl (λ p r. refl) refl))))

    -- the first seats and the blocks, with the rest behind them
    whole_by : (behind : List LayoutPart) → is_whole ((Many keyword.Flow ∷ behind) ∷ []) (map opening_of (edges ++ (second_edges two parts ++ lines_of_figures two by w parts))) ≡ true
        → is_whole ((Many keyword.First ∷ blocks_of (block_size two) ∷ Many keyword.Flow ∷ behind) ∷ []) (map opening_of (firsts ++ (blocks ++ (edges ++ (second_edges two parts ++ lines_of_figures two by w parts))))) ≡ true
    whole_by behind whole =
        let rest = edges ++ (second_edges two parts ++ lines_of_figures two by w parts) in
        let none : (word : Keyword) → list_all (has_other word) edges ≡ true → list_all (has_other word) others ≡ true → list_all (has_other word) (lines_of_figures two by w parts) ≡ true → list_all (has_other word) rest ≡ true =
        (λ word a b c. pass_append (has_other word) edges (second_edges two parts ++ lines_of_figures two by w parts) a
        (pass_append (has_other word) (second_edges two parts) (lines_of_figures two by w parts) (pass_in_two (has_other word) two others b) c)) in
        is_whole-group keyword.First (blocks_of (block_size two)) (Many keyword.Flow ∷ behind) firsts (blocks ++ rest)
        (firsts_pass two by i printed needed (has_word keyword.First) (λ p k less. refl))
        (pass_append (has_other keyword.First) blocks rest (lines_pass two by i printed needed (has_other keyword.First) (λ k. refl) (λ k. refl) (λ k. refl) (λ k. refl))
        (none keyword.First (flow_pass (has_other keyword.First) (λ from to amount. refl)) (others_pass (has_other keyword.First) (λ from to amount. refl)) (last_pass two (has_other keyword.First) refl (λ p r. refl) refl)))
        (blocks_whole by w rotations needs (Many keyword.Flow) behind two rest
        (none keyword.Rotation (flow_pass (has_other keyword.Rotation) (λ from to amount. refl)) (others_pass (has_other keyword.Rotation) (λ from to amount. refl)) (last_pass two (has_other keyword.Rotation) refl (λ p r. refl) refl))
        whole 0 m)

  -- the whole layout
  whole : (two : Bool) (is : has_two_levels by w ≡ two)
      → is_whole (weight_layout two ∷ []) (map opening_of (firsts ++ (blocks two is ++ (edges ++ (second_edges two parts ++ lines_of_figures two by w parts))))) ≡ true
  whole true is =
      let figures = lines_of_figures true by w parts in
      whole_by true is (Many keyword.SecondFlow ∷ One keyword.Taken ∷ figures_parts true)
      (is_whole-group keyword.Flow (Many keyword.SecondFlow) (One keyword.Taken ∷ figures_parts true) edges (others ++ figures)
      (flow_pass (has_word keyword.Flow) (λ from to amount. refl))
      (pass_append (has_other keyword.Flow) others figures (others_pass (has_other keyword.Flow) (λ from to amount. refl)) (last_pass true (has_other keyword.Flow) refl (λ p r. refl) refl))
      (is_whole-group keyword.SecondFlow (One keyword.Taken) (figures_parts true) others figures
      (others_pass (has_word keyword.SecondFlow) (λ from to amount. refl)) (last_pass true (has_other keyword.SecondFlow) refl (λ p r. refl) refl) pairs_whole))
  whole false is =
      let figures = lines_of_figures false by w parts in
      whole_by false is (One keyword.Taken ∷ figures_parts false)
      (is_whole-group keyword.Flow (One keyword.Taken) (figures_parts false) edges figures
      (flow_pass (has_word keyword.Flow) (λ from to amount. refl)) (last_pass false (has_other keyword.Flow) refl (λ p r. refl) refl) pairs_whole)

  weight_yes : All (IsLineOf (Two w)) (lines_of (has_two_levels by w) by w parts) → GetYes (Two w) (lines_of (has_two_levels by w) by w parts)
  weight_yes sound =
      let two = has_two_levels by w in
      let lines = lines_of two by w parts in
      yes_of (Two w) lines sound (fitting two refl) (whole two refl) (all_hold (C w by) lines (all two refl))

-- the law for `weight`
pub weight_agrees : WeightAgrees
weight_agrees w by lines i few a =
    let is = a.shows ∙ weight_shown by w a.parts a.printed.chain.from_best.stable.matching.proposers.one_each in
    let closed = certified_closed by w a.parts.first a.parts.rotations a.parts.needs a.needed
    (has_two_levels by w) a.parts.flow a.parts.second a.parts.taken a.certificates in
    let matching = matching_is (is_seating (sound_entries i)) a.parts.needs a.printed.chain a.needed.each a.parts.taken in
    subst (GetYes (Two w)) (sym is) (weight_yes w by a.parts i few a.printed a.needed a.certificates closed matching a.lightest (subst (All (IsLineOf (Two w))) is a.sound))
