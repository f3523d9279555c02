-- The lines of the answer of `weight` are lines of the instance.
use Rattle.std.proofs.Common.{◌≡◌, ℕ, ◌+◌, ◌-◌, ◌<◌, ◌≤◌, ◌^◌, ◌==◌, Bool, true, false, cond, List, [], ◌∷◌, ◌++◌, length, get_or, map, slice_index_or, Some, ℤ, pos, refl, sym, ap, ◌∙◌, subst, arith}
use Rattle.std.specs.List.{All}
use Rattle.std.specs.Int.RustNames.{unsigned_abs}
use Rattle.std.proofs.lemmas.List.{get_or-map}
use Rattle.std.proofs.lemmas.List.Elements.{All-append, All-cons, All-map}
use Rattle.sm_answer.specs.Lines.{line_or_none, lines_from}
use Rattle.sm_answer.proofs.AnswerLemmas.{lines_each, lines_all, one_all}
use Rattle.sm_agents.specs.Written.{Written}
use Rattle.sm_agents.specs.Sound.{IsInstance}
use Rattle.sm_instance.specs.declared.inputs.Input.{Input}
use Rattle.sm_instance.specs.declared.inputs.Input.TheVariants.{Two}
use Rattle.sm_agents.specs.declared.kinds.Side.TheVariants.{Proposers}
use Rattle.sm_market.specs.Lists.{Lists}
use Rattle.sm_market.specs.Matching.{Places}
use Rattle.sm_market.specs.Stable.{IsStable}
use Rattle.sm_report.specs.Heads.{HeadData}
use Rattle.sm_report.specs.Lines.{LineData}
use Rattle.sm_report.specs.Sound.{IsRotation, IsSmall, IsLineOf}
use Rattle.sm_report.specs.Texts.{SINK}
use Rattle.sm_theory.specs.Chains.{rotation_at, IsPrintedChain, AreNeeds}
use Rattle.sm_theory.specs.Weights.{weight_of, gain_of}
use Rattle.sm_poset.specs.Posets.{IsPoset}
use Rattle.sm_seats.specs.Seating.{Seating, written_of}
use Rattle.sm_seats.specs.Correspondence.{IsSeating, weights_of}
use Rattle.sm_seats.specs.Levels.{seconds_by}
use Rattle.sm_seats.proofs.SecondLemmas.{seconds_alike}
use Rattle.sm_theory.specs.declared.flow_lines.FlowLine.{FlowLine}
use Rattle.sm_weight.proofs.CountLemmas.{pairs_of_few}
use Rattle.sm_answer_rotations.specs.Reduction.{seat_line}
use Rattle.sm_answer_rotations.specs.GivenLines.{two_lines}
use Rattle.sm_answer_rotations.specs.PairLines.{seated_pair_line}
use Rattle.sm_answer_rotations.proofs.PairLemmas.{pair_alike}
use Rattle.sm_answer.proofs.LineLemmas.{end_sound, pair_sound}
use Rattle.sm_answer_rotations.proofs.ReduceLemmas.{seat_sound}
use Rattle.sm_answer_rotations.proofs.RotationLemmas.{both_sound, flat_from}
use Rattle.sm_answer_weight.specs.WeightAnswer.{in_two, shown_node, member_numbers}
use Rattle.sm_answer_weight.specs.Found.{IsLightestOfSeats, IsFlowLine}
use Rattle.sm_answer_weight.specs.Given.{gain_line, second_gain_line, row_lines, rows_found, edge_line, figure_line, figure_count, weight_given}
use Rattle.sm_theory.specs.declared.flow_lines.FlowLevel.{FlowLevel}
use Rattle.sm_theory.specs.declared.flow_lines.FlowLevel.TheVariants.{First, Second}
use Rattle.sm_answer_weight.specs.declared.lightest_parts.Lightest.{Lightest}
use Rattle.sm_answer_weight.proofs.MemberLemmas.{are_rotations}
use Rattle.sm_answer_weight.proofs.SizeLemmas.{gain_size, weight_size}

-- a node as lines name it has 32 bits
shown_small : (sink node : ℕ) → IsSmall node → IsSmall (shown_node sink node)
shown_small sink node small = elim (node == sink) as (λ t. IsSmall (cond t SINK node)) [ true ↦ omega arith | false ↦ small ]

-- a line of a flow
edge_sound : (w : Written) (level : FlowLevel) (sink : ℕ) (line : FlowLine) → IsFlowLine line → IsLineOf (Two w) (edge_line level sink line)
edge_sound w First sink line x = record { printable = tt; seats = λ k d l. absurd (omega arith); numbers = (shown_small sink line.from x.from, shown_small sink line.to x.to, x.amount); head = tt }
edge_sound w Second sink line x = record { printable = tt; seats = λ k d l. absurd (omega arith); numbers = (shown_small sink line.from x.from, shown_small sink line.to x.to, x.amount); head = tt }

-- what stands in two levels alone
all_in_two : (P : LineData → Type 0) (two : Bool) (lines : List LineData) → All P lines → All P (in_two two lines)
all_in_two P true lines all = all
all_in_two P false lines all = λ k d l. absurd (omega arith)

-- the figures of the set that is taken
pub figures_are : (found : Lightest) → lines_from (λ i. Some (figure_line found i)) 0 (figure_count found - 0)
    ≡ LineData.Taken (member_numbers found.in_market.set.members.items (length found.in_market.set.members.items)) ∷ LineData.Value found.in_market.cut ∷ LineData.Cut found.in_market.cut ∷ LineData.Total found.total
    ∷ in_two found.two_levels (LineData.SecondValue found.in_market.cut2 ∷ LineData.SecondCut found.in_market.cut2 ∷ LineData.SecondTotal found.second_total ∷ [])
figures_are found = by_two found.two_levels
  where
    by_two : (two : Bool) → lines_from (λ i. Some (figure_line found i)) 0 (cond two 7 4 - 0)
        ≡ LineData.Taken (member_numbers found.in_market.set.members.items (length found.in_market.set.members.items)) ∷ LineData.Value found.in_market.cut ∷ LineData.Cut found.in_market.cut ∷ LineData.Total found.total
        ∷ in_two two (LineData.SecondValue found.in_market.cut2 ∷ LineData.SecondCut found.in_market.cut2 ∷ LineData.SecondTotal found.second_total ∷ [])
    by_two true = refl
    by_two false = refl

module _ {w : Written} {s : Seating} (i : IsInstance w) (h : IsSeating w s) (found : Lightest) (f : IsLightestOfSeats w s found) (p : IsPoset found.poset) where
  gain_light : (k : ℕ) → k < length found.poset.rotations → unsigned_abs (slice_index_or found.in_market.gains.items k (pos 0)) ≤ 9223372036854775807
  gain_light k here =
      let poset = found.poset in
      let g = gain_of poset.lists (weights_of found.by w s) in
      let is : slice_index_or found.in_market.gains.items k (pos 0) ≡ g (rotation_at poset.rotations k) =
      ap (λ (xs : List ℤ). slice_index_or xs k (pos 0)) f.lightest.gains ∙ get_or-map g poset.rotations k [] (pos 0) here in
      let size = gain_size poset.lists (weights_of found.by w s) f.light (rotation_at poset.rotations k) in
      let few = pairs_of_few p.market p.printed.chain p.limits k here in
      subst (λ z. unsigned_abs z ≤ 9223372036854775807) (sym is) (omega (arith, size, few))

  second_gain_light : (k : ℕ) → k < length found.poset.rotations → unsigned_abs (slice_index_or found.in_market.gains2.items k (pos 0)) ≤ 9223372036854775807
  second_gain_light k here =
      let poset = found.poset in
      let g = gain_of poset.lists (seconds_by found.by w s) in
      let is : slice_index_or found.in_market.gains2.items k (pos 0) ≡ g (rotation_at poset.rotations k) =
      ap (λ (xs : List ℤ). slice_index_or xs k (pos 0)) f.lightest.gains2 ∙ get_or-map g poset.rotations k [] (pos 0) here in
      let size = gain_size poset.lists (seconds_by found.by w s) f.second_light (rotation_at poset.rotations k) in
      let few = pairs_of_few p.market p.printed.chain p.limits k here in
      subst (λ z. unsigned_abs z ≤ 9223372036854775807) (sym is) (omega (arith, size, few))

  total_light : unsigned_abs found.total ≤ 9223372036854775807
  total_light =
      let m = found.matching.places in
      let is : found.total ≡ weight_of s.market (weights_of found.by w s) m = f.total ∙ sym (h.weights found.by m f.made.matching) in
      let size = weight_size s.market (weights_of found.by w s) f.light m in
      let many = ap (λ (l : Lists). length l.proposers) f.market in
      subst (λ z. unsigned_abs z ≤ 9223372036854775807) (sym is) (omega (arith, size, many, p.limits.proposers))

  second_total_light : unsigned_abs found.second_total ≤ 9223372036854775807
  second_total_light =
      let m = found.matching.places in
      let is : found.second_total ≡ weight_of s.market (seconds_by found.by w s) m = f.second_total ∙ sym (seconds_alike h found.by m f.made.matching) in
      let size = weight_size s.market (seconds_by found.by w s) f.second_light m in
      let many = ap (λ (l : Lists). length l.proposers) f.market in
      subst (λ z. unsigned_abs z ≤ 9223372036854775807) (sym is) (omega (arith, size, many, p.limits.proposers))

  stable_there : IsStable s.market found.matching.places
  stable_there =
      let poset = found.poset in
      subst (λ (l : Lists). IsStable l found.matching.places) f.market
      (subst (IsStable poset.lists) (sym f.places) f.lightest.lightest.stable)

  few_taken : length found.in_market.set.members.items < 2 ^ 24
  few_taken = omega (arith, f.lightest.closed.one_each, p.few)

  -- the lines that are given of what was found are lines of the instance
  pub given_sound : (needs : List (List ℕ)) (sink : ℕ) → AreNeeds found.poset.lists found.poset.rotations needs
      → All (IsLineOf (Two w)) (weight_given s found found.poset.first.places found.poset.rotations needs sink)
  given_sound needs sink n =
      let P = IsLineOf (Two w) in
      let poset = found.poset in
      let first = poset.first.places in
      let rotations = poset.rotations in
      let gains = found.in_market.gains.items in
      let m = found.matching.places in
      let printed : IsPrintedChain s.market first rotations = subst (λ (l : Lists). IsPrintedChain l first rotations) f.market p.printed in
      let needed : AreNeeds s.market rotations needs = subst (λ (l : Lists). AreNeeds l rotations needs) f.market n in
      let firsts = lines_each P (seat_line Proposers s first) 0 (length s.market.proposers - 0) (λ q l. seat_sound i h Proposers first printed.chain.from_best.stable.matching q) in
      let numbered : (k : ℕ) → k < length rotations → IsRotation (k + 1) = λ k here. record { least = omega arith; greatest = omega (arith, here, p.few) } in
      let rows = rows_found found rotations needs in
      let blocks = flat_from P (row_lines s rows) 0 (length rotations - 0) (λ k l.
      let here : k < length rotations = omega (arith, l) in
      All-append P (two_lines s rotations needs k) (gain_line gains k ∷ in_two found.two_levels (second_gain_line found.in_market.gains2.items k ∷ [])) (both_sound i h first rotations needs printed.chain p.few needed.each k here)
      (All-cons P (gain_line gains k) (in_two found.two_levels (second_gain_line found.in_market.gains2.items k ∷ []))
      (record { printable = tt; seats = λ k d l. absurd (omega arith); numbers = (numbered k here, gain_light k here); head = tt })
      (all_in_two P found.two_levels (second_gain_line found.in_market.gains2.items k ∷ []) (one_all P (second_gain_line found.in_market.gains2.items k)
      (record { printable = tt; seats = λ k d l. absurd (omega arith); numbers = (numbered k here, second_gain_light k here); head = tt }))))) in
      let flow = All-map P (edge_line First sink) found.in_market.flow.items (λ k d l. edge_sound w First sink (get_or found.in_market.flow.items k d) (f.numbers k d l)) in
      let second_flow = All-map P (edge_line Second sink) found.in_market.flow2.items (λ k d l. edge_sound w Second sink (get_or found.in_market.flow2.items k d) (f.second_numbers k d l)) in
      let taken = LineData.Taken (member_numbers found.in_market.set.members.items (length found.in_market.set.members.items)) in
      let value = LineData.Value found.in_market.cut in
      let cut = LineData.Cut found.in_market.cut in
      let total = LineData.Total found.total in
      let second_value = LineData.SecondValue found.in_market.cut2 in
      let second_cut = LineData.SecondCut found.in_market.cut2 in
      let second_total = LineData.SecondTotal found.second_total in
      let second_figures : All P (second_value ∷ second_cut ∷ second_total ∷ []) =
      All-cons P second_value (second_cut ∷ second_total ∷ []) (record { printable = tt; seats = λ k d l. absurd (omega arith); numbers = found.second_large; head = tt })
      (All-cons P second_cut (second_total ∷ []) (record { printable = tt; seats = λ k d l. absurd (omega arith); numbers = found.second_large; head = tt })
      (one_all P second_total (record { printable = tt; seats = λ k d l. absurd (omega arith); numbers = second_total_light; head = tt }))) in
      let others = in_two found.two_levels (second_value ∷ second_cut ∷ second_total ∷ []) in
      let figures : All P (lines_from (λ i. Some (figure_line found i)) 0 (figure_count found - 0)) =
      subst (λ (t : List LineData). All P t) (sym (figures_are found))
      (All-cons P taken (value ∷ cut ∷ total ∷ others) (record { printable = tt; seats = λ k d l. absurd (omega arith); numbers = are_rotations found.in_market.set.members.items (length found.in_market.set.members.items) few_taken; head = tt })
      (All-cons P value (cut ∷ total ∷ others) (record { printable = tt; seats = λ k d l. absurd (omega arith); numbers = found.large; head = tt })
      (All-cons P cut (total ∷ others) (record { printable = tt; seats = λ k d l. absurd (omega arith); numbers = found.large; head = tt })
      (All-cons P total others (record { printable = tt; seats = λ k d l. absurd (omega arith); numbers = total_light; head = tt })
      (all_in_two P found.two_levels (second_value ∷ second_cut ∷ second_total ∷ []) second_figures))))) in
      let pairs = lines_all P (seated_pair_line s m) (λ p. subst (λ o. All P (line_or_none o)) (sym (pair_alike h m stable_there p)) (pair_sound w (written_of s m.proposers) (h.forgotten m stable_there).matching p)) 0 (length s.market.proposers - 0) in
      let figures_given = lines_from (λ i. Some (figure_line found i)) 0 (figure_count found - 0) in
      let pairs_given = lines_from (seated_pair_line s m) 0 (length s.market.proposers - 0) in
      let ends = LineData.End ∷ [] in
      All-cons P (LineData.Answer (HeadData.Weight found.by)) _ (record { printable = tt; seats = λ k d l. absurd (omega arith); numbers = tt; head = tt })
      (All-append P _ _ firsts (All-append P _ _ blocks (All-append P (map (edge_line First sink) found.in_market.flow.items) (map (edge_line Second sink) found.in_market.flow2.items ++ (figures_given ++ (pairs_given ++ ends))) flow
      (All-append P (map (edge_line Second sink) found.in_market.flow2.items) (figures_given ++ (pairs_given ++ ends)) second_flow (All-append P figures_given (pairs_given ++ ends) figures (All-append P pairs_given ends pairs (one_all P LineData.End (end_sound (Two w)))))))))

-- by the values from which they are read
pub weight_sound : (input : Input) (w : Written) (s : Seating) (found : Lightest) (first : Places) (rotations : List (List (ℕ × ℕ))) (needs : List (List ℕ)) (sink : ℕ) → input ≡ Two w → IsInstance w → IsSeating w s → IsLightestOfSeats w s found
    → IsPoset found.poset → first ≡ found.poset.first.places → rotations ≡ found.poset.rotations → AreNeeds found.poset.lists found.poset.rotations needs
    → All (IsLineOf input) (weight_given s found first rotations needs sink)
weight_sound input w s found first rotations needs sink two i h f p ef er n =
    subst (λ (i : Input). All (IsLineOf i) (weight_given s found first rotations needs sink)) (sym two)
    (subst (λ (x : Places). All (IsLineOf (Two w)) (weight_given s found x rotations needs sink)) (sym ef)
    (subst (λ (x : List (List (ℕ × ℕ))). All (IsLineOf (Two w)) (weight_given s found found.poset.first.places x needs sink)) (sym er) (given_sound i h found f p needs sink n)))
