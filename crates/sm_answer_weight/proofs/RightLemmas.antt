-- The lines of the answer of `weight` are right.
use Rattle.std.proofs.Common.{◌≡◌, ℕ, suc, ◌+◌, ◌-◌, ◌<◌, Bool, true, false, List, [], ◌∷◌, ◌++◌, length, map, slice_index_or, Option, ℤ, pos, refl, sym, ap, ◌∙◌, subst, arith}
use Rattle.std.specs.List.{flat_map, range_with_len}
use Rattle.std.proofs.lemmas.List.{get_or-map}
use Rattle.std.proofs.lemmas.List.FromFn.{length-map-range_with_len}
use Rattle.sm_answer.specs.Lines.{lines_from}
use Rattle.sm_answer.proofs.AnswerLemmas.{lines_from-same}
use Rattle.sm_agents.specs.Written.{Written}
use Rattle.sm_agents.specs.Sound.{IsInstance}
use Rattle.sm_instance.specs.Ranks.{pair_weight, weight_of as written_weight, second_of}
use Rattle.sm_agents.specs.declared.kinds.Measure.{Measure}
use Rattle.sm_agents.specs.declared.kinds.Side.TheVariants.{Proposers}
use Rattle.sm_market.specs.Lists.{Lists, agents}
use Rattle.sm_market.specs.Matching.{Places}
use Rattle.sm_report.specs.Heads.{HeadData}
use Rattle.sm_report.specs.Lines.{LineData}
use Rattle.sm_theory.specs.Chains.{rotation_at, IsPrintedChain, AreNeeds}
use Rattle.sm_theory.specs.Weights.{gain_of}
use Rattle.sm_theory.specs.SecondNets.{second_net_of}
use Rattle.sm_theory.proofs.Bridge.Chain.{stage_stable}
use Rattle.sm_poset.specs.Posets.{RotationPoset, IsPoset, poset_of}
use Rattle.sm_seats.specs.SeatMarket.{seat_market}
use Rattle.sm_seats.specs.Seating.{Seating, seating_of, written_of, levels_of}
use Rattle.sm_seats.specs.Correspondence.{IsSeating, leveled, weights_of}
use Rattle.sm_seats.specs.Levels.{has_two_levels, pair_second_by, seconds_by}
use Rattle.sm_seats.proofs.LevelLemmas.{none_second}
use Rattle.sm_seats.proofs.SecondLemmas.{read_zero, gain_none, lightest_by_both}
use Rattle.sm_seats.specs.ShownNet.{gain_shown, second_gain_shown}
use Rattle.sm_seats.proofs.GainLemmas.{IsOnLists, exposed_on_lists, gain_at_is, second_gain_at_is}
use Rattle.sm_seats.proofs.ShownNetLemmas.{net_is_shown, second_net_is_shown}
use Rattle.sm_theory.specs.declared.flow_lines.FlowLine.{FlowLine}
use Rattle.sm_weight.specs.Lightest.{IsFullFlow, AreFullFlows, AreZero, IsOfOneLevel, IsLightestFound, set_matching}
use Rattle.sm_theory.specs.Net.{Net}
use Rattle.sm_theory.specs.Flows.{flow_value}
use Rattle.sm_theory.specs.FlowLines.{amount_on}
use Rattle.sm_answer.specs.MatchingLines.{pair_line}
use Rattle.sm_answer_rotations.specs.PairLines.{seated_pair_line}
use Rattle.sm_answer_rotations.specs.Reduction.{seat_line}
use Rattle.sm_answer_rotations.specs.RotationLines.{first_seat_line, first_seat, shown_of}
use Rattle.sm_answer_rotations.specs.GivenLines.{two_lines}
use Rattle.sm_answer_rotations.proofs.ShownLemmas.{matching_is}
use Rattle.sm_answer_rotations.proofs.PairLemmas.{pair_alike}
use Rattle.sm_answer_rotations.proofs.RotationLemmas.{flat_map_alike, lines_shown, first_shown}
use Rattle.sm_answer_weight.specs.WeightAnswer.{FillsCut, AreCertificates, in_two, WeightParts, net_in, second_net_in, matching_in, gained_lines, second_flow_line, second_figures, weight_lines, IsWeightAnswer}
use Rattle.sm_instance.specs.Lightest.{IsLightestByBoth}
use Rattle.sm_answer_weight.specs.Found.{IsLightestOfSeats}
use Rattle.sm_answer_weight.specs.Given.{row_lines, rows_found, edge_line, second_gain_line, weight_given}
use Rattle.sm_theory.specs.declared.flow_lines.FlowLevel.TheVariants.{First, Second}
use Rattle.sm_answer_weight.specs.declared.lightest_parts.Lightest.{Lightest}
use Rattle.sm_answer_weight.proofs.LineLemmas.{figures_are, given_sound}

-- Parts of the lines.

-- the lines of a rotation
pub gained_shown : (by : Measure) (w : Written) (parts : WeightParts) (k : ℕ) → gained_lines by w parts k
    ≡ two_lines (seating_of w) parts.rotations parts.needs k ++ LineData.Gain (k + 1) (gain_shown by w parts.rotations k)
    ∷ in_two (has_two_levels by w) (LineData.SecondGain (k + 1) (second_gain_shown w parts.rotations k) ∷ [])
gained_shown by w parts k =
    ap (λ (t : List LineData). t ++ LineData.Gain (k + 1) (gain_shown by w parts.rotations k) ∷ in_two (has_two_levels by w) (LineData.SecondGain (k + 1) (second_gain_shown w parts.rotations k) ∷ []))
    (sym (lines_shown (seating_of w) parts.first parts.rotations parts.needs k))

-- in one level there are no lines of a second flow
flow_in_two : (two : Bool) (sink : ℕ) (flow : List FlowLine) → (two ≡ false → flow ≡ []) → map (second_flow_line sink) flow ≡ in_two two (map (second_flow_line sink) flow)
flow_in_two true sink flow none = refl
flow_in_two false sink flow none = ap (map (second_flow_line sink)) (none refl)

-- and lines that are the same in two levels are so in either case
of_two : (lines others : List LineData) (two : Bool) → (two ≡ true → lines ≡ others) → in_two two lines ≡ in_two two others
of_two lines others true same = same refl
of_two lines others false same = refl

-- the whole of parts
abbrev glued : LineData → (firsts rows flow second : List LineData) → (taken value cut total : LineData) → (figures pairs : List LineData) → List LineData
glued head firsts rows flow second taken value cut total figures pairs =
    head ∷ (firsts ++ (rows ++ (flow ++ (second ++ (taken ∷ value ∷ cut ∷ total ∷ (figures ++ (pairs ++ LineData.End ∷ [])))))))

glued_alike : (head : LineData) (a a' b b' c c' d d' f f' e e' : List LineData) (t t' v v' k k' z z' : LineData) → a ≡ a' → b ≡ b' → c ≡ c' → d ≡ d' → t ≡ t' → v ≡ v' → k ≡ k' → z ≡ z' → f ≡ f' → e ≡ e'
    → glued head a b c d t v k z f e ≡ glued head a' b' c' d' t' v' k' z' f' e'
glued_alike head a a' b b' c c' d d' f f' e e' t t' v v' k k' z z' ea eb ec ed et ev ek ez ef ee = rw (ea, eb, ec, ed, et, ev, ek, ez, ef, ee) refl

-- What is found, in the market of the seats.

abbrev seated_poset : Written → Lightest → RotationPoset
seated_poset w found = poset_of (seat_market w) found.poset.first found.poset.rotations

abbrev parts_in : Lightest → List (List ℕ) → WeightParts
parts_in found needs = record {
  first = found.poset.first.places;
  rotations = found.poset.rotations;
  needs = needs;
  flow = found.in_market.flow.items;
  second = found.in_market.flow2.items;
  taken = found.in_market.set.members.items;
}

module _ {w : Written} (h : IsSeating w (seating_of w)) (found : Lightest) (f : IsLightestOfSeats w (seating_of w) found) (p : IsPoset found.poset) (needs : List (List ℕ)) (n : AreNeeds found.poset.lists found.poset.rotations needs) where
  same_poset : found.poset ≡ seated_poset w found
  same_poset = ap (λ (l : Lists). poset_of l found.poset.first found.poset.rotations) f.market

  lightest_there : IsLightestFound (seated_poset w found) (levels_of (seating_of w)) (weights_of found.by w (seating_of w)) (seconds_by found.by w (seating_of w)) (leveled w w.forced) (leveled w w.forbidden) found.in_market
  lightest_there = subst (λ (q : RotationPoset). IsLightestFound q (levels_of (seating_of w)) (weights_of found.by w (seating_of w)) (seconds_by found.by w (seating_of w)) (leveled w w.forced) (leveled w w.forbidden) found.in_market) same_poset f.lightest

  needs_there : AreNeeds (seat_market w) found.poset.rotations needs
  needs_there = subst (λ (q : RotationPoset). AreNeeds q.lists q.rotations needs) same_poset n

  printed_there : IsPrintedChain (seat_market w) found.poset.first.places found.poset.rotations
  printed_there = subst (λ (q : RotationPoset). IsPrintedChain q.lists q.first.places q.rotations) same_poset p.printed

  -- the gains are those that are shown
  on_lists : (k : ℕ) → k < length found.poset.rotations → IsOnLists (seat_market w) (rotation_at found.poset.rotations k)
  on_lists k here = exposed_on_lists (stage_stable h.market printed_there.chain k (omega arith)).matching (printed_there.chain.exposed k here)

  gain_there : (k : ℕ) → k < length found.poset.rotations → slice_index_or found.in_market.gains.items k (pos 0) ≡ gain_shown found.by w found.poset.rotations k
  gain_there k here =
      let s = seating_of w in
      let rotations = found.poset.rotations in
      ap (λ (xs : List ℤ). slice_index_or xs k (pos 0)) lightest_there.gains ∙ get_or-map (gain_of (seat_market w) (weights_of found.by w s)) rotations k [] (pos 0) here
      ∙ sym (gain_at_is (pair_weight found.by w) s rotations on_lists k)

  second_gain_there : has_two_levels found.by w ≡ true → (k : ℕ) → k < length found.poset.rotations → slice_index_or found.in_market.gains2.items k (pos 0) ≡ second_gain_shown w found.poset.rotations k
  second_gain_there two k here =
      let s = seating_of w in
      let rotations = found.poset.rotations in
      ap (λ (xs : List ℤ). slice_index_or xs k (pos 0)) lightest_there.gains2 ∙ get_or-map (gain_of (seat_market w) (seconds_by found.by w s)) rotations k [] (pos 0) here
      ∙ sym (second_gain_at_is found.by w s two rotations on_lists k)

  -- what is of the nets by levels is of the nets that are shown
  abbrev second_by_levels : Net
  second_by_levels = second_net_of (seat_market w) (levels_of (seating_of w)) (weights_of found.by w (seating_of w)) (seconds_by found.by w (seating_of w)) (leveled w w.forced) (leveled w w.forbidden) found.poset.first.places found.poset.rotations needs (amount_on found.in_market.flow.items)

  full_there : AreFullFlows (net_in found.by w (parts_in found needs)) second_by_levels found.in_market
  full_there = subst (λ (net : Net). AreFullFlows net second_by_levels found.in_market) (sym (net_is_shown h printed_there.chain found.by needs)) (lightest_there.full needs needs_there)

  both_there : has_two_levels found.by w ≡ true → AreFullFlows (net_in found.by w (parts_in found needs)) (second_net_in found.by w (parts_in found needs)) found.in_market
  both_there two =
      subst (λ (other : Net). AreFullFlows (net_in found.by w (parts_in found needs)) other found.in_market)
      (sym (second_net_is_shown h printed_there.chain found.by two needs (amount_on found.in_market.flow.items))) full_there

  places_there : found.matching.places ≡ set_matching (seated_poset w found) found.in_market.set.members.items
  places_there = f.places ∙ ap (λ (q : RotationPoset). set_matching q found.in_market.set.members.items) same_poset

  -- the matching that is shown of the set
  shown_is : matching_in w (parts_in found needs) ≡ written_of (seating_of w) (set_matching (seated_poset w found) found.in_market.set.members.items).proposers
  shown_is = matching_is h needs printed_there.chain needs_there.each found.in_market.set.members.items

  -- it is the lightest in the instance, too
  lightest_in : IsLightestByBoth found.by w (matching_in w (parts_in found needs))
  lightest_in = subst (IsLightestByBoth found.by w) (sym shown_is)
      (lightest_by_both h found.by (set_matching (seated_poset w found) found.in_market.set.members.items) lightest_there.lightest lightest_there.best)

  -- in one level there are no second gains
  no_gains : has_two_levels found.by w ≡ false → AreZero found.in_market.gains2.items
  no_gains one k =
      let s = seating_of w in
      let weigh = pair_second_by found.by w in
      ap (λ (gains : List ℤ). slice_index_or gains k (pos 0)) lightest_there.gains2
      ∙ read_zero (gain_of (seat_market w) (seconds_by found.by w s)) (gain_none weigh (none_second found.by w one) s (seat_market w)) found.poset.rotations k

  -- so the first flow reaches the set, and there is no second one
  alone_there : has_two_levels found.by w ≡ false → IsOfOneLevel (net_in found.by w (parts_in found needs)) found.in_market
  alone_there is = subst (λ (net : Net). IsOfOneLevel net found.in_market) (sym (net_is_shown h printed_there.chain found.by needs)) (lightest_there.one_level (no_gains is) needs needs_there)

  -- each flow fills the cut of the set
  fills : {net : Net} {flow : List FlowLine} {cut : ℕ} → IsFullFlow net flow found.in_market.set.members.items cut → FillsCut net flow found.in_market.set.members.items
  fills full = record { lines = full.lines; is_flow = full.is_flow; full = full.value ∙ sym full.cut_is }

  certified : (two : Bool) → has_two_levels found.by w ≡ two
      → AreCertificates two (net_in found.by w (parts_in found needs)) (second_net_in found.by w (parts_in found needs)) found.in_market.flow.items found.in_market.flow2.items found.in_market.set.members.items
  certified true is = let both = both_there is in (fills both.first, record { fills = fills both.second; reach = both.reach })
  certified false is = let one = alone_there is in (record { fills = fills full_there.first; reach = one.reach }, one.no_flow)

  -- the lines of one rotation
  rows_shown : (k : ℕ) → k < length found.poset.rotations → row_lines (seating_of w) (rows_found found found.poset.rotations needs) k ≡ gained_lines found.by w (parts_in found needs) k
  rows_shown k here =
      let s = seating_of w in
      let rotations = found.poset.rotations in
      let parts = parts_in found needs in
      let second : in_two (has_two_levels found.by w) (second_gain_line found.in_market.gains2.items k ∷ []) ≡ in_two (has_two_levels found.by w) (LineData.SecondGain (k + 1) (second_gain_shown w parts.rotations k) ∷ []) =
      of_two (second_gain_line found.in_market.gains2.items k ∷ []) (LineData.SecondGain (k + 1) (second_gain_shown w parts.rotations k) ∷ []) (has_two_levels found.by w)
      (λ two. ap (λ z. LineData.SecondGain (k + 1) z ∷ []) (second_gain_there two k here)) in
      ap (λ z. two_lines s rotations needs k ++ LineData.Gain (k + 1) z ∷ in_two found.two_levels (second_gain_line found.in_market.gains2.items k ∷ [])) (gain_there k here)
      ∙ ap (λ two. two_lines s rotations needs k ++ LineData.Gain (k + 1) (gain_shown found.by w rotations k) ∷ in_two two (second_gain_line found.in_market.gains2.items k ∷ [])) f.two_levels
      ∙ ap (λ (lines : List LineData). two_lines s rotations needs k ++ LineData.Gain (k + 1) (gain_shown found.by w rotations k) ∷ lines) second
      ∙ sym (gained_shown found.by w parts k)

  -- the figures of the second level
  second_shown : in_two found.two_levels (LineData.SecondValue found.in_market.cut2 ∷ LineData.SecondCut found.in_market.cut2 ∷ LineData.SecondTotal found.second_total ∷ [])
      ≡ in_two (has_two_levels found.by w) (second_figures found.by w (parts_in found needs))
  second_shown =
      let figures : ℕ → ℕ → ℤ → List LineData = (λ value cut total. LineData.SecondValue value ∷ LineData.SecondCut cut ∷ LineData.SecondTotal total ∷ []) in
      let two = has_two_levels found.by w in
      let value : ℕ = flow_value (second_net_in found.by w (parts_in found needs)) (amount_on found.in_market.flow2.items) in
      ap (λ two. in_two two (figures found.in_market.cut2 found.in_market.cut2 found.second_total)) f.two_levels
      ∙ ap (λ z. in_two two (figures found.in_market.cut2 found.in_market.cut2 z)) (f.second_total ∙ ap (λ (x : Places). second_of found.by w (written_of (seating_of w) x.proposers)) places_there
      ∙ sym (ap (second_of found.by w) shown_is))
      ∙ of_two _ (second_figures found.by w (parts_in found needs)) two (λ is. let both = both_there is in ap (λ v. figures v found.in_market.cut2 (second_of found.by w (matching_in w (parts_in found needs)))) (sym both.second.value)
      ∙ ap (λ k. figures value k (second_of found.by w (matching_in w (parts_in found needs)))) (sym both.second.cut_is))

  -- the lines that are given are those of the answer
  given_is : weight_given (seating_of w) found found.poset.first.places found.poset.rotations needs (suc (length found.poset.rotations)) ≡ weight_lines found.by w (parts_in found needs)
  given_is =
      let s = seating_of w in
      let first = found.poset.first.places in
      let rotations = found.poset.rotations in
      let parts = parts_in found needs in
      let shown = shown_of s first rotations needs in
      let m = set_matching (seated_poset w found) found.in_market.set.members.items in
      let one = printed_there.chain.from_best.stable.matching.proposers.one_each in
      let count : length s.market.proposers - 0 ≡ length (map (first_seat s first) (agents s.market.proposers)) = (let long = length-map-range_with_len (first_seat s first) 0 (length s.market.proposers) in omega arith) in
      let many : length rotations - 0 ≡ length rotations = omega arith in
      let all : length s.market.proposers - 0 ≡ length w.proposers = omega (arith, h.proposers) in
      let sink = suc (length rotations) in
      let two = has_two_levels found.by w in
      ap (λ figures. LineData.Answer (HeadData.Weight found.by) ∷ (lines_from (seat_line Proposers s first) 0 (length s.market.proposers - 0)
      ++ (flat_map (row_lines s (rows_found found rotations needs)) (range_with_len 0 (length rotations - 0))
      ++ (map (edge_line First sink) found.in_market.flow.items ++ (map (edge_line Second sink) found.in_market.flow2.items
      ++ (figures ++ (lines_from (seated_pair_line s found.matching.places) 0 (length s.market.proposers - 0) ++ LineData.End ∷ []))))))) (figures_are found)
      ∙ glued_alike (LineData.Answer (HeadData.Weight found.by)) _ _ _ _ _ _ _ _ _ _ _ _ _ _ _ _ _ _ _ _
      (ap (lines_from (seat_line Proposers s first) 0) count ∙ lines_from-same (seat_line Proposers s first) (first_seat_line shown) (first_shown s first rotations needs one) 0 (length shown.firsts))
      (ap (λ k. flat_map (row_lines s (rows_found found rotations needs)) (range_with_len 0 k)) many
      ∙ flat_map_alike (row_lines s (rows_found found rotations needs)) (gained_lines found.by w parts) 0 (length rotations) (λ k l. rows_shown k (omega (arith, l))))
      refl
      (flow_in_two two sink found.in_market.flow2.items (λ is. (alone_there is).no_flow))
      refl
      (ap (λ v. LineData.Value v) (sym full_there.first.value))
      (ap (λ v. LineData.Cut v) (sym full_there.first.cut_is))
      (ap (λ z. LineData.Total z) (f.total ∙ ap (λ (x : Places). written_weight found.by w (written_of s x.proposers)) places_there ∙ sym (ap (written_weight found.by w) shown_is)))
      second_shown
      (ap (λ (x : Places). lines_from (seated_pair_line s x) 0 (length s.market.proposers - 0)) places_there
      ∙ ap (lines_from (seated_pair_line s m) 0) all
      ∙ lines_from-same (seated_pair_line s m) (pair_line w (written_of s m.proposers)) (pair_alike h m lightest_there.lightest.stable) 0 (length w.proposers)
      ∙ ap (λ (x : List (Option ℕ)). lines_from (pair_line w x) 0 (length w.proposers)) (sym shown_is))

  right_there : IsInstance w → IsWeightAnswer found.by w (weight_given (seating_of w) found found.poset.first.places found.poset.rotations needs (suc (length found.poset.rotations)))
  right_there i = record {
    parts = parts_in found needs;
    printed = printed_there;
    needed = needs_there;
    certificates = certified (has_two_levels found.by w) refl;
    lightest = lightest_in;
    shows = given_is;
    sound = given_sound i h found f p needs (suc (length found.poset.rotations)) n;
  }

-- the lines are a right answer, by the values from which they are read
pub weight_right : (w : Written) (s : Seating) (found : Lightest) (first : Places) (rotations : List (List (ℕ × ℕ))) (needs : List (List ℕ)) (sink : ℕ) → s ≡ seating_of w → IsInstance w → IsSeating w s → IsLightestOfSeats w s found → IsPoset found.poset
    → first ≡ found.poset.first.places → rotations ≡ found.poset.rotations → AreNeeds found.poset.lists found.poset.rotations needs → sink ≡ suc (length found.poset.rotations)
    → IsWeightAnswer found.by w (weight_given s found first rotations needs sink)
weight_right w s found first rotations needs sink is i h f p ef er n es =
    subst (λ (x : Places). IsWeightAnswer found.by w (weight_given s found x rotations needs sink)) (sym ef)
    (subst (λ (x : List (List (ℕ × ℕ))). IsWeightAnswer found.by w (weight_given s found found.poset.first.places x needs sink)) (sym er)
    (subst (λ (x : ℕ). IsWeightAnswer found.by w (weight_given s found found.poset.first.places found.poset.rotations needs x)) (sym es)
    (subst (λ (t : Seating). IsSeating w t → IsLightestOfSeats w t found → IsWeightAnswer found.by w (weight_given t found found.poset.first.places found.poset.rotations needs (suc (length found.poset.rotations)))) (sym is)
    (λ h f. right_there h found f p needs n i) h f)))
