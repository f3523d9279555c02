-- At the lines of the flows and at the figures of a right answer of `weight` its clauses hold.
use Rattle.std.proofs.Common.{◌≡◌, ℕ, suc, ◌<◌, ◌≤◌, arith, refl, sym, ap, ◌∙◌, Bool, true, false, List, [], ◌∷◌, ◌++◌, length, map, Option, slice_index_or, subst, append-nil, append_assoc}
use Rattle.std.proofs.lemmas.Bool.{false≢true}
use Rattle.std.proofs.lemmas.List.{map_push}
use Rattle.sm_agents.specs.Written.{Written}
use Rattle.sm_instance.specs.Allowed.{IsAllowed}
use Rattle.sm_agents.specs.declared.kinds.Measure.{Measure}
use Rattle.sm_instance.specs.Ranks.{weight_of, second_of}
use Rattle.sm_market.specs.Lists.{Lists}
use Rattle.sm_market.specs.Matching.{Places}
use Rattle.sm_theory.specs.Chains.{IsCompleteChain}
use Rattle.sm_theory.specs.ClosedSets.{IsClosed, matching_of}
use Rattle.sm_theory.specs.Net.{Net, HasEdge, sink_of, cut_of}
use Rattle.sm_theory.specs.Flows.{IsFlow, IsResidualReach}
use Rattle.sm_theory.specs.FlowLines.{amount_on, amount_from, AreOnNodes, IsNewEdge, IsWithinRoom, IsConserved, AreFlowLines}
use Rattle.sm_theory.specs.declared.flow_lines.FlowLine.{FlowLine}
use Rattle.sm_theory.proofs.Flow.Lines.{flow_of_lines}
use Rattle.sm_report.specs.Lines.{LineData}
use Rattle.sm_report.specs.Texts.{SINK}
use Rattle.sm_seats.specs.SeatMarket.{seat_market}
use Rattle.sm_seats.specs.Seating.{Seating, seating_of, written_of}
use Rattle.sm_seats.specs.Levels.{has_two_levels}
use Rattle.sm_seats.specs.ShownNet.{second_gain_shown, net_shown, second_net_shown}
use Rattle.sm_answer_weight.specs.WeightAnswer.{FillsCut, IsCertificate, AreCertificates, WeightParts, net_in, second_net_in, matching_in, flow_line, second_flow_line, member_numbers}
use Rattle.sm_check_clauses.specs.declared.verdicts.Reason.{Reason}
use Rattle.sm_check_clauses.specs.Said.{pairs_in}
use Rattle.sm_check_clauses.specs.Pairs.{IsWanted, AreAllThere}
use Rattle.sm_check_clauses.specs.Flows.{on_nodes, set_of_numbers, IsAllowedSet, first_level, second_level, TakenHolds, taken_matching}
use Rattle.sm_check_clauses.proofs.LinewiseLemmas.{no_end}
use Rattle.sm_law_agree.proofs.LineLemmas.{Held}
use Rattle.sm_law_agree.proofs.SeatLemmas.{firsts_hold}
use Rattle.sm_law_agree.proofs.FlowLemmas.{shown_on, on_nodes-shown_on, lines_back, front_nodes, here_nodes, new_edge, within_room, none_through, none_through_second, set_of_numbers-member_numbers, number_there}
use Rattle.sm_law_agree.proofs.WeightLines.{Said, with_line, AreSaid, told, Early, early_more, early_as, shown_flow, in_flow, in_second, in_figures, taken_line, value_of, value_line, cut_line, total_line, second_value_of, second_value_line, second_cut_line, second_total_line}
use Rattle.sm_law_agree.proofs.WeightBlocks.{C, chain_holds, flows_hold, of_last, taken_holds, wanted_holds, all_hold_at, none_taken, best_above, none_above, held_more}

-- What stands in an answer of one level, and in one of two.

module _ (net other : Net) (flow second : List FlowLine) (taken : List Bool) where
  -- the flow fills the cut of the set in either
  of_either : (two : Bool) → AreCertificates two net other flow second taken → FillsCut net flow taken
  of_either true c = c.0
  of_either false c = c.0.fills

  of_two : (two : Bool) → two ≡ true → AreCertificates two net other flow second taken → IsCertificate other second taken
  of_two true e c = c.1
  of_two false e c = absurd (false≢true e)

  of_one : (two : Bool) → two ≡ false → AreCertificates two net other flow second taken → IsCertificate net flow taken × (second ≡ [])
  of_one true e c = absurd (false≢true (sym e))
  of_one false e c = c

-- The lines of a flow that fills a cut, as they are read back.
module _ (net : Net) (flow : List FlowLine) (taken : List Bool) (few : net.size < SINK) (fills : FillsCut net flow taken) (through : HasEdge net 0 (sink_of net) → ⊥) where
  abbrev shown : List FlowLine → List FlowLine
  shown lines = map (shown_on (suc net.size)) lines

  abbrev back_on : List FlowLine → List FlowLine
  back_on lines = map (on_nodes net.size) lines

  flow_back : back_on (shown flow) ≡ flow
  flow_back = lines_back net.size flow few fills.lines.nodes

  conserved_back : IsConserved net.size (back_on (shown flow))
  conserved_back = subst (IsConserved net.size) (sym flow_back) (((flow_of_lines net flow fills.lines.nodes).0.0 fills.is_flow).1)

  -- each is on a new edge and within its room
  line_back : (front back : List FlowLine) (x : FlowLine) → front ++ x ∷ back ≡ flow
      → IsNewEdge net (back_on (shown front)) (on_nodes net.size (shown_on (suc net.size) x)) × IsWithinRoom net (on_nodes net.size (shown_on (suc net.size) x))
  line_back front back x is =
      let lines = subst (AreFlowLines net) (sym is) fills.lines in
      let nodes = subst (AreOnNodes (suc (sink_of net))) (sym is) fills.lines.nodes in
      let on = here_nodes net front back x (suc (sink_of net)) nodes in
      let front_back : back_on (shown front) ≡ front = lines_back net.size front few (front_nodes net front back x (suc (sink_of net)) nodes) in
      let x_back : on_nodes net.size (shown_on (suc net.size) x) ≡ x = on_nodes-shown_on net.size x few on.0 on.1 in (
        subst (λ (xs : List FlowLine). IsNewEdge net xs (on_nodes net.size (shown_on (suc net.size) x))) (sym front_back) (subst (IsNewEdge net front) (sym x_back) (new_edge net front back x lines through)),
        subst (IsWithinRoom net) (sym x_back) (within_room net front back x lines (subst (λ (xs : List FlowLine). IsFlow net (amount_on xs)) (sym is) fills.is_flow)),
      )

-- The lines of the flows, and those of what is taken, of the values, the cuts and the weights.

-- the flows and the set that are shown, where the rotations are few
pub record IsRight (w : Written) (by : Measure) (parts : WeightParts) : Type 0 where
  pub few : length parts.rotations < SINK
  pub chain : IsCompleteChain (seat_market w) parts.first parts.rotations
  pub certificates : AreCertificates (has_two_levels by w) (net_in by w parts) (second_net_in by w parts) parts.flow parts.second parts.taken
  pub closed : IsClosed (seat_market w) parts.rotations parts.taken
  pub matching : matching_in w parts ≡ written_of (seating_of w) (matching_of (seat_market w) parts.first parts.rotations parts.taken).proposers
  pub allowed : IsAllowed w (matching_in w parts)

module _ {w : Written} {by : Measure} {parts : WeightParts} (right : IsRight w by parts) where
  abbrev l : Lists
  l = seat_market w

  abbrev s : Seating
  s = seating_of w

  abbrev first : Places
  first = parts.first

  abbrev rotations : List (List (ℕ × ℕ))
  rotations = parts.rotations

  abbrev needs : List (List ℕ)
  needs = parts.needs

  abbrev flow : List FlowLine
  flow = parts.flow

  abbrev second : List FlowLine
  second = parts.second

  abbrev net : Net
  net = net_in by w parts

  abbrev other : Net
  other = second_net_in by w parts

  abbrev m : ℕ
  m = length rotations

  abbrev numbers : List ℕ
  numbers = member_numbers parts.taken (length parts.taken)

  abbrev places : List (Option ℕ)
  places = matching_in w parts

  abbrev value : ℕ
  value = value_of by w parts

  abbrev second_value : ℕ
  second_value = second_value_of by w parts

  -- what is said of the nets, of the flows and of the set
  abbrev net_by : Places → Said → Net
  net_by f d = net_shown by w f d.rotations d.needs

  abbrev flow_by : Said → List FlowLine
  flow_by d = map (on_nodes (length d.rotations)) d.flows

  -- the second net of a flow
  abbrev second_net_on : List FlowLine → Places → List (List (ℕ × ℕ)) → List (List ℕ) → Net
  second_net_on lines f rotations needs = second_net_shown by w f rotations needs (amount_on lines)

  abbrev second_net_by : Places → Said → Net
  second_net_by f d = second_net_on (flow_by d) f d.rotations d.needs

  abbrev second_flow_by : Said → List FlowLine
  second_flow_by d = map (on_nodes (length d.rotations)) d.second_flows

  abbrev set_by : Said → List Bool
  set_by d = set_of_numbers (length d.rotations) (slice_index_or d.taken 0 [])

  abbrev places_by : Places → Said → List Bool → List (Option ℕ)
  places_by f d set = written_of s (matching_of l f d.rotations set).proposers

  -- The certificates.

  fills : FillsCut net flow parts.taken
  fills = of_either net other flow second parts.taken (has_two_levels by w) right.certificates

  -- in two levels
  certified : has_two_levels by w ≡ true → IsCertificate other second parts.taken
  certified two = of_two net other flow second parts.taken (has_two_levels by w) two right.certificates

  -- in one
  alone : has_two_levels by w ≡ false → IsCertificate net flow parts.taken × (second ≡ [])
  alone one = of_one net other flow second parts.taken (has_two_levels by w) one right.certificates

  through : HasEdge net 0 (sink_of net) → ⊥
  through = none_through by w first rotations needs

  second_through : HasEdge other 0 (sink_of other) → ⊥
  second_through = none_through_second net (amount_on flow) (second_gain_shown w rotations) fills.is_flow through

  first_back : map (on_nodes m) (shown_flow parts flow) ≡ flow
  first_back = flow_back net flow parts.taken right.few fills through

  second_back : has_two_levels by w ≡ true → map (on_nodes m) (shown_flow parts second) ≡ second
  second_back two = flow_back other second parts.taken right.few (certified two).fills second_through

  -- the second net of the flow as it is read back
  other_back : other ≡ second_net_on (map (on_nodes m) (shown_flow parts flow)) first rotations needs
  other_back = ap (λ (lines : List FlowLine). second_net_on lines first rotations needs) (sym first_back)

  -- Lines of a flow, one after another.

  module _ (line : FlowLine → LineData) (d : List FlowLine → Said) (lines : List FlowLine)
      (holds : (front back : List FlowLine) (x : FlowLine) → front ++ x ∷ back ≡ lines → (above : List LineData) → Early w first (d front) above → (why : Reason) → C w by above (line x) why)
      (said : (front : List FlowLine) (x : FlowLine) (above : List LineData) → Early w first (d front) above → Early w first (d (front ++ x ∷ [])) (above ++ line x ∷ [])) where
    all_edges_hold : (front back : List FlowLine) → front ++ back ≡ lines → (above : List LineData) → Early w first (d front) above → Held (C w by) (Early w first (d lines)) above (map line back)
    all_edges_hold front [] is above early =
        (tt, subst (Early w first (d lines)) (sym (append-nil above)) (subst (λ (xs : List FlowLine). Early w first (d xs) above) (sym (append-nil front) ∙ is) early))
    all_edges_hold front (x ∷ back) is above early =
        held_more (C w by) (Early w first (d lines)) above (line x) (map line back) (holds front back x is above early)
        (all_edges_hold (front ++ x ∷ []) back (append_assoc front (x ∷ []) back ∙ is) (above ++ line x ∷ []) (said front x above early))

  edge_holds : (front back : List FlowLine) (x : FlowLine) → front ++ x ∷ back ≡ flow → (above : List LineData) → Early w first (in_flow parts front) above → (why : Reason) → C w by above (flow_line (suc m) x) why
  edge_holds front back x is above said =
      let line = flow_line (suc m) x in
      let d = in_flow parts front in
      let it = line_back net flow parts.taken right.few fills through front back x is in
      all_hold_at w by above line (firsts_hold w above line tt (λ _. best_above right.chain d above said.0)) (chain_holds w by above line tt (λ _. none_above right.chain d above said.0 refl) tt)
      (flows_hold w by above line (first_level w by above) tt
      (told w first (λ f d. IsNewEdge (net_by f d) (flow_by d) (on_nodes (length d.rotations) (shown_on (suc m) x))) d above said.0 it.0)
      (told w first (λ f d. IsWithinRoom (net_by f d) (on_nodes (length d.rotations) (shown_on (suc m) x))) d above said.0 it.1) tt tt tt tt tt)
      (λ _. flows_hold w by above line (second_level w by above) tt tt tt tt tt tt tt tt)
      (none_taken w by above line tt (λ e. no_end e)) (wanted_holds w by above line (tt, λ e. no_end e))

  edge_said : (front : List FlowLine) (x : FlowLine) (above : List LineData) → Early w first (in_flow parts front) above → Early w first (in_flow parts (front ++ x ∷ [])) (above ++ flow_line (suc m) x ∷ [])
  edge_said front x above said =
      let more : shown_flow parts front ++ shown_on (suc m) x ∷ [] ≡ shown_flow parts (front ++ x ∷ []) = sym (map_push (shown_on (suc m)) front x) in
      early_as w first (with_line w (in_flow parts front) (flow_line (suc m) x)) (in_flow parts (front ++ x ∷ [])) (above ++ flow_line (suc m) x ∷ [])
      (λ i. record { rotations = rotations; needs = needs; flows = more i; second_flows = []; taken = []; values = []; second_values = [] })
      (early_more w first (in_flow parts front) above (flow_line (suc m) x) refl refl said)

  -- all clauses hold at the lines of the flow
  pub edges_hold : (above : List LineData) → Early w first (in_flow parts []) above → Held (C w by) (Early w first (in_flow parts flow)) above (map (flow_line (suc m)) flow)
  edges_hold above said = all_edges_hold (flow_line (suc m)) (in_flow parts) flow edge_holds edge_said [] flow refl above said

  second_edge_holds : (front back : List FlowLine) (x : FlowLine) → front ++ x ∷ back ≡ second → (above : List LineData) → Early w first (in_second parts front) above → (why : Reason)
      → C w by above (second_flow_line (suc m) x) why
  second_edge_holds front back x is above said =
      let line = second_flow_line (suc m) x in
      let d = in_second parts front in
      let here = on_nodes m (shown_on (suc m) x) in
      all_hold_at w by above line (firsts_hold w above line tt (λ _. best_above right.chain d above said.0)) (chain_holds w by above line tt (λ _. none_above right.chain d above said.0 refl) tt)
      (flows_hold w by above line (first_level w by above) tt tt tt tt tt tt tt tt)
      (λ two.
      let it = line_back other second parts.taken right.few (certified two).fills second_through front back x is in
      let edge = subst (λ (net : Net). IsNewEdge net (map (on_nodes m) (shown_flow parts front)) here) other_back it.0 in
      let room = subst (λ (net : Net). IsWithinRoom net here) other_back it.1 in
      flows_hold w by above line (second_level w by above) tt
      (told w first (λ f d. IsNewEdge (second_net_by f d) (second_flow_by d) (on_nodes (length d.rotations) (shown_on (suc m) x))) d above said.0 edge)
      (told w first (λ f d. IsWithinRoom (second_net_by f d) (on_nodes (length d.rotations) (shown_on (suc m) x))) d above said.0 room) tt tt tt tt tt)
      (none_taken w by above line tt (λ e. no_end e)) (wanted_holds w by above line (tt, λ e. no_end e))

  second_edge_said : (front : List FlowLine) (x : FlowLine) (above : List LineData) → Early w first (in_second parts front) above
      → Early w first (in_second parts (front ++ x ∷ [])) (above ++ second_flow_line (suc m) x ∷ [])
  second_edge_said front x above said =
      let more : shown_flow parts front ++ shown_on (suc m) x ∷ [] ≡ shown_flow parts (front ++ x ∷ []) = sym (map_push (shown_on (suc m)) front x) in
      early_as w first (with_line w (in_second parts front) (second_flow_line (suc m) x)) (in_second parts (front ++ x ∷ [])) (above ++ second_flow_line (suc m) x ∷ [])
      (λ i. record { rotations = rotations; needs = needs; flows = shown_flow parts flow; second_flows = more i; taken = []; values = []; second_values = [] })
      (early_more w first (in_second parts front) above (second_flow_line (suc m) x) refl refl said)

  -- and at those of the second one
  pub second_edges_hold : (above : List LineData) → Early w first (in_second parts []) above → Held (C w by) (Early w first (in_second parts second)) above (map (second_flow_line (suc m)) second)
  second_edges_hold above said = all_edges_hold (second_flow_line (suc m)) (in_second parts) second second_edge_holds second_edge_said [] second refl above said

  -- where there are none in one level, these are said all the same
  pub none_said : has_two_levels by w ≡ false → (above : List LineData) → Early w first (in_second parts []) above → Early w first (in_second parts second) above
  none_said one above said = subst (λ (xs : List FlowLine). Early w first (in_second parts xs) above) (sym (alone one).1) said

  -- The figures.

  size_is : length parts.taken ≡ m
  size_is = right.closed.one_each

  set_is : set_of_numbers m numbers ≡ parts.taken
  set_is = ap (λ n. set_of_numbers m (member_numbers parts.taken n)) size_is ∙ set_of_numbers-member_numbers parts.taken m size_is

  -- the set is the reach of the last flow as it is read back
  first_reach : has_two_levels by w ≡ false → IsResidualReach net (amount_on (map (on_nodes m) (shown_flow parts flow))) (set_of_numbers m numbers)
  first_reach one =
      subst (λ (xs : List FlowLine). IsResidualReach net (amount_on xs) (set_of_numbers m numbers)) (sym first_back) (subst (IsResidualReach net (amount_on flow)) (sym set_is) (alone one).0.reach)

  second_reach : has_two_levels by w ≡ true
      → IsResidualReach (second_net_on (map (on_nodes m) (shown_flow parts flow)) first rotations needs) (amount_on (map (on_nodes m) (shown_flow parts second))) (set_of_numbers m numbers)
  second_reach two =
      subst (λ (net : Net). IsResidualReach net (amount_on (map (on_nodes m) (shown_flow parts second))) (set_of_numbers m numbers)) other_back
      (subst (λ (xs : List FlowLine). IsResidualReach other (amount_on xs) (set_of_numbers m numbers)) (sym (second_back two)) (subst (IsResidualReach other (amount_on second)) (sym set_is) (certified two).reach))

  module _ (above : List LineData) where
    allowed_set : Early w first (in_second parts second) above → IsAllowedSet w above numbers
    allowed_set said = record {
      there = λ i c. told w first (λ f d. i ≤ length d.rotations) (in_second parts second) above said.0 (let le = number_there parts.taken (length parts.taken) i c in omega (arith, le, size_is));
      closed = told w first (λ f d. IsClosed l d.rotations (set_of_numbers (length d.rotations) numbers)) (in_second parts second) above said.0 (subst (IsClosed l rotations) (sym set_is) right.closed);
      allowed = told w first (λ f d. IsAllowed w (places_by f d (set_of_numbers (length d.rotations) numbers))) (in_second parts second) above said.0
          (subst (λ (set : List Bool). IsAllowed w (written_of s (matching_of l first rotations set).proposers)) (sym set_is) (subst (IsAllowed w) right.matching right.allowed));
    }

    -- all clauses hold at the line of the set
    pub taken_line_holds : Early w first (in_second parts second) above → (why : Reason) → C w by above (taken_line parts) why
    taken_line_holds said =
        let x = taken_line parts in
        let d = in_second parts second in
        all_hold_at w by above x (firsts_hold w above x tt (λ _. best_above right.chain d above said.0)) (chain_holds w by above x tt (λ _. none_above right.chain d above said.0 refl) tt)
        (flows_hold w by above x (first_level w by above) tt tt tt
        (told w first (λ f d. IsConserved (length d.rotations) (flow_by d)) d above said.0 (conserved_back net flow parts.taken right.few fills through)) tt tt tt tt)
        (λ two. flows_hold w by above x (second_level w by above) tt tt tt
        (told w first (λ f d. IsConserved (length d.rotations) (second_flow_by d)) d above said.0 (conserved_back other second parts.taken right.few (certified two).fills second_through)) tt tt tt tt)
        (none_taken w by above x (allowed_set said) (λ e. no_end e)) (wanted_holds w by above x (tt, λ e. no_end e))

    -- at that of the value
    pub value_holds : Early w first (in_figures parts [] []) above → (why : Reason) → C w by above (value_line by w parts) why
    value_holds said =
        let x = value_line by w parts in
        let d = in_figures parts [] [] in
        let of_lines : value ≡ amount_from (map (on_nodes m) (shown_flow parts flow)) 0 = (flow_of_lines net flow fills.lines.nodes).1 ∙ ap (λ (xs : List FlowLine). amount_from xs 0) (sym first_back) in
        all_hold_at w by above x (firsts_hold w above x tt (λ _. best_above right.chain d above said.0)) (chain_holds w by above x tt (λ _. none_above right.chain d above said.0 refl) tt)
        (flows_hold w by above x (first_level w by above) tt tt tt tt (told w first (λ f d. value ≡ amount_from (flow_by d) 0) d above said.0 of_lines) tt tt tt)
        (λ _. flows_hold w by above x (second_level w by above) tt tt tt tt tt tt tt tt)
        (none_taken w by above x tt (λ e. no_end e)) (wanted_holds w by above x (tt, λ e. no_end e))

    -- at that of the cut
    pub cut_holds : Early w first (in_figures parts (value ∷ []) []) above → (why : Reason) → C w by above (cut_line by w parts) why
    cut_holds said =
        let x = cut_line by w parts in
        let d = in_figures parts (value ∷ []) [] in
        let cut : cut_of net parts.taken ≡ cut_of net (set_of_numbers m numbers) = ap (cut_of net) (sym set_is) in
        all_hold_at w by above x (firsts_hold w above x tt (λ _. best_above right.chain d above said.0)) (chain_holds w by above x tt (λ _. none_above right.chain d above said.0 refl) tt)
        (flows_hold w by above x (first_level w by above) tt tt tt tt tt
        (told w first (λ f d. cut_of net parts.taken ≡ cut_of (net_by f d) (set_by d)) d above said.0 cut)
        (told w first (λ f d. cut_of net parts.taken ≡ slice_index_or d.values 0 0) d above said.0 (sym fills.full)) tt)
        (λ _. flows_hold w by above x (second_level w by above) tt tt tt tt tt tt tt tt)
        (none_taken w by above x tt (λ e. no_end e)) (wanted_holds w by above x (tt, λ e. no_end e))

    -- the matching of the set
    matching_is : (values second_values : List ℕ) → AreSaid w first (in_figures parts values second_values) above → places ≡ taken_matching w above
    matching_is values second_values said =
        told w first (λ f d. places ≡ places_by f d (set_by d)) (in_figures parts values second_values) above said
        (right.matching ∙ ap (λ (set : List Bool). written_of s (matching_of l first rotations set).proposers) (sym set_is))

    -- at that of the total
    pub total_holds : Early w first (in_figures parts (value ∷ []) []) above → (why : Reason) → C w by above (total_line by w parts) why
    total_holds said =
        let x = total_line by w parts in
        let d = in_figures parts (value ∷ []) [] in
        all_hold_at w by above x (firsts_hold w above x tt (λ _. best_above right.chain d above said.0)) (chain_holds w by above x tt (λ _. none_above right.chain d above said.0 refl) tt)
        (flows_hold w by above x (first_level w by above) tt tt tt tt tt tt tt (ap (weight_of by w) (matching_is (value ∷ []) [] said.0)))
        (λ _. flows_hold w by above x (second_level w by above) tt tt tt tt tt tt tt tt)
        (none_taken w by above x tt (λ e. no_end e)) (wanted_holds w by above x (tt, λ e. no_end e))

    -- at that of the second value
    pub second_value_holds : Early w first (in_figures parts (value ∷ []) []) above → (why : Reason) → C w by above (second_value_line by w parts) why
    second_value_holds said =
        let x = second_value_line by w parts in
        let d = in_figures parts (value ∷ []) [] in
        all_hold_at w by above x (firsts_hold w above x tt (λ _. best_above right.chain d above said.0)) (chain_holds w by above x tt (λ _. none_above right.chain d above said.0 refl) tt)
        (flows_hold w by above x (first_level w by above) tt tt tt tt tt tt tt tt)
        (λ two.
        let of_lines : second_value ≡ amount_from (map (on_nodes m) (shown_flow parts second)) 0 =
        (flow_of_lines other second (certified two).fills.lines.nodes).1 ∙ ap (λ (xs : List FlowLine). amount_from xs 0) (sym (second_back two)) in
        flows_hold w by above x (second_level w by above) tt tt tt tt (told w first (λ f d. second_value ≡ amount_from (second_flow_by d) 0) d above said.0 of_lines) tt tt tt)
        (none_taken w by above x tt (λ e. no_end e)) (wanted_holds w by above x (tt, λ e. no_end e))

    -- at that of the second cut
    pub second_cut_holds : Early w first (in_figures parts (value ∷ []) (second_value ∷ [])) above → (why : Reason) → C w by above (second_cut_line by w parts) why
    second_cut_holds said =
        let x = second_cut_line by w parts in
        let d = in_figures parts (value ∷ []) (second_value ∷ []) in
        let cut : cut_of other parts.taken ≡ cut_of (second_net_on (map (on_nodes m) (shown_flow parts flow)) first rotations needs) (set_of_numbers m numbers) =
        ap (cut_of other) (sym set_is) ∙ ap (λ (net : Net). cut_of net (set_of_numbers m numbers)) other_back in
        all_hold_at w by above x (firsts_hold w above x tt (λ _. best_above right.chain d above said.0)) (chain_holds w by above x tt (λ _. none_above right.chain d above said.0 refl) tt)
        (flows_hold w by above x (first_level w by above) tt tt tt tt tt tt tt tt)
        (λ two. flows_hold w by above x (second_level w by above) tt tt tt tt tt
        (told w first (λ f d. cut_of other parts.taken ≡ cut_of (second_net_by f d) (set_by d)) d above said.0 cut)
        (told w first (λ f d. cut_of other parts.taken ≡ slice_index_or d.second_values 0 0) d above said.0 (sym (certified two).fills.full)) tt)
        (none_taken w by above x tt (λ e. no_end e)) (wanted_holds w by above x (tt, λ e. no_end e))

    -- at that of the second total
    pub second_total_holds : Early w first (in_figures parts (value ∷ []) (second_value ∷ [])) above → (why : Reason) → C w by above (second_total_line by w parts) why
    second_total_holds said =
        let x = second_total_line by w parts in
        let d = in_figures parts (value ∷ []) (second_value ∷ []) in
        all_hold_at w by above x (firsts_hold w above x tt (λ _. best_above right.chain d above said.0)) (chain_holds w by above x tt (λ _. none_above right.chain d above said.0 refl) tt)
        (flows_hold w by above x (first_level w by above) tt tt tt tt tt tt tt tt)
        (λ _. flows_hold w by above x (second_level w by above) tt tt tt tt tt tt tt (ap (second_of by w) (matching_is (value ∷ []) (second_value ∷ []) said.0)))
        (none_taken w by above x tt (λ e. no_end e)) (wanted_holds w by above x (tt, λ e. no_end e))

    module _ (values second_values : List ℕ) where
      -- behind these figures, at the line of a pair which is wanted
      pub pair_holds : AreSaid w first (in_figures parts values second_values) above → (p r : ℕ) → IsWanted w places (pairs_in above) (p, r) → (why : Reason) → C w by above (LineData.Pair p r) why
      pair_holds said p r wanted =
          let x = LineData.Pair p r in
          let d = in_figures parts values second_values in
          all_hold_at w by above x (firsts_hold w above x tt (λ _. best_above right.chain d above said)) (chain_holds w by above x tt (λ _. none_above right.chain d above said refl) tt)
          (flows_hold w by above x (first_level w by above) tt tt tt tt tt tt tt tt) (λ _. flows_hold w by above x (second_level w by above) tt tt tt tt tt tt tt tt)
          (none_taken w by above x tt (λ e. no_end e))
          (wanted_holds w by above x (subst (λ (m : List (Option ℕ)). IsWanted w m (pairs_in above) (p, r)) (matching_is values second_values said) wanted, λ e. no_end e))

      -- at the end, where each matched proposer stands in a pair
      pub end_holds : AreSaid w first (in_figures parts values second_values) above → AreAllThere places (pairs_in above) → (why : Reason) → C w by above LineData.End why
      end_holds said all =
          let x = LineData.End in
          let d = in_figures parts values second_values in
          all_hold_at w by above x (firsts_hold w above x tt (λ _. best_above right.chain d above said)) (chain_holds w by above x tt (λ _. none_above right.chain d above said refl) tt)
          (flows_hold w by above x (first_level w by above) tt tt tt tt tt tt tt tt) (λ _. flows_hold w by above x (second_level w by above) tt tt tt tt tt tt tt tt)
          (of_last w by above x (λ level. (why : Reason) → TakenHolds w level above x why)
          (λ one. taken_holds w by above x (first_level w by above) tt (λ _. told w first (λ f d. IsResidualReach (net_by f d) (amount_on (flow_by d)) (set_by d)) d above said (first_reach one)))
          (λ two. taken_holds w by above x (second_level w by above) tt (λ _. told w first (λ f d. IsResidualReach (second_net_by f d) (amount_on (second_flow_by d)) (set_by d)) d above said (second_reach two))))
          (wanted_holds w by above x (tt, λ _. subst (λ (m : List (Option ℕ)). AreAllThere m (pairs_in above)) (matching_is values second_values said) all))
