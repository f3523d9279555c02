-- What a yes on an answer of `weight` means.
use Rattle.std.proofs.Common.{◌≡◌, ℕ, ◌+◌, ◌<◌, ◌≤◌, ◌↔◌, inl, inr, arith, refl, sym, ap, ◌∙◌, Bool, true, false, List, [], ◌∷◌, ◌++◌, length, map, take, Option, Some, None, if◌then◌else◌, subst, append-nil, append_assoc, ℤ}
use Rattle.std.specs.Prelude.{IfSome, filter_map, slice_index, slice_index_or}
use Rattle.std.specs.List.{slice_get}
use Rattle.std.proofs.lemmas.Bool.{false≢true, cases_lt}
use Rattle.std.proofs.lemmas.List.{map-append, get_or_past}
use Rattle.std.proofs.lemmas.List.Elements.{filter_map-append}
use Rattle.sm_lists.specs.Rows.{row}
use Rattle.sm_agents.specs.Written.{Written, lists_of}
use Rattle.sm_agents.specs.Sound.{IsInstance}
use Rattle.sm_instance.specs.Matching.{IsAssignment}
use Rattle.sm_instance.specs.Allowed.{IsAllowed as IsWrittenAllowed}
use Rattle.sm_instance.specs.Ranks.{weight_of as written_weight, second_of}
use Rattle.sm_agents.specs.declared.kinds.Measure.{Measure}
use Rattle.sm_instance.specs.declared.inputs.Input.TheVariants.{Two}
use Rattle.sm_market.specs.Matching.{Places, standing as seat_standing}
use Rattle.sm_market.specs.Stable.{IsStable}
use Rattle.sm_theory.specs.Vectors.{IsAllowed}
use Rattle.sm_theory.specs.ClosedSets.{IsClosed, matching_of}
use Rattle.sm_theory.specs.Net.{Net, HasEdge, cut_of}
use Rattle.sm_theory.specs.Flows.{IsResidualReach, flow_value}
use Rattle.sm_theory.specs.FlowLines.{amount_on, amount_from, IsNewEdge, IsWithinRoom, IsConserved}
use Rattle.sm_theory.specs.Conditions.{net_of, IsNetGround, IsLightestAllowed}
use Rattle.sm_theory.specs.SecondNets.{second_net_of, IsLightestOfTwo}
use Rattle.sm_theory.specs.declared.flow_lines.FlowLine.{FlowLine}
use Rattle.sm_theory.proofs.Chains.Rotations.{sets_are_matchings}
use Rattle.sm_theory.proofs.Flow.Lines.{flow_of_lines, full_cuts_are_unleft}
use Rattle.sm_theory.proofs.Net.Cuts.{cuts_are_allowed}
use Rattle.sm_theory.proofs.Weighing.Lightest.{reach_is_best_lightest}
use Rattle.sm_theory.proofs.Weighing.Second.{certificate_of_two, one_level}
use Rattle.sm_seats.specs.SeatMarket.{seat_market}
use Rattle.sm_seats.specs.Seating.{seating_of, levels_of, written_of}
use Rattle.sm_seats.specs.Correspondence.{weights_of, leveled, IsSeating}
use Rattle.sm_seats.proofs.CorrespondenceLaws.{sound_entries, is_seating}
use Rattle.sm_seats.proofs.MarketLaws.{is_market}
use Rattle.sm_seats.specs.Levels.{has_two_levels, pair_second_by, seconds_by}
use Rattle.sm_seats.specs.ShownNet.{net_shown, second_net_shown}
use Rattle.sm_seats.proofs.LevelLemmas.{none_second}
use Rattle.sm_seats.proofs.SecondLemmas.{weight_none, lightest_by_both}
use Rattle.sm_seats.proofs.ShownNetLemmas.{net_is_shown, second_net_is_shown}
use Rattle.sm_report.specs.Heads.{HeadData}
use Rattle.sm_report.specs.Lines.{LineData}
use Rattle.sm_check_forms.specs.declared.layouts.LayoutPart.{LayoutPart}
use Rattle.sm_check_net.specs.CheckedNets.{AreNumbersBelow}
use Rattle.sm_check_clauses.specs.declared.verdicts.Reason.{Reason}
use Rattle.sm_check_clauses.specs.declared.verdicts.Reason.TheVariants as reason
use Rattle.sm_check_forms.proofs.KeywordLayouts.{is_whole, weight_layout, layouts_of, opening_of}
use Rattle.sm_check_clauses.specs.Said.{first_in, firsts_in, rotation_in, rotations_in, needs_in, all_needs_in, flow_in, flows_in, second_flow_in, taken_in, value_in, cut_in, second_value_in, second_cut_in, pair_in, pairs_in, first_said, is_up_to_firsts, is_up_to_rotations}
use Rattle.sm_check_clauses.specs.SeatMatchings.{seat_places_in, first_of}
use Rattle.sm_check_clauses.specs.Pairs.{IsWanted, AreAllThere}
use Rattle.sm_check_clauses.specs.Flows.{Level, on_nodes, first_level, second_level, last_level, LevelHolds, set_of_numbers, taken_matching}
use Rattle.sm_check_clauses.specs.Judging.{answer, Clauses}
use Rattle.sm_check_weight.proofs.ShownEdges.{shown_edges_on_nodes}
use Rattle.sm_check_weight.proofs.SecondLemmas.{second_edges_on_nodes}
use Rattle.sm_cert.specs.Yes.{ArePairsOf, GetsYes, IsChainWritten, IsFullFlow, IsFullLevel, IsReachOf, HasLightestWeight, WeightYes}
use Rattle.sm_instance.specs.Lightest.{IsLightestByBoth}
use Rattle.sm_cert.proofs.ChosenYes.{AreWanted, none_wanted, one_wanted, all_wanted}
use Rattle.sm_cert.proofs.FlowYes.{IsSoundFlow, no_flow, one_flow}
use Rattle.sm_cert.proofs.GroupLemmas.{AllOut, Begins, Parted, parted_behind, said_up, said_then}
use Rattle.sm_cert.proofs.RotationLines.{rotation_words, rotations_tell, needs_in-none, first_up, rotation_up, Kind, Spot, left_at, Turns, turns, turns_from}
use Rattle.sm_cert.proofs.RotationsYes.{IsGround, HasChain, first_written, ground}
use Rattle.sm_cert.proofs.SeatYes.{first_words, firsts_tell}
use Rattle.sm_cert.proofs.WeightLines.{flow_words, flow_tells, is_up_to_flow, is_up_to_flows, total_words, is_up_to_totals, totals_tell, behind_total, behind_flows, behind_rotations, FourLines, four_lines, ThreeLines, three_lines, no_taken_above, no_value_above, no_second_value_above, one_value, one_cut, one_total, one_second_value, one_second_cut, one_second_total, flows_parted}
use Rattle.sm_cert.proofs.YesLines.{IsRight, by_head, right_two, at_line, at_closing, said_above, grown}

-- What the lines of an answer say of the market of seats.
record Read : Type 0 where
  firsts : List (ℕ × ℕ)
  rotations : List (List (ℕ × ℕ))
  needs : List (List ℕ)
  flows : List FlowLine
  seconds : List FlowLine
  taken : List ℕ

-- A flow that fills the cut of a set.
record IsFilled (net : Net) (lines : List FlowLine) (set : List Bool) : Type 0 where
  sound : IsSoundFlow net lines
  conserved : IsConserved net.size lines
  full : amount_from lines 0 ≡ cut_of net set

full_flow : {net : Net} {lines : List FlowLine} {set : List Bool} → IsFilled net lines set → IsFullFlow net lines set
full_flow {net} {lines} {set} c =
    let of_lines = flow_of_lines net lines c.sound.nodes in
    record { is_flow = of_lines.0.1 (c.sound.within, c.conserved); full = of_lines.1 ∙ c.full }

module _ (w : Written) (by : Measure) where
  abbrev read : List LineData → Read
  read lines = record { firsts = firsts_in w lines; rotations = rotations_in w lines; needs = all_needs_in lines; flows = flows_in lines; seconds = filter_map second_flow_in lines; taken = first_said [] taken_in lines }

  abbrev start_of : Read → Places
  start_of d = seat_places_in (seat_market w) d.firsts

  abbrev net_by : Read → Net
  net_by d = net_shown by w (start_of d) d.rotations d.needs

  abbrev nodes_of : Read → FlowLine → FlowLine
  nodes_of d = on_nodes (length d.rotations)

  abbrev flow_by : Read → List FlowLine
  flow_by d = map (nodes_of d) d.flows

  abbrev second_net_by : Read → Net
  second_net_by d =
      second_net_shown by w (start_of d) d.rotations d.needs (amount_on (flow_by d))

  abbrev second_flow_by : Read → List FlowLine
  second_flow_by d = map (nodes_of d) d.seconds

  abbrev set_by : Read → List Bool
  set_by d = set_of_numbers (length d.rotations) d.taken

  abbrev seats_by : Read → Places
  seats_by d = matching_of (seat_market w) (start_of d) d.rotations (set_by d)

  abbrev places_by : Read → List (Option ℕ)
  places_by d = written_of (seating_of w) (seats_by d).proposers

  -- two that are the same item by item
  alike : (a b : Read) → a.firsts ≡ b.firsts → a.rotations ≡ b.rotations → a.needs ≡ b.needs → a.flows ≡ b.flows → a.seconds ≡ b.seconds → a.taken ≡ b.taken → a ≡ b
  alike a b f r n fl s t = λ i. record { firsts = f i; rotations = r i; needs = n i; flows = fl i; seconds = s i; taken = t i }

  -- The certificate: a closed set whose matching is allowed, and a flow that fills its cut.
  record IsCertified (d : Read) : Type 0 where
    ground : IsNetGround (seat_market w) (levels_of (seating_of w)) (start_of d) d.rotations d.needs
    closed : IsClosed (seat_market w) d.rotations (set_by d)
    allowed : IsWrittenAllowed w (places_by d)
    filled : IsFilled (net_by d) (flow_by d) (set_by d)

  -- in one level the set is what the flow reaches, in two what the second flow reaches, which fills its cut of the second net
  abbrev IsLastReach : Bool → Read → Type 0
  IsLastReach false d = IsResidualReach (net_by d) (amount_on (flow_by d)) (set_by d)
  IsLastReach true d = IsResidualReach (second_net_by d) (amount_on (second_flow_by d)) (set_by d)

  abbrev Reaches : Bool → Read → Type 0
  Reaches false d = IsLastReach false d
  Reaches true d = IsFilled (second_net_by d) (second_flow_by d) (set_by d) × IsLastReach true d

  module _ (h : IsSeating w (seating_of w)) (d : Read) (c : IsCertified d) where
    abbrev IsLightestSeated : Places → Type 0
    IsLightestSeated m = IsLightestOfTwo (seat_market w) (levels_of (seating_of w)) (weights_of by w (seating_of w)) (seconds_by by w (seating_of w)) (leveled w w.forced) (leveled w w.forbidden) m

    abbrev IsBestSeated : Places → Type 0
    IsBestSeated m = (n : Places) → IsLightestSeated n → (p : ℕ) → seat_standing (seat_market w).proposers m.proposers p ≤ seat_standing (seat_market w).proposers n.proposers p

    seats_stable : IsStable (seat_market w) (seats_by d)
    seats_stable = (sets_are_matchings (seat_market w) (start_of d) d.rotations c.ground.market c.ground.chain).stable (set_by d) c.closed

    seats_allowed : IsAllowed (levels_of (seating_of w)) (leveled w w.forced) (leveled w w.forbidden) (seats_by d)
    seats_allowed = (h.allowed (seats_by d) seats_stable.matching).1 c.allowed

    -- the nets by levels are the nets that are shown
    abbrev net_by_levels : Net
    net_by_levels = net_of (seat_market w) (levels_of (seating_of w)) (weights_of by w (seating_of w)) (leveled w w.forced) (leveled w w.forbidden) (start_of d) d.rotations d.needs

    abbrev second_by_levels : Net
    second_by_levels = second_net_of (seat_market w) (levels_of (seating_of w)) (weights_of by w (seating_of w)) (seconds_by by w (seating_of w)) (leveled w w.forced) (leveled w w.forbidden) (start_of d) d.rotations d.needs (amount_on (flow_by d))

    same_net : net_by d ≡ net_by_levels
    same_net = net_is_shown h c.ground.chain by d.needs

    same_second : has_two_levels by w ≡ true → second_net_by d ≡ second_by_levels
    same_second two = second_net_is_shown h c.ground.chain by two d.needs (amount_on (flow_by d))

    is_flow : IsFullFlow net_by_levels (flow_by d) (set_by d)
    is_flow = subst (λ (net : Net). IsFullFlow net (flow_by d) (set_by d)) same_net (full_flow c.filled)

    best_seats : (two : Bool) → has_two_levels by w ≡ two → Reaches two d → IsLightestSeated (seats_by d) × IsBestSeated (seats_by d)
    best_seats true e reaches =
        let second = subst (λ (net : Net). IsFullFlow net (second_flow_by d) (set_by d)) (same_second e) (full_flow reaches.0) in
        let reach = subst (λ (net : Net). IsResidualReach net (amount_on (second_flow_by d)) (set_by d)) (same_second e) reaches.1 in
        certificate_of_two (seat_market w) (levels_of (seating_of w)) (weights_of by w (seating_of w)) (seconds_by by w (seating_of w)) (leveled w w.forced) (leveled w w.forbidden) (start_of d) d.rotations d.needs (amount_on (flow_by d)) (amount_on (second_flow_by d)) (set_by d)
        c.ground c.closed seats_allowed is_flow.is_flow is_flow.full second.is_flow reach second.full
    best_seats false e reach =
        let levels = levels_of (seating_of w) in
        let weights = weights_of by w (seating_of w) in
        let seconds = seconds_by by w (seating_of w) in
        let forced = leveled w w.forced in
        let forbidden = leveled w w.forbidden in
        let cut = (cuts_are_allowed (seat_market w) levels weights forced forbidden (start_of d) d.rotations d.needs (set_by d) c.ground).1 (c.closed, seats_allowed) in
        let unleft = (full_cuts_are_unleft net_by_levels (amount_on (flow_by d)) (set_by d) is_flow.is_flow cut.1).0 is_flow.full in
        let best = reach_is_best_lightest (seat_market w) levels weights forced forbidden (start_of d) d.rotations d.needs (amount_on (flow_by d)) (set_by d) c.ground cut.0 is_flow.is_flow (subst (λ (net : Net). IsResidualReach net (amount_on (flow_by d)) (set_by d)) same_net reach) unleft in
        let one : (m : Places) → IsLightestSeated m ↔ IsLightestAllowed (seat_market w) levels weights forced forbidden m =
        (λ m. one_level (seat_market w) levels weights seconds forced forbidden m (weight_none (pair_second_by by w) (none_second by w e) (seating_of w) (seat_market w))) in
        ((one (seats_by d)).1 best.0, λ n light p. best.1 n ((one n).0 light) p)

    lightest_in : (two : Bool) → has_two_levels by w ≡ two → Reaches two d → IsLightestByBoth by w (places_by d)
    lightest_in two e reaches = let b = best_seats two e reaches in lightest_by_both h by (seats_by d) b.0 b.1

-- The layout.

firsts_out : (two : Bool) → AllOut first_words (behind_rotations two)
firsts_out true = ((refl, refl), ((refl, refl), ((refl, refl), ((refl, refl), ((refl, refl), ((refl, refl), ((refl, refl), ((refl, refl), ((refl, refl), ((refl, refl), ((refl, refl), tt)))))))))))
firsts_out false = ((refl, refl), ((refl, refl), ((refl, refl), ((refl, refl), ((refl, refl), ((refl, refl), ((refl, refl), tt)))))))

firsts_begin : (two : Bool) → Begins first_words (weight_layout two)
firsts_begin true = inl (refl, inr (((refl, refl), (refl, refl), (refl, refl), (refl, refl)), firsts_out true))
firsts_begin false = inl (refl, inr (((refl, refl), (refl, refl), (refl, refl), (refl, refl)), firsts_out false))

-- what stands behind the rotations in these layouts is outside their group
pub flow_out : (two : Bool) → AllOut rotation_words (behind_rotations two)
flow_out true = ((refl, refl), ((refl, refl), ((refl, refl), ((refl, refl), ((refl, refl), ((refl, refl), ((refl, refl), ((refl, refl), ((refl, refl), ((refl, refl), ((refl, refl), tt)))))))))))
flow_out false = ((refl, refl), ((refl, refl), ((refl, refl), ((refl, refl), ((refl, refl), ((refl, refl), ((refl, refl), tt)))))))

rotations_begin : (two : Bool) → Begins rotation_words (weight_layout two)
rotations_begin true = inl (refl, inl ((refl, refl, refl, refl), inr ((flow_out true).0, (flow_out true).1)))
rotations_begin false = inl (refl, inl ((refl, refl, refl, refl), inr ((flow_out false).0, (flow_out false).1)))

-- what stands behind the flow is outside its group
flow_begins : Begins flow_words (weight_layout true)
flow_begins = inl (refl, inl ((refl, refl, refl, refl), inl (refl, inr ((refl, refl), behind))))
  where
    behind : AllOut flow_words (behind_flows true)
    behind = ((refl, refl), ((refl, refl), ((refl, refl), ((refl, refl), ((refl, refl), ((refl, refl), ((refl, refl), ((refl, refl), ((refl, refl), tt)))))))))

totals_begin : (two : Bool) → Begins total_words (weight_layout two)
totals_begin true = inl (refl, inl ((refl, refl, refl, refl), inl (refl, inl (refl, inl (refl, inl (refl, inl (refl, inl (refl, inl (refl, inl (refl, inl (refl, inr ((refl, refl), ((refl, refl), tt)))))))))))))
totals_begin false = inl (refl, inl ((refl, refl, refl, refl), inl (refl, inl (refl, inl (refl, inl (refl, inl (refl, inr ((refl, refl), ((refl, refl), tt)))))))))

-- What isn't said behind the groups.

module _ (w : Written) where
  first_flow : (x : LineData) → is_up_to_flows x ≡ false → first_in w x ≡ None
  first_flow (LineData.First p seat) e = absurd (false≢true (sym e))
  first_flow _ e = refl

  rotation_flow : (x : LineData) → is_up_to_flows x ≡ false → rotation_in w x ≡ None
  rotation_flow (LineData.Rotation i pairs) e = absurd (false≢true (sym e))
  rotation_flow _ e = refl

  first_total : (x : LineData) → is_up_to_totals x ≡ false → first_in w x ≡ None
  first_total (LineData.First p seat) e = absurd (false≢true (sym e))
  first_total _ e = refl

  rotation_total : (x : LineData) → is_up_to_totals x ≡ false → rotation_in w x ≡ None
  rotation_total (LineData.Rotation i pairs) e = absurd (false≢true (sym e))
  rotation_total _ e = refl

needs_flow : (x : LineData) → is_up_to_flows x ≡ false → needs_in x ≡ None
needs_flow (LineData.Needs i needed) e = absurd (false≢true (sym e))
needs_flow _ e = refl

flow_flow : (x : LineData) → is_up_to_flows x ≡ false → flow_in x ≡ None
flow_flow (LineData.Flow from to amount) e = absurd (false≢true (sym e))
flow_flow _ e = refl

second_flow_flow : (x : LineData) → is_up_to_flows x ≡ false → second_flow_in x ≡ None
second_flow_flow (LineData.SecondFlow from to amount) e = absurd (false≢true (sym e))
second_flow_flow _ e = refl

-- behind the first flow
only_flow : (x : LineData) → is_up_to_flow x ≡ false → flow_in x ≡ None
only_flow (LineData.Flow from to amount) e = absurd (false≢true (sym e))
only_flow _ e = refl

needs_total : (x : LineData) → is_up_to_totals x ≡ false → needs_in x ≡ None
needs_total (LineData.Needs i needed) e = absurd (false≢true (sym e))
needs_total _ e = refl

flow_total : (x : LineData) → is_up_to_totals x ≡ false → flow_in x ≡ None
flow_total (LineData.Flow from to amount) e = absurd (false≢true (sym e))
flow_total _ e = refl

second_flow_total : (x : LineData) → is_up_to_totals x ≡ false → second_flow_in x ≡ None
second_flow_total (LineData.SecondFlow from to amount) e = absurd (false≢true (sym e))
second_flow_total _ e = refl

taken_total : (x : LineData) → is_up_to_totals x ≡ false → taken_in x ≡ None
taken_total (LineData.Taken taken) e = absurd (false≢true (sym e))
taken_total _ e = refl

-- the blocks of rotations in one level and in two
abbrev kind_of : Bool → Kind
kind_of true = Kind.twice_gained
kind_of false = Kind.gained

-- behind the head
pub turns_behind : (w : Written) (by : Measure) (two : Bool) (rest : List LineData) → is_whole (weight_layout two ∷ []) (map opening_of rest) ≡ true → Turns w (behind_rotations two) (flow_out two) [] (LineData.Answer (HeadData.Weight by) ∷ rest)
turns_behind w by two rest placed =
    turns_from w (behind_rotations two) (flow_out two) (LineData.Answer (HeadData.Weight by)) refl refl refl
    (turns w (behind_rotations two) (flow_out two) (kind_of two) Spot.firsts (LineData.Answer (HeadData.Weight by) ∷ []) rest (of_layout two placed) refl)
  where
    of_layout : (two : Bool) → is_whole (weight_layout two ∷ []) (map opening_of rest) ≡ true → is_whole (left_at w (behind_rotations two) (flow_out two) (kind_of two) Spot.firsts ∷ []) (map opening_of rest) ≡ true
    of_layout true whole = whole
    of_layout false whole = whole

module _ (w : Written) (by : Measure) (lines : List LineData) (r : IsRight (answer w (HeadData.Weight by)) lines) {two : Bool} (is_two : has_two_levels by w ≡ two) (f : FourLines two lines) where
  -- what is read of the whole answer
  abbrev whole : Read
  whole = record { firsts = firsts_in w lines; rotations = rotations_in w lines; needs = all_needs_in lines; flows = flows_in lines; seconds = filter_map second_flow_in lines; taken = f.taken }

  -- above the lines behind the flows, and one or more of these
  past : {X : Type 0} (said : LineData → Option X) → ((x : LineData) → is_up_to_flows x ≡ false → said x ≡ None) → (more : List LineData) → filter_map said more ≡ [] → filter_map said (f.above ++ more) ≡ filter_map said lines
  past said none more e =
      filter_map-append said f.above more ∙ ap (λ xs. filter_map said f.above ++ xs) e ∙ append-nil (filter_map said f.above) ∙ said_up (flows_parted f) said none

  taken_past : (more : List LineData) → filter_map taken_in (f.above ++ more) ≡ filter_map taken_in more
  taken_past more = filter_map-append taken_in f.above more ∙ ap (λ xs. xs ++ filter_map taken_in more) (no_taken_above f)

  read_past : (more : List LineData) → filter_map (first_in w) more ≡ [] → filter_map (rotation_in w) more ≡ [] → filter_map needs_in more ≡ [] → filter_map flow_in more ≡ [] → filter_map second_flow_in more ≡ [] → first_said [] taken_in more ≡ f.taken
      → read w by (f.above ++ more) ≡ whole
  read_past more a b c d s e =
      alike w by (read w by (f.above ++ more)) whole (past (first_in w) (first_flow w) more a) (past (rotation_in w) (rotation_flow w) more b) (past needs_in needs_flow more c) (past flow_in flow_flow more d)
      (past second_flow_in second_flow_flow more s) (ap (λ (xs : List (List ℕ)). slice_index_or xs 0 []) (taken_past more) ∙ e)

  taken_all : first_said [] taken_in lines ≡ f.taken
  taken_all = ap (first_said [] taken_in) f.is ∙ ap (λ (xs : List (List ℕ)). slice_index_or xs 0 []) (taken_past (LineData.Taken f.taken ∷ LineData.Value f.value ∷ LineData.Cut f.cut ∷ LineData.Total f.total ∷ f.below))

  read_all : whole ≡ read w by lines
  read_all = alike w by whole (read w by lines) refl refl refl refl refl (sym taken_all)

  read_closing : read w by r.front ≡ whole
  read_closing =
      alike w by (read w by r.front) whole (said_above (first_in w) r refl) (said_above (rotation_in w) r refl) (said_above needs_in r refl) (said_above flow_in r refl) (said_above second_flow_in r refl)
      (ap (λ (xs : List (List ℕ)). slice_index_or xs 0 []) (said_above taken_in r refl) ∙ taken_all)

  abbrev one : List LineData
  one = LineData.Taken f.taken ∷ []

  abbrev up_to_value : List LineData
  up_to_value = LineData.Taken f.taken ∷ LineData.Value f.value ∷ []

  abbrev up_to_cut : List LineData
  up_to_cut = LineData.Taken f.taken ∷ LineData.Value f.value ∷ LineData.Cut f.cut ∷ []

  abbrev up_to_total : List LineData
  up_to_total = LineData.Taken f.taken ∷ LineData.Value f.value ∷ LineData.Cut f.cut ∷ LineData.Total f.total ∷ []

  -- a line behind some of those behind the flows
  at_more : (more : List LineData) (x : LineData) (rest : List LineData) → LineData.Taken f.taken ∷ LineData.Value f.value ∷ LineData.Cut f.cut ∷ LineData.Total f.total ∷ f.below ≡ more ++ x ∷ rest → (why : Reason) → Clauses (answer w (HeadData.Weight by)) (f.above ++ more) x why
  at_more more x rest is why = at_line r (f.above ++ more) x rest (f.is ∙ ap (λ (ls : List LineData). f.above ++ ls) is ∙ sym (append_assoc f.above more (x ∷ rest))) why

  at_taken : (why : Reason) → Clauses (answer w (HeadData.Weight by)) f.above (LineData.Taken f.taken) why
  at_taken why = at_line r f.above (LineData.Taken f.taken) (LineData.Value f.value ∷ LineData.Cut f.cut ∷ LineData.Total f.total ∷ f.below) f.is why

  at_value : (why : Reason) → Clauses (answer w (HeadData.Weight by)) (f.above ++ one) (LineData.Value f.value) why
  at_value = at_more one (LineData.Value f.value) (LineData.Cut f.cut ∷ LineData.Total f.total ∷ f.below) refl

  at_cut : (why : Reason) → Clauses (answer w (HeadData.Weight by)) (f.above ++ up_to_value) (LineData.Cut f.cut) why
  at_cut = at_more up_to_value (LineData.Cut f.cut) (LineData.Total f.total ∷ f.below) refl

  at_total : (why : Reason) → Clauses (answer w (HeadData.Weight by)) (f.above ++ up_to_cut) (LineData.Total f.total) why
  at_total = at_more up_to_cut (LineData.Total f.total) f.below refl

  -- at the line with the set, as if that were said before
  read_taken : record { firsts = firsts_in w f.above; rotations = rotations_in w f.above; needs = all_needs_in f.above; flows = flows_in f.above; seconds = filter_map second_flow_in f.above; taken = f.taken } ≡ whole
  read_taken =
      let p = flows_parted f in
      alike w by _ whole (said_up p (first_in w) (first_flow w)) (said_up p (rotation_in w) (rotation_flow w)) (said_up p needs_in needs_flow) (said_up p flow_in flow_flow) (said_up p second_flow_in second_flow_flow) refl

  closed : IsClosed (seat_market w) (rotations_in w lines) (set_by w by whole)
  closed = subst (λ (d : Read). IsClosed (seat_market w) d.rotations (set_by w by d)) read_taken (at_taken reason.NotClosed).4.closed

  allowed : IsWrittenAllowed w (places_by w by whole)
  allowed = subst (λ (d : Read). IsWrittenAllowed w (places_by w by d)) read_taken (at_taken reason.NotClosed).4.allowed

  conserved : IsConserved (length (rotations_in w lines)) (flow_by w by whole)
  conserved = subst (λ (d : Read). IsConserved (length d.rotations) (flow_by w by d)) read_taken (at_taken reason.NotConserved).2

  value_is : f.value ≡ amount_from (flow_by w by whole) 0
  value_is = subst (λ (d : Read). f.value ≡ amount_from (flow_by w by d) 0) (read_past one refl refl refl refl refl refl) (at_value reason.WrongValue).2

  cut_is : f.cut ≡ cut_of (net_by w by whole) (set_by w by whole)
  cut_is = subst (λ (d : Read). f.cut ≡ cut_of (net_by w by d) (set_by w by d)) (read_past up_to_value refl refl refl refl refl refl) (at_cut reason.WrongCut).2

  total_is : f.total ≡ written_weight by w (places_by w by whole)
  total_is = subst (λ (d : Read). f.total ≡ written_weight by w (places_by w by d)) (read_past up_to_cut refl refl refl refl refl refl) (at_total reason.WrongTotal).2

  full : amount_from (flow_by w by whole) 0 ≡ cut_of (net_by w by whole) (set_by w by whole)
  full =
      let said : filter_map value_in (f.above ++ up_to_value) ≡ f.value ∷ [] = filter_map-append value_in f.above up_to_value ∙ ap (λ xs. xs ++ f.value ∷ []) (no_value_above f) in
      let same : f.cut ≡ f.value = (at_cut reason.CutDiffers).2 ∙ ap (λ (xs : List ℕ). slice_index_or xs 0 0) said in
      sym value_is ∙ sym same ∙ cut_is

  -- the last level of an answer
  level_is : (above : List LineData) (b : Bool) → two ≡ b → last_level w by above ≡ (if b then second_level w by above else first_level w by above)
  level_is above b e = ap (λ (c : Bool). if c then second_level w by above else first_level w by above) (is_two ∙ e)

  -- the set is the reach in the net of the last level
  last_reach : (b : Bool) → two ≡ b → IsLastReach w by b whole
  last_reach b e = go b (subst (λ (level : Level). IsReachOf w level r.front) (level_is r.front b e) ((at_closing r reason.NotLeast).4 refl))
    where
      go : (b : Bool) → IsReachOf w (if b then second_level w by r.front else first_level w by r.front) r.front → IsLastReach w by b whole
      go true h = subst (λ (d : Read). IsLastReach w by true d) read_closing h
      go false h = subst (λ (d : Read). IsLastReach w by false d) read_closing h

  -- the clauses of the second level
  second_clause : two ≡ true → (above : List LineData) (x : LineData) (why : Reason) → Clauses (answer w (HeadData.Weight by)) above x why → LevelHolds w (second_level w by above) above x why
  second_clause e above x why h = subst (λ (level : Level). LevelHolds w level above x why) (level_is above true e) h.3

  -- The lines of a flow.
  module _ (net : Net) (said : LineData → Option FlowLine) (ends : (line : FlowLine) → HasEdge net line.from line.to → (line.from < length (rotations_in w lines) + 2) × (line.to < length (rotations_in w lines) + 2)) (sized : net.size ≡ length (rotations_in w lines)) where
    abbrev IsNextFlow : List FlowLine → FlowLine → Type 0
    IsNextFlow flows x = IsNewEdge net (map (nodes_of w by whole) flows) (nodes_of w by whole x) × IsWithinRoom net (nodes_of w by whole x)

    abbrev AreSound : List FlowLine → Type 0
    AreSound flows = IsSoundFlow net (map (nodes_of w by whole) flows)

    one_sound : (flows : List FlowLine) (x : FlowLine) → AreSound flows → IsNextFlow flows x → AreSound (flows ++ x ∷ [])
    one_sound flows x k n =
        let there = ends (nodes_of w by whole x) n.0.edge in
        subst (IsSoundFlow net) (sym (map-append (nodes_of w by whole) flows (x ∷ [])))
        (one_flow net (map (nodes_of w by whole) flows) (nodes_of w by whole x) k n.0 n.1 (omega (arith, there.0, sized)) (omega (arith, there.1, sized)))

    all_sound : ((k : ℕ) → IfSome (slice_get lines k) (λ line. IfSome (said line) (IsNextFlow (filter_map said (take k lines))))) → AreSound (filter_map said lines)
    all_sound each = grown said AreSound IsNextFlow lines (no_flow net) one_sound each

  module _ (q : Parted is_up_to_rotations lines) (made : IsNetGround (seat_market w) (levels_of (seating_of w)) (start_of w by whole) (rotations_in w lines) (all_needs_in lines)) where
    needs_below : AreNumbersBelow (length (rotations_in w lines)) (all_needs_in lines)
    needs_below = record { below = each }
      where
        each : (j a : ℕ) → a < length (row (all_needs_in lines) j) → slice_index (row (all_needs_in lines) j) a < length (rotations_in w lines)
        each j a less = elim (cases_lt j (length (rotations_in w lines))) [
          | inl here ↦ let sound = (made.each j here).sound a less in omega (arith, sound, here)
          | inr past ↦ absurd (let none = ap (λ (xs : List ℕ). length xs) (get_or_past (all_needs_in lines) j [] (omega (arith, past, made.one_each))) in omega (arith, none, less))
        ]

    first_ends : (line : FlowLine) → HasEdge (net_by w by whole) line.from line.to → (line.from < length (rotations_in w lines) + 2) × (line.to < length (rotations_in w lines) + 2)
    first_ends line edge =
        shown_edges_on_nodes by w (start_of w by whole) (rotations_in w lines) (all_needs_in lines) made.one_each needs_below line.from line.to edge

    flow_then : (k : ℕ) (x : LineData) → slice_get lines k ≡ Some x → Clauses (answer w (HeadData.Weight by)) (take k lines) x reason.NoEdge → Clauses (answer w (HeadData.Weight by)) (take k lines) x reason.OverRoom
        → IfSome (flow_in x) (IsNextFlow (net_by w by whole) flow_in first_ends refl (flows_in (take k lines)))
    flow_then k (LineData.Flow from to amount) e a b =
        let x = LineData.Flow from to amount in
        let line : FlowLine = record { from = from; to = to; amount = amount } in
        let same : record { firsts = firsts_in w (take k lines); rotations = rotations_in w (take k lines); needs = all_needs_in (take k lines); flows = flows_in lines; seconds = filter_map second_flow_in lines; taken = f.taken } ≡ whole =
        alike w by _ whole (said_then q (first_in w) (first_up w) k x e refl) (said_then q (rotation_in w) (rotation_up w) k x e refl) (said_then q needs_in needs_in-none k x e refl) refl refl refl in
        subst (λ (d : Read). IsNewEdge (net_by w by d) (map (nodes_of w by d) (flows_in (take k lines))) (nodes_of w by d line) × IsWithinRoom (net_by w by d) (nodes_of w by d line)) same (a.2, b.2)
    flow_then k _ e a b = tt

    flow_at : (k : ℕ) → IfSome (slice_get lines k) (λ line. IfSome (flow_in line) (IsNextFlow (net_by w by whole) flow_in first_ends refl (flows_in (take k lines))))
    flow_at k = go (slice_get lines k) refl (r.holds k reason.NoEdge) (r.holds k reason.OverRoom)
      where
        go : (o : Option LineData) → slice_get lines k ≡ o → IfSome o (λ line. Clauses (answer w (HeadData.Weight by)) (take k lines) line reason.NoEdge) → IfSome o (λ line. Clauses (answer w (HeadData.Weight by)) (take k lines) line reason.OverRoom)
            → IfSome o (λ line. IfSome (flow_in line) (IsNextFlow (net_by w by whole) flow_in first_ends refl (flows_in (take k lines))))
        go None e a b = tt
        go (Some x) e a b = flow_then k x e a b

    sound : IsSoundFlow (net_by w by whole) (flow_by w by whole)
    sound = all_sound (net_by w by whole) flow_in first_ends refl flow_at

    certified : IsCertified w by whole
    certified = record {
      ground = made;
      closed = closed;
      allowed = allowed;
      filled = record { sound = sound; conserved = conserved; full = full };
    }

    -- The second level.
    module _ (e : two ≡ true) (p : Parted is_up_to_flow lines) (t : ThreeLines f.below) where
      second_ends : (line : FlowLine) → HasEdge (second_net_by w by whole) line.from line.to → (line.from < length (rotations_in w lines) + 2) × (line.to < length (rotations_in w lines) + 2)
      second_ends line edge =
          second_edges_on_nodes by w (start_of w by whole) (rotations_in w lines) (all_needs_in lines) (flow_by w by whole)
          made.one_each needs_below (λ a less. let there = sound.nodes a less in (omega (arith, there.0), omega (arith, there.1))) line.from line.to edge

      abbrev IsNextSecond : List FlowLine → FlowLine → Type 0
      IsNextSecond flows x = IsNewEdge (second_net_by w by whole) (map (nodes_of w by whole) flows) (nodes_of w by whole x) × IsWithinRoom (second_net_by w by whole) (nodes_of w by whole x)

      second_then : (k : ℕ) (x : LineData) → slice_get lines k ≡ Some x → Clauses (answer w (HeadData.Weight by)) (take k lines) x reason.NoEdge → Clauses (answer w (HeadData.Weight by)) (take k lines) x reason.OverRoom
          → IfSome (second_flow_in x) (IsNextSecond (filter_map second_flow_in (take k lines)))
      second_then k (LineData.SecondFlow from to amount) there a b =
          let x = LineData.SecondFlow from to amount in
          let line : FlowLine = record { from = from; to = to; amount = amount } in
          let same : record { firsts = firsts_in w (take k lines); rotations = rotations_in w (take k lines); needs = all_needs_in (take k lines); flows = flows_in (take k lines); seconds = filter_map second_flow_in lines; taken = f.taken } ≡ whole =
          alike w by _ whole (said_then q (first_in w) (first_up w) k x there refl) (said_then q (rotation_in w) (rotation_up w) k x there refl) (said_then q needs_in needs_in-none k x there refl) (said_then p flow_in only_flow k x there refl) refl refl in
          subst (λ (d : Read). IsNewEdge (second_net_by w by d) (map (nodes_of w by d) (filter_map second_flow_in (take k lines))) (nodes_of w by d line) × IsWithinRoom (second_net_by w by d) (nodes_of w by d line)) same
          (second_clause e (take k lines) x reason.NoEdge a, second_clause e (take k lines) x reason.OverRoom b)
      second_then k _ there a b = tt

      second_at : (k : ℕ) → IfSome (slice_get lines k) (λ line. IfSome (second_flow_in line) (IsNextSecond (filter_map second_flow_in (take k lines))))
      second_at k = go (slice_get lines k) refl (r.holds k reason.NoEdge) (r.holds k reason.OverRoom)
        where
          go : (o : Option LineData) → slice_get lines k ≡ o → IfSome o (λ line. Clauses (answer w (HeadData.Weight by)) (take k lines) line reason.NoEdge) → IfSome o (λ line. Clauses (answer w (HeadData.Weight by)) (take k lines) line reason.OverRoom)
              → IfSome o (λ line. IfSome (second_flow_in line) (IsNextSecond (filter_map second_flow_in (take k lines))))
          go None there a b = tt
          go (Some x) there a b = second_then k x there a b

      below_is : LineData.Taken f.taken ∷ LineData.Value f.value ∷ LineData.Cut f.cut ∷ LineData.Total f.total ∷ f.below ≡ up_to_total ++ LineData.SecondValue t.value ∷ LineData.SecondCut t.cut ∷ LineData.SecondTotal t.total ∷ t.below
      below_is = ap (λ (ls : List LineData). up_to_total ++ ls) t.is

      abbrev up_to_second_value : List LineData
      up_to_second_value = up_to_total ++ LineData.SecondValue t.value ∷ []

      abbrev up_to_second_cut : List LineData
      up_to_second_cut = up_to_total ++ LineData.SecondValue t.value ∷ LineData.SecondCut t.cut ∷ []

      second_value_at : (why : Reason) → LevelHolds w (second_level w by (f.above ++ up_to_total)) (f.above ++ up_to_total) (LineData.SecondValue t.value) why
      second_value_at why = second_clause e (f.above ++ up_to_total) (LineData.SecondValue t.value) why (at_more up_to_total (LineData.SecondValue t.value) (LineData.SecondCut t.cut ∷ LineData.SecondTotal t.total ∷ t.below) below_is why)

      second_cut_at : (why : Reason) → LevelHolds w (second_level w by (f.above ++ up_to_second_value)) (f.above ++ up_to_second_value) (LineData.SecondCut t.cut) why
      second_cut_at why = second_clause e (f.above ++ up_to_second_value) (LineData.SecondCut t.cut) why (at_more up_to_second_value (LineData.SecondCut t.cut) (LineData.SecondTotal t.total ∷ t.below) below_is why)

      second_total_at : (why : Reason) → LevelHolds w (second_level w by (f.above ++ up_to_second_cut)) (f.above ++ up_to_second_cut) (LineData.SecondTotal t.total) why
      second_total_at why = second_clause e (f.above ++ up_to_second_cut) (LineData.SecondTotal t.total) why (at_more up_to_second_cut (LineData.SecondTotal t.total) t.below below_is why)

      second_conserved : IsConserved (length (rotations_in w lines)) (second_flow_by w by whole)
      second_conserved = subst (λ (d : Read). IsConserved (length d.rotations) (second_flow_by w by d)) read_taken (second_clause e f.above (LineData.Taken f.taken) reason.NotConserved (at_taken reason.NotConserved))

      second_value_is : t.value ≡ amount_from (second_flow_by w by whole) 0
      second_value_is = subst (λ (d : Read). t.value ≡ amount_from (second_flow_by w by d) 0) (read_past up_to_total refl refl refl refl refl refl) (second_value_at reason.WrongValue)

      second_cut_is : t.cut ≡ cut_of (second_net_by w by whole) (set_by w by whole)
      second_cut_is = subst (λ (d : Read). t.cut ≡ cut_of (second_net_by w by d) (set_by w by d)) (read_past up_to_second_value refl refl refl refl refl refl) (second_cut_at reason.WrongCut)

      second_total_is : t.total ≡ second_of by w (places_by w by whole)
      second_total_is = subst (λ (d : Read). t.total ≡ second_of by w (places_by w by d)) (read_past up_to_second_cut refl refl refl refl refl refl) (second_total_at reason.WrongTotal)

      second_full : amount_from (second_flow_by w by whole) 0 ≡ cut_of (second_net_by w by whole) (set_by w by whole)
      second_full =
          let said : filter_map second_value_in (f.above ++ up_to_second_value) ≡ t.value ∷ [] = filter_map-append second_value_in f.above up_to_second_value ∙ ap (λ xs. xs ++ t.value ∷ []) (no_second_value_above f) in
          let same : t.cut ≡ t.value = second_cut_at reason.CutDiffers ∙ ap (λ (xs : List ℕ). slice_index_or xs 0 0) said in
          sym second_value_is ∙ sym same ∙ second_cut_is

      second_filled : IsFilled (second_net_by w by whole) (second_flow_by w by whole) (set_by w by whole)
      second_filled = record {
        sound = all_sound (second_net_by w by whole) second_flow_in second_ends refl second_at;
        conserved = second_conserved;
        full = second_full;
      }

  -- The pairs.
  module _ (q : Parted is_up_to_totals lines) where
    pair_then : (k : ℕ) (x : LineData) → slice_get lines k ≡ Some x → IfSome (pair_in x) (IsWanted w (taken_matching w (take k lines)) (pairs_in (take k lines)))
        → IfSome (pair_in x) (IsWanted w (places_by w by whole) (pairs_in (take k lines)))
    pair_then k (LineData.Pair a b) e h =
        let x = LineData.Pair a b in
        let same : read w by (take k lines) ≡ whole =
        alike w by (read w by (take k lines)) whole (said_then q (first_in w) (first_total w) k x e refl) (said_then q (rotation_in w) (rotation_total w) k x e refl) (said_then q needs_in needs_total k x e refl)
        (said_then q flow_in flow_total k x e refl) (said_then q second_flow_in second_flow_total k x e refl) (ap (λ (xs : List (List ℕ)). slice_index_or xs 0 []) (said_then q taken_in taken_total k x e refl) ∙ taken_all) in
        subst (λ (d : Read). IsWanted w (places_by w by d) (pairs_in (take k lines)) (a, b)) same h
    pair_then k _ e h = tt

    pair_at : (k : ℕ) → IfSome (slice_get lines k) (λ line. IfSome (pair_in line) (IsWanted w (places_by w by whole) (pairs_in (take k lines))))
    pair_at k = go (slice_get lines k) refl (r.holds k reason.WrongPair)
      where
        go : (o : Option LineData) → slice_get lines k ≡ o → IfSome o (λ line. Clauses (answer w (HeadData.Weight by)) (take k lines) line reason.WrongPair) → IfSome o (λ line. IfSome (pair_in line) (IsWanted w (places_by w by whole) (pairs_in (take k lines))))
        go None e h = tt
        go (Some x) e h = pair_then k x e h.5.0

    all_there : AreAllThere (places_by w by whole) (pairs_in lines)
    all_there =
        subst (λ (pairs : List (ℕ × ℕ)). AreAllThere (places_by w by whole) pairs) (said_above pair_in r refl)
        (subst (λ (d : Read). AreAllThere (places_by w by d) (pairs_in r.front)) read_closing ((at_closing r reason.WrongPair).5.1 refl))

    written : ArePairsOf (lists_of w.proposers) (places_by w by whole) (pairs_in lines)
    written =
        let a = allowed in
        let on_lists : IsAssignment w (places_by w by whole) = a.matching.assigned in
        all_wanted w (places_by w by whole) on_lists (pairs_in lines)
        (grown pair_in (AreWanted w (places_by w by whole) on_lists) (IsWanted w (places_by w by whole)) lines (none_wanted w (places_by w by whole) on_lists) (one_wanted w (places_by w by whole) on_lists) pair_at) all_there

-- a yes in one level and in two
module _ (w : Written) (by : Measure) (lines : List LineData) (i : IsInstance w) (g : GetsYes (Two w) (HeadData.Weight by) lines) where
  yes_in : (two : Bool) → has_two_levels by w ≡ two → HasLightestWeight by w lines
  yes_in two is_two = by_level two refl
    where
      r : IsRight (answer w (HeadData.Weight by)) lines
      r = right_two {w = w} {head = HeadData.Weight by} refl g

      layout : layouts_of (Two w) (HeadData.Weight by) ≡ weight_layout two ∷ []
      layout = ap (λ (b : Bool). weight_layout b ∷ []) is_two

      q : Parted is_up_to_rotations lines
      q = parted_behind rotations_tell {w = w} {head = HeadData.Weight by} (weight_layout two) layout (rotations_begin two) refl g

      z : Parted is_up_to_totals lines
      z = parted_behind totals_tell {w = w} {head = HeadData.Weight by} (weight_layout two) layout (totals_begin two) refl g

      t : Turns w (behind_rotations two) (flow_out two) [] lines
      t = by_head (Turns w (behind_rotations two) (flow_out two) []) g
          (λ rest placed _. turns_behind w by two rest (subst (λ (layouts : List (List LayoutPart)). is_whole layouts (map opening_of rest) ≡ true) layout placed))

      f : FourLines two lines
      f = four_lines two lines t.splits

      has : HasChain w (answer w (HeadData.Weight by))
      has = λ above line why h. (h.0, h.1)

      p : Parted is_up_to_firsts lines
      p = parted_behind firsts_tell {w = w} {head = HeadData.Weight by} (weight_layout two) layout (firsts_begin two) refl g

      made : IsGround w lines
      made = ground w r has p q (is_market (sound_entries i)) (behind_rotations two) (flow_out two) t

      chain : IsChainWritten w lines
      chain = record { first = first_of w lines; first_written = first_written w r has p; chain = made.chain; one_each = made.one_each; needs = made.needs }

      s : IsSeating w (seating_of w)
      s = is_seating (sound_entries i)

      net : IsNetGround (seat_market w) (levels_of (seating_of w)) (first_of w lines) (rotations_in w lines) (all_needs_in lines)
      net = record { market = is_market (sound_entries i); rising = s.levels; chain = made.chain.chain; one_each = made.one_each; each = made.needs }

      d : Read
      d = whole w by lines r is_two f

      c : IsCertified w by d
      c = certified w by lines r is_two f q net

      -- the levels as they are read of all lines
      first_full : IsFullLevel w (first_level w by lines) lines
      first_full =
          let filled : IsFullFlow (net_by w by d) (flow_by w by d) (set_by w by d) = full_flow c.filled in
          let value : filter_map value_in lines ≡ flow_value (net_by w by d) (amount_on (flow_by w by d)) ∷ [] =
          one_value f ∙ ap (λ (n : ℕ). n ∷ []) (value_is w by lines r is_two f ∙ full w by lines r is_two f ∙ sym filled.full) in
          let cut : filter_map cut_in lines ≡ cut_of (net_by w by d) (set_by w by d) ∷ [] = one_cut f ∙ ap (λ (n : ℕ). n ∷ []) (cut_is w by lines r is_two f) in
          record {
            flow = subst (λ (d : Read). IsFullFlow (net_by w by d) (flow_by w by d) (set_by w by d)) (read_all w by lines r is_two f) filled;
            value = subst (λ (d : Read). filter_map value_in lines ≡ flow_value (net_by w by d) (amount_on (flow_by w by d)) ∷ []) (read_all w by lines r is_two f) value;
            cut = subst (λ (d : Read). filter_map cut_in lines ≡ cut_of (net_by w by d) (set_by w by d) ∷ []) (read_all w by lines r is_two f) cut;
          }

      reach : (b : Bool) → two ≡ b → IsReachOf w (last_level w by lines) lines
      reach b e =
          subst (λ (level : Level). IsReachOf w level lines) (sym (level_is w by lines r is_two f lines b e))
          (go b (subst (λ (d : Read). IsLastReach w by b d) (read_all w by lines r is_two f) (last_reach w by lines r is_two f b e)))
        where
          go : (b : Bool) → IsLastReach w by b (read w by lines) → IsReachOf w (if b then second_level w by lines else first_level w by lines) lines
          go true h = h
          go false h = h

      by_level : (b : Bool) → two ≡ b → HasLightestWeight by w lines
      by_level false e = record {
        chain = chain;
        places = places_by w by d;
        lightest = lightest_in w by s d c false (is_two ∙ e) (last_reach w by lines r is_two f false e);
        total = one_total f ∙ ap (λ (n : ℤ). n ∷ []) (total_is w by lines r is_two f);
        second_total = λ two. absurd (false≢true (sym (is_two ∙ e) ∙ two));
        flow = first_full;
        second_flow = λ two. absurd (false≢true (sym (is_two ∙ e) ∙ two));
        reach = reach false e;
        written = written w by lines r is_two f z;
      }
      by_level true e =
          let u : Parted is_up_to_flow lines = parted_behind flow_tells {w = w} {head = HeadData.Weight by} (weight_layout true) (layout ∙ ap (λ (b : Bool). weight_layout b ∷ []) e) flow_begins refl g in
          let three : ThreeLines f.below = three_lines f.below (subst (λ (b : Bool). is_whole (behind_total b ∷ []) (map opening_of f.below) ≡ true) e f.whole) in
          let second = second_filled w by lines r is_two f q net e u three in
          let filled : IsFullFlow (second_net_by w by d) (second_flow_by w by d) (set_by w by d) = full_flow second in
          let value : filter_map second_value_in lines ≡ flow_value (second_net_by w by d) (amount_on (second_flow_by w by d)) ∷ [] =
          one_second_value f three ∙ ap (λ (n : ℕ). n ∷ []) (second_value_is w by lines r is_two f q net e u three ∙ second_full w by lines r is_two f q net e u three ∙ sym filled.full) in
          let cut : filter_map second_cut_in lines ≡ cut_of (second_net_by w by d) (set_by w by d) ∷ [] = one_second_cut f three ∙ ap (λ (n : ℕ). n ∷ []) (second_cut_is w by lines r is_two f q net e u three) in
          let second_level_full : IsFullLevel w (second_level w by lines) lines = record {
            flow = subst (λ (d : Read). IsFullFlow (second_net_by w by d) (second_flow_by w by d) (set_by w by d)) (read_all w by lines r is_two f) filled;
            value = subst (λ (d : Read). filter_map second_value_in lines ≡ flow_value (second_net_by w by d) (amount_on (second_flow_by w by d)) ∷ []) (read_all w by lines r is_two f) value;
            cut = subst (λ (d : Read). filter_map second_cut_in lines ≡ cut_of (second_net_by w by d) (set_by w by d) ∷ []) (read_all w by lines r is_two f) cut;
          } in
          record {
            chain = chain;
            places = places_by w by d;
            lightest = lightest_in w by s d c true (is_two ∙ e) (second, last_reach w by lines r is_two f true e);
            total = one_total f ∙ ap (λ (n : ℤ). n ∷ []) (total_is w by lines r is_two f);
            second_total = λ _. one_second_total f three ∙ ap (λ (n : ℤ). n ∷ []) (second_total_is w by lines r is_two f q net e u three);
            flow = first_full;
            second_flow = λ _. second_level_full;
            reach = reach true e;
            written = written w by lines r is_two f z;
          }

-- the law of a yes on `weight`
pub weight_yes : WeightYes
weight_yes w by lines i g = yes_in w by lines i g (has_two_levels by w) refl
