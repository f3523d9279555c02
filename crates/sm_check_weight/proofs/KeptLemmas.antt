-- What is kept of the lines behind the rotations, with one line more.
use Rattle.std.proofs.Common.{◌≡◌, ℕ, ◌+◌, ◌<◌, ◌↔◌, inl, inr, List, [], ◌∷◌, ◌++◌, length, map, take, Option, None, Some, Bool, true, false, ℤ, refl, sym, ap, ◌∙◌, subst, arith}
use Rattle.std.specs.Prelude.{filter_map, if◌then◌else◌, not, unwrap_or, slice_index, slice_index_or, IfSome, IsSome, MatchOption}
use Rattle.std.specs.List.{slice_get}
use Rattle.std.specs.Option.{option_or}
use Rattle.std.proofs.lemmas.Bool.{false≢true, cases_lt}
use Rattle.std.proofs.lemmas.List.{map-append, length_push, get_or_append_left, get_or_push, get_or_past, length-take-le}
use Rattle.std.proofs.lemmas.Option.{none-some}
use Rattle.sm_lists.specs.Rows.{row}
use Rattle.sm_agents.specs.Written.{Written}
use Rattle.sm_agents.specs.declared.kinds.Measure.{Measure}
use Rattle.sm_theory.specs.Net.{Net}
use Rattle.sm_theory.specs.FlowLines.{IsConserved, IsNewEdge, amount_on, line_at}
use Rattle.sm_theory.specs.declared.flow_lines.FlowLine.{FlowLine}
use Rattle.sm_check_net.specs.CheckedNets.{NetParts, net_of_parts, NeedsAreOf, AreNumbersBelow, IsOnEdge}
use Rattle.sm_check_net.specs.Second.{AreOnEdges}
use Rattle.sm_seats.specs.SeatMarket.{seat_market}
use Rattle.sm_seats.specs.Levels.{has_two_levels}
use Rattle.sm_seats.specs.ShownNet.{net_shown, second_net_shown}
use Rattle.sm_report.specs.Lines.{LineData, line_of}
use Rattle.sm_report.specs.declared.lines.Line.{Line}
use Rattle.sm_check_forms.specs.Layouts.{is_empty}
use Rattle.sm_check_clauses.specs.declared.verdicts.Reason.{Reason}
use Rattle.sm_check_clauses.specs.declared.verdicts.Reason.TheVariants as reason
use Rattle.sm_check_answers.specs.declared.wanted.Stood.{Stood}
use Rattle.sm_check_clauses.specs.Said.{first_in, firsts_in, rotation_in, rotations_in, needs_in, all_needs_in, flow_in, second_flow_in, taken_in, value_in, second_value_in, pair_in, pairs_in, first_said, is_up_to_rotations}
use Rattle.sm_check_clauses.specs.SeatMatchings.{first_of, seat_places_in}
use Rattle.sm_check_clauses.specs.Flows.{Level, size_in, net_in, on_nodes, first_level, second_level, last_level, taken_set}
use Rattle.sm_check_clauses.specs.Pairs.{WantedHold}
use Rattle.sm_check_clauses.specs.Verdicts.{Finds}
use Rattle.sm_check_clauses.specs.Walking.{FindsOrKeeps}
use Rattle.sm_check_answers.specs.Stood.{AreStood}
use Rattle.sm_check_clauses.specs.declared.chain_walk.ChainWalk.{ChainWalk}
use Rattle.sm_check_clauses.proofs.AnswerLemmas.{finds_keeping, said_same, said_one}
use Rattle.sm_check_clauses.proofs.WalkLemmas.{none_said}
use Rattle.sm_check_weight.specs.declared.claims.Claim.{Claim}
use Rattle.sm_check_weight.specs.declared.flow_lines.Flow.{Flow}
use Rattle.sm_check_weight.specs.declared.said.SaidFlow.{SaidFlow}
use Rattle.sm_check_weight.specs.declared.taken.Taken.{Taken}
use Rattle.sm_check_weight.specs.ClaimClauses.{ValueHolds, CutHolds, TotalHolds, SecondTotalHolds, EndHolds}
use Rattle.sm_check_weight.specs.FlowClauses.{NextHolds, flow_line}
use Rattle.sm_check_weight.specs.Kept.{ClaimHolds, HasSecond, IsClaimOf, IsFlowOn, IsSaidOf, IsSecondNet, IsSetOf, IsNextLine, HasWholePoset, flow_on}
use Rattle.sm_check_weight.proofs.ClaimLemmas.{AreConserved, flow_found, second_flow_found, value_found, second_value_found, cut_found, second_cut_found, total_found, second_total_found, pair_found, end_found}
use Rattle.sm_check_weight.proofs.FlowKeptLemmas.{on_net, flow_at, said_before, value_more, line_more}
use Rattle.sm_check_weight.proofs.LevelLemmas.{IsSilent, IsSilentOn, IsPlain, silent, second_idle}
use Rattle.sm_check_weight.proofs.ShownEdges.{shown_edges_on_nodes}
use Rattle.sm_check_weight.proofs.SecondLemmas.{second_edges_on_nodes}
use Rattle.sm_check_weight.proofs.SetLemmas.{length-set_of}

-- a line behind the rotations that isn't one of these says nothing of all this
pub silent_behind : (x : Line) → is_up_to_rotations (line_of x) ≡ false → ((f t a : ℕ) → x ≡ Line.Flow f t a → ⊥) → ((f t a : ℕ) → x ≡ Line.SecondFlow f t a → ⊥) → ((ns : _) → x ≡ Line.Taken ns → ⊥) → ((v : ℕ) → x ≡ Line.Value v → ⊥)
    → ((v : ℕ) → x ≡ Line.Cut v → ⊥) → ((v : ℤ) → x ≡ Line.Total v → ⊥) → ((v : ℕ) → x ≡ Line.SecondValue v → ⊥) → ((v : ℕ) → x ≡ Line.SecondCut v → ⊥) → ((v : ℤ) → x ≡ Line.SecondTotal v → ⊥)
    → ((p r : ℕ) → x ≡ Line.Pair p r → ⊥) → (x ≡ Line.End → ⊥) → IsSilent (line_of x)
silent_behind (Line.Gain i g) e no_flow no_second none no_value no_cut no_total no_value2 no_cut2 no_total2 no_pair no_end = absurd (false≢true (sym e))
silent_behind (Line.SecondGain i g) e no_flow no_second none no_value no_cut no_total no_value2 no_cut2 no_total2 no_pair no_end = absurd (false≢true (sym e))
silent_behind (Line.Flow x y z) e no_flow no_second none no_value no_cut no_total no_value2 no_cut2 no_total2 no_pair no_end = absurd (no_flow x y z refl)
silent_behind (Line.SecondFlow x y z) e no_flow no_second none no_value no_cut no_total no_value2 no_cut2 no_total2 no_pair no_end = absurd (no_second x y z refl)
silent_behind (Line.Taken ns) e no_flow no_second none no_value no_cut no_total no_value2 no_cut2 no_total2 no_pair no_end = absurd (none ns refl)
silent_behind (Line.Value v) e no_flow no_second none no_value no_cut no_total no_value2 no_cut2 no_total2 no_pair no_end = absurd (no_value v refl)
silent_behind (Line.Cut v) e no_flow no_second none no_value no_cut no_total no_value2 no_cut2 no_total2 no_pair no_end = absurd (no_cut v refl)
silent_behind (Line.Total v) e no_flow no_second none no_value no_cut no_total no_value2 no_cut2 no_total2 no_pair no_end = absurd (no_total v refl)
silent_behind (Line.SecondValue v) e no_flow no_second none no_value no_cut no_total no_value2 no_cut2 no_total2 no_pair no_end = absurd (no_value2 v refl)
silent_behind (Line.SecondCut v) e no_flow no_second none no_value no_cut no_total no_value2 no_cut2 no_total2 no_pair no_end = absurd (no_cut2 v refl)
silent_behind (Line.SecondTotal v) e no_flow no_second none no_value no_cut no_total no_value2 no_cut2 no_total2 no_pair no_end = absurd (no_total2 v refl)
silent_behind (Line.Pair p r) e no_flow no_second none no_value no_cut no_total no_value2 no_cut2 no_total2 no_pair no_end = absurd (no_pair p r refl)
silent_behind Line.End e no_flow no_second none no_value no_cut no_total no_value2 no_cut2 no_total2 no_pair no_end = absurd (no_end refl)
silent_behind _ e no_flow no_second none no_value no_cut no_total no_value2 no_cut2 no_total2 no_pair no_end = record { gain = refl; flow = refl; value = refl; cut = refl; total = refl; second_gain = refl; second_flow = refl; second_value = refl; second_cut = refl; second_total = refl; plain = record { taken = refl; pair = refl; goes_on = refl } }

-- the nets of first seats, rotations and needs, and the second one of the lines of a flow
abbrev net_by : Written → Measure → List (ℕ × ℕ) → List (List (ℕ × ℕ)) → List (List ℕ) → Net
net_by w by firsts rotations needs = net_shown by w (seat_places_in (seat_market w) firsts) rotations needs

abbrev second_net_by : Written → Measure → List (ℕ × ℕ) → List (List (ℕ × ℕ)) → List (List ℕ) → List FlowLine → Net
second_net_by w by firsts rotations needs flow =
    second_net_shown by w (seat_places_in (seat_market w) firsts) rotations needs (amount_on (map (on_nodes (length rotations)) flow))

-- a claim with the same parts
pub same_parts : (after before : Claim) → after.net ≡ before.net → after.first ≡ before.first → after.second_net ≡ before.second_net → after.second ≡ before.second → after.taken ≡ before.taken → after.stood ≡ before.stood → after ≡ before
same_parts after before n f m s t p =
    ap (λ (net : NetParts). record { net = net; first = after.first; second_net = after.second_net; second = after.second; taken = after.taken; stood = after.stood }) n
    ∙ ap (λ (first : SaidFlow). record { net = before.net; first = first; second_net = after.second_net; second = after.second; taken = after.taken; stood = after.stood }) f
    ∙ ap (λ (net : Option NetParts). record { net = before.net; first = before.first; second_net = net; second = after.second; taken = after.taken; stood = after.stood }) m
    ∙ ap (λ (second : SaidFlow). record { net = before.net; first = before.first; second_net = before.second_net; second = second; taken = after.taken; stood = after.stood }) s
    ∙ ap (λ (taken : Taken). record { net = before.net; first = before.first; second_net = before.second_net; second = before.second; taken = taken; stood = after.stood }) t
    ∙ ap (λ (stood : Stood). record { net = before.net; first = before.first; second_net = before.second_net; second = before.second; taken = before.taken; stood = stood }) p

unwrap_first : (xs : List ℕ) → unwrap_or (slice_get xs 0) 0 ≡ slice_index_or xs 0 0
unwrap_first [] = refl
unwrap_first (x ∷ xs) = refl

-- what rotations need is among them
pub needs_below : {w : Written} {above : List LineData} {walk : ChainWalk} → HasWholePoset w above walk → AreNumbersBelow (length (rotations_in w above)) (all_needs_in above)
needs_below {w} {above} {walk} g = record { below = each }
  where
    each : (j a : ℕ) → a < length (row (all_needs_in above) j) → slice_index (row (all_needs_in above) j) a < length (rotations_in w above)
    each j a less = elim (cases_lt j (length (all_needs_in above))) [
      | inl here ↦ let sound = (g.needs j here).sound a less in let most = length-take-le (j + 1) (rotations_in w above) (omega (arith, here, g.one_each)) in omega (arith, sound, most, here, g.one_each)
      | inr past ↦ absurd (let none = ap (λ (xs : List ℕ). length xs) (get_or_past (all_needs_in above) j [] past) in omega (arith, none, less))
    ]

module _ {w : Written} {by : Measure} {lines above : List LineData} {claim : Claim} (k : IsClaimOf w by lines above claim) where
  abbrev size : ℕ
  size = size_in w above

  module _ (x : LineData) (behind : is_up_to_rotations x ≡ false) where
    firsts_same : firsts_in w (above ++ x ∷ []) ≡ firsts_in w above
    firsts_same = said_same (first_in w) above x (none_said w x behind).0

    rotations_same : rotations_in w (above ++ x ∷ []) ≡ rotations_in w above
    rotations_same = said_same (rotation_in w) above x (none_said w x behind).1

    needs_same : all_needs_in (above ++ x ∷ []) ≡ all_needs_in above
    needs_same = said_same needs_in above x (none_said w x behind).2

    net_same : net_in w by (above ++ x ∷ []) ≡ net_in w by above
    net_same =
        ap (λ (f : List (ℕ × ℕ)). net_by w by f (rotations_in w (above ++ x ∷ [])) (all_needs_in (above ++ x ∷ []))) firsts_same
        ∙ ap (λ (r : List (List (ℕ × ℕ))). net_by w by (firsts_in w above) r (all_needs_in (above ++ x ∷ []))) rotations_same
        ∙ ap (λ (n : List (List ℕ)). net_by w by (firsts_in w above) (rotations_in w above) n) needs_same

    size_same : size_in w (above ++ x ∷ []) ≡ size_in w above
    size_same = ap (λ (r : List (List (ℕ × ℕ))). length r) rotations_same

    -- at a line that is none of the flow the second net is the same
    second_same : flow_in x ≡ None → (second_level w by (above ++ x ∷ [])).net ≡ (second_level w by above).net
    second_same none =
        ap (λ (f : List (ℕ × ℕ)). second_net_by w by f (rotations_in w (above ++ x ∷ [])) (all_needs_in (above ++ x ∷ [])) (filter_map flow_in (above ++ x ∷ []))) firsts_same
        ∙ ap (λ (r : List (List (ℕ × ℕ))). second_net_by w by (firsts_in w above) r (all_needs_in (above ++ x ∷ [])) (filter_map flow_in (above ++ x ∷ []))) rotations_same
        ∙ ap (λ (n : List (List ℕ)). second_net_by w by (firsts_in w above) (rotations_in w above) n (filter_map flow_in (above ++ x ∷ []))) needs_same
        ∙ ap (λ (fs : List FlowLine). second_net_by w by (firsts_in w above) (rotations_in w above) (all_needs_in above) fs) (said_same flow_in above x none)

    second_net_same : flow_in x ≡ None → IsSecondNet w by (above ++ x ∷ []) claim.second_net
    second_net_same none = record { same = go claim.second_net k.second_net.same; none = k.second_net.none }
      where
        go : (net : Option NetParts) → IfSome net (λ net. net_of_parts net ≡ (second_level w by above).net) → IfSome net (λ net. net_of_parts net ≡ (second_level w by (above ++ x ∷ [])).net)
        go None h = tt
        go (Some net) h = h ∙ sym (second_same none)

    edges_same : flow_in x ≡ None → AreOnEdges (net_in w by above) (map (on_nodes size) (filter_map flow_in (above ++ x ∷ [])))
    edges_same none = subst (λ (fs : List FlowLine). AreOnEdges (net_in w by above) (map (on_nodes size) fs)) (sym (said_same flow_in above x none)) k.edges

    first_same : flow_in x ≡ None → value_in x ≡ None → IsSaidOf size flow_in value_in lines (above ++ x ∷ []) claim.first
    first_same f v = said_before k.first x f v

    also_second : second_flow_in x ≡ None → second_value_in x ≡ None → has_two_levels by w ≡ true → IsSaidOf size second_flow_in second_value_in lines (above ++ x ∷ []) claim.second
    also_second f v two = said_before (k.second two) x f v

    -- of the set that is taken first
    pub set_on : (numbers : List ℕ) (t : Taken) → first_said [] taken_in (above ++ x ∷ []) ≡ numbers → IsSetOf w (first_of w above) (rotations_in w above) numbers t → IsSetOf w (first_of w (above ++ x ∷ [])) (rotations_in w (above ++ x ∷ [])) (first_said [] taken_in (above ++ x ∷ [])) t
    set_on numbers t same h =
        subst (λ (f : List (ℕ × ℕ)). IsSetOf w (seat_places_in (seat_market w) f) (rotations_in w (above ++ x ∷ [])) (first_said [] taken_in (above ++ x ∷ [])) t) (sym firsts_same)
        (subst (λ (r : List (List (ℕ × ℕ))). IsSetOf w (first_of w above) r (first_said [] taken_in (above ++ x ∷ [])) t) (sym rotations_same)
        (subst (λ (ns : List ℕ). IsSetOf w (first_of w above) (rotations_in w above) ns t) (sym same) h))

    taken_same : taken_in x ≡ None → IsSetOf w (first_of w (above ++ x ∷ [])) (rotations_in w (above ++ x ∷ [])) (first_said [] taken_in (above ++ x ∷ [])) claim.taken
    taken_same none = set_on (first_said [] taken_in above) claim.taken (ap (λ (xs : List (List ℕ)). slice_index_or xs 0 []) (said_same taken_in above x none)) k.taken

    taken_before : taken_in x ≡ None → claim.taken.is_said ≡ not (is_empty (filter_map taken_in (above ++ x ∷ [])))
    taken_before none = k.said ∙ sym (ap (λ (xs : List (List ℕ)). not (is_empty xs)) (said_same taken_in above x none))

    stood_same : pair_in x ≡ None → AreStood w (pairs_in (above ++ x ∷ [])) claim.stood.stood.items
    stood_same none = subst (λ (ps : List (ℕ × ℕ)). AreStood w ps claim.stood.stood.items) (sym (said_same pair_in above x none)) k.stood

    -- what is kept with this line
    kept : (first : SaidFlow) (second_net : Option NetParts) (second : SaidFlow) (taken : Taken) (stood : Stood) → IsSaidOf size flow_in value_in lines (above ++ x ∷ []) first
        → AreOnEdges (net_in w by above) (map (on_nodes size) (filter_map flow_in (above ++ x ∷ []))) → IsSecondNet w by (above ++ x ∷ []) second_net
        → (has_two_levels by w ≡ true → IsSaidOf size second_flow_in second_value_in lines (above ++ x ∷ []) second)
        → IsSetOf w (first_of w (above ++ x ∷ [])) (rotations_in w (above ++ x ∷ [])) (first_said [] taken_in (above ++ x ∷ [])) taken
        → taken.is_said ≡ not (is_empty (filter_map taken_in (above ++ x ∷ []))) → AreStood w (pairs_in (above ++ x ∷ [])) stood.stood.items
        → IsClaimOf w by lines (above ++ x ∷ []) (record { net = claim.net; first = first; second_net = second_net; second = second; taken = taken; stood = stood })
    kept first second_net second taken stood f e n s t i p = record {
      net = k.net ∙ sym net_same;
      needs = subst (λ (r : List (List (ℕ × ℕ))). NeedsAreOf (seat_market w) r claim.net) (sym rotations_same) k.needs;
      first = subst (λ (n : ℕ). IsSaidOf n flow_in value_in lines (above ++ x ∷ []) first) (sym size_same) f;
      edges = subst (λ (n : ℕ). AreOnEdges (net_in w by (above ++ x ∷ [])) (map (on_nodes n) (filter_map flow_in (above ++ x ∷ [])))) (sym size_same)
          (subst (λ (net : Net). AreOnEdges net (map (on_nodes size) (filter_map flow_in (above ++ x ∷ [])))) (sym net_same) e);
      second_net = n;
      second = λ two. subst (λ (n : ℕ). IsSaidOf n second_flow_in second_value_in lines (above ++ x ∷ []) second) (sym size_same) (s two);
      taken = t;
      said = i;
      stood = p;
    }

    -- where the line is none of the flows, the set, the values and the pairs
    pub unchanged : flow_in x ≡ None → second_flow_in x ≡ None → value_in x ≡ None → second_value_in x ≡ None → taken_in x ≡ None → pair_in x ≡ None → IsClaimOf w by lines (above ++ x ∷ []) claim
    unchanged f g v u t p = kept claim.first claim.second_net claim.second claim.taken claim.stood (first_same f v) (edges_same f) (second_net_same f) (also_second g u) (taken_same t) (taken_before t) (stood_same p)

    -- in one level the lines of the second flow and its value may be any
    pub idle : has_two_levels by w ≡ false → flow_in x ≡ None → value_in x ≡ None → taken_in x ≡ None → pair_in x ≡ None → IsClaimOf w by lines (above ++ x ∷ []) claim
    idle one f v t p = kept claim.first claim.second_net claim.second claim.taken claim.stood (first_same f v) (edges_same f) (second_net_same f) (λ two. absurd (false≢true (sym one ∙ two))) (taken_same t) (taken_before t) (stood_same p)

  -- at a line that says nothing of all this all clauses hold, and the claim stays
  pub silent_judged : (x : LineData) → is_up_to_rotations x ≡ false → IsSilent x → ((why : Reason) → ClaimHolds w by above x why) × IsClaimOf w by lines (above ++ x ∷ []) claim
  silent_judged x behind s = (silent w by above x s, unchanged x behind s.flow s.second_flow s.value s.second_value s.plain.taken s.plain.pair)

  -- the flow on the nodes
  flow_is : take claim.first.flow.count claim.first.flow.lines.items ≡ flow_on w flow_in above
  flow_is = k.first.flow.front

  second_flow_is : has_two_levels by w ≡ true → take claim.second.flow.count claim.second.flow.lines.items ≡ flow_on w second_flow_in above
  second_flow_is two = (k.second two).flow.front

  -- where there is a second net, there are two levels; and without one there is one, at a line that is none of the flow
  pub two_levels : (net : NetParts) → claim.second_net ≡ Some net → has_two_levels by w ≡ true
  two_levels net is = go (has_two_levels by w) refl
    where
      go : (b : Bool) → has_two_levels by w ≡ b → b ≡ true
      go true e = refl
      go false e = absurd (none-some net (sym (k.second_net.none e) ∙ is))

  pub second_net_is : (net : NetParts) → claim.second_net ≡ Some net → net_of_parts net ≡ (second_level w by above).net
  second_net_is net is = subst (λ (o : Option NetParts). IfSome o (λ net. net_of_parts net ≡ (second_level w by above).net)) is k.second_net.same

  pub one_level : (x : LineData) → HasSecond w by x claim → flow_in x ≡ None → claim.second_net ≡ None → has_two_levels by w ≡ false
  one_level x has none is = go (has_two_levels by w) refl
    where
      go : (b : Bool) → has_two_levels by w ≡ b → b ≡ false
      go false e = refl
      go true e = absurd (false≢true (subst (λ (o : Option NetParts). IsSome o) is (has e none)))

  -- the first value that is said is kept
  pub value_judged : (value : ℕ) (after : SaidFlow) (r : Option Reason) → after.flow ≡ claim.first.flow
      → FindsOrKeeps (ValueHolds (take claim.first.flow.count claim.first.flow.lines.items) value) (after.value ≡ option_or claim.first.value (Some value)) r
      → FindsOrKeeps (ClaimHolds w by above (LineData.Value value)) (IsClaimOf w by lines (above ++ LineData.Value value ∷ []) (record { net = claim.net; first = after; second_net = claim.second_net; second = claim.second; taken = claim.taken; stood = claim.stood })) r
  value_judged value after None same found =
      let x : LineData = LineData.Value value in (
        value_found w by above value None (subst (λ (fs : List FlowLine). Finds (ValueHolds fs value) None) flow_is found.0),
        kept x refl after claim.second_net claim.second claim.taken claim.stood (value_more k.first x refl value refl after same found.1) (edges_same x refl refl) (second_net_same x refl refl) (also_second x refl refl refl)
            (taken_same x refl refl) (taken_before x refl refl) (stood_same x refl refl),
      )
  value_judged value after (Some why) same found = value_found w by above value (Some why) (subst (λ (fs : List FlowLine). Finds (ValueHolds fs value) (Some why)) flow_is found)

  -- so is that of the second flow
  pub second_value_judged : has_two_levels by w ≡ true → (value : ℕ) (after : SaidFlow) (r : Option Reason) → after.flow ≡ claim.second.flow
      → FindsOrKeeps (ValueHolds (take claim.second.flow.count claim.second.flow.lines.items) value) (after.value ≡ option_or claim.second.value (Some value)) r
      → FindsOrKeeps (ClaimHolds w by above (LineData.SecondValue value)) (IsClaimOf w by lines (above ++ LineData.SecondValue value ∷ []) (record { net = claim.net; first = claim.first; second_net = claim.second_net; second = after; taken = claim.taken; stood = claim.stood })) r
  second_value_judged two value after None same found =
      let x : LineData = LineData.SecondValue value in (
        second_value_found w by above two value None (subst (λ (fs : List FlowLine). Finds (ValueHolds fs value) None) (second_flow_is two) found.0),
        kept x refl claim.first claim.second_net after claim.taken claim.stood (first_same x refl refl refl) (edges_same x refl refl) (second_net_same x refl refl) (λ _. value_more (k.second two) x refl value refl after same found.1)
            (taken_same x refl refl) (taken_before x refl refl) (stood_same x refl refl),
      )
  second_value_judged two value after (Some why) same found = second_value_found w by above two value (Some why) (subst (λ (fs : List FlowLine). Finds (ValueHolds fs value) (Some why)) (second_flow_is two) found)

  -- at the cut nothing more is kept
  pub cut_judged : (cut : ℕ) (r : Option Reason) → Finds (CutHolds (net_of_parts claim.net) claim.taken.set.items (unwrap_or claim.first.value 0) cut) r
      → FindsOrKeeps (ClaimHolds w by above (LineData.Cut cut)) (IsClaimOf w by lines (above ++ LineData.Cut cut ∷ []) claim) r
  cut_judged cut r found = finds_keeping _ _ r
      (cut_found w by above cut r
      (subst (λ (v : ℕ). Finds (CutHolds (net_in w by above) (taken_set w above) v cut) r) (ap (λ (o : Option ℕ). unwrap_or o 0) k.first.value ∙ unwrap_first (filter_map value_in above))
      (subst (λ (s : List Bool). Finds (CutHolds (net_in w by above) s (unwrap_or claim.first.value 0) cut) r) k.taken.set
      (subst (λ (n : Net). Finds (CutHolds n claim.taken.set.items (unwrap_or claim.first.value 0) cut) r) k.net found))))
      (unchanged (LineData.Cut cut) refl refl refl refl refl refl refl)

  -- nor at that of the second net
  pub second_cut_judged : (net : NetParts) → claim.second_net ≡ Some net → (cut : ℕ) (r : Option Reason) → Finds (CutHolds (net_of_parts net) claim.taken.set.items (unwrap_or claim.second.value 0) cut) r
      → FindsOrKeeps (ClaimHolds w by above (LineData.SecondCut cut)) (IsClaimOf w by lines (above ++ LineData.SecondCut cut ∷ []) claim) r
  second_cut_judged net is cut r found =
      let two = two_levels net is in
      finds_keeping _ _ r
      (second_cut_found w by above two cut r
      (subst (λ (v : ℕ). Finds (CutHolds (second_level w by above).net (taken_set w above) v cut) r) (ap (λ (o : Option ℕ). unwrap_or o 0) (k.second two).value ∙ unwrap_first (filter_map second_value_in above))
      (subst (λ (s : List Bool). Finds (CutHolds (second_level w by above).net s (unwrap_or claim.second.value 0) cut) r) k.taken.set
      (subst (λ (n : Net). Finds (CutHolds n claim.taken.set.items (unwrap_or claim.second.value 0) cut) r) (second_net_is net is) found))))
      (unchanged (LineData.SecondCut cut) refl refl refl refl refl refl refl)

  -- at the weight nothing more is kept
  pub total_judged : (total : ℤ) (r : Option Reason) → Finds (TotalHolds w by claim.taken.matching.places.items total) r
      → FindsOrKeeps (ClaimHolds w by above (LineData.Total total)) (IsClaimOf w by lines (above ++ LineData.Total total ∷ []) claim) r
  total_judged total r found = finds_keeping _ _ r
      (total_found w by above total r (subst (λ (m : List (Option ℕ)). Finds (TotalHolds w by m total) r) k.taken.matching found))
      (unchanged (LineData.Total total) refl refl refl refl refl refl refl)

  -- nor at the second sum
  pub second_total_judged : has_two_levels by w ≡ true → (total : ℤ) (r : Option Reason) → Finds (SecondTotalHolds w claim.taken.matching.places.items total) r
      → FindsOrKeeps (ClaimHolds w by above (LineData.SecondTotal total)) (IsClaimOf w by lines (above ++ LineData.SecondTotal total ∷ []) claim) r
  second_total_judged two total r found = finds_keeping _ _ r
      (second_total_found w by above two total r (subst (λ (m : List (Option ℕ)). Finds (SecondTotalHolds w m total) r) k.taken.matching found))
      (unchanged (LineData.SecondTotal total) refl refl refl refl refl refl refl)

  -- at the end nothing more is kept
  module _ (r : Option Reason) where
    end_kept : (net : NetParts) (flow : List FlowLine) → net_of_parts net ≡ (last_level w by above).net → flow ≡ flow_on w (last_level w by above).flow above
        → Finds (EndHolds (net_of_parts net) flow claim.taken.set.items claim.taken.matching.places.items (pairs_in above)) r
        → FindsOrKeeps (ClaimHolds w by above LineData.End) (IsClaimOf w by lines (above ++ LineData.End ∷ []) claim) r
    end_kept net flow is shown found =
        let last = last_level w by above in
        finds_keeping _ _ r
        (end_found w by above r
        (subst (λ (m : List (Option ℕ)). Finds (EndHolds last.net (flow_on w last.flow above) (taken_set w above) m (pairs_in above)) r) k.taken.matching
        (subst (λ (s : List Bool). Finds (EndHolds last.net (flow_on w last.flow above) s claim.taken.matching.places.items (pairs_in above)) r) k.taken.set
        (subst (λ (fs : List FlowLine). Finds (EndHolds last.net fs claim.taken.set.items claim.taken.matching.places.items (pairs_in above)) r) shown
        (subst (λ (n : Net). Finds (EndHolds n flow claim.taken.set.items claim.taken.matching.places.items (pairs_in above)) r) is found)))))
        (unchanged LineData.End refl refl refl refl refl refl refl)

    -- in one level and in two
    pub end_judged : HasSecond w by LineData.End claim
        → MatchOption claim.second_net (Finds (EndHolds (net_of_parts claim.net) (take claim.first.flow.count claim.first.flow.lines.items) claim.taken.set.items claim.taken.matching.places.items (pairs_in above)) r)
        (λ net. Finds (EndHolds (net_of_parts net) (take claim.second.flow.count claim.second.flow.lines.items) claim.taken.set.items claim.taken.matching.places.items (pairs_in above)) r)
        → FindsOrKeeps (ClaimHolds w by above LineData.End) (IsClaimOf w by lines (above ++ LineData.End ∷ []) claim) r
    end_judged has = go claim.second_net refl
      where
        level : (b : Bool) → has_two_levels by w ≡ b → last_level w by above ≡ (if b then second_level w by above else first_level w by above)
        level b e = ap (λ (c : Bool). if c then second_level w by above else first_level w by above) e

        go : (o : Option NetParts) → claim.second_net ≡ o
            → MatchOption o (Finds (EndHolds (net_of_parts claim.net) (take claim.first.flow.count claim.first.flow.lines.items) claim.taken.set.items claim.taken.matching.places.items (pairs_in above)) r)
            (λ net. Finds (EndHolds (net_of_parts net) (take claim.second.flow.count claim.second.flow.lines.items) claim.taken.set.items claim.taken.matching.places.items (pairs_in above)) r)
            → FindsOrKeeps (ClaimHolds w by above LineData.End) (IsClaimOf w by lines (above ++ LineData.End ∷ []) claim) r
        go None is found =
            let one = level false (one_level LineData.End has refl is) in
            end_kept claim.net _ (k.net ∙ sym (ap (λ (l : Level). l.net) one)) (flow_is ∙ sym (ap (λ (l : Level). flow_on w l.flow above) one)) found
        go (Some net) is found =
            let two = two_levels net is in
            let last = level true two in
            end_kept net _ (second_net_is net is ∙ sym (ap (λ (l : Level). l.net) last)) (second_flow_is two ∙ sym (ap (λ (l : Level). flow_on w l.flow above) last)) found

  -- one more pair is kept
  pub pair_judged : (p q : ℕ) (after : Stood) (r : Option Reason) → FindsOrKeeps (WantedHold w claim.taken.matching.places.items (pairs_in above) (LineData.Pair p q)) (AreStood w (pairs_in above ++ (p, q) ∷ []) after.stood.items) r
      → FindsOrKeeps (ClaimHolds w by above (LineData.Pair p q)) (IsClaimOf w by lines (above ++ LineData.Pair p q ∷ []) (record { net = claim.net; first = claim.first; second_net = claim.second_net; second = claim.second; taken = claim.taken; stood = after })) r
  pair_judged p q after None found =
      let x : LineData = LineData.Pair p q in (
        pair_found w by above p q None (subst (λ (m : List (Option ℕ)). Finds (WantedHold w m (pairs_in above) x) None) k.taken.matching found.0),
        kept x refl claim.first claim.second_net claim.second claim.taken after (first_same x refl refl refl) (edges_same x refl refl) (second_net_same x refl refl) (also_second x refl refl refl) (taken_same x refl refl) (taken_before x refl refl)
            (subst (λ (ps : List (ℕ × ℕ)). AreStood w ps after.stood.items) (sym (said_one pair_in above x (p, q) refl)) found.1),
      )
  pair_judged p q after (Some why) found = pair_found w by above p q (Some why) (subst (λ (m : List (Option ℕ)). Finds (WantedHold w m (pairs_in above) (LineData.Pair p q)) (Some why)) k.taken.matching found)

  -- the flows that were judged are on the nodes of the nets
  pub first_on : IsFlowOn (net_of_parts claim.net) claim.first.flow
  first_on = on_net k.first.flow (net_of_parts claim.net) k.needs.one_each

  pub second_size : (net : NetParts) → claim.second_net ≡ Some net → (net_of_parts net).size ≡ (net_of_parts claim.net).size
  second_size net is = ap (λ (n : Net). n.size) (second_net_is net is) ∙ k.needs.one_each

  pub second_on : (net : NetParts) → claim.second_net ≡ Some net → (other : Net) → size_in w above ≡ other.size → IsFlowOn other claim.second.flow
  second_on net is other same = on_net (k.second (two_levels net is)).flow other same

  pub second_if : {P : NetParts → Type 0} → ((net : NetParts) → claim.second_net ≡ Some net → P net) → IfSome claim.second_net P
  second_if {P} each = go claim.second_net each
    where
      go : (o : Option NetParts) → ((net : NetParts) → o ≡ Some net → P net) → IfSome o P
      go None each = tt
      go (Some net) each = each net refl

  -- they are conserved exactly where those of the answer are
  pub conserved_is : (x : LineData) → HasSecond w by x claim → flow_in x ≡ None
      → (IsConserved (net_of_parts claim.net).size (take claim.first.flow.count claim.first.flow.lines.items) × IfSome claim.second_net (λ _. IsConserved (net_of_parts claim.net).size (take claim.second.flow.count claim.second.flow.lines.items)))
      ↔ AreConserved w by above
  conserved_is x has none = (to, from)
    where
      Is : Flow → Type 0
      Is flow = IsConserved (net_of_parts claim.net).size (take flow.count flow.lines.items)

      there : (flow : Flow) (said : LineData → Option FlowLine) → take flow.count flow.lines.items ≡ flow_on w said above → Is flow → IsConserved (size_in w above) (flow_on w said above)
      there flow said shown h = subst (IsConserved (size_in w above)) shown (subst (λ (n : ℕ). IsConserved n (take flow.count flow.lines.items)) (sym k.needs.one_each) h)

      back : (flow : Flow) (said : LineData → Option FlowLine) → take flow.count flow.lines.items ≡ flow_on w said above → IsConserved (size_in w above) (flow_on w said above) → Is flow
      back flow said shown h = subst (λ (n : ℕ). IsConserved n (take flow.count flow.lines.items)) k.needs.one_each (subst (IsConserved (size_in w above)) (sym shown) h)

      to : Is claim.first.flow × IfSome claim.second_net (λ _. Is claim.second.flow) → AreConserved w by above
      to h = (there claim.first.flow flow_in flow_is h.0, λ two. there claim.second.flow second_flow_in (second_flow_is two) (of_some claim.second_net (has two none) h.1))
        where
          of_some : (o : Option NetParts) → IsSome o → IfSome o (λ _. Is claim.second.flow) → Is claim.second.flow
          of_some None some h = absurd (false≢true some)
          of_some (Some net) some h = h

      from : AreConserved w by above → Is claim.first.flow × IfSome claim.second_net (λ _. Is claim.second.flow)
      from h = (back claim.first.flow flow_in flow_is h.0, second_if (λ net is. back claim.second.flow second_flow_in (second_flow_is (two_levels net is)) (h.1 (two_levels net is))))

  -- the set that is taken first stays
  pub taken_kept : (numbers : List ℕ) (t : Taken) → IsSetOf w (first_of w above) (rotations_in w above) numbers t → t.is_said ≡ true
      → IsClaimOf w by lines (above ++ LineData.Taken numbers ∷ []) (record { net = claim.net; first = claim.first; second_net = claim.second_net; second = claim.second; taken = if claim.taken.is_said then claim.taken else t; stood = claim.stood })
  taken_kept numbers t of_t said_t = go (filter_map taken_in above) refl
    where
      x : LineData
      x = LineData.Taken numbers

      with_set : (after : Taken) → (if claim.taken.is_said then claim.taken else t) ≡ after → IsSetOf w (first_of w (above ++ x ∷ [])) (rotations_in w (above ++ x ∷ [])) (first_said [] taken_in (above ++ x ∷ [])) after
          → after.is_said ≡ not (is_empty (filter_map taken_in (above ++ x ∷ [])))
          → IsClaimOf w by lines (above ++ x ∷ []) (record { net = claim.net; first = claim.first; second_net = claim.second_net; second = claim.second; taken = if claim.taken.is_said then claim.taken else t; stood = claim.stood })
      with_set after is h s =
          subst (λ (a : Taken). IsClaimOf w by lines (above ++ x ∷ []) (record { net = claim.net; first = claim.first; second_net = claim.second_net; second = claim.second; taken = a; stood = claim.stood })) (sym is)
          (kept x refl claim.first claim.second_net claim.second after claim.stood (first_same x refl refl refl) (edges_same x refl refl) (second_net_same x refl refl) (also_second x refl refl refl) h s (stood_same x refl refl))

      go : (xs : List (List ℕ)) → filter_map taken_in above ≡ xs → IsClaimOf w by lines (above ++ x ∷ []) (record { net = claim.net; first = claim.first; second_net = claim.second_net; second = claim.second; taken = if claim.taken.is_said then claim.taken else t; stood = claim.stood })
      go [] e =
          let all : filter_map taken_in (above ++ x ∷ []) ≡ numbers ∷ [] = said_one taken_in above x numbers refl ∙ ap (λ (xs : List (List ℕ)). xs ++ numbers ∷ []) e in
          with_set t (ap (λ (b : Bool). if b then claim.taken else t) (k.said ∙ ap (λ (xs : List (List ℕ)). not (is_empty xs)) e))
          (set_on x refl numbers t (ap (λ (xs : List (List ℕ)). slice_index_or xs 0 []) all) of_t)
          (said_t ∙ sym (ap (λ (xs : List (List ℕ)). not (is_empty xs)) all))
      go (y ∷ ys) e =
          let all : filter_map taken_in (above ++ x ∷ []) ≡ y ∷ (ys ++ numbers ∷ []) = said_one taken_in above x numbers refl ∙ ap (λ (xs : List (List ℕ)). xs ++ numbers ∷ []) e in
          let said : claim.taken.is_said ≡ true = k.said ∙ ap (λ (xs : List (List ℕ)). not (is_empty xs)) e in
          with_set claim.taken (ap (λ (b : Bool). if b then claim.taken else t) said)
          (set_on x refl (first_said [] taken_in above) claim.taken (ap (λ (xs : List (List ℕ)). slice_index_or xs 0 []) all ∙ sym (ap (λ (xs : List (List ℕ)). slice_index_or xs 0 []) e)) k.taken)
          (said ∙ sym (ap (λ (xs : List (List ℕ)). not (is_empty xs)) all))

  -- what is found at a line of a flow, over the clauses of the answer
  found_on : (said : SaidFlow) (flow_said : LineData → Option FlowLine) (net : NetParts) (other : Net) → take said.flow.count said.flow.lines.items ≡ flow_on w flow_said above → net_of_parts net ≡ other → (line : FlowLine) → line_at said.flow.lines.items said.flow.count ≡ line
      → (o : Option Reason) → Finds (NextHolds (net_of_parts net) (take said.flow.count said.flow.lines.items) (line_at said.flow.lines.items said.flow.count)) o → Finds (NextHolds other (flow_on w flow_said above) line) o
  found_on said flow_said net other shown same line at o h =
      subst (λ (f : FlowLine). Finds (NextHolds other (flow_on w flow_said above) f) o) at
      (subst (λ (fs : List FlowLine). Finds (NextHolds other fs (line_at said.flow.lines.items said.flow.count)) o) shown
      (subst (λ (n : Net). Finds (NextHolds n (take said.flow.count said.flow.lines.items) (line_at said.flow.lines.items said.flow.count)) o) same h))

  -- one more line of the flow is judged
  pub flow_judged : {walk : ChainWalk} → HasWholePoset w above walk → (from to amount : ℕ) → IsNextLine lines above (LineData.Flow from to amount) → (after : SaidFlow) (r : Option Reason) → after.value ≡ claim.first.value → after.flow.lines ≡ claim.first.flow.lines
      → after.flow.repeats ≡ claim.first.flow.repeats
      → FindsOrKeeps (NextHolds (net_of_parts claim.net) (take claim.first.flow.count claim.first.flow.lines.items) (line_at claim.first.flow.lines.items claim.first.flow.count)) (after.flow.count ≡ claim.first.flow.count + 1) r
      → FindsOrKeeps (ClaimHolds w by above (LineData.Flow from to amount)) (IsClaimOf w by lines (above ++ LineData.Flow from to amount ∷ []) (record { net = claim.net; first = after; second_net = None; second = claim.second; taken = claim.taken; stood = claim.stood })) r
  flow_judged {walk} ground from to amount next after r same same_lines same_repeats found = by_result r found
    where
      x : LineData
      x = LineData.Flow from to amount

      line : FlowLine
      line = on_nodes size (flow_line from to amount)

      there : (o : Option Reason) → Finds (NextHolds (net_of_parts claim.net) (take claim.first.flow.count claim.first.flow.lines.items) (line_at claim.first.flow.lines.items claim.first.flow.count)) o → Finds (NextHolds (net_in w by above) (flow_on w flow_in above) line) o
      there = found_on claim.first flow_in claim.net (net_in w by above) flow_is k.net line (flow_at k.first.flow x next (flow_line from to amount) refl)

      on_edge : IsNewEdge (net_in w by above) (flow_on w flow_in above) line → (line.from < size + 2) × (line.to < size + 2)
      on_edge e = shown_edges_on_nodes by w (first_of w above) (rotations_in w above) (all_needs_in above) ground.one_each (needs_below ground) line.from line.to e.edge

      shown : map (on_nodes size) (filter_map flow_in (above ++ x ∷ [])) ≡ flow_on w flow_in above ++ line ∷ []
      shown = ap (map (on_nodes size)) (said_one flow_in above x (flow_line from to amount) refl) ∙ map-append (on_nodes size) (filter_map flow_in above) (flow_line from to amount ∷ [])

      one_edge : IsNewEdge (net_in w by above) (flow_on w flow_in above) line → AreOnEdges (net_in w by above) (flow_on w flow_in above ++ line ∷ [])
      one_edge e a less = elim (cases_lt a (length (flow_on w flow_in above))) [
        | inl below ↦ subst (IsOnEdge (net_in w by above)) (sym (get_or_append_left (flow_on w flow_in above) (line ∷ []) _ a below)) (k.edges a below)
        | inr past ↦ subst (IsOnEdge (net_in w by above)) (sym (get_or_push (flow_on w flow_in above) line _ a (omega (arith, past, less, length_push (flow_on w flow_in above) line)))) (record { not_through = e.not_through; edge = e.edge })
      ]

      by_result : (o : Option Reason) → FindsOrKeeps (NextHolds (net_of_parts claim.net) (take claim.first.flow.count claim.first.flow.lines.items) (line_at claim.first.flow.lines.items claim.first.flow.count)) (after.flow.count ≡ claim.first.flow.count + 1) o
          → FindsOrKeeps (ClaimHolds w by above x) (IsClaimOf w by lines (above ++ x ∷ []) (record { net = claim.net; first = after; second_net = None; second = claim.second; taken = claim.taken; stood = claim.stood })) o
      by_result (Some why) h = flow_found w by above from to amount (Some why) (there (Some why) h)
      by_result None h =
          let holds = there None h.0 in
          let edge : IsNewEdge (net_in w by above) (flow_on w flow_in above) line = holds reason.NoEdge in (
            flow_found w by above from to amount None holds,
            kept x refl after None claim.second claim.taken claim.stood (line_more k.first x refl next (flow_line from to amount) refl after same same_lines same_repeats h.1 (on_edge edge))
                (subst (AreOnEdges (net_in w by above)) (sym shown) (one_edge edge)) (record { same = tt; none = λ _. refl }) (also_second x refl refl refl)
                (taken_same x refl refl) (taken_before x refl refl) (stood_same x refl refl),
          )

  -- one more line of the second flow is judged
  pub second_flow_judged : {walk : ChainWalk} → HasWholePoset w above walk → (net : NetParts) → claim.second_net ≡ Some net → (from to amount : ℕ) → IsNextLine lines above (LineData.SecondFlow from to amount) → (after : SaidFlow) (r : Option Reason)
      → after.value ≡ claim.second.value → after.flow.lines ≡ claim.second.flow.lines → after.flow.repeats ≡ claim.second.flow.repeats
      → FindsOrKeeps (NextHolds (net_of_parts net) (take claim.second.flow.count claim.second.flow.lines.items) (line_at claim.second.flow.lines.items claim.second.flow.count)) (after.flow.count ≡ claim.second.flow.count + 1) r
      → FindsOrKeeps (ClaimHolds w by above (LineData.SecondFlow from to amount)) (IsClaimOf w by lines (above ++ LineData.SecondFlow from to amount ∷ []) (record { net = claim.net; first = claim.first; second_net = claim.second_net; second = after; taken = claim.taken; stood = claim.stood })) r
  second_flow_judged {walk} ground net is from to amount next after r same same_lines same_repeats found = by_result r found
    where
      x : LineData
      x = LineData.SecondFlow from to amount

      line : FlowLine
      line = on_nodes size (flow_line from to amount)

      two : has_two_levels by w ≡ true
      two = two_levels net is

      other : Net
      other = (second_level w by above).net

      there : (o : Option Reason) → Finds (NextHolds (net_of_parts net) (take claim.second.flow.count claim.second.flow.lines.items) (line_at claim.second.flow.lines.items claim.second.flow.count)) o → Finds (NextHolds other (flow_on w second_flow_in above) line) o
      there = found_on claim.second second_flow_in net other (second_flow_is two) (second_net_is net is) line (flow_at (k.second two).flow x next (flow_line from to amount) refl)

      on_edge : IsNewEdge other (flow_on w second_flow_in above) line → (line.from < size + 2) × (line.to < size + 2)
      on_edge e = second_edges_on_nodes by w (first_of w above) (rotations_in w above) (all_needs_in above) (flow_on w flow_in above)
          ground.one_each (needs_below ground) k.first.flow.nodes line.from line.to e.edge

      by_result : (o : Option Reason) → FindsOrKeeps (NextHolds (net_of_parts net) (take claim.second.flow.count claim.second.flow.lines.items) (line_at claim.second.flow.lines.items claim.second.flow.count)) (after.flow.count ≡ claim.second.flow.count + 1) o
          → FindsOrKeeps (ClaimHolds w by above x) (IsClaimOf w by lines (above ++ x ∷ []) (record { net = claim.net; first = claim.first; second_net = claim.second_net; second = after; taken = claim.taken; stood = claim.stood })) o
      by_result (Some why) h = second_flow_found w by above two from to amount (Some why) (there (Some why) h)
      by_result None h =
          let holds = there None h.0 in
          let edge : IsNewEdge other (flow_on w second_flow_in above) line = holds reason.NoEdge in (
            second_flow_found w by above two from to amount None holds,
            kept x refl claim.first claim.second_net after claim.taken claim.stood (first_same x refl refl refl) (edges_same x refl refl) (second_net_same x refl refl)
                (λ _. line_more (k.second two) x refl next (flow_line from to amount) refl after same same_lines same_repeats h.1 (on_edge edge))
                (taken_same x refl refl) (taken_before x refl refl) (stood_same x refl refl),
          )

  -- in one level nothing is asked at a line of the second level, and the claim stays
  pub idle_judged : (x : LineData) → is_up_to_rotations x ≡ false → HasSecond w by x claim → claim.second_net ≡ None → IsSilentOn (first_level w by above) x → IsPlain x
      → ((why : Reason) → ClaimHolds w by above x why) × IsClaimOf w by lines (above ++ x ∷ []) claim
  idle_judged x behind has is s plain =
      let one = one_level x has s.flow is in
      (second_idle w by above x plain one s, idle x behind one s.flow s.value plain.taken plain.pair)

  -- so it is with what is found where there is a second net
  pub second_step : (x : LineData) → is_up_to_rotations x ≡ false → HasSecond w by x claim → IsSilentOn (first_level w by above) x → IsPlain x → (after : SaidFlow) (r : Option Reason) {Found : NetParts → Type 0}
      → MatchOption claim.second_net ((r ≡ None) × (after ≡ claim.second)) Found
      → ((net : NetParts) → claim.second_net ≡ Some net → Found net
      → FindsOrKeeps (ClaimHolds w by above x) (IsClaimOf w by lines (above ++ x ∷ []) (record { net = claim.net; first = claim.first; second_net = claim.second_net; second = after; taken = claim.taken; stood = claim.stood })) r)
      → FindsOrKeeps (ClaimHolds w by above x) (IsClaimOf w by lines (above ++ x ∷ []) (record { net = claim.net; first = claim.first; second_net = claim.second_net; second = after; taken = claim.taken; stood = claim.stood })) r
  second_step x behind has s plain after r {Found} found judged = go claim.second_net refl found
    where
      Kept : SaidFlow → Option Reason → Type 0
      Kept second o = FindsOrKeeps (ClaimHolds w by above x) (IsClaimOf w by lines (above ++ x ∷ []) (record { net = claim.net; first = claim.first; second_net = claim.second_net; second = second; taken = claim.taken; stood = claim.stood })) o

      go : (o : Option NetParts) → claim.second_net ≡ o → MatchOption o ((r ≡ None) × (after ≡ claim.second)) Found → Kept after r
      go None is h = subst (Kept after) (sym h.0) (subst (λ (second : SaidFlow). Kept second None) (sym h.1) (idle_judged x behind has is s plain))
      go (Some net) is h = judged net is h

  -- the set has an item for each rotation
  pub set_long : length claim.taken.set.items ≡ (net_of_parts claim.net).size
  set_long = ap (λ (s : List Bool). length s) k.taken.set ∙ length-set_of (size_in w above) (first_said [] taken_in above) ∙ k.needs.one_each
