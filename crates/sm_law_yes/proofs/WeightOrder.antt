-- The order of seats, of the lines of a flow and of pairs says nothing in an answer of `weight`.
use Rattle.std.proofs.Common.{◌≡◌, ℕ, suc, ◌-◌, ◌==◌, ◌&&◌, arith, refl, sym, ap, ap₂, ◌∙◌, Bool, true, false, List, [], ◌∷◌, ◌++◌, length, map, slice_index_or, Option, Some, None, if◌then◌else◌, IsPermutation, subst, append_assoc, length-append}
use Rattle.std.specs.Prelude.{IfSome, filter_map}
use Rattle.std.specs.List.{All, sum_by}
use Rattle.std.specs.Option.{is_some}
use Rattle.std.proofs.lemmas.Bool.{false≢true}
use Rattle.std.proofs.lemmas.List.{map-append, get_or_append_left}
use Rattle.std.proofs.lemmas.List.Elements.{filter_map-append, All-append, All-nil, All-cons, All-contains, Contains-push}
use Rattle.std.proofs.lemmas.List.Sorted.{IsPermutation-append_left, IsPermutation-append_right, IsPermutation-map, IsPermutation-append_comm, All-permutation, sum_by-IsPermutation}
use Rattle.sm_agents.specs.Written.{Written}
use Rattle.sm_instance.specs.Allowed.{IsAllowed}
use Rattle.sm_instance.specs.Ranks.{pair_weight, weight_of, pair_second, second_of}
use Rattle.sm_agents.specs.declared.kinds.Measure.{Measure}
use Rattle.sm_theory.specs.Chains.{rotation_at}
use Rattle.sm_theory.specs.ClosedSets.{IsClosed, matching_of}
use Rattle.sm_theory.specs.Net.{Net, cut_of}
use Rattle.sm_theory.specs.Flows.{IsResidualReach}
use Rattle.sm_theory.specs.FlowLines.{amount_on, HaveSameEnds, IsNewEdge, IsWithinRoom}
use Rattle.sm_theory.specs.declared.flow_lines.FlowLine.{FlowLine}
use Rattle.sm_seats.specs.SeatMarket.{seat_market}
use Rattle.sm_seats.specs.Seating.{seating_of, written_of}
use Rattle.sm_seats.specs.Levels.{has_two_levels}
use Rattle.sm_seats.specs.ShownNet.{gain_by, net_shown, second_net_shown}
use Rattle.sm_report.specs.Heads.{HeadData}
use Rattle.sm_report.specs.Lines.{LineData}
use Rattle.sm_report.specs.declared.keywords.Keyword.TheVariants as keyword
use Rattle.sm_report.specs.Keywords.{keyword_of}
use Rattle.sm_check_forms.specs.Keywords.{is_same}
use Rattle.sm_check_clauses.specs.declared.verdicts.Reason.{Reason}
use Rattle.sm_check_clauses.specs.declared.verdicts.Reason.TheVariants as reason
use Rattle.sm_check_clauses.specs.Said.{firsts_in, first_in, rotation_in, rotations_in, needs_in, all_needs_in, flow_in, second_flow_in, gain_in, second_gain_in, taken_in, value_in, second_value_in, cut_in, second_cut_in, total_in, second_total_in, pair_in, pairs_in, is_up_to_rotations}
use Rattle.sm_check_clauses.specs.SeatMatchings.{first_of, seat_places_in}
use Rattle.sm_check_clauses.specs.Pairs.{IsWanted, AreAllThere, WantedHold}
use Rattle.sm_check_clauses.specs.Flows.{size_in, net_in, on_nodes, set_of_numbers, taken_set, matching_of_set, taken_matching, Level, first_level, flow_of, second_level, last_level, LevelHolds, TakenHolds, WeightHolds}
use Rattle.sm_check_clauses.specs.Judging.{answer, Clauses}
use Rattle.sm_check_clauses.proofs.AnswerLemmas.{said_same, said_one}
use Rattle.sm_law_yes.specs.Reordered.{is_free}
use Rattle.sm_law_yes.proofs.Exchanges.{SeesNoOrder}
use Rattle.sm_law_yes.proofs.SamePairs.{AreSamePairs, wanted_same, all_there_same}
use Rattle.sm_law_yes.proofs.SaidOrder.{if_said, not_closing, unsaid, unsaid_more, wanted_freely, pairs_more, exchanged_said, alike_said, up_more, up_exchanged}
use Rattle.sm_law_yes.proofs.PairOrder.{has_pair}
use Rattle.sm_law_yes.proofs.SeatOrder.{free_too, no_rotation, no_needs, firsts_more, same_first, firsts_carry, firsts_exchange, AreChainsAlike, chain_carries, chain_first, chain_second}

-- What free lines don't say.

no_gain : (x : LineData) → is_free (keyword_of x) ≡ true → gain_in x ≡ None
no_gain (LineData.Gain i gain) f = absurd (false≢true f)
no_gain _ f = refl

no_second_gain : (x : LineData) → is_free (keyword_of x) ≡ true → second_gain_in x ≡ None
no_second_gain (LineData.SecondGain i gain) f = absurd (false≢true f)
no_second_gain _ f = refl

no_taken : (x : LineData) → is_free (keyword_of x) ≡ true → taken_in x ≡ None
no_taken (LineData.Taken taken) f = absurd (false≢true f)
no_taken _ f = refl

no_value : (x : LineData) → is_free (keyword_of x) ≡ true → value_in x ≡ None
no_value (LineData.Value value) f = absurd (false≢true f)
no_value _ f = refl

no_second_value : (x : LineData) → is_free (keyword_of x) ≡ true → second_value_in x ≡ None
no_second_value (LineData.SecondValue value) f = absurd (false≢true f)
no_second_value _ f = refl

no_cut : (x : LineData) → is_free (keyword_of x) ≡ true → cut_in x ≡ None
no_cut (LineData.Cut value) f = absurd (false≢true f)
no_cut _ f = refl

no_second_cut : (x : LineData) → is_free (keyword_of x) ≡ true → second_cut_in x ≡ None
no_second_cut (LineData.SecondCut value) f = absurd (false≢true f)
no_second_cut _ f = refl

no_total : (x : LineData) → is_free (keyword_of x) ≡ true → total_in x ≡ None
no_total (LineData.Total weight) f = absurd (false≢true f)
no_total _ f = refl

no_second_total : (x : LineData) → is_free (keyword_of x) ≡ true → second_total_in x ≡ None
no_second_total (LineData.SecondTotal weight) f = absurd (false≢true f)
no_second_total _ f = refl

has_flow : (x : LineData) → is_some (flow_in x) ≡ is_same (keyword_of x) keyword.Flow
has_flow (LineData.Flow from to amount) = refl
has_flow _ = refl

has_second_flow : (x : LineData) → is_some (second_flow_in x) ≡ is_same (keyword_of x) keyword.SecondFlow
has_second_flow (LineData.SecondFlow from to amount) = refl
has_second_flow _ = refl

-- Lines of a flow.

-- one more line
flows_more : (flow : LineData → Option FlowLine) (a b : List LineData) (z : LineData) → IsPermutation (filter_map flow a) (filter_map flow b) → IsPermutation (filter_map flow (a ++ z ∷ [])) (filter_map flow (b ++ z ∷ []))
flows_more flow a b z s =
    subst (λ (xs : List FlowLine). IsPermutation xs (filter_map flow (b ++ z ∷ []))) (sym (filter_map-append flow a (z ∷ [])))
    (subst (IsPermutation (filter_map flow a ++ filter_map flow (z ∷ []))) (sym (filter_map-append flow b (z ∷ []))) (IsPermutation-append_left (filter_map flow (z ∷ [])) (filter_map flow a) (filter_map flow b) s))

-- two lines in either order
flows_exchanged : (flow : LineData → Option FlowLine) (above : List LineData) (x y : LineData) → IsPermutation (filter_map flow ((above ++ x ∷ []) ++ y ∷ [])) (filter_map flow ((above ++ y ∷ []) ++ x ∷ []))
flows_exchanged flow above x y =
    subst (λ (xs : List FlowLine). IsPermutation xs (filter_map flow ((above ++ y ∷ []) ++ x ∷ []))) (sym (apart x y))
    (subst (IsPermutation (filter_map flow above ++ (filter_map flow (x ∷ []) ++ filter_map flow (y ∷ [])))) (sym (apart y x))
    (IsPermutation-append_right (filter_map flow above) (filter_map flow (x ∷ []) ++ filter_map flow (y ∷ [])) (filter_map flow (y ∷ []) ++ filter_map flow (x ∷ []))
    (IsPermutation-append_comm (filter_map flow (x ∷ [])) (filter_map flow (y ∷ [])))))
  where
    apart : (u v : LineData) → filter_map flow ((above ++ u ∷ []) ++ v ∷ []) ≡ filter_map flow above ++ (filter_map flow (u ∷ []) ++ filter_map flow (v ∷ []))
    apart u v =
        filter_map-append flow (above ++ u ∷ []) (v ∷ []) ∙ ap (λ (xs : List FlowLine). xs ++ filter_map flow (v ∷ [])) (filter_map-append flow above (u ∷ []))
        ∙ append_assoc (filter_map flow above) (filter_map flow (u ∷ [])) (filter_map flow (v ∷ []))

-- Two new edges.
module _ (net : Net) (n : ℕ) (raw : List FlowLine) (a b : FlowLine) (f : IsNewEdge net (map (on_nodes n) raw) (on_nodes n a)) (g : IsNewEdge net (map (on_nodes n) (raw ++ a ∷ [])) (on_nodes n b)) where
  parts : (c d : FlowLine) → All (λ other. ¬ HaveSameEnds other (on_nodes n d)) (map (on_nodes n) (raw ++ c ∷ []))
      → All (λ other. ¬ HaveSameEnds other (on_nodes n d)) (map (on_nodes n) raw) × (¬ HaveSameEnds (on_nodes n c) (on_nodes n d))
  parts c d h =
      let P : FlowLine → Type 0 = λ other. ¬ HaveSameEnds other (on_nodes n d) in
      let both = subst (All P) (map-append (on_nodes n) raw (c ∷ [])) h in (
        (λ k e less. subst P (get_or_append_left (map (on_nodes n) raw) (on_nodes n c ∷ []) e k less)
            (both k e (let long = length-append (map (on_nodes n) raw) (on_nodes n c ∷ []) in omega (arith, less, long)))),
        All-contains P (map (on_nodes n) raw ++ on_nodes n c ∷ []) (on_nodes n c) both (Contains-push (map (on_nodes n) raw) (on_nodes n c)),
      )

  new_first : IsNewEdge net (map (on_nodes n) raw) (on_nodes n b)
  new_first = record { not_through = g.not_through; edge = g.edge; new = (parts a b g.new).0 }

  new_second : IsNewEdge net (map (on_nodes n) (raw ++ b ∷ [])) (on_nodes n a)
  new_second = record {
    not_through = f.not_through;
    edge = f.edge;
    new = subst (All (λ other. ¬ HaveSameEnds other (on_nodes n a))) (sym (map-append (on_nodes n) raw (b ∷ [])))
        (All-append (λ other. ¬ HaveSameEnds other (on_nodes n a)) (map (on_nodes n) raw) (on_nodes n b ∷ []) f.new
        (All-cons (λ other. ¬ HaveSameEnds other (on_nodes n a)) (on_nodes n b) [] (λ same. (parts a b g.new).1 (sym same.0, sym same.1)) (All-nil (λ other. ¬ HaveSameEnds other (on_nodes n a)))));
  }

-- What is read of the lines above.
module _ (w : Written) (by : Measure) where
  -- as much is read of all that stands before the figures, and of the pairs
  pub record AreWeightsAlike (a b : List LineData) : Type 0 where
    pub chains : AreChainsAlike w a b
    pub needs : all_needs_in a ≡ all_needs_in b
    pub flows : IsPermutation (filter_map flow_in a) (filter_map flow_in b)
    pub seconds : IsPermutation (filter_map second_flow_in a) (filter_map second_flow_in b)
    pub taken : filter_map taken_in a ≡ filter_map taken_in b
    pub values : filter_map value_in a ≡ filter_map value_in b
    pub second_values : filter_map second_value_in a ≡ filter_map second_value_in b
    pub pairs : AreSamePairs (pairs_in a) (pairs_in b)

  module _ (a b : List LineData) (s : AreWeightsAlike a b) where
    same_rotations : rotations_in w a ≡ rotations_in w b
    same_rotations = let c = s.chains in c.rotations

    first_same : first_of w a ≡ first_of w b
    first_same = let c = s.chains in same_first w a b c.firsts

    same_size : size_in w a ≡ size_in w b
    same_size = ap (λ (xs : List (List (ℕ × ℕ))). length xs) same_rotations

    same_taken : taken_set w a ≡ taken_set w b
    same_taken = ap₂ (λ (n : ℕ) (taken : List (List ℕ)). set_of_numbers n (slice_index_or taken 0 [])) same_size s.taken

    same_of_set : (p q : List Bool) → p ≡ q → matching_of_set w a p ≡ matching_of_set w b q
    same_of_set p q e = λ i. (let m = matching_of (seat_market w) (first_same i) (same_rotations i) (e i) in written_of (seating_of w) m.proposers)

    same_matching : taken_matching w a ≡ taken_matching w b
    same_matching = same_of_set (taken_set w a) (taken_set w b) same_taken

    same_net : net_in w by a ≡ net_in w by b
    same_net = λ i. net_shown by w (first_same i) (same_rotations i) (s.needs i)

    -- the flow of a level
    module _ (flow : LineData → Option FlowLine) (moved : IsPermutation (filter_map flow a) (filter_map flow b)) where
      on_same_nodes : IsPermutation (map (on_nodes (size_in w a)) (filter_map flow a)) (map (on_nodes (size_in w b)) (filter_map flow b))
      on_same_nodes =
          subst (λ (n : ℕ). IsPermutation (map (on_nodes (size_in w a)) (filter_map flow a)) (map (on_nodes n) (filter_map flow b))) same_size
          (IsPermutation-map (on_nodes (size_in w a)) (filter_map flow a) (filter_map flow b) moved)

      same_sum : (f : FlowLine → ℕ) → sum_by f (map (on_nodes (size_in w a)) (filter_map flow a)) ≡ sum_by f (map (on_nodes (size_in w b)) (filter_map flow b))
      same_sum f = sym (sum_by-IsPermutation f (map (on_nodes (size_in w a)) (filter_map flow a)) (map (on_nodes (size_in w b)) (filter_map flow b)) on_same_nodes)

      same_amounts : amount_on (map (on_nodes (size_in w a)) (filter_map flow a)) ≡ amount_on (map (on_nodes (size_in w b)) (filter_map flow b))
      same_amounts = λ t i j. same_sum (λ line. if line.from == i && line.to == j then line.amount else 0) t

    same_first_level : first_level w by a ≡ first_level w by b
    same_first_level = ap (λ (net : Net). let level : Level = record {
      gain = gain_in;
      flow = flow_in;
      value = value_in;
      cut = cut_in;
      total = total_in;
      weigh = pair_weight by w;
      weight = weight_of by w;
      net = net;
    } in level) same_net

    same_second_level : second_level w by a ≡ second_level w by b
    same_second_level = ap (λ (net : Net). let level : Level = record {
      gain = second_gain_in;
      flow = second_flow_in;
      value = second_value_in;
      cut = second_cut_in;
      total = second_total_in;
      weigh = pair_second w;
      weight = second_of by w;
      net = net;
    } in level) (λ i. second_net_shown by w (first_same i) (same_rotations i) (s.needs i) (same_amounts flow_in s.flows i))

    -- the clauses of a level
    level_carries : (level : Level) → IsPermutation (filter_map level.flow a) (filter_map level.flow b) → filter_map level.value a ≡ filter_map level.value b
        → (z : LineData) (why : Reason) → LevelHolds w level a z why → LevelHolds w level b z why
    level_carries level moved values z reason.WrongGain h =
        if_said (level.gain z) (λ g e. e ∙ ap (λ (xs : List (List (ℕ × ℕ))). gain_by level.weigh (seating_of w) (rotation_at xs (length xs - 1))) same_rotations) h
    level_carries level moved values z reason.NoEdge h =
        if_said (level.flow z) (λ flow e.
        let line = on_nodes (size_in w b) flow in
        let there = subst (λ (n : ℕ). IsNewEdge level.net (flow_of w level a) (on_nodes n flow)) same_size e in
        record {
          not_through = there.not_through;
          edge = there.edge;
          new = All-permutation (λ other. ¬ HaveSameEnds other line) (flow_of w level a) (flow_of w level b) (on_same_nodes level.flow moved) there.new;
        }) h
    level_carries level moved values z reason.OverRoom h = if_said (level.flow z) (λ flow e. subst (λ (n : ℕ). IsWithinRoom level.net (on_nodes n flow)) same_size e) h
    level_carries level moved values z reason.NotConserved h =
        if_said (taken_in z) (λ taken e. λ k less.
        sym (same_sum level.flow moved (λ line. if line.to == suc k then line.amount else 0))
        ∙ e k (let size = same_size in omega (arith, less, size))
        ∙ same_sum level.flow moved (λ line. if line.from == suc k then line.amount else 0)) h
    level_carries level moved values z reason.WrongValue h = if_said (level.value z) (λ value e. e ∙ same_sum level.flow moved (λ line. if line.from == 0 then line.amount else 0)) h
    level_carries level moved values z reason.WrongCut h = if_said (level.cut z) (λ cut e. e ∙ ap (cut_of level.net) same_taken) h
    level_carries level moved values z reason.CutDiffers h = if_said (level.cut z) (λ cut e. e ∙ ap (λ (vs : List ℕ). slice_index_or vs 0 0) values) h
    level_carries level moved values z reason.WrongTotal h = if_said (level.total z) (λ total e. e ∙ ap level.weight same_matching) h
    level_carries level moved values z _ h = tt

    first_carries : (z : LineData) (why : Reason) → LevelHolds w (first_level w by a) a z why → LevelHolds w (first_level w by b) b z why
    first_carries z why h =
        subst (λ (level : Level). LevelHolds w level b z why) same_first_level (level_carries (first_level w by a) s.flows s.values z why h)

    second_carries : (z : LineData) (why : Reason) → LevelHolds w (second_level w by a) a z why → LevelHolds w (second_level w by b) b z why
    second_carries z why h =
        subst (λ (level : Level). LevelHolds w level b z why) same_second_level (level_carries (second_level w by a) s.seconds s.second_values z why h)

    -- the set that is taken
    taken_carries : (level : Level) → IsPermutation (filter_map level.flow a) (filter_map level.flow b) → (z : LineData) (why : Reason) → TakenHolds w level a z why → TakenHolds w level b z why
    taken_carries level moved z reason.NotClosed h =
        if_said (taken_in z) (λ taken e. record {
          there = λ i c. let le = e.there i c in let size = same_size in omega (arith, le, size);
          closed = subst (λ (xs : List (List (ℕ × ℕ))). IsClosed (seat_market w) xs (set_of_numbers (length xs) taken)) same_rotations e.closed;
          allowed = subst (IsAllowed w) (same_of_set (set_of_numbers (size_in w a) taken) (set_of_numbers (size_in w b) taken) (ap (λ (n : ℕ). set_of_numbers n taken) same_size)) e.allowed;
        }) h
    taken_carries level moved z reason.NotLeast h = λ e.
        subst (IsResidualReach level.net (amount_on (flow_of w level b))) same_taken
        (subst (λ (f : ℕ → ℕ → ℕ). IsResidualReach level.net f (taken_set w a)) (same_amounts level.flow moved) (h e))
    taken_carries level moved z _ h = tt

    last_carries : (t : Bool) (z : LineData) (why : Reason) → LevelHolds w (if t then second_level w by a else first_level w by a) a z why → LevelHolds w (if t then second_level w by b else first_level w by b) b z why
    last_carries true z why h = second_carries z why h
    last_carries false z why h = first_carries z why h

    last_taken_carries : (t : Bool) (z : LineData) (why : Reason) → TakenHolds w (if t then second_level w by a else first_level w by a) a z why → TakenHolds w (if t then second_level w by b else first_level w by b) b z why
    last_taken_carries true z why h = subst (λ (level : Level). TakenHolds w level b z why) same_second_level (taken_carries (second_level w by a) s.seconds z why h)
    last_taken_carries false z why h = subst (λ (level : Level). TakenHolds w level b z why) same_first_level (taken_carries (first_level w by a) s.flows z why h)

    wanted_carries : (z : LineData) (why : Reason) → WantedHold w (taken_matching w a) (pairs_in a) z why → WantedHold w (taken_matching w b) (pairs_in b) z why
    wanted_carries z reason.WrongPair h = (
      if_said (pair_in z) (λ x f. subst (λ (m : List (Option ℕ)). IsWanted w m (pairs_in b) x) same_matching (wanted_same s.pairs f)) h.0,
      λ e. subst (λ (m : List (Option ℕ)). AreAllThere m (pairs_in b)) same_matching (all_there_same (taken_matching w a) s.pairs (h.1 e)),
    )
    wanted_carries z _ h = tt

    weight_carries : (z : LineData) (why : Reason) → WeightHolds w by a z why → WeightHolds w by b z why
    weight_carries z why h = (
      (let c = s.chains in firsts_carry w a b z why c.firsts h.0),
      chain_carries w a b z why s.chains h.1,
      first_carries z why h.2,
      last_carries (has_two_levels by w) z why h.3,
      last_taken_carries (has_two_levels by w) z why h.4,
      wanted_carries z why h.5,
    )

-- Two neighbours.

none_holds : {X : Type 0} (P : X → Type 0) (o : Option X) → o ≡ None → IfSome o P
none_holds P None e = tt
none_holds {X} P (Some x) e = absurd (some e)
  where
    some : ◌≡◌ {A = Option X} (Some x) None → ⊥
    some e = grind arith

-- a line of a flow by a net and the number of its rotations
abbrev IsNewBy : Net × ℕ → List FlowLine → FlowLine → Type 0
IsNewBy ground raw line = IsNewEdge ground.0 (map (on_nodes ground.1) raw) (on_nodes ground.1 line)

abbrev IsWithinBy : Net × ℕ → FlowLine → Type 0
IsWithinBy ground line = IsWithinRoom ground.0 (on_nodes ground.1 line)

-- each of two lines may say its edge where the other one did
record AreFlowsExchanged (flow : LineData → Option FlowLine) (ground : List LineData → Net × ℕ) (above : List LineData) (x y : LineData) : Type 0 where
  first : IfSome (flow y) (IsNewBy (ground above) (filter_map flow above))
  second : IfSome (flow x) (IsNewBy (ground (above ++ y ∷ [])) (filter_map flow (above ++ y ∷ [])))
  first_room : IfSome (flow y) (IsWithinBy (ground above))
  second_room : IfSome (flow x) (IsWithinBy (ground (above ++ y ∷ [])))

exchanged_flows : (flow : LineData → Option FlowLine) (ground : List LineData → Net × ℕ) (above : List LineData) (x y : LineData) → is_some (flow x) ≡ is_some (flow y)
    → ((u : LineData) → is_some (flow u) ≡ true → ground (above ++ u ∷ []) ≡ ground above)
    → IfSome (flow x) (IsNewBy (ground above) (filter_map flow above)) → IfSome (flow y) (IsNewBy (ground (above ++ x ∷ [])) (filter_map flow (above ++ x ∷ [])))
    → IfSome (flow x) (IsWithinBy (ground above)) → IfSome (flow y) (IsWithinBy (ground (above ++ x ∷ []))) → AreFlowsExchanged flow ground above x y
exchanged_flows flow ground above x y same still f g f_room g_room = go (flow x) (flow y) refl refl f g f_room g_room
  where
    go : (o p : Option FlowLine) → flow x ≡ o → flow y ≡ p → IfSome o (IsNewBy (ground above) (filter_map flow above)) → IfSome p (IsNewBy (ground (above ++ x ∷ [])) (filter_map flow (above ++ x ∷ [])))
        → IfSome o (IsWithinBy (ground above)) → IfSome p (IsWithinBy (ground (above ++ x ∷ []))) → AreFlowsExchanged flow ground above x y
    go None None ex ey f g f_room g_room = record { first = none_holds _ (flow y) ey; second = none_holds _ (flow x) ex; first_room = none_holds _ (flow y) ey; second_room = none_holds _ (flow x) ex }
    go (Some a) (Some b) ex ey f g f_room g_room =
        let raw = filter_map flow above in
        let still_x = still x (ap is_some ex) in
        let still_y = still y (ap is_some ey) in
        let after = subst (λ (zs : List FlowLine). IsNewBy (ground above) zs b) (said_one flow above x a ex) (subst (λ (s : Net × ℕ). IsNewBy s (filter_map flow (above ++ x ∷ [])) b) still_x g) in
        record {
          first = subst (λ o. IfSome o (IsNewBy (ground above) raw)) (sym ey) (new_first (ground above).0 (ground above).1 raw a b f after);
          second = subst (λ o. IfSome o (IsNewBy (ground (above ++ y ∷ [])) (filter_map flow (above ++ y ∷ [])))) (sym ex)
              (subst (λ (s : Net × ℕ). IsNewBy s (filter_map flow (above ++ y ∷ [])) a) (sym still_y)
              (subst (λ (zs : List FlowLine). IsNewBy (ground above) zs a) (sym (said_one flow above y b ey)) (new_second (ground above).0 (ground above).1 raw a b f after)));
          first_room = subst (λ o. IfSome o (IsWithinBy (ground above))) (sym ey) (subst (λ (s : Net × ℕ). IsWithinBy s b) still_x g_room);
          second_room = subst (λ o. IfSome o (IsWithinBy (ground (above ++ y ∷ [])))) (sym ex) (subst (λ (s : Net × ℕ). IsWithinBy s a) (sym still_y) f_room);
        }
    go None (Some b) ex ey f g f_room g_room = absurd (false≢true (sym (ap is_some ex) ∙ same ∙ ap is_some ey))
    go (Some a) None ex ey f g f_room g_room = absurd (false≢true (sym (ap is_some ey) ∙ sym same ∙ ap is_some ex))

module _ (w : Written) (by : Measure) where
  -- a free line has nothing but a line of the flow at which a clause of a level is tried
  level_at : (level : Level) (above : List LineData) (z : LineData) → level.gain z ≡ None → taken_in z ≡ None → level.value z ≡ None → level.cut z ≡ None → level.total z ≡ None
      → IfSome (level.flow z) (λ flow. IsNewEdge level.net (flow_of w level above) (on_nodes (size_in w above) flow)) → IfSome (level.flow z) (λ flow. IsWithinRoom level.net (on_nodes (size_in w above) flow))
      → (why : Reason) → LevelHolds w level above z why
  level_at level above z gain taken value cut total new room reason.WrongGain = none_holds _ (level.gain z) gain
  level_at level above z gain taken value cut total new room reason.NoEdge = new
  level_at level above z gain taken value cut total new room reason.OverRoom = room
  level_at level above z gain taken value cut total new room reason.NotConserved = none_holds _ (taken_in z) taken
  level_at level above z gain taken value cut total new room reason.WrongValue = none_holds _ (level.value z) value
  level_at level above z gain taken value cut total new room reason.WrongCut = none_holds _ (level.cut z) cut
  level_at level above z gain taken value cut total new room reason.CutDiffers = none_holds _ (level.cut z) cut
  level_at level above z gain taken value cut total new room reason.WrongTotal = none_holds _ (level.total z) total
  level_at level above z gain taken value cut total new room _ = tt

  taken_at : (level : Level) (above : List LineData) (z : LineData) → is_free (keyword_of z) ≡ true → (why : Reason) → TakenHolds w level above z why
  taken_at level above z f reason.NotClosed = none_holds _ (taken_in z) (no_taken z f)
  taken_at level above z f reason.NotLeast = not_closing z f
  taken_at level above z f _ = tt

  wanted_at : (above : List LineData) (z : LineData) → is_free (keyword_of z) ≡ true → IfSome (pair_in z) (IsWanted w (taken_matching w above) (pairs_in above)) → (why : Reason) → WantedHold w (taken_matching w above) (pairs_in above) z why
  wanted_at above z f h reason.WrongPair = (h, not_closing z f)
  wanted_at above z f h _ = tt

  abbrev first_ground : List LineData → Net × ℕ
  first_ground lines = (net_in w by lines, size_in w lines)

  abbrev second_ground : List LineData → Net × ℕ
  second_ground lines = (
    second_net_shown by w (first_of w lines) (rotations_in w lines) (all_needs_in lines) (amount_on (flow_of w (first_level w by lines) lines)),
    size_in w lines,
  )

  -- a line that says none of these leaves the nets
  module _ (above : List LineData) (u : LineData) (a : first_in w u ≡ None) (b : rotation_in w u ≡ None) (c : needs_in u ≡ None) where
    firsts_stay : firsts_in w (above ++ u ∷ []) ≡ firsts_in w above
    firsts_stay = said_same (first_in w) above u a

    rotations_stay : rotations_in w (above ++ u ∷ []) ≡ rotations_in w above
    rotations_stay = said_same (rotation_in w) above u b

    needs_stay : all_needs_in (above ++ u ∷ []) ≡ all_needs_in above
    needs_stay = said_same needs_in above u c

    first_stays : first_ground (above ++ u ∷ []) ≡ first_ground above
    first_stays = λ i. (
      net_shown by w (seat_places_in (seat_market w) (firsts_stay i)) (rotations_stay i) (needs_stay i),
      length (rotations_stay i),
    )

    second_stays : flow_in u ≡ None → second_ground (above ++ u ∷ []) ≡ second_ground above
    second_stays d = λ i. (
      second_net_shown by w (seat_places_in (seat_market w) (firsts_stay i)) (rotations_stay i) (needs_stay i) (amount_on (map (on_nodes (length (rotations_stay i))) (said_same flow_in above u d i))),
      length (rotations_stay i),
    )

    matching_stays : taken_in u ≡ None → taken_matching w (above ++ u ∷ []) ≡ taken_matching w above
    matching_stays d = λ i. (
        let set = set_of_numbers (length (rotations_stay i)) (slice_index_or (said_same taken_in above u d i) 0 []) in
        let m = matching_of (seat_market w) (seat_places_in (seat_market w) (firsts_stay i)) (rotations_stay i) set in
        written_of (seating_of w) m.proposers)

  flow_stays : (above : List LineData) (u : LineData) → is_some (flow_in u) ≡ true → first_ground (above ++ u ∷ []) ≡ first_ground above
  flow_stays above (LineData.Flow from to amount) e = first_stays above (LineData.Flow from to amount) refl refl refl
  flow_stays above _ e = absurd (false≢true e)

  second_flow_stays : (above : List LineData) (u : LineData) → is_some (second_flow_in u) ≡ true → second_ground (above ++ u ∷ []) ≡ second_ground above
  second_flow_stays above (LineData.SecondFlow from to amount) e = second_stays above (LineData.SecondFlow from to amount) refl refl refl refl
  second_flow_stays above _ e = absurd (false≢true e)

  pair_stays : (above : List LineData) (u : LineData) → is_some (pair_in u) ≡ true → taken_matching w (above ++ u ∷ []) ≡ taken_matching w above
  pair_stays above (LineData.Pair p r) e = matching_stays above (LineData.Pair p r) refl refl refl refl
  pair_stays above _ e = absurd (false≢true e)

  -- a pair that is wanted stays so with one more pair
  if_pair : (z : LineData) (m n : List (Option ℕ)) (xs : List (ℕ × ℕ)) → (is_some (pair_in z) ≡ true → m ≡ n) → IfSome (pair_in z) (IsWanted w m xs) → IfSome (pair_in z) (IsWanted w n xs)
  if_pair z m n xs same h = go (pair_in z) refl h
    where
      go : (o : Option (ℕ × ℕ)) → pair_in z ≡ o → IfSome o (IsWanted w m xs) → IfSome o (IsWanted w n xs)
      go None e h = tt
      go (Some b) e h = subst (λ (places : List (Option ℕ)). IsWanted w places xs b) (same (ap is_some e)) h

  module _ (above : List LineData) (x y : LineData) (e : keyword_of x ≡ keyword_of y) (f : is_free (keyword_of x) ≡ true)
      (hx : (why : Reason) → WeightHolds w by above x why) (hy : (why : Reason) → WeightHolds w by (above ++ x ∷ []) y why) where
    g : is_free (keyword_of y) ≡ true
    g = free_too x y e f

    flows_are : AreFlowsExchanged flow_in first_ground above x y
    flows_are = exchanged_flows flow_in first_ground above x y (alike_said flow_in keyword.Flow has_flow x y e) (flow_stays above)
        (hx reason.NoEdge).2 (hy reason.NoEdge).2 (hx reason.OverRoom).2 (hy reason.OverRoom).2

    level_first : (why : Reason) → LevelHolds w (first_level w by above) above y why
    level_first = let t = flows_are in level_at (first_level w by above) above y (no_gain y g) (no_taken y g) (no_value y g) (no_cut y g) (no_total y g) t.first t.first_room

    level_second : (why : Reason) → LevelHolds w (first_level w by (above ++ y ∷ [])) (above ++ y ∷ []) x why
    level_second = let t = flows_are in level_at (first_level w by (above ++ y ∷ [])) (above ++ y ∷ []) x (no_gain x f) (no_taken x f) (no_value x f) (no_cut x f) (no_total x f) t.second t.second_room

    -- the last level
    last_first : (two : Bool) → ((why : Reason) → LevelHolds w (if two then second_level w by above else first_level w by above) above x why)
        → ((why : Reason) → LevelHolds w (if two then second_level w by (above ++ x ∷ []) else first_level w by (above ++ x ∷ [])) (above ++ x ∷ []) y why)
        → (why : Reason) → LevelHolds w (if two then second_level w by above else first_level w by above) above y why
    last_first false lx ly = level_first
    last_first true lx ly =
        let t = exchanged_flows second_flow_in second_ground above x y (alike_said second_flow_in keyword.SecondFlow has_second_flow x y e) (second_flow_stays above)
        (lx reason.NoEdge) (ly reason.NoEdge) (lx reason.OverRoom) (ly reason.OverRoom) in
        level_at (second_level w by above) above y (no_second_gain y g) (no_taken y g) (no_second_value y g) (no_second_cut y g) (no_second_total y g) t.first t.first_room

    last_second : (two : Bool) → ((why : Reason) → LevelHolds w (if two then second_level w by above else first_level w by above) above x why)
        → ((why : Reason) → LevelHolds w (if two then second_level w by (above ++ x ∷ []) else first_level w by (above ++ x ∷ [])) (above ++ x ∷ []) y why)
        → (why : Reason) → LevelHolds w (if two then second_level w by (above ++ y ∷ []) else first_level w by (above ++ y ∷ [])) (above ++ y ∷ []) x why
    last_second false lx ly = level_second
    last_second true lx ly =
        let t = exchanged_flows second_flow_in second_ground above x y (alike_said second_flow_in keyword.SecondFlow has_second_flow x y e) (second_flow_stays above)
        (lx reason.NoEdge) (ly reason.NoEdge) (lx reason.OverRoom) (ly reason.OverRoom) in
        level_at (second_level w by (above ++ y ∷ [])) (above ++ y ∷ []) x (no_second_gain x f) (no_taken x f) (no_second_value x f) (no_second_cut x f) (no_second_total x f) t.second t.second_room

  -- the order of free lines in `weight`
  pub weight_order : SeesNoOrder (Clauses (answer w (HeadData.Weight by))) (AreWeightsAlike w by)
  weight_order = record {
    carries = λ a b z why s h. weight_carries w by a b s z why h;
    more = λ a b z s. (let c = s.chains in record {
      chains = record {
        firsts = firsts_more w a b z c.firsts;
        rotations = unsaid_more (rotation_in w) a b z c.rotations;
        ups = up_more is_up_to_rotations a b z c.ups;
      };
      needs = unsaid_more needs_in a b z s.needs;
      flows = flows_more flow_in a b z s.flows;
      seconds = flows_more second_flow_in a b z s.seconds;
      taken = unsaid_more taken_in a b z s.taken;
      values = unsaid_more value_in a b z s.values;
      second_values = unsaid_more second_value_in a b z s.second_values;
      pairs = pairs_more pair_in a b z s.pairs;
    });
    exchanges = λ above x y e f hx hy.
        let two = has_two_levels by w in
        let g : is_free (keyword_of y) ≡ true = free_too x y e f in
        let t = firsts_exchange w above x y e f (λ why. (hx why).0) (λ why. (hy why).0) in
        let same = alike_said pair_in keyword.Pair has_pair x y e in
        let p = exchanged_said pair_in (wanted_freely w (taken_matching w above)) above x y same (hx reason.WrongPair).5.0
        (if_pair y (taken_matching w (above ++ x ∷ [])) (taken_matching w above) (pairs_in (above ++ x ∷ [])) (λ some. pair_stays above x (same ∙ some)) (hy reason.WrongPair).5.0) in
        record {
          first = λ why. (
            t.first why,
            chain_first w above x y e f (λ other. (hx other).1) why,
            level_first above x y e f hx hy why,
            last_first above x y e f hx hy two (λ other. (hx other).3) (λ other. (hy other).3) why,
            taken_at (last_level w by above) above y g why,
            wanted_at above y g p.first why,
          );
          second = λ why. (
            t.second why,
            chain_second w above x y e f (λ other. (hx other).1) why,
            level_second above x y e f hx hy why,
            last_second above x y e f hx hy two (λ other. (hx other).3) (λ other. (hy other).3) why,
            taken_at (last_level w by (above ++ y ∷ [])) (above ++ y ∷ []) x f why,
            wanted_at (above ++ y ∷ []) x f
                (if_pair x (taken_matching w above) (taken_matching w (above ++ y ∷ [])) (pairs_in (above ++ y ∷ [])) (λ some. sym (pair_stays above y (sym same ∙ some))) p.second) why,
          );
          alike = record {
            chains = record {
              firsts = t.alike;
              rotations = unsaid (rotation_in w) above x y (no_rotation w x f) (no_rotation w y g);
              ups = up_exchanged is_up_to_rotations above x y;
            };
            needs = unsaid needs_in above x y (no_needs x f) (no_needs y g);
            flows = flows_exchanged flow_in above x y;
            seconds = flows_exchanged second_flow_in above x y;
            taken = unsaid taken_in above x y (no_taken x f) (no_taken y g);
            values = unsaid value_in above x y (no_value x f) (no_value y g);
            second_values = unsaid second_value_in above x y (no_second_value x f) (no_second_value y g);
            pairs = p.alike;
          };
        };
  }
