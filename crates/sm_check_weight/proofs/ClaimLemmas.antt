-- The clauses on what is claimed behind the rotations, line by line.
use Rattle.std.proofs.Common.{◌≡◌, ℕ, ◌<◌, ◌∙◌, arith, List, Option, ℤ, true, refl, sym, subst}
use Rattle.std.proofs.lemmas.Bool.{false≢true}
use Rattle.sm_agents.specs.Written.{Written}
use Rattle.sm_instance.specs.Ranks.{second_of, second_weight_of}
use Rattle.sm_agents.specs.declared.kinds.Measure.{Measure}
use Rattle.sm_agents.specs.declared.kinds.Measure.TheVariants.{Ranks, Given}
use Rattle.sm_theory.specs.FlowLines.{IsConserved}
use Rattle.sm_seats.specs.Levels.{has_two_levels}
use Rattle.sm_report.specs.Lines.{LineData}
use Rattle.sm_check_clauses.specs.declared.verdicts.Reason.{Reason}
use Rattle.sm_check_clauses.specs.declared.verdicts.Reason.TheVariants as reason
use Rattle.sm_check_clauses.specs.Flows.{Level, size_in, net_in, on_nodes, first_level, second_level, last_level, LevelHolds, TakenHolds, taken_set, taken_matching, IsAllowedSet}
use Rattle.sm_check_clauses.specs.Pairs.{WantedHold}
use Rattle.sm_check_clauses.specs.Said.{flow_in, second_flow_in, value_in, second_value_in, pairs_in, first_said}
use Rattle.sm_check_clauses.specs.Verdicts.{Finds, IsFirstThere, number_of_reason}
use Rattle.sm_check_clauses.proofs.AnswerLemmas.{found_by}
use Rattle.sm_check_weight.specs.ClaimClauses.{ValueHolds, CutHolds, TotalHolds, SecondTotalHolds, EndHolds}
use Rattle.sm_check_weight.specs.FlowClauses.{NextHolds, flow_line}
use Rattle.sm_check_weight.specs.Kept.{ClaimHolds, flow_on}
use Rattle.sm_check_weight.proofs.LevelLemmas.{level_hold, level_silent, taken_silent, wanted_silent, of_last, second_of_last, first_found, second_found}

-- in two levels the second sum is that of the second weights
two_by_given : (w : Written) (by : Measure) → has_two_levels by w ≡ true → (matching : List (Option ℕ)) → second_of by w matching ≡ second_weight_of w matching
two_by_given w Ranks two matching = absurd (false≢true two)
two_by_given w Given two matching = refl

module _ (w : Written) (by : Measure) (above : List LineData) where
  -- a line of the flow
  pub flow_found : (from to amount : ℕ) (r : Option Reason) → Finds (NextHolds (net_in w by above) (flow_on w flow_in above) (on_nodes (size_in w above) (flow_line from to amount))) r
      → Finds (ClaimHolds w by above (LineData.Flow from to amount)) r
  flow_found f t amount = first_found w by above (LineData.Flow f t amount) (record { taken = refl; pair = refl; goes_on = refl }) (record { gain = refl; flow = refl; value = refl; cut = refl; total = refl }) to from
    where
      to : (why : Reason) → NextHolds (net_in w by above) (flow_on w flow_in above) (on_nodes (size_in w above) (flow_line f t amount)) why → LevelHolds w (first_level w by above) above (LineData.Flow f t amount) why
      to reason.NoEdge h = h
      to reason.OverRoom h = h
      to _ h = tt

      from : (why : Reason) → LevelHolds w (first_level w by above) above (LineData.Flow f t amount) why → NextHolds (net_in w by above) (flow_on w flow_in above) (on_nodes (size_in w above) (flow_line f t amount)) why
      from reason.NoEdge h = h
      from reason.OverRoom h = h
      from _ h = tt

  -- a line of the second flow
  pub second_flow_found : has_two_levels by w ≡ true → (from to amount : ℕ) (r : Option Reason)
      → Finds (NextHolds (second_level w by above).net (flow_on w second_flow_in above) (on_nodes (size_in w above) (flow_line from to amount))) r
      → Finds (ClaimHolds w by above (LineData.SecondFlow from to amount)) r
  second_flow_found two f t amount = second_found w by above (LineData.SecondFlow f t amount) (record { taken = refl; pair = refl; goes_on = refl }) two (record { gain = refl; flow = refl; value = refl; cut = refl; total = refl }) to from
    where
      to : (why : Reason) → NextHolds (second_level w by above).net (flow_on w second_flow_in above) (on_nodes (size_in w above) (flow_line f t amount)) why → LevelHolds w (second_level w by above) above (LineData.SecondFlow f t amount) why
      to reason.NoEdge h = h
      to reason.OverRoom h = h
      to _ h = tt

      from : (why : Reason) → LevelHolds w (second_level w by above) above (LineData.SecondFlow f t amount) why → NextHolds (second_level w by above).net (flow_on w second_flow_in above) (on_nodes (size_in w above) (flow_line f t amount)) why
      from reason.NoEdge h = h
      from reason.OverRoom h = h
      from _ h = tt

  -- the value
  pub value_found : (value : ℕ) (r : Option Reason) → Finds (ValueHolds (flow_on w flow_in above) value) r → Finds (ClaimHolds w by above (LineData.Value value)) r
  value_found value = first_found w by above (LineData.Value value) (record { taken = refl; pair = refl; goes_on = refl }) (record { gain = refl; flow = refl; value = refl; cut = refl; total = refl }) to from
    where
      to : (why : Reason) → ValueHolds (flow_on w flow_in above) value why → LevelHolds w (first_level w by above) above (LineData.Value value) why
      to reason.WrongValue h = h
      to _ h = tt

      from : (why : Reason) → LevelHolds w (first_level w by above) above (LineData.Value value) why → ValueHolds (flow_on w flow_in above) value why
      from reason.WrongValue h = h
      from _ h = tt

  -- the value of the second flow
  pub second_value_found : has_two_levels by w ≡ true → (value : ℕ) (r : Option Reason) → Finds (ValueHolds (flow_on w second_flow_in above) value) r → Finds (ClaimHolds w by above (LineData.SecondValue value)) r
  second_value_found two value = second_found w by above (LineData.SecondValue value) (record { taken = refl; pair = refl; goes_on = refl }) two (record { gain = refl; flow = refl; value = refl; cut = refl; total = refl }) to from
    where
      to : (why : Reason) → ValueHolds (flow_on w second_flow_in above) value why → LevelHolds w (second_level w by above) above (LineData.SecondValue value) why
      to reason.WrongValue h = h
      to _ h = tt

      from : (why : Reason) → LevelHolds w (second_level w by above) above (LineData.SecondValue value) why → ValueHolds (flow_on w second_flow_in above) value why
      from reason.WrongValue h = h
      from _ h = tt

  -- the cut
  pub cut_found : (cut : ℕ) (r : Option Reason) → Finds (CutHolds (net_in w by above) (taken_set w above) (first_said 0 value_in above) cut) r → Finds (ClaimHolds w by above (LineData.Cut cut)) r
  cut_found cut = first_found w by above (LineData.Cut cut) (record { taken = refl; pair = refl; goes_on = refl }) (record { gain = refl; flow = refl; value = refl; cut = refl; total = refl }) to from
    where
      to : (why : Reason) → CutHolds (net_in w by above) (taken_set w above) (first_said 0 value_in above) cut why → LevelHolds w (first_level w by above) above (LineData.Cut cut) why
      to reason.WrongCut h = h
      to reason.CutDiffers h = h
      to _ h = tt

      from : (why : Reason) → LevelHolds w (first_level w by above) above (LineData.Cut cut) why → CutHolds (net_in w by above) (taken_set w above) (first_said 0 value_in above) cut why
      from reason.WrongCut h = h
      from reason.CutDiffers h = h
      from _ h = tt

  -- the cut of the second net
  pub second_cut_found : has_two_levels by w ≡ true → (cut : ℕ) (r : Option Reason) → Finds (CutHolds (second_level w by above).net (taken_set w above) (first_said 0 second_value_in above) cut) r
      → Finds (ClaimHolds w by above (LineData.SecondCut cut)) r
  second_cut_found two cut = second_found w by above (LineData.SecondCut cut) (record { taken = refl; pair = refl; goes_on = refl }) two (record { gain = refl; flow = refl; value = refl; cut = refl; total = refl }) to from
    where
      to : (why : Reason) → CutHolds (second_level w by above).net (taken_set w above) (first_said 0 second_value_in above) cut why → LevelHolds w (second_level w by above) above (LineData.SecondCut cut) why
      to reason.WrongCut h = h
      to reason.CutDiffers h = h
      to _ h = tt

      from : (why : Reason) → LevelHolds w (second_level w by above) above (LineData.SecondCut cut) why → CutHolds (second_level w by above).net (taken_set w above) (first_said 0 second_value_in above) cut why
      from reason.WrongCut h = h
      from reason.CutDiffers h = h
      from _ h = tt

  -- the weight
  pub total_found : (total : ℤ) (r : Option Reason) → Finds (TotalHolds w by (taken_matching w above) total) r → Finds (ClaimHolds w by above (LineData.Total total)) r
  total_found total = first_found w by above (LineData.Total total) (record { taken = refl; pair = refl; goes_on = refl }) (record { gain = refl; flow = refl; value = refl; cut = refl; total = refl }) to from
    where
      to : (why : Reason) → TotalHolds w by (taken_matching w above) total why → LevelHolds w (first_level w by above) above (LineData.Total total) why
      to reason.WrongTotal h = h
      to _ h = tt

      from : (why : Reason) → LevelHolds w (first_level w by above) above (LineData.Total total) why → TotalHolds w by (taken_matching w above) total why
      from reason.WrongTotal h = h
      from _ h = tt

  -- the second sum
  pub second_total_found : has_two_levels by w ≡ true → (total : ℤ) (r : Option Reason) → Finds (SecondTotalHolds w (taken_matching w above) total) r → Finds (ClaimHolds w by above (LineData.SecondTotal total)) r
  second_total_found two total = second_found w by above (LineData.SecondTotal total) (record { taken = refl; pair = refl; goes_on = refl }) two (record { gain = refl; flow = refl; value = refl; cut = refl; total = refl }) to from
    where
      same : second_of by w (taken_matching w above) ≡ second_weight_of w (taken_matching w above)
      same = two_by_given w by two (taken_matching w above)

      to : (why : Reason) → SecondTotalHolds w (taken_matching w above) total why → LevelHolds w (second_level w by above) above (LineData.SecondTotal total) why
      to reason.WrongTotal h = h ∙ sym same
      to _ h = tt

      from : (why : Reason) → LevelHolds w (second_level w by above) above (LineData.SecondTotal total) why → SecondTotalHolds w (taken_matching w above) total why
      from reason.WrongTotal h = h ∙ same
      from _ h = tt

  -- a pair
  pub pair_found : (p r : ℕ) (o : Option Reason) → Finds (WantedHold w (taken_matching w above) (pairs_in above) (LineData.Pair p r)) o → Finds (ClaimHolds w by above (LineData.Pair p r)) o
  pair_found p r = found_by to (λ why h. h.3)
    where
      x : LineData
      x = LineData.Pair p r

      to : (why : Reason) → WantedHold w (taken_matching w above) (pairs_in above) x why → ClaimHolds w by above x why
      to why h =
          let f : LevelHolds w (first_level w by above) above x why = level_silent w (first_level w by above) above x (record { gain = refl; flow = refl; value = refl; cut = refl; total = refl }) refl why in
          let s : LevelHolds w (second_level w by above) above x why = level_silent w (second_level w by above) above x (record { gain = refl; flow = refl; value = refl; cut = refl; total = refl }) refl why in
          (f, of_last w by above (λ level. LevelHolds w level above x why) f (λ _. s), taken_silent w (last_level w by above) above x refl refl why, h)

  -- the end
  pub end_found : (o : Option Reason)
      → Finds (EndHolds (last_level w by above).net (flow_on w (last_level w by above).flow above) (taken_set w above) (taken_matching w above) (pairs_in above)) o → Finds (ClaimHolds w by above LineData.End) o
  end_found = found_by to from
    where
      last : Level
      last = last_level w by above

      Holds : Reason → Type 0
      Holds = EndHolds last.net (flow_on w last.flow above) (taken_set w above) (taken_matching w above) (pairs_in above)

      set_holds : (why : Reason) → Holds why → TakenHolds w (last_level w by above) above LineData.End why
      set_holds reason.NotLeast h = λ _. h
      set_holds _ h = tt

      pairs_hold : (why : Reason) → Holds why → WantedHold w (taken_matching w above) (pairs_in above) LineData.End why
      pairs_hold reason.WrongPair h = (tt, λ _. h)
      pairs_hold _ h = tt

      to : (why : Reason) → Holds why → ClaimHolds w by above LineData.End why
      to why h =
          let f : LevelHolds w (first_level w by above) above LineData.End why = level_silent w (first_level w by above) above LineData.End (record { gain = refl; flow = refl; value = refl; cut = refl; total = refl }) refl why in
          let s : LevelHolds w (second_level w by above) above LineData.End why = level_silent w (second_level w by above) above LineData.End (record { gain = refl; flow = refl; value = refl; cut = refl; total = refl }) refl why in
          (f, of_last w by above (λ level. LevelHolds w level above LineData.End why) f (λ _. s), set_holds why h, pairs_hold why h)

      from : (why : Reason) → ClaimHolds w by above LineData.End why → Holds why
      from reason.WrongPair h = h.3.1 refl
      from reason.NotLeast h = h.2 refl
      from _ h = tt

  -- the flow is conserved, in two levels the second one too
  abbrev pub AreConserved : Type 0
  AreConserved = IsConserved (size_in w above) (flow_on w flow_in above) × (has_two_levels by w ≡ true → IsConserved (size_in w above) (flow_on w second_flow_in above))

  -- the set that is taken, in the order of its clauses: the flows are conserved, and the set is closed and allowed
  module _ (numbers : List ℕ) where
    abbrev x : LineData
    x = LineData.Taken numbers

    levels : (why : Reason) → (why ≡ reason.NotConserved → AreConserved) → LevelHolds w (first_level w by above) above x why × LevelHolds w (last_level w by above) above x why
    levels why conserved =
        let f : LevelHolds w (first_level w by above) above x why = level_hold w (first_level w by above) above x (record { gain = refl; flow = refl; value = refl; cut = refl; total = refl }) why (λ e. (conserved e).0) in (
          f,
          of_last w by above (λ level. LevelHolds w level above x why) f
              (λ two. level_hold w (second_level w by above) above x (record { gain = refl; flow = refl; value = refl; cut = refl; total = refl }) why (λ e. (conserved e).1 two)),
        )

    holds : (why : Reason) → (why ≡ reason.NotConserved → AreConserved) → (why ≡ reason.NotClosed → IsAllowedSet w above numbers) → ClaimHolds w by above x why
    holds why conserved allowed = let both = levels why conserved in (both.0, both.1, set why allowed, pairs why)
      where
        set : (why : Reason) → (why ≡ reason.NotClosed → IsAllowedSet w above numbers) → TakenHolds w (last_level w by above) above x why
        set reason.NotClosed allowed = allowed refl
        set reason.NotLeast allowed = λ e. absurd (false≢true e)
        set _ allowed = tt

        pairs : (why : Reason) → WantedHold w (taken_matching w above) (pairs_in above) x why
        pairs = wanted_silent w (taken_matching w above) (pairs_in above) x refl refl

    -- a reason with another number is another one
    not_this : (why other : Reason) → number_of_reason why < number_of_reason other → why ≡ other → ⊥
    not_this why other l e = let bad : number_of_reason other < number_of_reason other = subst (λ (r : Reason). number_of_reason r < number_of_reason other) e l in omega (arith, bad)

    -- where a flow isn't conserved, this is the first clause that fails
    pub taken_not_conserved : (AreConserved → ⊥) → IsFirstThere (ClaimHolds w by above (LineData.Taken numbers)) reason.NotConserved
    taken_not_conserved none = record {
      clauses_before = λ other l. holds other (λ e. absurd (not_this other reason.NotConserved l e)) (λ e. absurd (not_this other reason.NotClosed (omega (arith, l)) e));
      fails = λ h. none (h.0, λ two. second_of_last w by above (λ level. LevelHolds w level above x reason.NotConserved) two h.1);
    }

    -- the flows are conserved, and the set isn't closed or not allowed
    pub taken_not_closed : AreConserved → (IsAllowedSet w above numbers → ⊥) → IsFirstThere (ClaimHolds w by above (LineData.Taken numbers)) reason.NotClosed
    taken_not_closed conserved none = record {
      clauses_before = λ other l. holds other (λ _. conserved) (λ e. absurd (not_this other reason.NotClosed l e));
      fails = λ h. none h.2;
    }

    -- the flows are conserved, and the set is closed and allowed
    pub taken_right : AreConserved → IsAllowedSet w above numbers → (why : Reason) → ClaimHolds w by above (LineData.Taken numbers) why
    taken_right conserved allowed why = holds why (λ _. conserved) (λ _. allowed)
