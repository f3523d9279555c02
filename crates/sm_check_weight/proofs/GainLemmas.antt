-- The gains of rotations, line by line.
use Rattle.std.proofs.Common.{◌≡◌, ℕ, ◌-◌, ◌<◌, List, [], ◌∷◌, ◌++◌, length, Option, None, ℤ, true, refl, sym, ap, ◌∙◌, subst, arith}
use Rattle.std.proofs.lemmas.Bool.{false≢true}
use Rattle.sm_agents.specs.Written.{Written}
use Rattle.sm_agents.specs.declared.kinds.Measure.{Measure}
use Rattle.sm_instance.specs.Ranks.{pair_weight, pair_second}
use Rattle.sm_theory.specs.Chains.{rotation_at}
use Rattle.sm_theory.specs.Weights.{gain_of}
use Rattle.sm_seats.specs.SeatMarket.{seat_market}
use Rattle.sm_seats.specs.Seating.{seating_of}
use Rattle.sm_seats.specs.Correspondence.{weights_by}
use Rattle.sm_seats.specs.ShownNet.{gain_by}
use Rattle.sm_seats.proofs.GainLemmas.{IsOnLists, gain_at_is}
use Rattle.sm_report.specs.Lines.{LineData, line_of}
use Rattle.sm_report.specs.declared.lines.Line.{Line}
use Rattle.sm_check_clauses.specs.declared.verdicts.Reason.{Reason}
use Rattle.sm_check_clauses.specs.declared.verdicts.Reason.TheVariants as reason
use Rattle.sm_check_clauses.specs.Chain.{last_rotation}
use Rattle.sm_market.specs.Lists.{Lists}
use Rattle.sm_check_net.specs.declared.moves.Move.{Move}
use Rattle.sm_check_net.specs.Moves.{AreMovesByRotation}
use Rattle.sm_check_clauses.specs.Walks.{AreChainMoves}
use Rattle.sm_check_clauses.proofs.AnswerLemmas.{said_same}
use Rattle.sm_check_clauses.specs.Said.{rotation_in, rotations_in, is_up_to_rotations}
use Rattle.sm_check_clauses.specs.Flows.{first_level, second_level, LevelHolds}
use Rattle.sm_seats.specs.Levels.{has_two_levels}
use Rattle.sm_check_clauses.specs.Verdicts.{IsFirstThere}
use Rattle.sm_check_weight.specs.Kept.{ClaimHolds}
use Rattle.sm_check_weight.proofs.ClauseLemmas.{early}
use Rattle.sm_check_weight.proofs.LevelLemmas.{IsSilent, level_silent, plain_holds, second_of_last}

-- the gain is that of the newest rotation, by what pairs weigh
abbrev pub IsGainAbove : Written → (weigh : ℕ → Option ℕ → ℤ) → List LineData → ℤ → Type 0
IsGainAbove w weigh above gain = gain ≡ gain_by weigh (seating_of w) (rotation_at (rotations_in w above) (last_rotation w above))

module _ (w : Written) (by : Measure) (above : List LineData) where
  -- all clauses hold at the gain of the newest rotation
  pub gain_right : (i : ℕ) (gain : ℤ) → IsGainAbove w (pair_weight by w) above gain → (why : Reason) → ClaimHolds w by above (LineData.Gain i gain) why
  gain_right i gain is why = plain_holds w by above (LineData.Gain i gain) (record { taken = refl; pair = refl; goes_on = refl }) why (first why) (λ _. second why)
    where
      first : (why : Reason) → LevelHolds w (first_level w by above) above (LineData.Gain i gain) why
      first reason.WrongGain = is
      first _ = tt

      second : (why : Reason) → LevelHolds w (second_level w by above) above (LineData.Gain i gain) why
      second = level_silent w (second_level w by above) above (LineData.Gain i gain) (record { gain = refl; flow = refl; value = refl; cut = refl; total = refl }) refl

  -- another gain is wrong, which is the first clause that fails
  pub gain_wrong : (i : ℕ) (gain : ℤ) → ¬ IsGainAbove w (pair_weight by w) above gain → IsFirstThere (ClaimHolds w by above (LineData.Gain i gain)) reason.WrongGain
  gain_wrong i gain isnt = record {
    clauses_before = λ other l. early w by above (LineData.Gain i gain) other (omega (arith, l));
    fails = λ h. isnt h.0;
  }

  -- in two levels the same of the second gain
  pub second_gain_right : (i : ℕ) (gain : ℤ) → (has_two_levels by w ≡ true → IsGainAbove w (pair_second w) above gain) → (why : Reason) → ClaimHolds w by above (LineData.SecondGain i gain) why
  second_gain_right i gain is why = plain_holds w by above (LineData.SecondGain i gain) (record { taken = refl; pair = refl; goes_on = refl }) why (first why) (second why)
    where
      first : (why : Reason) → LevelHolds w (first_level w by above) above (LineData.SecondGain i gain) why
      first = level_silent w (first_level w by above) above (LineData.SecondGain i gain) (record { gain = refl; flow = refl; value = refl; cut = refl; total = refl }) refl

      second : (why : Reason) → has_two_levels by w ≡ true → LevelHolds w (second_level w by above) above (LineData.SecondGain i gain) why
      second reason.WrongGain two = is two
      second _ two = tt

  -- and another one is wrong
  pub second_gain_wrong : (i : ℕ) (gain : ℤ) → has_two_levels by w ≡ true → ¬ IsGainAbove w (pair_second w) above gain → IsFirstThere (ClaimHolds w by above (LineData.SecondGain i gain)) reason.WrongGain
  second_gain_wrong i gain two isnt = record {
    clauses_before = λ other l. early w by above (LineData.SecondGain i gain) other (omega (arith, l));
    fails = λ h. isnt (second_of_last w by above (λ level. LevelHolds w level above (LineData.SecondGain i gain) reason.WrongGain) two h.1);
  }

-- a line up to the rotations that has no gain says nothing of all this
pub silent_above : (x : Line) → is_up_to_rotations (line_of x) ≡ true → ((i : ℕ) (gain : ℤ) → x ≡ Line.Gain i gain → ⊥) → ((i : ℕ) (gain : ℤ) → x ≡ Line.SecondGain i gain → ⊥) → IsSilent (line_of x)
silent_above (Line.Gain i gain) e none none_too = absurd (none i gain refl)
silent_above (Line.SecondGain i gain) e none none_too = absurd (none_too i gain refl)
silent_above (Line.Answer head) e none none_too = record { gain = refl; flow = refl; value = refl; cut = refl; total = refl; second_gain = refl; second_flow = refl; second_value = refl; second_cut = refl; second_total = refl; plain = record { taken = refl; pair = refl; goes_on = refl } }
silent_above (Line.First p seat) e none none_too = record { gain = refl; flow = refl; value = refl; cut = refl; total = refl; second_gain = refl; second_flow = refl; second_value = refl; second_cut = refl; second_total = refl; plain = record { taken = refl; pair = refl; goes_on = refl } }
silent_above (Line.Rotation i pairs) e none none_too = record { gain = refl; flow = refl; value = refl; cut = refl; total = refl; second_gain = refl; second_flow = refl; second_value = refl; second_cut = refl; second_total = refl; plain = record { taken = refl; pair = refl; goes_on = refl } }
silent_above (Line.Needs i needed) e none none_too = record { gain = refl; flow = refl; value = refl; cut = refl; total = refl; second_gain = refl; second_flow = refl; second_value = refl; second_cut = refl; second_total = refl; plain = record { taken = refl; pair = refl; goes_on = refl } }
silent_above _ e none none_too = absurd (false≢true e)

-- rotations whose moves are on the lists are so, too
pub moves_on_lists : {l : Lists} {rotations : List (List (ℕ × ℕ))} {rows : List (List Move)} → AreChainMoves l rotations rows → (k : ℕ) → k < length rotations → IsOnLists l (rotation_at rotations k)
moves_on_lists {l} {rotations} {rows} moves k less =
    let m = moves.moves.each k less in
    record {
      before = λ i here. (let on = moves.on_lists k i (omega (arith, m.one_each, here)) in let is = m.each i here in rw (is.proposer, is.from) at on.from);
      after = λ i here. (let on = moves.on_lists k i (omega (arith, m.one_each, here)) in let is = m.each i here in rw (is.proposer, is.to) at on.to);
    }

-- it is found by the moves of the rotations, at a line that is none of these
pub gain_found : (w : Written) (above : List LineData) (x : LineData) (weigh : ℕ → Option ℕ → ℤ) (result : ℤ) → rotation_in w x ≡ None → {rows : List (List Move)} {weights : List (List ℤ)} → AreChainMoves (seat_market w) (rotations_in w (above ++ x ∷ [])) rows → weights ≡ weights_by weigh (seating_of w)
    → ((l : Lists) (rotations : List (List (ℕ × ℕ))) → AreMovesByRotation l rotations rows → result ≡ gain_of l weights (rotation_at rotations (length rotations - 1)))
    → IsGainAbove w weigh above result
gain_found w above x weigh result none {rows} {weights} moves are found =
    let there = subst (λ (rotations : List (List (ℕ × ℕ))). AreChainMoves (seat_market w) rotations rows) (said_same (rotation_in w) above x none) moves in
    found (seat_market w) (rotations_in w above) there.moves
    ∙ ap (λ (ws : List (List ℤ)). gain_of (seat_market w) ws (rotation_at (rotations_in w above) (last_rotation w above))) are
    ∙ sym (gain_at_is weigh (seating_of w) (rotations_in w above) (moves_on_lists there) (last_rotation w above))
