-- The clauses of the levels of an answer: what is asked of a line by one level, by the last one, and by neither.
use Rattle.std.proofs.Common.{◌≡◌, ℕ, List, Option, None, Bool, true, false, refl, sym, ap, ◌∙◌, subst}
use Rattle.std.specs.Prelude.{if◌then◌else◌}
use Rattle.std.proofs.lemmas.Bool.{false≢true}
use Rattle.sm_agents.specs.Written.{Written}
use Rattle.sm_agents.specs.declared.kinds.Measure.{Measure}
use Rattle.sm_seats.specs.Levels.{has_two_levels}
use Rattle.sm_report.specs.Lines.{LineData}
use Rattle.sm_check_clauses.specs.declared.verdicts.Reason.{Reason}
use Rattle.sm_check_clauses.specs.declared.verdicts.Reason.TheVariants as reason
use Rattle.sm_check_clauses.specs.Flows.{Level, first_level, second_level, last_level, LevelHolds, TakenHolds, taken_matching}
use Rattle.sm_check_clauses.specs.Pairs.{WantedHold}
use Rattle.sm_check_clauses.specs.Said.{gain_in, second_gain_in, flow_in, second_flow_in, taken_in, value_in, second_value_in, cut_in, second_cut_in, total_in, second_total_in, pair_in, pairs_in, is_end}
use Rattle.sm_check_clauses.specs.Verdicts.{Finds}
use Rattle.sm_check_clauses.proofs.AnswerLemmas.{found_by}
use Rattle.sm_check_weight.specs.Kept.{ClaimHolds}

-- a line that says nothing of a level
pub record IsSilentOn (level : Level) (x : LineData) : Type 0 where
  pub gain : level.gain x ≡ None
  pub flow : level.flow x ≡ None
  pub value : level.value x ≡ None
  pub cut : level.cut x ≡ None
  pub total : level.total x ≡ None

-- a line that takes no set, has no pair and isn't the end
pub record IsPlain (x : LineData) : Type 0 where
  pub taken : taken_in x ≡ None
  pub pair : pair_in x ≡ None
  pub goes_on : is_end x ≡ false

-- a line that says nothing of gains, flows, sets and pairs
pub record IsSilent (x : LineData) : Type 0 where
  pub gain : gain_in x ≡ None
  pub flow : flow_in x ≡ None
  pub value : value_in x ≡ None
  pub cut : cut_in x ≡ None
  pub total : total_in x ≡ None
  pub second_gain : second_gain_in x ≡ None
  pub second_flow : second_flow_in x ≡ None
  pub second_value : second_value_in x ≡ None
  pub second_cut : second_cut_in x ≡ None
  pub second_total : second_total_in x ≡ None
  pub plain : IsPlain x

-- of a level nothing is asked at such a line but that a flow is conserved where a set is taken
pub level_hold : (w : Written) (level : Level) (above : List LineData) (x : LineData) → IsSilentOn level x → (why : Reason) → (why ≡ reason.NotConserved → LevelHolds w level above x reason.NotConserved) → LevelHolds w level above x why
level_hold w level above x s reason.WrongGain f = rw s.gain tt
level_hold w level above x s reason.NoEdge f = rw s.flow tt
level_hold w level above x s reason.OverRoom f = rw s.flow tt
level_hold w level above x s reason.NotConserved f = f refl
level_hold w level above x s reason.WrongValue f = rw s.value tt
level_hold w level above x s reason.WrongCut f = rw s.cut tt
level_hold w level above x s reason.CutDiffers f = rw s.cut tt
level_hold w level above x s reason.WrongTotal f = rw s.total tt
level_hold w level above x s _ f = tt

-- nothing at all is asked at a plain one
pub level_silent : (w : Written) (level : Level) (above : List LineData) (x : LineData) → IsSilentOn level x → taken_in x ≡ None → (why : Reason) → LevelHolds w level above x why
level_silent w level above x s none why = level_hold w level above x s why (λ _. rw none tt)

-- nor of the set and the pairs
pub taken_silent : (w : Written) (level : Level) (above : List LineData) (x : LineData) → taken_in x ≡ None → is_end x ≡ false → (why : Reason) → TakenHolds w level above x why
taken_silent w level above x none on reason.NotClosed = rw none tt
taken_silent w level above x none on reason.NotLeast = λ e. absurd (false≢true (sym on ∙ e))
taken_silent w level above x none on _ = tt

pub wanted_silent : (w : Written) (matching : List (Option ℕ)) (pairs : List (ℕ × ℕ)) (x : LineData) → pair_in x ≡ None → is_end x ≡ false → (why : Reason) → WantedHold w matching pairs x why
wanted_silent w matching pairs x none on reason.WrongPair = (rw none tt, λ e. absurd (false≢true (sym on ∙ e)))
wanted_silent w matching pairs x none on _ = tt

module _ (w : Written) (by : Measure) (above : List LineData) where
  abbrev first : Level
  first = first_level w by above

  abbrev second : Level
  second = second_level w by above

  -- what holds of the first level, and in two levels of the second one, holds of the last
  pub of_last : (P : Level → Type 0) → P (first_level w by above) → (has_two_levels by w ≡ true → P (second_level w by above)) → P (last_level w by above)
  of_last P f s = go (has_two_levels by w) refl
    where
      go : (b : Bool) → has_two_levels by w ≡ b → P (if b then second else first)
      go true e = s e
      go false e = f

  -- in two levels the last one is the second
  pub second_of_last : (P : Level → Type 0) → has_two_levels by w ≡ true → P (last_level w by above) → P (second_level w by above)
  second_of_last P two h = subst P (ap (λ (b : Bool). if b then second else first) two) h

  module _ (x : LineData) (plain : IsPlain x) where
    -- all clauses hold at a plain line where those of the levels do
    pub plain_holds : (why : Reason) → LevelHolds w (first_level w by above) above x why → (has_two_levels by w ≡ true → LevelHolds w (second_level w by above) above x why) → ClaimHolds w by above x why
    plain_holds why f s = (
      f,
      of_last (λ level. LevelHolds w level above x why) f s,
      taken_silent w (last_level w by above) above x plain.taken plain.goes_on why,
      wanted_silent w (taken_matching w above) (pairs_in above) x plain.pair plain.goes_on why,
    )

    -- what is found by the first level is found, where the second one asks nothing
    pub first_found : IsSilentOn (second_level w by above) x → {Holds : Reason → Type 0} → ((why : Reason) → Holds why → LevelHolds w (first_level w by above) above x why)
        → ((why : Reason) → LevelHolds w (first_level w by above) above x why → Holds why) → (r : Option Reason) → Finds Holds r → Finds (ClaimHolds w by above x) r
    first_found s to from = found_by (λ why h. plain_holds why (to why h) (λ _. level_silent w second above x s plain.taken why)) (λ why h. from why h.0)

    -- in two levels what is found by the second one is found, where the first one asks nothing
    pub second_found : has_two_levels by w ≡ true → IsSilentOn (first_level w by above) x → {Holds : Reason → Type 0} → ((why : Reason) → Holds why → LevelHolds w (second_level w by above) above x why)
        → ((why : Reason) → LevelHolds w (second_level w by above) above x why → Holds why) → (r : Option Reason) → Finds Holds r → Finds (ClaimHolds w by above x) r
    second_found two s to from = found_by
        (λ why h. plain_holds why (level_silent w first above x s plain.taken why) (λ _. to why h))
        (λ why h. from why (second_of_last (λ level. LevelHolds w level above x why) two h.1))

    -- in one level the lines of the second one are asked nothing
    pub second_idle : has_two_levels by w ≡ false → IsSilentOn (first_level w by above) x → (why : Reason) → ClaimHolds w by above x why
    second_idle one s why = plain_holds why (level_silent w first above x s plain.taken why) (λ two. absurd (false≢true (sym one ∙ two)))

  -- nothing is asked for at a line that says nothing
  pub silent : (x : LineData) → IsSilent x → (why : Reason) → ClaimHolds w by above x why
  silent x s why = plain_holds x s.plain why
      (level_silent w first above x (record { gain = s.gain; flow = s.flow; value = s.value; cut = s.cut; total = s.total }) s.plain.taken why)
      (λ _. level_silent w second above x (record { gain = s.second_gain; flow = s.second_flow; value = s.second_value; cut = s.second_cut; total = s.second_total }) s.plain.taken why)
