-- The clauses of `weight`, and that they hold at the first seats and at the blocks of a right answer.
use Rattle.std.proofs.Common.{◌≡◌, ℕ, ◌&&◌, ◌+◌, ◌-◌, ◌<◌, arith, refl, sym, ap, ◌∙◌, pred, Bool, true, false, if◌then◌else◌, List, [], ◌∷◌, ◌++◌, length, map, take, Option, subst, ℤ, append-nil, append_assoc}
use Rattle.std.specs.List.{All, list_all, flat_map, range_with_len}
use Rattle.std.proofs.lemmas.List.{length-take-le, take_more}
use Rattle.sm_agents.specs.Written.{Written}
use Rattle.sm_agents.specs.Sound.{IsInstance}
use Rattle.sm_instance.specs.declared.inputs.Input.TheVariants.{Two}
use Rattle.sm_instance.specs.Ranks.{pair_weight, pair_second}
use Rattle.sm_agents.specs.declared.kinds.Measure.{Measure}
use Rattle.sm_agents.specs.declared.kinds.Side.TheVariants.{Proposers}
use Rattle.sm_market.specs.Lists.{Lists, row, IsMarket}
use Rattle.sm_market.specs.Matching.{Places, IsMatching}
use Rattle.sm_market.specs.Stable.{IsProposersBest}
use Rattle.sm_theory.specs.Rotations.{IsNothingExposed, IsLowestExposed}
use Rattle.sm_theory.specs.Chains.{rotation_at, stage, IsCompleteChain, IsPrintedChain, AreNeedsOf, AreNeeds}
use Rattle.sm_report.specs.declared.lines.Seat.{Seat}
use Rattle.sm_report.specs.Heads.{HeadData}
use Rattle.sm_report.specs.Lines.{LineData}
use Rattle.sm_answer.specs.Lines.{lines_from}
use Rattle.sm_seats.specs.SeatMarket.{seat_market, seats_of}
use Rattle.sm_seats.specs.Seating.{Seating, seating_of}
use Rattle.sm_seats.specs.Correspondence.{IsSeating}
use Rattle.sm_seats.proofs.CorrespondenceLaws.{is_seating, sound_entries}
use Rattle.sm_seats.specs.Levels.{has_two_levels}
use Rattle.sm_seats.specs.ShownNet.{gain_by}
use Rattle.sm_answer_rotations.specs.Reduction.{seat_of, seat_line}
use Rattle.sm_answer_rotations.specs.RotationLines.{numbers_of, seated_rotation, rotation_line, needs_line}
use Rattle.sm_answer_rotations.proofs.RotationLemmas.{seats_named}
use Rattle.sm_answer_weight.specs.WeightAnswer.{in_two}
use Rattle.sm_check_forms.specs.Seats.{seat_number, all_numbered}
use Rattle.sm_check_forms.specs.Forms.{fits}
use Rattle.sm_check_clauses.specs.declared.verdicts.Reason.{Reason}
use Rattle.sm_check_clauses.specs.declared.verdicts.Reason.TheVariants as reason
use Rattle.sm_check_clauses.specs.Said.{first_in, firsts_in, rotations_in, pair_in, pairs_in, IsEnd}
use Rattle.sm_check_clauses.specs.Pairs.{WantedHold}
use Rattle.sm_check_clauses.specs.SeatMatchings.{FirstsHold, IsFreeSeat, first_of}
use Rattle.sm_check_clauses.specs.Chain.{reached, ChainHolds, last_rotation}
use Rattle.sm_check_clauses.specs.Flows.{Level, first_level, second_level, last_level, LevelHolds, TakenHolds, taken_matching, WeightHolds}
use Rattle.sm_check_clauses.proofs.LinewiseLemmas.{no_end}
use Rattle.sm_check_clauses.proofs.AnswerLemmas.{said_same}
use Rattle.sm_law_agree.proofs.LineLemmas.{Held}
use Rattle.sm_law_agree.proofs.SeatLemmas.{is_seat_shown, all_numbered-seated, all_seated, SeatsAbove, seats_hold, seats_pass, firsts_hold}
use Rattle.sm_law_agree.proofs.BlockLemmas.{blocks_hold, blocks_pass}
use Rattle.sm_law_agree.proofs.RotationsAgree.{same_rotation, same_stage, needs_of_front, numbers_back, pairs_fit}
use Rattle.sm_law_agree.proofs.WeightLines.{Said, said_in, with_line, said_one, AreSaid, told, Early, early_more, early_as, in_blocks, gain_shown_at, second_shown_at, block_lines}

-- The clauses, by what holds at a line.

module _ (w : Written) (by : Measure) where
  -- all that the clause of a reason asks for at a line
  abbrev pub C : List LineData → LineData → Reason → Type 0
  C above line why = WeightHolds w by above line why

  module _ (above : List LineData) (line : LineData) where
    -- on the chain
    pub chain_holds : ChainHolds w above line reason.NotExposed → ChainHolds w above line reason.RotationMissing → ChainHolds w above line reason.WrongNeeds → (why : Reason) → ChainHolds w above line why
    chain_holds lowest complete needed reason.NotExposed = lowest
    chain_holds lowest complete needed reason.RotationMissing = complete
    chain_holds lowest complete needed reason.WrongNeeds = needed
    chain_holds lowest complete needed _ = tt

    -- on the flow of a level
    pub flows_hold : (level : Level) → LevelHolds w level above line reason.WrongGain → LevelHolds w level above line reason.NoEdge → LevelHolds w level above line reason.OverRoom
        → LevelHolds w level above line reason.NotConserved → LevelHolds w level above line reason.WrongValue → LevelHolds w level above line reason.WrongCut
        → LevelHolds w level above line reason.CutDiffers → LevelHolds w level above line reason.WrongTotal → (why : Reason) → LevelHolds w level above line why
    flows_hold level gain edge room conserved value cut differs total reason.WrongGain = gain
    flows_hold level gain edge room conserved value cut differs total reason.NoEdge = edge
    flows_hold level gain edge room conserved value cut differs total reason.OverRoom = room
    flows_hold level gain edge room conserved value cut differs total reason.NotConserved = conserved
    flows_hold level gain edge room conserved value cut differs total reason.WrongValue = value
    flows_hold level gain edge room conserved value cut differs total reason.WrongCut = cut
    flows_hold level gain edge room conserved value cut differs total reason.CutDiffers = differs
    flows_hold level gain edge room conserved value cut differs total reason.WrongTotal = total
    flows_hold level gain edge room conserved value cut differs total _ = tt

    -- what holds of the first level where there is one, and of the second one where there are two, holds of the last
    pub of_last : (P : Level → Type 0) → (has_two_levels by w ≡ false → P (first_level w by above)) → (has_two_levels by w ≡ true → P (second_level w by above)) → P (last_level w by above)
    of_last P one two = go (has_two_levels by w) refl
      where
        go : (t : Bool) → has_two_levels by w ≡ t → P (if t then second_level w by above else first_level w by above)
        go true e = two e
        go false e = one e

    -- on the set that is taken
    pub taken_holds : (level : Level) → TakenHolds w level above line reason.NotClosed → TakenHolds w level above line reason.NotLeast → (why : Reason) → TakenHolds w level above line why
    taken_holds level closed least reason.NotClosed = closed
    taken_holds level closed least reason.NotLeast = least
    taken_holds level closed least _ = tt

    -- on the pairs
    pub wanted_holds : WantedHold w (taken_matching w above) (pairs_in above) line reason.WrongPair → (why : Reason) → WantedHold w (taken_matching w above) (pairs_in above) line why
    wanted_holds wanted reason.WrongPair = wanted
    wanted_holds wanted _ = tt

    -- all of them, by the clauses of both levels
    pub all_hold_at : ((why : Reason) → FirstsHold w above line why) → ((why : Reason) → ChainHolds w above line why)
        → ((why : Reason) → LevelHolds w (first_level w by above) above line why) → (has_two_levels by w ≡ true → (why : Reason) → LevelHolds w (second_level w by above) above line why)
        → ((why : Reason) → TakenHolds w (last_level w by above) above line why) → ((why : Reason) → WantedHold w (taken_matching w above) (pairs_in above) line why)
        → (why : Reason) → C above line why
    all_hold_at firsts chain first second taken wanted why = (
      firsts why,
      chain why,
      first why,
      of_last (λ level. LevelHolds w level above line why) (λ e. first why) (λ e. second e why),
      taken why,
      wanted why,
    )

    -- at a line that isn't of the set and no pair, and not the last one, what is asked for behind it holds
    pub none_taken : TakenHolds w (first_level w by above) above line reason.NotClosed → (IsEnd line → ⊥) → (why : Reason) → TakenHolds w (last_level w by above) above line why
    none_taken closed not_last = taken_holds (last_level w by above) closed (λ e. absurd (not_last e))

  -- nothing is asked for at the head
  pub head_holds : (why : Reason) → C [] (LineData.Answer (HeadData.Weight by)) why
  head_holds =
      let x = LineData.Answer (HeadData.Weight by) in
      all_hold_at [] x (firsts_hold w [] x tt (λ b. no_end b.behind)) (chain_holds [] x tt (λ b. no_end b.behind) tt)
      (flows_hold [] x (first_level w by []) tt tt tt tt tt tt tt tt) (λ e. flows_hold [] x (second_level w by []) tt tt tt tt tt tt tt tt)
      (none_taken [] x tt (λ e. no_end e)) (wanted_holds [] x (tt, λ e. no_end e))

  first_holds : (above : List LineData) (p : ℕ) (seat : Seat) → IsFreeSeat (seat_market w) (firsts_in w above) (p, seat_number w seat) → (why : Reason) → C above (LineData.First p seat) why
  first_holds above p seat free =
      let x = LineData.First p seat in
      all_hold_at above x (firsts_hold w above x free (λ b. no_end b.behind)) (chain_holds above x tt (λ b. no_end b.behind) tt)
      (flows_hold above x (first_level w by above) tt tt tt tt tt tt tt tt) (λ e. flows_hold above x (second_level w by above) tt tt tt tt tt tt tt tt)
      (none_taken above x tt (λ e. no_end e)) (wanted_holds above x (tt, λ e. no_end e))

-- Lines one after another.

-- one line, and those behind it
pub held_more : (Clauses : List LineData → LineData → Reason → Type 0) (P : List LineData → Type 0) (above : List LineData) (x : LineData) (rest : List LineData)
    → ((why : Reason) → Clauses above x why) → Held Clauses P (above ++ x ∷ []) rest → Held Clauses P above (x ∷ rest)
held_more Clauses P above x rest holds h = ((holds, h.0), subst P (append_assoc above (x ∷ []) rest) h.1)

-- what stands in two levels alone: what is known behind it is known without it
pub held_in_two : (Clauses : List LineData → LineData → Reason → Type 0) (P : List LineData → Type 0) (two : Bool) (above lines : List LineData)
    → P above → Held Clauses P above lines → Held Clauses P above (in_two two lines)
held_in_two Clauses P true above lines p h = h
held_in_two Clauses P false above lines p h = (tt, subst P (sym (append-nil above)) p)

-- it passes tests that its lines pass
pub pass_in_two : (test : LineData → Bool) (two : Bool) (lines : List LineData) → list_all test lines ≡ true → list_all test (in_two two lines) ≡ true
pass_in_two test true lines pass = pass
pass_in_two test false lines pass = refl

-- What is known behind the first seats of a chain.
module _ {w : Written} {first : Places} {rotations : List (List (ℕ × ℕ))} (chain : IsCompleteChain (seat_market w) first rotations) (d : Said) (above : List LineData) (said : AreSaid w first d above) where
  -- the first seats that are said are the proposers' best matching
  pub best_above : IsProposersBest (seat_market w) (first_of w above)
  best_above = told w first (λ f d. IsProposersBest (seat_market w) f) d above said chain.from_best

  -- behind all its rotations none is missing
  pub none_above : d.rotations ≡ rotations → IsNothingExposed (seat_market w) (reached w above)
  none_above all =
      let none : IsNothingExposed (seat_market w) (stage (seat_market w) first rotations (length rotations)) = record { none = chain.complete } in
      told w first (λ f d. IsNothingExposed (seat_market w) (stage (seat_market w) f d.rotations (length d.rotations))) d above said
      (subst (λ (xs : List (List (ℕ × ℕ))). IsNothingExposed (seat_market w) (stage (seat_market w) first xs (length xs))) (sym all) none)

-- The first seats and the blocks of a chain.

module _ {w : Written} (two : Bool) (by : Measure) {first : Places} {rotations : List (List (ℕ × ℕ))} {needs : List (List ℕ)} (i : IsInstance w) (printed : IsPrintedChain (seat_market w) first rotations) (needed : AreNeeds (seat_market w) rotations needs) where
  abbrev l : Lists
  l = seat_market w

  abbrev s : Seating
  s = seating_of w

  abbrev n : ℕ
  n = length l.proposers

  abbrev m : ℕ
  m = length rotations

  seating : IsSeating w s
  seating = is_seating (sound_entries i)

  market : IsMarket l
  market = seating.market

  matching : IsMatching l first
  matching = printed.chain.from_best.stable.matching

  -- the seats of a rotation are there
  there : (k : ℕ) → All (λ (pair : ℕ × ℕ). pair.1 < length (seats_of w)) (rotation_at rotations k)
  there k = seats_named s first rotations market seating.seats printed.chain k

  -- Lines of a block.

  module _ (d : Said) (above : List LineData) (said : Early w first d above) where
    best : IsProposersBest l (first_of w above)
    best = best_above printed.chain d above said.0

    -- all clauses hold at a line of a block, by what the chain and the levels ask for there
    at_line : (x : LineData) → ((why : Reason) → FirstsHold w above x why) → ((why : Reason) → ChainHolds w above x why)
        → ((why : Reason) → LevelHolds w (first_level w by above) above x why) → ((why : Reason) → LevelHolds w (second_level w by above) above x why)
        → TakenHolds w (first_level w by above) above x reason.NotClosed → (IsEnd x → ⊥) → ((why : Reason) → WantedHold w (taken_matching w above) (pairs_in above) x why)
        → (why : Reason) → C w by above x why
    at_line x firsts chain one two closed not_last wanted = all_hold_at w by above x firsts chain one (λ e. two) (none_taken w by above x closed not_last) wanted

  module _ (k : ℕ) (less : k < m) (above : List LineData) where
    stage_is : stage l first (take k rotations) (length (take k rotations)) ≡ stage l first rotations k
    stage_is = ap (stage l first (take k rotations)) (length-take-le k rotations (omega (arith, less))) ∙ same_stage l first rotations k k (omega arith)

    rotation_holds : Early w first (in_blocks rotations needs k k) above → (why : Reason) → C w by above (rotation_line s rotations k) why
    rotation_holds said =
        let x = rotation_line s rotations k in
        let d = in_blocks rotations needs k k in
        let lowest : IsLowestExposed l (stage l first (take k rotations) (length (take k rotations))) (rotation_at rotations k) =
        subst (λ (f : Places). IsLowestExposed l f (rotation_at rotations k)) (sym stage_is) (printed.lowest k less) in
        let numbered = subst (IsLowestExposed l (stage l first (take k rotations) (length (take k rotations)))) (sym (all_numbered-seated w (rotation_at rotations k) (there k))) lowest in
        at_line d above said x (firsts_hold w above x tt (λ _. best d above said))
        (chain_holds w by above x (told w first (λ f d. IsLowestExposed l (stage l f d.rotations (length d.rotations)) (all_numbered w (seated_rotation s (rotation_at rotations k)))) d above said.0 numbered)
        (λ b. no_end b.behind) tt)
        (flows_hold w by above x (first_level w by above) tt tt tt tt tt tt tt tt) (flows_hold w by above x (second_level w by above) tt tt tt tt tt tt tt tt)
        tt (λ e. no_end e) (wanted_holds w by above x (tt, λ e. no_end e))

    rotation_said : Early w first (in_blocks rotations needs k k) above → Early w first (in_blocks rotations needs (k + 1) k) (above ++ rotation_line s rotations k ∷ [])
    rotation_said said =
        let more : take k rotations ++ all_numbered w (seated_rotation s (rotation_at rotations k)) ∷ [] ≡ take (k + 1) rotations =
        ap (λ x. take k rotations ++ x ∷ []) (all_numbered-seated w (rotation_at rotations k) (there k)) ∙ sym (take_more rotations k [] less) in
        early_as w first (with_line w (in_blocks rotations needs k k) (rotation_line s rotations k)) (in_blocks rotations needs (k + 1) k) (above ++ rotation_line s rotations k ∷ [])
        (λ i. record { rotations = more i; needs = take k needs; flows = []; second_flows = []; taken = []; values = []; second_values = [] })
        (early_more w first (in_blocks rotations needs k k) above (rotation_line s rotations k) refl refl said)

    last_is : length (take (k + 1) rotations) - 1 ≡ k
    last_is = omega (arith, length-take-le (k + 1) rotations (omega (arith, less)))

    needs_hold : Early w first (in_blocks rotations needs (k + 1) k) above → (why : Reason) → C w by above (needs_line needs k) why
    needs_hold said =
        let x = needs_line needs k in
        let d = in_blocks rotations needs (k + 1) k in
        let xs = take (k + 1) rotations in
        let all = needs_of_front l first rotations (k + 1) market printed.chain (omega (arith, less)) k (row needs k) (omega arith) (needed.each k less) in
        let of_last : AreNeedsOf l xs (length xs - 1) (map pred (numbers_of (row needs k))) =
        subst (λ j. AreNeedsOf l xs j (map pred (numbers_of (row needs k)))) (sym last_is) (subst (AreNeedsOf l xs k) (sym (numbers_back (row needs k))) all) in
        at_line d above said x (firsts_hold w above x tt (λ _. best d above said))
        (chain_holds w by above x tt (λ b. no_end b.behind) (told w first (λ f d. AreNeedsOf l d.rotations (length d.rotations - 1) (map pred (numbers_of (row needs k)))) d above said.0 of_last))
        (flows_hold w by above x (first_level w by above) tt tt tt tt tt tt tt tt) (flows_hold w by above x (second_level w by above) tt tt tt tt tt tt tt tt)
        tt (λ e. no_end e) (wanted_holds w by above x (tt, λ e. no_end e))

    needs_said : Early w first (in_blocks rotations needs (k + 1) k) above → Early w first (in_blocks rotations needs (k + 1) (k + 1)) (above ++ needs_line needs k ∷ [])
    needs_said said =
        let more : take k needs ++ map pred (numbers_of (row needs k)) ∷ [] ≡ take (k + 1) needs =
        ap (λ x. take k needs ++ x ∷ []) (numbers_back (row needs k)) ∙ sym (take_more needs k [] (omega (arith, less, needed.one_each))) in
        early_as w first (with_line w (in_blocks rotations needs (k + 1) k) (needs_line needs k)) (in_blocks rotations needs (k + 1) (k + 1)) (above ++ needs_line needs k ∷ [])
        (λ i. record { rotations = take (k + 1) rotations; needs = more i; flows = []; second_flows = []; taken = []; values = []; second_values = [] })
        (early_more w first (in_blocks rotations needs (k + 1) k) above (needs_line needs k) refl refl said)

    -- the gain that is shown is that of the last rotation, whatever is weighed
    gain_told : (weigh : ℕ → Option ℕ → ℤ) → Early w first (in_blocks rotations needs (k + 1) (k + 1)) above
        → gain_by weigh s (rotation_at rotations k) ≡ gain_by weigh s (rotation_at (rotations_in w above) (last_rotation w above))
    gain_told weigh said =
        let d = in_blocks rotations needs (k + 1) (k + 1) in
        let gained : List (ℕ × ℕ) → ℤ = gain_by weigh s in
        told w first (λ f d. gained (rotation_at rotations k) ≡ gained (rotation_at d.rotations (length d.rotations - 1))) d above said.0
        (ap gained (sym (ap (rotation_at (take (k + 1) rotations)) last_is ∙ same_rotation l first rotations (k + 1) k (omega arith))))

    gain_holds : Early w first (in_blocks rotations needs (k + 1) (k + 1)) above → (why : Reason) → C w by above (gain_shown_at by w rotations k) why
    gain_holds said =
        let x = gain_shown_at by w rotations k in
        let d = in_blocks rotations needs (k + 1) (k + 1) in
        at_line d above said x (firsts_hold w above x tt (λ _. best d above said)) (chain_holds w by above x tt (λ b. no_end b.behind) tt)
        (flows_hold w by above x (first_level w by above) (gain_told (pair_weight by w) said) tt tt tt tt tt tt tt)
        (flows_hold w by above x (second_level w by above) tt tt tt tt tt tt tt tt)
        tt (λ e. no_end e) (wanted_holds w by above x (tt, λ e. no_end e))

    second_gain_holds : Early w first (in_blocks rotations needs (k + 1) (k + 1)) above → (why : Reason) → C w by above (second_shown_at w rotations k) why
    second_gain_holds said =
        let x = second_shown_at w rotations k in
        let d = in_blocks rotations needs (k + 1) (k + 1) in
        at_line d above said x (firsts_hold w above x tt (λ _. best d above said)) (chain_holds w by above x tt (λ b. no_end b.behind) tt)
        (flows_hold w by above x (first_level w by above) tt tt tt tt tt tt tt tt)
        (flows_hold w by above x (second_level w by above) (gain_told (pair_second w) said) tt tt tt tt tt tt tt)
        tt (λ e. no_end e) (wanted_holds w by above x (tt, λ e. no_end e))

    -- a line of a gain says nothing that is asked for later
    gain_said : Early w first (in_blocks rotations needs (k + 1) (k + 1)) above → Early w first (in_blocks rotations needs (k + 1) (k + 1)) (above ++ gain_shown_at by w rotations k ∷ [])
    gain_said said = early_more w first (in_blocks rotations needs (k + 1) (k + 1)) above (gain_shown_at by w rotations k) refl refl said

    second_gain_said : Early w first (in_blocks rotations needs (k + 1) (k + 1)) above → Early w first (in_blocks rotations needs (k + 1) (k + 1)) (above ++ second_shown_at w rotations k ∷ [])
    second_gain_said said = early_more w first (in_blocks rotations needs (k + 1) (k + 1)) above (second_shown_at w rotations k) refl refl said

  block_step : (k : ℕ) (above : List LineData) → k < m → Early w first (in_blocks rotations needs k k) above → Held (C w by) (Early w first (in_blocks rotations needs (k + 1) (k + 1))) above (block_lines two by w rotations needs k)
  block_step k above less said =
      let P = Early w first (in_blocks rotations needs (k + 1) (k + 1)) in
      let one = above ++ rotation_line s rotations k ∷ [] in
      let other = one ++ needs_line needs k ∷ [] in
      let gained = other ++ gain_shown_at by w rotations k ∷ [] in
      let said_one = rotation_said k less above said in
      let said_other = needs_said k less one said_one in
      let said_gain = gain_said k less other said_other in
      let second = second_shown_at w rotations k in
      let rest = held_in_two (C w by) P two gained (second ∷ []) said_gain ((second_gain_holds k less gained said_gain, tt), second_gain_said k less gained said_gain) in
      held_more (C w by) P above (rotation_line s rotations k) (needs_line needs k ∷ gain_shown_at by w rotations k ∷ in_two two (second ∷ [])) (rotation_holds k less above said)
      (held_more (C w by) P one (needs_line needs k) (gain_shown_at by w rotations k ∷ in_two two (second ∷ [])) (needs_hold k less one said_one)
      (held_more (C w by) P other (gain_shown_at by w rotations k) (in_two two (second ∷ [])) (gain_holds k less other said_other) rest))

  abbrev head : LineData
  head = LineData.Answer (HeadData.Weight by)

  abbrev firsts : List LineData
  firsts = lines_from (seat_line Proposers s first) 0 n

  abbrev blocks : List LineData
  blocks = flat_map (block_lines two by w rotations needs) (range_with_len 0 m)

  -- before the first seats and among them nothing else is said
  abbrev NothingElse : List LineData → Type 0
  NothingElse above = (said_in w above ≡ in_blocks rotations needs 0 0) × (pairs_in above ≡ [])

  -- all clauses hold at the first seats
  pub firsts_are : Held (C w by) (SeatsAbove l first (first_in w) NothingElse n) (head ∷ []) firsts
  firsts_are =
      seats_hold w first market matching Proposers (seat_line Proposers s first) (λ p less. refl) (C w by) (first_in w) (λ p seat. refl) NothingElse
      (λ above p seat k. (said_one w above (LineData.First p seat) ∙ ap (λ (d : Said). with_line w d (LineData.First p seat)) k.0, said_same pair_in above (LineData.First p seat) refl ∙ k.1))
      (λ above p seat k free. first_holds w by above p seat free) (head ∷ []) refl (refl, refl)

  -- all clauses hold at the blocks behind them
  pub blocks_are : Held (C w by) (Early w first (in_blocks rotations needs m m)) (head ∷ firsts) blocks
  blocks_are =
      let k = firsts_are.1 in
      blocks_hold (C w by) (λ k. Early w first (in_blocks rotations needs k k)) (block_lines two by w rotations needs) m block_step 0 m (head ∷ firsts) (omega arith)
      (record { first_is = all_seated k.0 market matching; said_is = k.1.0 }, k.1.1)

  -- Tests that they pass.

  -- the first seats pass a test that each of them passes
  pub firsts_pass : (test : LineData → Bool) → ((p k : ℕ) → k < length (seats_of w) → test (LineData.First p (seat_of s k)) ≡ true) → list_all test firsts ≡ true
  firsts_pass test each = seats_pass w first market matching Proposers (seat_line Proposers s first) (λ p less. refl) test each

  -- the blocks pass one that each of their lines passes
  pub lines_pass : (test : LineData → Bool) → ((k : ℕ) → test (rotation_line s rotations k) ≡ true) → ((k : ℕ) → test (needs_line needs k) ≡ true)
      → ((k : ℕ) → test (gain_shown_at by w rotations k) ≡ true) → ((k : ℕ) → test (second_shown_at w rotations k) ≡ true) → list_all test blocks ≡ true
  lines_pass test a b c d =
      blocks_pass test (block_lines two by w rotations needs)
      (λ k. let rest = list_all test (in_two two (second_shown_at w rotations k ∷ [])) in
      ap (λ t. t && (test (needs_line needs k) && (test (gain_shown_at by w rotations k) && rest))) (a k) ∙ ap (λ t. t && (test (gain_shown_at by w rotations k) && rest)) (b k) ∙ ap (λ t. t && rest) (c k)
      ∙ pass_in_two test two (second_shown_at w rotations k ∷ []) (ap (λ t. t && true) (d k))) 0 m

  -- the first seats are of their form
  pub firsts_fit : list_all (fits (Two w)) firsts ≡ true
  firsts_fit = firsts_pass (fits (Two w)) (λ p k less. ap (λ t. t && true) (is_seat_shown w k less))

  -- the blocks are of their form
  pub blocks_fit : list_all (fits (Two w)) blocks ≡ true
  blocks_fit = lines_pass (fits (Two w)) (λ k. pairs_fit w (rotation_at rotations k) (there k)) (λ k. refl) (λ k. refl) (λ k. refl)
