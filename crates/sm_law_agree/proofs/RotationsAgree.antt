-- A right answer of `rotations` gets a yes.
use Rattle.std.proofs.Common.{◌≡◌, ℕ, zero, suc, ◌&&◌, ◌+◌, ◌-◌, ◌<◌, ◌≤◌, ◌^◌, arith, refl, sym, ap, ◌∙◌, pred, Bool, true, List, [], ◌∷◌, ◌++◌, length, map, take, None, subst, append_assoc}
use Rattle.std.specs.Prelude.{IfSome, slice_index}
use Rattle.std.specs.List.{All, list_all, flat_map, range_with_len}
use Rattle.std.proofs.lemmas.List.{get_or-take, length-take-le, take_more}
use Rattle.sm_agents.specs.Written.{Written}
use Rattle.sm_agents.specs.Sound.{IsInstance}
use Rattle.sm_instance.specs.declared.inputs.Input.TheVariants.{Two}
use Rattle.sm_agents.specs.declared.kinds.Side.TheVariants.{Proposers}
use Rattle.sm_market.specs.Lists.{Lists, row, IsMarket}
use Rattle.sm_market.specs.Matching.{Places}
use Rattle.sm_market.specs.Stable.{IsProposersBest}
use Rattle.sm_theory.specs.Rotations.{IsNothingExposed, IsLowestExposed, eliminated}
use Rattle.sm_theory.specs.Chains.{rotation_at, stage, IsCompleteChain, IsPrintedChain, IsNeededBy, AreNeedsOf, AreNeeds}
use Rattle.sm_theory.proofs.Bridge.Chain.{eliminable_of}
use Rattle.sm_theory.proofs.Chains.Length.{short_eliminable}
use Rattle.sm_theory.proofs.Chains.Rotations.{predecessor_is_earlier}
use Rattle.sm_report.specs.declared.lines.Seat.{Seat}
use Rattle.sm_report.specs.Heads.{HeadData}
use Rattle.sm_report.specs.Lines.{LineData}
use Rattle.sm_report.specs.Sound.{IsLineOf}
use Rattle.sm_answer.specs.Lines.{lines_from}
use Rattle.sm_seats.specs.SeatMarket.{seat_market, seats_of}
use Rattle.sm_seats.specs.SeatEntries.{AreFewSeats}
use Rattle.sm_seats.specs.Seating.{Seating, seating_of}
use Rattle.sm_seats.specs.Correspondence.{IsSeating}
use Rattle.sm_seats.proofs.CorrespondenceLaws.{is_seating, sound_entries}
use Rattle.sm_seats.proofs.LawsProved.{few_seats_fit}
use Rattle.sm_answer_rotations.specs.Reduction.{seat_of, seat_line}
use Rattle.sm_answer_rotations.specs.RotationLines.{numbers_of, seated_rotation, rotation_line, needs_line}
use Rattle.sm_answer_rotations.specs.GivenLines.{two_lines}
use Rattle.sm_answer_rotations.proofs.RotationLemmas.{seats_named, rotations_given_sound}
use Rattle.sm_check_forms.specs.Seats.{is_seat, seat_number, all_numbered}
use Rattle.sm_report.specs.declared.keywords.Keyword.TheVariants as keyword
use Rattle.sm_check_forms.proofs.KeywordLayouts.{is_whole, is_placed, blocks_of, closing}
use Rattle.sm_check_forms.specs.Forms.{fits}
use Rattle.sm_check_clauses.specs.declared.verdicts.Reason.{Reason}
use Rattle.sm_check_clauses.specs.declared.verdicts.Reason.TheVariants as reason
use Rattle.sm_check_clauses.specs.Said.{first_in, firsts_in, rotation_in, rotations_in, needs_in, is_up_to_firsts, is_up_to_rotations, IsFirstBehind}
use Rattle.sm_check_clauses.specs.SeatMatchings.{IsFreeSeat, seat_places_in, first_of}
use Rattle.sm_check_clauses.specs.Chain.{reached, last_rotation, ChainHolds, RotationsHold}
use Rattle.sm_check_clauses.proofs.LinewiseLemmas.{AllHold, all_hold, hold_append, no_end}
use Rattle.sm_law_agree.specs.Agree.{GetYes, RotationsAgree}
use Rattle.sm_check_clauses.proofs.AnswerLemmas.{said_same, said_one}
use Rattle.sm_law_agree.proofs.LineLemmas.{Held, pass_append, has_word, has_other, is_whole-group, yes_of}
use Rattle.sm_law_agree.proofs.SeatLemmas.{is_seat_shown, all_numbered-seated, all_seated, SeatsAbove, seats_hold, seats_pass, firsts_hold}
use Rattle.sm_law_agree.proofs.BlockLemmas.{blocks_hold, blocks_pass, blocks_whole, lines_of, shown_is}

-- The first rotations of a chain.

module _ (l : Lists) (first : Places) (rotations : List (List (ℕ × ℕ))) (n : ℕ) where
  -- they are the same rotations
  pub same_rotation : (k : ℕ) → k < n → rotation_at (take n rotations) k ≡ rotation_at rotations k
  same_rotation k less = get_or-take n rotations k [] less

  -- they lead to where the chain does
  pub same_stage : (k : ℕ) → k ≤ n → stage l first (take n rotations) k ≡ stage l first rotations k
  same_stage zero le = refl
  same_stage (suc k) le = ap (λ m. eliminated l m (rotation_at (take n rotations) k)) (same_stage k (omega arith)) ∙ ap (eliminated l (stage l first rotations k)) (same_rotation k (omega arith))

  -- what one of them needs of all it needs of them, since a predecessor stands earlier
  pub needs_of_front : IsMarket l → IsCompleteChain l first rotations → n ≤ length rotations → (j : ℕ) (needs : List ℕ) → j < n → AreNeedsOf l rotations j needs → AreNeedsOf l (take n rotations) j needs
  needs_of_front market chain within j needs inside needed = record {
    rising = needed.rising;
    sound = λ a less. omega (arith, early a less, long);
    each = λ a less. to (slice_index needs a) (omega (arith, early a less)) (needed.each a less);
    all = λ i less need. needed.all i (omega (arith, less, long)) (back i (omega (arith, less, long)) need);
  }
    where
      long : length (take n rotations) ≡ n
      long = length-take-le n rotations within

      early : (a : ℕ) → a < length needs → slice_index needs a < j
      early a less = predecessor_is_earlier l first rotations (slice_index needs a) j market chain (needed.sound a less) (omega arith) (needed.each a less)

      to : (i : ℕ) → i < n → IsNeededBy l (rotation_at rotations i) (rotation_at rotations j) → IsNeededBy l (rotation_at (take n rotations) i) (rotation_at (take n rotations) j)
      to i less h =
          subst (λ (y : List (ℕ × ℕ)). IsNeededBy l (rotation_at (take n rotations) i) y) (sym (same_rotation j inside))
          (subst (λ (x : List (ℕ × ℕ)). IsNeededBy l x (rotation_at rotations j)) (sym (same_rotation i less)) h)

      back : (i : ℕ) → i < n → IsNeededBy l (rotation_at (take n rotations) i) (rotation_at (take n rotations) j) → IsNeededBy l (rotation_at rotations i) (rotation_at rotations j)
      back i less h =
          subst (λ (y : List (ℕ × ℕ)). IsNeededBy l (rotation_at rotations i) y) (same_rotation j inside)
          (subst (λ (x : List (ℕ × ℕ)). IsNeededBy l x (rotation_at (take n rotations) j)) (same_rotation i less) h)

-- What the lines of a rotation say.

-- numbers from 1, and from 0 again
pub numbers_back : (needed : List ℕ) → map pred (numbers_of needed) ≡ needed
numbers_back [] = refl
numbers_back (k ∷ needed) = ap (λ n. n ∷ map pred (numbers_of needed)) (let e : pred (k + 1) ≡ k = omega arith in e) ∙ ap (λ xs. k ∷ xs) (numbers_back needed)

-- its seats are there
pub pairs_fit : (w : Written) (pairs : List (ℕ × ℕ)) → All (λ (pair : ℕ × ℕ). pair.1 < length (seats_of w)) pairs → list_all (is_seat w) (map (λ pair. pair.1) (seated_rotation (seating_of w) pairs)) ≡ true
pairs_fit w [] there = refl
pairs_fit w (pair ∷ pairs) there =
    ap (λ t. t && list_all (is_seat w) (map (λ pair. pair.1) (seated_rotation (seating_of w) pairs))) (is_seat_shown w pair.1 (there 0 (0, 0) (omega arith)))
    ∙ pairs_fit w pairs (λ k d less. there (suc k) d (omega (arith, less)))

-- The clauses.

module _ (w : Written) where
  abbrev C : List LineData → LineData → Reason → Type 0
  C above line why = RotationsHold w above line why

  -- all clauses hold at a line of which this is known
  module _ (above : List LineData) (line : LineData) (free : IfSome (first_in w line) (IsFreeSeat (seat_market w) (firsts_in w above)))
      (best : IsFirstBehind is_up_to_firsts above line → IsProposersBest (seat_market w) (first_of w above))
      (lowest : IfSome (rotation_in w line) (IsLowestExposed (seat_market w) (reached w above)))
      (complete : IsFirstBehind is_up_to_rotations above line → IsNothingExposed (seat_market w) (reached w above))
      (needed : IfSome (needs_in line) (AreNeedsOf (seat_market w) (rotations_in w above) (last_rotation w above))) where
    chain_holds : (why : Reason) → ChainHolds w above line why
    chain_holds reason.NotExposed = lowest
    chain_holds reason.RotationMissing = complete
    chain_holds reason.WrongNeeds = needed
    chain_holds _ = tt

    all_clauses : (why : Reason) → C above line why
    all_clauses why = (firsts_hold w above line free best why, chain_holds why)

  head_holds : (why : Reason) → C [] (LineData.Answer HeadData.Rotations) why
  head_holds = all_clauses [] (LineData.Answer HeadData.Rotations) tt (λ b. no_end b.behind) tt (λ b. no_end b.behind) tt

  first_holds : (above : List LineData) (p : ℕ) (seat : Seat) → IsFreeSeat (seat_market w) (firsts_in w above) (p, seat_number w seat) → (why : Reason) → C above (LineData.First p seat) why
  first_holds above p seat free = all_clauses above (LineData.First p seat) free (λ b. no_end b.behind) tt (λ b. no_end b.behind) tt

-- The lines of a right answer.

module _ (w : Written) (i : IsInstance w) (few : AreFewSeats w) (first : Places) (rotations : List (List (ℕ × ℕ))) (needs : List (List ℕ))
    (printed : IsPrintedChain (seat_market w) first rotations) (needed : AreNeeds (seat_market w) rotations needs) where
  abbrev l : Lists
  l = seat_market w

  abbrev s : Seating
  s = seating_of w

  abbrev n : ℕ
  n = length l.proposers

  abbrev m : ℕ
  m = length rotations

  abbrev head : LineData
  head = LineData.Answer HeadData.Rotations

  abbrev firsts : List LineData
  firsts = lines_from (seat_line Proposers s first) 0 n

  abbrev blocks : List LineData
  blocks = flat_map (two_lines s rotations needs) (range_with_len 0 m)

  seating : IsSeating w s
  seating = is_seating (sound_entries i)

  market : IsMarket l
  market = seating.market

  best : IsProposersBest l first
  best = printed.chain.from_best

  -- the seats of a rotation are there
  there : (k : ℕ) → All (λ (pair : ℕ × ℕ). pair.1 < length (seats_of w)) (rotation_at rotations k)
  there k = seats_named s first rotations market seating.seats printed.chain k

  -- what is known behind the first seats and so many rotations
  record AreSaid (k : ℕ) (above : List LineData) : Type 0 where
    pub first_is : first_of w above ≡ first
    pub rotations_are : rotations_in w above ≡ take k rotations

  module _ (k : ℕ) (within : k ≤ m) (above : List LineData) (said : AreSaid k above) where
    reached_is : reached w above ≡ stage l first rotations k
    reached_is =
        ap (λ f. stage l f (rotations_in w above) (length (rotations_in w above))) said.first_is ∙ ap (λ (xs : List (List (ℕ × ℕ))). stage l first xs (length xs)) said.rotations_are
        ∙ ap (stage l first (take k rotations)) (length-take-le k rotations within) ∙ same_stage l first rotations k k (omega arith)

    best_above : IsProposersBest l (first_of w above)
    best_above = subst (IsProposersBest l) (sym said.first_is) best

  -- a line that says no first seat
  same_first : (above : List LineData) (x : LineData) → first_in w x ≡ None → first_of w above ≡ first → first_of w (above ++ x ∷ []) ≡ first
  same_first above x none is = ap (seat_places_in l) (said_same (first_in w) above x none) ∙ is

  module _ (k : ℕ) (less : k < m) (above : List LineData) where
    rotation_holds : AreSaid k above → (why : Reason) → C w above (rotation_line s rotations k) why
    rotation_holds said =
        let lowest = printed.lowest k less in
        let at : IsLowestExposed l (reached w above) (rotation_at rotations k) = subst (λ f. IsLowestExposed l f (rotation_at rotations k)) (sym (reached_is k (omega arith) above said)) lowest in
        all_clauses w above (rotation_line s rotations k) tt (λ _. best_above k (omega arith) above said) (subst (IsLowestExposed l (reached w above)) (sym (all_numbered-seated w (rotation_at rotations k) (there k))) at)
        (λ b. no_end b.behind) tt

    rotation_said : AreSaid k above → AreSaid (k + 1) (above ++ rotation_line s rotations k ∷ [])
    rotation_said said = record {
      first_is = same_first above (rotation_line s rotations k) refl said.first_is;
      rotations_are =
          said_one (rotation_in w) above (rotation_line s rotations k) (all_numbered w (seated_rotation s (rotation_at rotations k))) refl
          ∙ ap (λ x. rotations_in w above ++ x ∷ []) (all_numbered-seated w (rotation_at rotations k) (there k)) ∙ ap (λ xs. xs ++ rotation_at rotations k ∷ []) said.rotations_are
          ∙ sym (take_more rotations k [] less);
    }

    needs_holds : AreSaid (k + 1) above → (why : Reason) → C w above (needs_line needs k) why
    needs_holds said =
        let long = length-take-le (k + 1) rotations (omega arith) in
        let last : last_rotation w above ≡ k = (let e = ap (λ (xs : List (List (ℕ × ℕ))). length xs) said.rotations_are in omega (arith, e, long)) in
        let all = needs_of_front l first rotations (k + 1) market printed.chain (omega arith) k (row needs k) (omega arith) (needed.each k less) in
        let above_all : AreNeedsOf l (rotations_in w above) (last_rotation w above) (row needs k) =
        subst (λ j. AreNeedsOf l (rotations_in w above) j (row needs k)) (sym last) (subst (λ xs. AreNeedsOf l xs k (row needs k)) (sym said.rotations_are) all) in
        all_clauses w above (needs_line needs k) tt (λ _. best_above (k + 1) (omega arith) above said) tt (λ b. no_end b.behind)
        (subst (AreNeedsOf l (rotations_in w above) (last_rotation w above)) (sym (numbers_back (row needs k))) above_all)

    needs_said : AreSaid (k + 1) above → AreSaid (k + 1) (above ++ needs_line needs k ∷ [])
    needs_said said = record {
      first_is = same_first above (needs_line needs k) refl said.first_is;
      rotations_are = said_same (rotation_in w) above (needs_line needs k) refl ∙ said.rotations_are;
    }

  block_step : (k : ℕ) (above : List LineData) → k < m → AreSaid k above → Held (C w) (AreSaid (k + 1)) above (two_lines s rotations needs k)
  block_step k above less said =
      let now = above ++ rotation_line s rotations k ∷ [] in
      let one = rotation_said k less above said in (
        (rotation_holds k less above said, (needs_holds k less now one, tt)),
        subst (AreSaid (k + 1)) (append_assoc above (rotation_line s rotations k ∷ []) (needs_line needs k ∷ [])) (needs_said k less now one),
      )

  firsts_are : Held (C w) (SeatsAbove l first (first_in w) (λ above. rotations_in w above ≡ []) n) (head ∷ []) firsts
  firsts_are =
      seats_hold w first market best.stable.matching Proposers (seat_line Proposers s first) (λ p less. refl) (C w) (first_in w) (λ p seat. refl) (λ above. rotations_in w above ≡ [])
      (λ above p seat k. said_same (rotation_in w) above (LineData.First p seat) refl ∙ k) (λ above p seat k free. first_holds w above p seat free) (head ∷ []) refl refl

  blocks_are : Held (C w) (AreSaid m) (head ∷ firsts) blocks
  blocks_are =
      let k = firsts_are.1 in
      blocks_hold (C w) AreSaid (two_lines s rotations needs) m block_step 0 m (head ∷ firsts) (omega arith) (record { first_is = all_seated k.0 market best.stable.matching; rotations_are = k.1 })

  ends : (why : Reason) → C w ((head ∷ firsts) ++ blocks) LineData.End why
  ends =
      let above = (head ∷ firsts) ++ blocks in
      let said = blocks_are.1 in
      let none : IsNothingExposed l (stage l first rotations m) = record { none = printed.chain.complete } in
      all_clauses w above LineData.End tt (λ _. best_above m (omega arith) above said) tt (λ _. subst (IsNothingExposed l) (sym (reached_is m (omega arith) above said)) none) tt

  all : AllHold (C w) [] (lines_of s first rotations needs n m)
  all = (head_holds w, hold_append (C w) (head ∷ []) firsts (blocks ++ LineData.End ∷ []) firsts_are.0 (hold_append (C w) (head ∷ firsts) blocks (LineData.End ∷ []) blocks_are.0 (ends, tt)))

  -- Their form.

  behind_pass : (test : LineData → Bool) → ((k : ℕ) → test (rotation_line s rotations k) ≡ true) → ((k : ℕ) → test (needs_line needs k) ≡ true) → test LineData.End ≡ true → list_all test (blocks ++ LineData.End ∷ []) ≡ true
  behind_pass test a b end =
      pass_append test blocks (LineData.End ∷ []) (blocks_pass test (two_lines s rotations needs) (λ k. ap (λ t. t && (test (needs_line needs k) && true)) (a k) ∙ ap (λ t. t && true) (b k)) 0 m) (ap (λ t. t && true) end)

  firsts_pass : (test : LineData → Bool) → ((p k : ℕ) → k < length (seats_of w) → test (LineData.First p (seat_of s k)) ≡ true) → list_all test firsts ≡ true
  firsts_pass test each = seats_pass w first market best.stable.matching Proposers (seat_line Proposers s first) (λ p less. refl) test each

  fitting : list_all (fits (Two w)) (lines_of s first rotations needs n m) ≡ true
  fitting =
      pass_append (fits (Two w)) firsts (blocks ++ LineData.End ∷ []) (firsts_pass (fits (Two w)) (λ p k less. ap (λ t. t && true) (is_seat_shown w k less)))
      (behind_pass (fits (Two w)) (λ k. pairs_fit w (rotation_at rotations k) (there k)) (λ k. refl) refl)

  placed : is_placed is_whole (Two w) (lines_of s first rotations needs n m) ≡ true
  placed =
      is_whole-group keyword.First (blocks_of 2) closing firsts (blocks ++ LineData.End ∷ []) (firsts_pass (has_word keyword.First) (λ p k less. refl))
      (behind_pass (has_other keyword.First) (λ k. refl) (λ k. refl) refl) (blocks_whole s rotations needs 0 m)

  -- a chain is short
  short : m < 2 ^ 24
  short = omega (arith, short_eliminable market best.stable.matching (eliminable_of printed.chain), (few_seats_fit w i few).proposers.entries)

  sound : All (IsLineOf (Two w)) (lines_of s first rotations needs n m)
  sound =
      let given = rotations_given_sound (Two w) i seating first rotations needs refl printed short needed.each in
      let a : n - 0 ≡ n = omega arith in
      let b : m - 0 ≡ m = omega arith in
      subst (λ k. All (IsLineOf (Two w)) (lines_of s first rotations needs n k)) b (subst (λ k. All (IsLineOf (Two w)) (lines_of s first rotations needs k (m - 0))) a given)

  rotations_yes : GetYes (Two w) (lines_of s first rotations needs n m)
  rotations_yes = yes_of (Two w) (lines_of s first rotations needs n m) sound fitting placed (all_hold (C w) (lines_of s first rotations needs n m) all)

-- the law for `rotations`
pub rotations_agree : RotationsAgree
rotations_agree w lines i few a =
    subst (GetYes (Two w)) (sym (a.shows ∙ shown_is (seating_of w) a.first a.rotations a.needs a.printed.chain.from_best.stable.matching.proposers.one_each)) (rotations_yes w i few a.first a.rotations a.needs a.printed a.needed)
