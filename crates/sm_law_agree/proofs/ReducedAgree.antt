-- A right answer of `reduced` gets a yes.
use Rattle.std.proofs.Common.{◌≡◌, ℕ, ◌&&◌, ◌+◌, ◌<◌, arith, refl, sym, ap, ◌∙◌, Bool, true, false, List, [], ◌∷◌, ◌++◌, length, map, get_or, Option, None, subst, append_assoc, ◌-◌}
use Rattle.std.specs.Prelude.{IfSome}
use Rattle.std.specs.List.{All, list_all, range_with_len}
use Rattle.std.proofs.lemmas.List.{map-append}
use Rattle.std.proofs.lemmas.List.FromFn.{get_or-range_with_len, length-range_with_len, length-map-range_with_len}
use Rattle.sm_agents.specs.Written.{Written}
use Rattle.sm_agents.specs.Sound.{IsInstance}
use Rattle.sm_instance.specs.declared.inputs.Input.TheVariants.{Two}
use Rattle.sm_agents.specs.declared.kinds.Side.TheVariants.{Proposers, Reviewers}
use Rattle.sm_market.specs.Lists.{Lists, row, IsMarket}
use Rattle.sm_market.specs.Matching.{Places}
use Rattle.sm_market.specs.Stable.{IsProposersBest, IsReviewersBest}
use Rattle.sm_market.specs.Reduced.{reduced_row, reduced_lists_of}
use Rattle.sm_report.specs.declared.lines.Seat.{Seat}
use Rattle.sm_report.specs.Heads.{HeadData}
use Rattle.sm_report.specs.Lines.{LineData}
use Rattle.sm_report.specs.Sound.{IsLineOf}
use Rattle.sm_answer.specs.Lines.{lines_from}
use Rattle.sm_seats.specs.SeatMarket.{seat_market, seats_of}
use Rattle.sm_seats.specs.Seating.{Seating, seating_of}
use Rattle.sm_seats.specs.Correspondence.{IsSeating}
use Rattle.sm_seats.proofs.CorrespondenceLaws.{is_seating, sound_entries}
use Rattle.sm_lists.proofs.RangeLemmas.{range_more}
use Rattle.sm_answer_rotations.specs.Reduction.{seat_of, seat_line, proposer_line, reviewer_line, reduced_lines}
use Rattle.sm_answer_rotations.specs.GivenLines.{reduced_given}
use Rattle.sm_answer_rotations.proofs.ReduceLemmas.{reduced_named, reduced_given_sound}
use Rattle.sm_check_forms.specs.Seats.{is_seat, seat_number, seat_numbers}
use Rattle.sm_report.specs.declared.keywords.Keyword.{Keyword}
use Rattle.sm_report.specs.declared.keywords.Keyword.TheVariants as keyword
use Rattle.sm_check_forms.specs.declared.layouts.LayoutPart.TheVariants.{One, Many}
use Rattle.sm_check_forms.proofs.KeywordLayouts.{is_whole, is_placed, closing}
use Rattle.sm_check_forms.specs.Forms.{fits}
use Rattle.sm_check_clauses.specs.declared.verdicts.Reason.{Reason}
use Rattle.sm_check_clauses.specs.declared.verdicts.Reason.TheVariants as reason
use Rattle.sm_check_clauses.specs.Said.{first_in, firsts_in, last_in, lasts_in, proposer_list_in, proposer_lists_in, reviewer_list_in, reviewer_lists_in, is_end, is_up_to_firsts, is_up_to_lasts, IsFirstBehind}
use Rattle.sm_check_clauses.specs.SeatMatchings.{IsFreeSeat, seat_places_in, first_of, last_of}
use Rattle.sm_check_clauses.specs.Chain.{HasOneEach, owners, reduced_of, IsRowOf, ListsAreRight, ReducedHold}
use Rattle.sm_check_clauses.proofs.LinewiseLemmas.{AllHold, all_hold, hold_append, no_end}
use Rattle.sm_check_roommates.proofs.PartyLemmas.{is_among-get_or, once}
use Rattle.sm_check_roommates.specs.PartiesKept.{is_among}
use Rattle.sm_law_agree.specs.Agree.{GetYes, ReducedAgrees}
use Rattle.sm_check_clauses.proofs.AnswerLemmas.{said_same, said_one}
use Rattle.sm_law_agree.proofs.LineLemmas.{Steps, Held, numbers_hold, numbers_pass, pass_append, has_word, has_other, is_whole-group, yes_of}
use Rattle.sm_law_agree.proofs.SeatLemmas.{seat_number_is, is_seat_shown, seat_numbers_are, are_seats_shown, all_seated, SeatsAbove, seats_hold, seats_pass}

-- each number of a range stands once in it
range_once : (n : ℕ) → HasOneEach n (range_with_len 0 n)
range_once n x less =
    let all = range_with_len 0 n in
    let long = length-range_with_len 0 n in
    let at : (i : ℕ) → i < n → get_or all i 0 ≡ i = (λ i l. get_or-range_with_len 0 n i 0 l ∙ (let e : 0 + i ≡ i = omega arith in e)) in
    once x all (λ i j i_j l same. omega (arith, i_j, same, at i (omega (arith, i_j, l, long)), at j (omega (arith, l, long))))
    (ap (λ y. is_among y all) (sym (at x less)) ∙ is_among-get_or all x (omega (arith, less, long)))

-- The clauses.

module _ (w : Written) where
  abbrev C : List LineData → LineData → Reason → Type 0
  C above line why = ReducedHold w above line why

  -- all clauses hold at a line of which this is known
  module _ (above : List LineData) (line : LineData) (first_free : IfSome (first_in w line) (IsFreeSeat (seat_market w) (firsts_in w above))) (last_free : IfSome (last_in w line) (IsFreeSeat (seat_market w) (lasts_in w above)))
      (best : IsFirstBehind is_up_to_firsts above line → IsProposersBest (seat_market w) (first_of w above)) (worst : IsFirstBehind is_up_to_lasts above line → IsReviewersBest (seat_market w) (last_of w above))
      (lists : ListsAreRight w above line) where
    all_clauses : (why : Reason) → C above line why
    all_clauses reason.NotAMatching = (first_free, last_free, tt)
    all_clauses reason.Blocked = (λ b. (best b).stable, λ b. (worst b).stable, tt)
    all_clauses reason.NotBest = (best, worst, tt)
    all_clauses reason.WrongList = (tt, tt, lists)
    all_clauses _ = (tt, tt, tt)

  -- a line that says nothing of lists and isn't the last
  no_lists : (above : List LineData) (line : LineData) → proposer_list_in w line ≡ None → reviewer_list_in w line ≡ None → is_end line ≡ false → ListsAreRight w above line
  no_lists above line a b going = record {
    proposer = subst (λ (o : Option (ℕ × List ℕ)). IfSome o (IsRowOf (reduced_of w above).proposers)) (sym a) tt;
    reviewer = subst (λ (o : Option (ℕ × List ℕ)). IfSome o (IsRowOf (reduced_of w above).reviewers)) (sym b) tt;
    all_proposers = λ e. no_end (sym going ∙ e);
    all_reviewers = λ e. no_end (sym going ∙ e);
  }

  -- up to the lists
  first_holds : (above : List LineData) (p : ℕ) (seat : Seat) → IsFreeSeat (seat_market w) (firsts_in w above) (p, seat_number w seat) → (why : Reason) → C above (LineData.First p seat) why
  first_holds above p seat free =
      all_clauses above (LineData.First p seat) free tt (λ b. no_end b.behind) (λ b. no_end b.behind) (no_lists above (LineData.First p seat) refl refl refl)

  last_holds : (above : List LineData) (p : ℕ) (seat : Seat) → IsProposersBest (seat_market w) (first_of w above) → IsFreeSeat (seat_market w) (lasts_in w above) (p, seat_number w seat)
      → (why : Reason) → C above (LineData.Last p seat) why
  last_holds above p seat best free =
      all_clauses above (LineData.Last p seat) tt free (λ _. best) (λ b. no_end b.behind) (no_lists above (LineData.Last p seat) refl refl refl)

  head_holds : (why : Reason) → C [] (LineData.Answer HeadData.Reduced) why
  head_holds =
      let head : LineData = LineData.Answer HeadData.Reduced in
      all_clauses [] head tt tt (λ b. no_end b.behind) (λ b. no_end b.behind) (no_lists [] head refl refl refl)

-- The lines of a right answer.

module _ (w : Written) (i : IsInstance w) (first last : Places) (best : IsProposersBest (seat_market w) first) (worst : IsReviewersBest (seat_market w) last) where
  abbrev l : Lists
  l = seat_market w

  abbrev s : Seating
  s = seating_of w

  abbrev reduced : Lists
  reduced = reduced_lists_of l first last

  abbrev head : LineData
  head = LineData.Answer HeadData.Reduced

  abbrev firsts : List LineData
  firsts = lines_from (seat_line Proposers s first) 0 (length l.proposers)

  abbrev lasts : List LineData
  lasts = lines_from (seat_line Reviewers s last) 0 (length l.proposers)

  abbrev rows : List LineData
  rows = lines_from (proposer_line s reduced.proposers) 0 (length l.proposers)

  abbrev columns : List LineData
  columns = lines_from (reviewer_line s reduced.reviewers) 0 (length l.reviewers)

  seating : IsSeating w s
  seating = is_seating (sound_entries i)

  market : IsMarket l
  market = seating.market

  -- those of a proposer's reduced list are seats, and as many as the market has
  named : (p : ℕ) → All (λ k. k < length (seats_of w)) (row reduced.proposers p)
  named p = reduced_named s first last market seating.seats p

  there : (k : ℕ) → k < length l.reviewers → k < length (seats_of w)
  there k less = omega (arith, less, seating.seats)

  -- what is known behind the head, the first seats, and the last seats
  abbrev NoLists : List LineData → Type 0
  NoLists above = (proposer_lists_in w above ≡ []) × (reviewer_lists_in w above ≡ [])

  abbrev HeadBehind : List LineData → Type 0
  HeadBehind above = (lasts_in w above ≡ []) × NoLists above

  abbrev FirstsBehind : List LineData → Type 0
  FirstsBehind above = (first_of w above ≡ first) × NoLists above

  record AreSaid (above : List LineData) : Type 0 where
    pub first_is : first_of w above ≡ first
    pub last_is : last_of w above ≡ last

  -- behind the lists of so many proposers, and of so many seats
  abbrev RowsBehind : ℕ → List LineData → Type 0
  RowsBehind p above = AreSaid above × (owners (proposer_lists_in w above) ≡ range_with_len 0 p) × (reviewer_lists_in w above ≡ [])

  abbrev ColumnsBehind : ℕ → List LineData → Type 0
  ColumnsBehind k above = AreSaid above × (owners (proposer_lists_in w above) ≡ range_with_len 0 (length l.proposers)) × (owners (reviewer_lists_in w above) ≡ range_with_len 0 k)

  -- a line that says nothing more
  same_first : (above : List LineData) (x : LineData) → first_in w x ≡ None → first_of w above ≡ first → first_of w (above ++ x ∷ []) ≡ first
  same_first above x none is = ap (seat_places_in l) (said_same (first_in w) above x none) ∙ is

  same_last : (above : List LineData) (x : LineData) → last_in w x ≡ None → last_of w above ≡ last → last_of w (above ++ x ∷ []) ≡ last
  same_last above x none is = ap (seat_places_in l) (said_same (last_in w) above x none) ∙ is

  both_same : (above : List LineData) (x : LineData) → first_in w x ≡ None → last_in w x ≡ None → AreSaid above → AreSaid (above ++ x ∷ [])
  both_same above x a b said = record { first_is = same_first above x a said.first_is; last_is = same_last above x b said.last_is }

  lists_same : (above : List LineData) (x : LineData) → proposer_list_in w x ≡ None → reviewer_list_in w x ≡ None → NoLists above → NoLists (above ++ x ∷ [])
  lists_same above x a b none = (said_same (proposer_list_in w) above x a ∙ none.0, said_same (reviewer_list_in w) above x b ∙ none.1)

  firsts_are : Held (C w) (SeatsAbove l first (first_in w) HeadBehind (length l.proposers)) (head ∷ []) firsts
  firsts_are =
      seats_hold w first market best.stable.matching Proposers (seat_line Proposers s first) (λ p less. refl) (C w) (first_in w) (λ p seat. refl) HeadBehind
      (λ above p seat k. (said_same (last_in w) above (LineData.First p seat) refl ∙ k.0, lists_same above (LineData.First p seat) refl refl k.1))
      (λ above p seat k free. first_holds w above p seat free) (head ∷ []) refl (refl, (refl, refl))

  lasts_are : Held (C w) (SeatsAbove l last (last_in w) FirstsBehind (length l.proposers)) (head ∷ firsts) lasts
  lasts_are =
      let k = firsts_are.1 in
      seats_hold w last market worst.stable.matching Reviewers (seat_line Reviewers s last) (λ p less. refl) (C w) (last_in w) (λ p seat. refl) FirstsBehind
      (λ above p seat k. (same_first above (LineData.Last p seat) refl k.0, lists_same above (LineData.Last p seat) refl refl k.1))
      (λ above p seat k free. last_holds w above p seat (subst (IsProposersBest l) (sym k.0) best) free) (head ∷ firsts) k.1.0 (all_seated k.0 market best.stable.matching, k.1.1)

  -- behind both matchings nothing but the lists is left to try
  module _ (above : List LineData) (said : AreSaid above) where
    reduced_is : reduced ≡ reduced_of w above
    reduced_is = ap (λ m. reduced_lists_of l m last) (sym said.first_is) ∙ ap (reduced_lists_of l (first_of w above)) (sym said.last_is)

    behind_both : (x : LineData) → IfSome (first_in w x) (IsFreeSeat l (firsts_in w above)) → IfSome (last_in w x) (IsFreeSeat l (lasts_in w above)) → ListsAreRight w above x → (why : Reason) → C w above x why
    behind_both x a b lists = all_clauses w above x a b (λ _. subst (IsProposersBest l) (sym said.first_is) best) (λ _. subst (IsReviewersBest l) (sym said.last_is) worst) lists

  row_step : (p : ℕ) (above : List LineData) → RowsBehind p above → Steps (C w) (RowsBehind (p + 1)) above (proposer_line s reduced.proposers p)
  row_step p above k =
      let x : LineData = LineData.ProposerList p (map (seat_of s) (row reduced.proposers p)) in
      let list = seat_numbers w (map (seat_of s) (row reduced.proposers p)) in
      let said_is : owners (proposer_lists_in w (above ++ x ∷ [])) ≡ owners (proposer_lists_in w above) ++ p ∷ [] =
      ap owners (said_one (proposer_list_in w) above x (p, list) refl) ∙ map-append (λ (list : ℕ × List ℕ). list.0) (proposer_lists_in w above) ((p, list) ∷ []) in (
        behind_both above k.0 x tt tt (record {
          proposer = seat_numbers_are w (row reduced.proposers p) (named p) ∙ ap (λ (r : Lists). row r.proposers p) (reduced_is above k.0);
          reviewer = tt;
          all_proposers = λ e. no_end e;
          all_reviewers = λ e. no_end e;
        }),
        (
          both_same above x refl refl k.0,
          said_is ∙ ap (λ xs. xs ++ p ∷ []) k.1 ∙ sym (range_more 0 p p (omega arith)),
          said_same (reviewer_list_in w) above x refl ∙ k.2,
        ),
      )

  rows_are : Held (C w) (RowsBehind (length l.proposers)) ((head ∷ firsts) ++ lasts) rows
  rows_are =
      let k = lasts_are.1 in
      numbers_hold (C w) RowsBehind (proposer_line s reduced.proposers) (length l.proposers) (λ p above less. row_step p above) 0 (length l.proposers) ((head ∷ firsts) ++ lasts) (omega arith)
      (record { first_is = k.1.0; last_is = all_seated k.0 market worst.stable.matching }, ap owners k.1.1.0, k.1.1.1)

  column_step : (k : ℕ) (above : List LineData) → k < length l.reviewers → ColumnsBehind k above → Steps (C w) (ColumnsBehind (k + 1)) above (reviewer_line s reduced.reviewers k)
  column_step k above less known =
      let list = row reduced.reviewers k in
      let x : LineData = LineData.ReviewerList (seat_of s k) list in
      let number = seat_number_is w k (there k less) in
      let said_is : owners (reviewer_lists_in w (above ++ x ∷ [])) ≡ owners (reviewer_lists_in w above) ++ seat_number w (seat_of s k) ∷ [] =
      ap owners (said_one (reviewer_list_in w) above x (seat_number w (seat_of s k), list) refl)
      ∙ map-append (λ (list : ℕ × List ℕ). list.0) (reviewer_lists_in w above) ((seat_number w (seat_of s k), list) ∷ []) in (
        behind_both above known.0 x tt tt (record {
          proposer = tt;
          reviewer = ap (λ (r : Lists). row r.reviewers k) (reduced_is above known.0) ∙ ap (row (reduced_of w above).reviewers) (sym number);
          all_proposers = λ e. no_end e;
          all_reviewers = λ e. no_end e;
        }),
        (
          both_same above x refl refl known.0,
          ap owners (said_same (proposer_list_in w) above x refl) ∙ known.1,
          said_is ∙ ap (λ n. owners (reviewer_lists_in w above) ++ n ∷ []) number ∙ ap (λ xs. xs ++ k ∷ []) known.2 ∙ sym (range_more 0 k k (omega arith)),
        ),
      )

  columns_are : Held (C w) (ColumnsBehind (length l.reviewers)) (((head ∷ firsts) ++ lasts) ++ rows) columns
  columns_are =
      let k = rows_are.1 in
      numbers_hold (C w) ColumnsBehind (reviewer_line s reduced.reviewers) (length l.reviewers) (λ k above less known. column_step k above less known) 0 (length l.reviewers) (((head ∷ firsts) ++ lasts) ++ rows) (omega arith)
      (k.0, k.1, ap owners k.2)

  ends : (why : Reason) → C w ((((head ∷ firsts) ++ lasts) ++ rows) ++ columns) LineData.End why
  ends =
      let above = (((head ∷ firsts) ++ lasts) ++ rows) ++ columns in
      let k = columns_are.1 in
      behind_both above k.0 LineData.End tt tt (record {
        proposer = tt;
        reviewer = tt;
        all_proposers = λ _. subst (HasOneEach (length l.proposers)) (sym k.1) (range_once (length l.proposers));
        all_reviewers = λ _. subst (HasOneEach (length l.reviewers)) (sym k.2) (range_once (length l.reviewers));
      })

  all : AllHold (C w) [] (reduced_lines s first last)
  all = (
    head_holds w,
    hold_append (C w) (head ∷ []) firsts (lasts ++ (rows ++ (columns ++ LineData.End ∷ []))) firsts_are.0
        (hold_append (C w) (head ∷ firsts) lasts (rows ++ (columns ++ LineData.End ∷ [])) lasts_are.0
        (hold_append (C w) ((head ∷ firsts) ++ lasts) rows (columns ++ LineData.End ∷ []) rows_are.0
        (hold_append (C w) (((head ∷ firsts) ++ lasts) ++ rows) columns (LineData.End ∷ []) columns_are.0 (ends, tt)))),
  )

  -- Their form.

  firsts_pass : (test : LineData → Bool) → ((p k : ℕ) → k < length (seats_of w) → test (LineData.First p (seat_of s k)) ≡ true) → list_all test firsts ≡ true
  firsts_pass test each = seats_pass w first market best.stable.matching Proposers (seat_line Proposers s first) (λ p less. refl) test each

  lasts_pass : (test : LineData → Bool) → ((p k : ℕ) → k < length (seats_of w) → test (LineData.Last p (seat_of s k)) ≡ true) → list_all test lasts ≡ true
  lasts_pass test each = seats_pass w last market worst.stable.matching Reviewers (seat_line Reviewers s last) (λ p less. refl) test each

  rows_pass : (test : LineData → Bool) → ((p : ℕ) (xs : List ℕ) → All (λ k. k < length (seats_of w)) xs → test (LineData.ProposerList p (map (seat_of s) xs)) ≡ true) → list_all test rows ≡ true
  rows_pass test each =
      numbers_pass test (proposer_line s reduced.proposers) (length l.proposers) (λ p less. ap (λ t. t && true) (each p (row reduced.proposers p) (named p))) 0 (length l.proposers) (omega arith)

  columns_pass : (test : LineData → Bool) → ((k : ℕ) (xs : List ℕ) → k < length (seats_of w) → test (LineData.ReviewerList (seat_of s k) xs) ≡ true) → test LineData.End ≡ true
      → list_all test (columns ++ LineData.End ∷ []) ≡ true
  columns_pass test each end =
      pass_append test columns (LineData.End ∷ [])
      (numbers_pass test (reviewer_line s reduced.reviewers) (length l.reviewers) (λ k less. ap (λ t. t && true) (each k (row reduced.reviewers k) (there k less))) 0 (length l.reviewers) (omega arith))
      (ap (λ t. t && true) end)

  fitting : list_all (fits (Two w)) (reduced_lines s first last) ≡ true
  fitting =
      let one : (k : ℕ) → k < length (seats_of w) → list_all (is_seat w) (seat_of s k ∷ []) ≡ true = (λ k less. ap (λ t. t && true) (is_seat_shown w k less)) in
      pass_append (fits (Two w)) firsts (lasts ++ (rows ++ (columns ++ LineData.End ∷ []))) (firsts_pass (fits (Two w)) (λ p k less. one k less))
      (pass_append (fits (Two w)) lasts (rows ++ (columns ++ LineData.End ∷ [])) (lasts_pass (fits (Two w)) (λ p k less. one k less))
      (pass_append (fits (Two w)) rows (columns ++ LineData.End ∷ []) (rows_pass (fits (Two w)) (λ p xs each. are_seats_shown w xs each))
      (columns_pass (fits (Two w)) (λ k xs less. one k less) refl)))

  -- a test that lines pass by their words
  rows_other : (word : Keyword) → ((p : ℕ) (seats : List Seat) → has_other word (LineData.ProposerList p seats) ≡ true) → ((seat : Seat) (xs : List ℕ) → has_other word (LineData.ReviewerList seat xs) ≡ true) → has_other word LineData.End ≡ true
      → list_all (has_other word) (rows ++ (columns ++ LineData.End ∷ [])) ≡ true
  rows_other word a b end = pass_append (has_other word) rows (columns ++ LineData.End ∷ []) (rows_pass (has_other word) (λ p xs each. a p (map (seat_of s) xs))) (columns_pass (has_other word) (λ k xs less. b (seat_of s k) xs) end)

  placed : is_placed is_whole (Two w) (reduced_lines s first last) ≡ true
  placed =
      is_whole-group keyword.First (Many keyword.Last) (Many keyword.Proposer ∷ Many keyword.Reviewer ∷ closing) firsts (lasts ++ (rows ++ (columns ++ LineData.End ∷ [])))
      (firsts_pass (has_word keyword.First) (λ p k less. refl))
      (pass_append (has_other keyword.First) lasts (rows ++ (columns ++ LineData.End ∷ [])) (lasts_pass (has_other keyword.First) (λ p k less. refl)) (rows_other keyword.First (λ p seats. refl) (λ seat xs. refl) refl))
      (is_whole-group keyword.Last (Many keyword.Proposer) (Many keyword.Reviewer ∷ closing) lasts (rows ++ (columns ++ LineData.End ∷ []))
      (lasts_pass (has_word keyword.Last) (λ p k less. refl)) (rows_other keyword.Last (λ p seats. refl) (λ seat xs. refl) refl)
      (is_whole-group keyword.Proposer (Many keyword.Reviewer) closing rows (columns ++ LineData.End ∷ [])
      (rows_pass (has_word keyword.Proposer) (λ p xs each. refl)) (columns_pass (has_other keyword.Proposer) (λ k xs less. refl) refl)
      (is_whole-group keyword.Reviewer (One keyword.End) [] columns (LineData.End ∷ []) columns_word refl refl)))
    where
      columns_word : list_all (has_word keyword.Reviewer) columns ≡ true
      columns_word = numbers_pass (has_word keyword.Reviewer) (reviewer_line s reduced.reviewers) (length l.reviewers) (λ k less. refl) 0 (length l.reviewers) (omega arith)

  -- they are those that are given
  given : reduced_given s first last reduced ≡ reduced_lines s first last
  given =
      let form : ℕ → ℕ → ℕ → List LineData =
      (λ n p k. head ∷ (lines_from (seat_line Proposers s first) 0 n ++ (lines_from (seat_line Reviewers s last) 0 n ++ (lines_from (proposer_line s reduced.proposers) 0 p ++ (lines_from (reviewer_line s reduced.reviewers) 0 k ++ LineData.End ∷ []))))) in
      let n = length l.proposers - 0 in
      let p = length reduced.proposers - 0 in
      let k = length reduced.reviewers - 0 in
      let rest = lines_from (proposer_line s reduced.proposers) 0 p ++ (lines_from (reviewer_line s reduced.reviewers) 0 k ++ LineData.End ∷ []) in
      let long = length-map-range_with_len (reduced_row l.proposers l.reviewers last.proposers first.reviewers) 0 (length l.proposers) in
      let back = length-map-range_with_len (reduced_row l.reviewers l.proposers first.reviewers last.proposers) 0 (length l.reviewers) in
      ap (λ lines. head ∷ lines) (append_assoc (lines_from (seat_line Proposers s first) 0 n) (lines_from (seat_line Reviewers s last) 0 n) rest)
      ∙ ap (λ n. form n p k) (let e : n ≡ length l.proposers = omega arith in e) ∙ ap (λ p. form (length l.proposers) p k) (let e : p ≡ length l.proposers = omega arith in e)
      ∙ ap (form (length l.proposers) (length l.proposers)) (let e : k ≡ length l.reviewers = omega arith in e)

  sound : All (IsLineOf (Two w)) (reduced_lines s first last)
  sound = subst (All (IsLineOf (Two w))) given (reduced_given_sound i seating first last (Two w) reduced refl best worst refl)

  -- the lines of both matchings and of the reduced lists get a yes
  pub reduced_yes : GetYes (Two w) (reduced_lines s first last)
  reduced_yes = yes_of (Two w) (reduced_lines s first last) sound fitting placed (all_hold (C w) (reduced_lines s first last) all)

-- the law for `reduced`
pub reduced_agrees : ReducedAgrees
reduced_agrees w lines i r = subst (GetYes (Two w)) (sym r.shows) (reduced_yes w i r.first r.last r.proposers_best r.reviewers_best)
