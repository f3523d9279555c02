-- A right answer of `solve` over roommates gets a yes, where it says that there is no stable matching.
use Rattle.std.proofs.Common.{◌≡◌, ◌≢◌, ℕ, zero, suc, ◌+◌, ◌-◌, ◌*◌, ◌<◌, ◌≤◌, ◌||◌, ◌&&◌, nat_le, inl, inr, arith, refl, sym, ap, ◌∙◌, Bool, true, false, List, [], ◌∷◌, ◌++◌, length, map, take, get_or, None, if◌then◌else◌, subst, ext_get_or, eq-eqb, ne_eqb, take_all}
use Rattle.std.specs.Prelude.{Contains}
use Rattle.std.specs.List.{list_all}
use Rattle.std.proofs.Math.Seq.{take-suc}
use Rattle.std.proofs.lemmas.Bool.{le-leb}
use Rattle.std.proofs.lemmas.List.{length-map, get_or_default}
use Rattle.std.proofs.lemmas.List.FromFn.{length-map-range_with_len, get_or-map-range_with_len}
use Rattle.sm_lists.proofs.Counting.{eq_or_ne, less_same_more}
use Rattle.sm_lists.proofs.RowLemmas.{row_in_range}
use Rattle.sm_lists.specs.Rows.{row}
use Rattle.sm_agents.specs.Written.{AgentData, lists_of}
use Rattle.sm_instance.specs.declared.inputs.Input.TheVariants.{Room}
use Rattle.sm_theory.specs.Partitions.{successor_in, after, IsStablePartition, IsInOddParty}
use Rattle.sm_theory.proofs.Room.Bridge.{one_successor}
use Rattle.sm_theory.proofs.Room.Spots.{after_plus, take_back}
use Rattle.sm_report.specs.Heads.{HeadData}
use Rattle.sm_report.specs.Lines.{LineData}
use Rattle.sm_answer.specs.Lines.{lines_from}
use Rattle.sm_answer_roommates.specs.Parties.{IsParty, AreParties}
use Rattle.sm_answer_roommates.specs.RoomAnswer.{party_line, party_lines, AreExcluding}
use Rattle.sm_answer_roommates.proofs.LineLemmas.{all_parties_sound}
use Rattle.sm_report.specs.declared.keywords.Keyword.TheVariants as keyword
use Rattle.sm_check_forms.specs.declared.layouts.LayoutPart.TheVariants.{One}
use Rattle.sm_check_forms.proofs.KeywordLayouts.{is_whole, opening_of, is_placed, solve_layout, parties_layout}
use Rattle.sm_check_forms.specs.Forms.{fits, begins_with_lowest}
use Rattle.sm_check_clauses.specs.declared.verdicts.Reason.{Reason}
use Rattle.sm_check_clauses.specs.declared.verdicts.Reason.TheVariants as reason
use Rattle.sm_check_clauses.specs.Said.{party_in, parties_in}
use Rattle.sm_check_clauses.specs.Rooming.{members_of, next_of, nexts_of, AreNew, IsWholePartition, HasOddParty}
use Rattle.sm_check_roommates.specs.PartiesKept.{is_among, follower}
use Rattle.sm_check_clauses.specs.Judging.{Subject, Clauses}
use Rattle.sm_check_clauses.proofs.LinewiseLemmas.{AllHold, all_hold, hold_append, no_end}
use Rattle.sm_check_roommates.proofs.PersonLemmas.{of_among}
use Rattle.sm_check_roommates.proofs.PartyLemmas.{is_among-none, is_among-members_push, new_where, is_among-get_or, next_of-push_there, next_of-push_other, next_in_party-get_or}
use Rattle.sm_law_agree.specs.Agree.{GetYes, PartiesAgree}
use Rattle.sm_check_clauses.proofs.AnswerLemmas.{said_one}
use Rattle.sm_law_agree.proofs.LineLemmas.{Steps, Held, numbers_hold, numbers_pass, pass_append, has_word, is_whole-group, is_whole-append_second, yes_of}

-- The parties of a permutation are apart, and give it.
module _ {rows : List (List ℕ)} {next : List ℕ} {parties : List (List ℕ)} (h : IsStablePartition rows next) (a : AreParties next parties) where
  abbrev party : ℕ → List ℕ
  party k = row parties k

  -- the member of a party at a place
  abbrev who : ℕ → ℕ → ℕ
  who k i = get_or (party k) i 0

  inside : (k i : ℕ) → k < length parties → i < length (party k) → who k i < length rows
  inside k i l on = let within = (a.each k l).inside i on in omega (arith, within, h.one_each)

  along : (k i : ℕ) → k < length parties → suc i < length (party k) → who k (suc i) ≡ successor_in next (who k i)
  along k i l on = ap (who k) (let e : suc i ≡ i + 1 = omega arith in e) ∙ (a.each k l).along i (omega (arith, on))

  -- the one before two that are the same
  before_same : (j k x y : ℕ) → j < length parties → k < length parties → x < length (party j) → y < length (party k) → successor_in next (who j x) ≡ successor_in next (who k y) → who j x ≡ who k y
  before_same j k x y j_in k_in on_x on_y e = one_successor h (who j x) (who k y) (inside j x j_in on_x) (inside k y k_in on_y) e

  apart_in : (k : ℕ) → k < length parties → (i j : ℕ) → i < j → j < length (party k) → who k i ≢ who k j
  apart_in k l zero j lt on e = let low = (a.each k l).lowest j lt on in omega (arith, low, e)
  apart_in k l (suc i) zero lt on e = omega (arith, lt)
  apart_in k l (suc i) (suc j) lt on e =
      apart_in k l i j (omega (arith, lt)) (omega (arith, on))
      (before_same k k i j l l (omega (arith, lt, on)) (omega (arith, on)) (sym (along k i l (omega (arith, lt, on))) ∙ e ∙ along k j l on))

  apart_from : (j k : ℕ) → j < k → k < length parties → (x y : ℕ) → x < length (party j) → y < length (party k) → who j x ≢ who k y
  apart_from j k lt l zero zero on_x on_y e = let up = a.rising j k lt l in omega (arith, up, e)
  apart_from j k lt l zero (suc y) on_x on_y e =
      let up = a.rising j k lt l in let low = (a.each k l).lowest (suc y) (omega arith) on_y in omega (arith, up, low, e)
  apart_from j k lt l (suc x) (suc y) on_x on_y e =
      apart_from j k lt l x y (omega (arith, on_x)) (omega (arith, on_y))
      (before_same j k x y (omega (arith, lt, l)) l (omega (arith, on_x)) (omega (arith, on_y)) (sym (along j x (omega (arith, lt, l)) on_x) ∙ e ∙ along k y l on_y))
  apart_from j k lt l (suc x) zero on_x on_y e =
      let last : length (party k) - 1 < length (party k) = omega (arith, on_y) in
      apart_from j k lt l x (length (party k) - 1) (omega (arith, on_x)) last
      (before_same j k x (length (party k) - 1) (omega (arith, lt, l)) l (omega (arith, on_x)) last
      (sym (along j x (omega (arith, lt, l)) on_x) ∙ e ∙ sym (a.each k l).returns))

  -- a member of one party stands in no other
  not_in : (k j q : ℕ) → k < length parties → q < length parties → k ≢ q → j < length (party k) → is_among (who k j) (party q) ≡ false
  not_in k j q l q_in ne on = is_among-none (who k j) (party q) (λ i on_i e. elim (less_same_more k q) [
    | inl less ↦ apart_from k q less q_in j i on on_i (sym e)
    | inr (inl same) ↦ ne same
    | inr (inr more) ↦ apart_from q k more l i j on_i on e
  ])

  none_before : (k j : ℕ) → k < length parties → j < length (party k) → (q : ℕ) → q ≤ k → is_among (who k j) (members_of (take q parties)) ≡ false
  none_before k j l on zero le = refl
  none_before k j l on (suc q) le =
      ap (λ ps. is_among (who k j) (members_of ps)) (take-suc parties q [] (omega (arith, le, l)))
      ∙ is_among-members_push (take q parties) (party q) (who k j)
      ∙ ap (λ b. b || is_among (who k j) (party q)) (none_before k j l on q (omega (arith, le)))
      ∙ not_in k j q l (omega (arith, le, l)) (λ e. omega (arith, e, le)) on

  -- each party is new behind those before it
  pub new_party : (k : ℕ) → k < length parties → AreNew (take k parties) (party k)
  new_party k l = new_where (take k parties) (party k) (apart_in k l) (λ j on. none_before k j l on k (omega arith))

  or_second : (s t : Bool) → t ≡ true → (s || t) ≡ true
  or_second true t e = refl
  or_second false t e = e

  -- and among the members of the parties up to it
  there_behind : (k j : ℕ) → k < length parties → j < length (party k) → (q : ℕ) → k < q → q ≤ length parties → is_among (who k j) (members_of (take q parties)) ≡ true
  there_behind k j l on zero lt le = absurd (omega (arith, lt))
  there_behind k j l on (suc q) lt le =
      ap (λ ps. is_among (who k j) (members_of ps)) (take-suc parties q [] (omega (arith, le)))
      ∙ is_among-members_push (take q parties) (party q) (who k j)
      ∙ elim (eq_or_ne k q) [
        | inl is ↦ or_second (is_among (who k j) (members_of (take q parties))) (is_among (who k j) (party q)) (ap (λ n. is_among (who k j) (party n)) (sym is) ∙ is_among-get_or (party k) j on)
        | inr ne ↦ ap (λ b. b || is_among (who k j) (party q)) (there_behind k j l on q (omega (arith, lt, ne)) (omega (arith, le)))
      ]

  -- each person is a member of a party
  pub all_there : (z : ℕ) → z < length next → Contains (members_of parties) z
  all_there z l =
      let m = a.all z l in
      let k_in = row_in_range parties m.party m.at m.on_list in
      of_among (members_of parties) z
      (ap (λ y. is_among y (members_of parties)) (sym m.is) ∙ ap (λ ps. is_among (who m.party m.at) (members_of ps)) (sym (take_all (length parties) parties (omega arith)))
      ∙ there_behind m.party m.at k_in m.on_list (length parties) k_in (omega arith))

  -- who follows whom
  follower_is : (k j : ℕ) → k < length parties → j < length (party k) → follower (party k) j ≡ successor_in next (who k j)
  follower_is k j l on = elim (eq_or_ne (j + 1) (length (party k))) [
    | inl last ↦
        ap (λ t. who k (if t then 0 else j + 1)) (eq-eqb (j + 1) (length (party k)) last) ∙ sym (a.each k l).returns
        ∙ ap (λ i. successor_in next (who k i)) (let e : length (party k) - 1 ≡ j = omega (arith, last) in e)
    | inr other ↦ ap (λ t. who k (if t then 0 else j + 1)) (ne_eqb (j + 1) (length (party k)) other) ∙ (a.each k l).along j (omega (arith, on, other))
  ]

  next_behind : (k j : ℕ) → k < length parties → j < length (party k) → (q : ℕ) → k < q → q ≤ length parties → next_of (take q parties) (who k j) ≡ follower (party k) j
  next_behind k j l on zero lt le = absurd (omega (arith, lt))
  next_behind k j l on (suc q) lt le =
      ap (λ ps. next_of ps (who k j)) (take-suc parties q [] (omega (arith, le)))
      ∙ elim (eq_or_ne k q) [
        | inl is ↦
            ap (λ n. next_of (take n parties ++ party n ∷ []) (who k j)) (sym is)
            ∙ next_of-push_there (take k parties) (party k) (who k j) (none_before k j l on k (omega arith)) (is_among-get_or (party k) j on)
            ∙ next_in_party-get_or (party k) (apart_in k l) j on
        | inr ne ↦
            next_of-push_other (take q parties) (party q) (who k j) (not_in k j q l (omega (arith, le)) ne on)
            ∙ next_behind k j l on q (omega (arith, lt, ne)) (omega (arith, le))
      ]

  -- who follows a person in its party is its successor
  pub next_is : (z : ℕ) → z < length next → next_of parties z ≡ successor_in next z
  next_is z l =
      let m = a.all z l in
      let k_in = row_in_range parties m.party m.at m.on_list in
      ap (next_of parties) (sym m.is) ∙ ap (λ ps. next_of ps (who m.party m.at)) (sym (take_all (length parties) parties (omega arith)))
      ∙ next_behind m.party m.at k_in m.on_list (length parties) k_in (omega arith)
      ∙ follower_is m.party m.at k_in m.on_list ∙ ap (successor_in next) m.is

  -- A party is as long as the way round it.

  steps : (k j : ℕ) → k < length parties → j < length (party k) → after next (who k 0) j ≡ who k j
  steps k zero l on = refl
  steps k (suc j) l on = ap (successor_in next) (steps k j l (omega (arith, on))) ∙ sym (along k j l on)

  round : (k : ℕ) → k < length parties → after next (who k 0) (length (party k)) ≡ who k 0
  round k l =
      let some = (a.each k l).some in
      let last : suc (length (party k) - 1) ≡ length (party k) = omega (arith, some) in
      ap (after next (who k 0)) (sym last) ∙ ap (successor_in next) (steps k (length (party k) - 1) l (omega (arith, some))) ∙ (a.each k l).returns

  module _ (k i : ℕ) (l : k < length parties) (on : i < length (party k)) where
    swapped : (n : ℕ) → after next (who k i) n ≡ after next (who k 0) (i + n)
    swapped n =
        ap (λ z. after next z n) (sym (steps k i l on)) ∙ after_plus next (who k 0) n i
        ∙ ap (after next (who k 0)) (let e : n + i ≡ i + n = omega arith in e)

    round_from : after next (who k i) (length (party k)) ≡ who k i
    round_from =
        swapped (length (party k)) ∙ sym (after_plus next (who k 0) i (length (party k)))
        ∙ ap (λ z. after next z i) (round k l) ∙ steps k i l on

    shortest : (n : ℕ) → 0 < n → n < length (party k) → after next (who k i) n ≢ who k i
    shortest n some less e =
        let f : i + 0 ≡ i = omega arith in
        let same : after next (who k 0) (i + 0) ≡ after next (who k 0) (i + n) = ap (after next (who k 0)) f ∙ steps k i l on ∙ sym e ∙ swapped n in
        let back = take_back h (who k 0) i 0 n (inside k 0 l (omega (arith, less))) same in
        apart_in k l 0 n some less (back ∙ steps k n l less)

  -- where somebody is in an odd party of the permutation, there is an odd party among these
  pub odd_party : {x : ℕ} → IsInOddParty rows next x → HasOddParty parties
  odd_party {x} odd =
      let m = a.all x (omega (arith, odd.in_range, h.one_each)) in
      let k_in = row_in_range parties m.party m.at m.on_list in
      let n : ℕ = 2 * odd.half + 1 in
      let whole : after next x (length (party m.party)) ≡ x = subst (λ z. after next z (length (party m.party)) ≡ z) m.is (round_from m.party m.at k_in m.on_list) in
      let never : n < length (party m.party) → ⊥ = λ less. shortest m.party m.at k_in m.on_list n (omega arith) less (subst (λ z. after next z n ≡ z) (sym m.is) odd.returns) in
      record {
        party = party m.party;
        there = (m.party, k_in, get_or_default parties m.party (party m.party) [] k_in);
        half = odd.half;
        three = odd.three;
        odd = elim (less_same_more (length (party m.party)) n) [
          | inl less ↦ absurd (odd.first (length (party m.party)) (let some = (a.each m.party k_in).some in some) less whole)
          | inr (inl same) ↦ same
          | inr (inr more) ↦ absurd (never more)
        ];
      }

-- The form of a party's line.

all_above : (x : ℕ) (xs : List ℕ) → ((i : ℕ) → i < length xs → x ≤ get_or xs i 0) → list_all (nat_le x) xs ≡ true
all_above x [] each = refl
all_above x (y ∷ ys) each = ap (λ t. t && list_all (nat_le x) ys) (le-leb x y (each 0 (omega arith))) ∙ all_above x ys (λ i l. each (suc i) (omega (arith, l)))

party_fits : (next party : List ℕ) → IsParty next party → begins_with_lowest party ≡ true
party_fits next [] p = absurd (let some = p.some in omega (arith, some))
party_fits next (x ∷ xs) p = all_above x xs (λ i l. let low = p.lowest (suc i) (omega arith) (omega (arith, l)) in omega (arith, low))

-- The clauses.

module _ (persons : List AgentData) where
  abbrev C : List LineData → LineData → Reason → Type 0
  C = Clauses (Subject.parties persons)

  head_holds : (above : List LineData) (why : Reason) → C above (LineData.Answer (HeadData.Solve None)) why
  head_holds above reason.NotPartition = (tt, (λ e. no_end e))
  head_holds above reason.NoOddParty = λ e. no_end e
  head_holds above _ = tt

  none_holds : (above : List LineData) (why : Reason) → C above LineData.Nothing why
  none_holds above reason.NotPartition = (tt, (λ e. no_end e))
  none_holds above reason.NoOddParty = λ e. no_end e
  none_holds above _ = tt

  party_holds : (above : List LineData) (one : List ℕ) → AreNew (parties_in above) one → (why : Reason) → C above (LineData.Party one) why
  party_holds above one new reason.NotPartition = (new, (λ e. no_end e))
  party_holds above one new reason.NoOddParty = λ e. no_end e
  party_holds above one new _ = tt

  end_holds : (above : List LineData) → IsWholePartition persons (parties_in above) → HasOddParty (parties_in above) → (why : Reason) → C above LineData.End why
  end_holds above whole odd reason.NotPartition = (tt, (λ _. whole))
  end_holds above whole odd reason.NoOddParty = λ _. odd
  end_holds above whole odd _ = tt

  module _ (parties : List (List ℕ)) (e : AreExcluding (lists_of persons) parties) where
    many : length e.next ≡ length persons
    many = e.partition.one_each ∙ length-map persons (λ (person : AgentData). person.entries)

    nexts_are : nexts_of persons parties ≡ e.next
    nexts_are =
        let long = length-map-range_with_len (next_of parties) 0 (length persons) in
        ext_get_or 0 (nexts_of persons parties) e.next (omega (arith, long, many))
        (λ z l. get_or-map-range_with_len (next_of parties) 0 (length persons) z z 0 (omega (arith, l, long)) (omega arith) ∙ next_is e.partition e.all z (omega (arith, l, long, many)))

    whole : IsWholePartition persons parties
    whole = record {
      all = λ x l. all_there e.partition e.all x (omega (arith, l, many));
      partition = subst (IsStablePartition (lists_of persons)) (sym nexts_are) e.partition;
    }

    abbrev above_parties : List LineData
    above_parties = LineData.Answer (HeadData.Solve None) ∷ LineData.Nothing ∷ []

    abbrev shown : List LineData
    shown = lines_from (party_line parties) 0 (length parties)

    abbrev Taken : ℕ → List LineData → Type 0
    Taken k above = parties_in above ≡ take k parties

    step : (k : ℕ) (above : List LineData) → k < length parties → Taken k above → Steps C (Taken (k + 1)) above (party_line parties k)
    step k above l known = (
      party_holds above (row parties k) (subst (λ ps. AreNew ps (row parties k)) (sym known) (new_party e.partition e.all k l)),
      said_one party_in above (LineData.Party (row parties k)) (row parties k) refl ∙ ap (λ ps. ps ++ row parties k ∷ []) known
          ∙ sym (take-suc parties k [] l) ∙ ap (λ n. take n parties) (let f : suc k ≡ k + 1 = omega arith in f),
    )

    front : Held C (Taken (length parties)) above_parties shown
    front = numbers_hold C Taken (party_line parties) (length parties) step 0 (length parties) above_parties (omega arith) refl

    same : parties_in (above_parties ++ shown) ≡ parties
    same = front.1 ∙ take_all (length parties) parties (omega arith)

    every : AllHold C [] (party_lines parties)
    every = (
      head_holds [],
      (
        none_holds (LineData.Answer (HeadData.Solve None) ∷ []),
        hold_append C above_parties shown (LineData.End ∷ []) front.0 (
          end_holds (above_parties ++ shown) (subst (IsWholePartition persons) (sym same) whole) (subst HasOddParty (sym same) (odd_party e.partition e.all e.odd)),
          tt,
        ),
      ),
    )

    fitting : list_all (fits (Room persons)) (party_lines parties) ≡ true
    fitting =
        pass_append (fits (Room persons)) shown (LineData.End ∷ [])
        (numbers_pass (fits (Room persons)) (party_line parties) (length parties) (λ k l. ap (λ t. t && true) (party_fits e.next (row parties k) (e.all.each k l))) 0 (length parties) (omega arith)) refl

    placed : is_placed is_whole (Room persons) (party_lines parties) ≡ true
    placed =
        is_whole-append_second (solve_layout ∷ []) (parties_layout ∷ []) (map opening_of (LineData.Nothing ∷ shown ++ LineData.End ∷ []))
        (is_whole-group keyword.Party (One keyword.End) [] shown (LineData.End ∷ [])
        (numbers_pass (has_word keyword.Party) (party_line parties) (length parties) (λ k l. refl) 0 (length parties) (omega arith)) refl refl)

    -- the lines of the parties get a yes
    pub parties_yes : GetYes (Room persons) (party_lines parties)
    parties_yes = yes_of (Room persons) (party_lines parties) (all_parties_sound parties e) fitting placed (all_hold C (party_lines parties) every)

-- the law for parties of roommates
pub parties_agree : PartiesAgree
parties_agree persons lines a = subst (GetYes (Room persons)) (sym a.shows) (parties_yes persons a.parties a.excluding)
