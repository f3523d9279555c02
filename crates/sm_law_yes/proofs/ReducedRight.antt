-- An answer of `reduced` that gets a yes is a right one, but for the order of the lines of one keyword.
use Rattle.std.proofs.Common.{◌≡◌, ℕ, ◌+◌, ◌<◌, ◌≤◌, ◌==◌, inl, inr, arith, refl, sym, ap, ◌∙◌, cond, true, false, List, [], ◌∷◌, ◌++◌, length, map, Option, Some, None, subst, eq-eqb, ne_eqb}
use Rattle.std.specs.Prelude.{Contains, count_by}
use Rattle.std.proofs.lemmas.Bool.{false≢true, cases_eq}
use Rattle.std.proofs.lemmas.List.FromFn.{length-map-range_with_len}
use Rattle.std.proofs.lemmas.List.Sums.{sum_by-cons}
use Rattle.std.proofs.lemmas.Option.{same_Some}
use Rattle.sm_lists.proofs.BoolLemmas.{first_true}
use Rattle.sm_agents.specs.Written.{Written}
use Rattle.sm_agents.specs.Sound.{IsInstance}
use Rattle.sm_instance.specs.declared.inputs.Input.TheVariants.{Two}
use Rattle.sm_agents.specs.declared.kinds.Side.TheVariants.{Proposers, Reviewers}
use Rattle.sm_market.specs.Lists.{row}
use Rattle.sm_market.specs.Reduced.{reduced_row, reduced_lists_of}
use Rattle.sm_report.specs.declared.lines.Seat.{Seat}
use Rattle.sm_report.specs.Heads.{HeadData}
use Rattle.sm_report.specs.Lines.{LineData}
use Rattle.sm_report.specs.Sound.{IsLineOf}
use Rattle.sm_report.specs.Keywords.{keyword_of}
use Rattle.sm_report.specs.declared.keywords.Keyword.{Keyword}
use Rattle.sm_report.specs.declared.keywords.Keyword.TheVariants as keyword
use Rattle.sm_answer.specs.Lines.{lines_from}
use Rattle.sm_seats.specs.SeatMarket.{seat_market}
use Rattle.sm_seats.specs.Seating.{seating_of}
use Rattle.sm_seats.proofs.SeatLemmas.{seat_there, length-reviewers}
use Rattle.sm_seats.proofs.CorrespondenceLaws.{is_seating, sound_entries}
use Rattle.sm_answer_rotations.specs.Reduction.{seat_of, seat_line, proposer_line, reviewer_line, IsReduction, reduced_lines}
use Rattle.sm_check_forms.specs.Keywords.{is_same}
use Rattle.sm_check_forms.specs.Seats.{is_seat, seat_number, seat_numbers}
use Rattle.sm_check_forms.specs.declared.layouts.LayoutPart.TheVariants.{Many}
use Rattle.sm_check_forms.proofs.KeywordLayouts.{begins, is_whole, closing, reduced_layout, opening_of}
use Rattle.sm_check_forms.specs.Forms.{fits}
use Rattle.sm_check_clauses.specs.Said.{first_in, firsts_in, last_in, lasts_in, proposer_list_in, proposer_lists_in, reviewer_list_in, reviewer_lists_in}
use Rattle.sm_check_clauses.specs.Chain.{owners}
use Rattle.sm_cert.specs.Yes.{AreAllLists, IsReduced, ReducedYes}
use Rattle.sm_cert.proofs.YesLines.{by_head}
use Rattle.sm_law_yes.specs.Reordered.{is_free, IsReordered, IsRightButForOrder}
use Rattle.sm_law_yes.specs.Reordered.IsReordered.{kept}
use Rattle.sm_law_yes.specs.YesIsRight.{ReducedIsRight}
use Rattle.sm_law_yes.proofs.ReorderLemmas.{unmoved, reordered_both, first_or_rest, here, further, AreNumbered, AreThose, in_order}
use Rattle.sm_law_yes.proofs.LineGroups.{AreOwn, are_own, own_front, own_back, grouped, closes, IsLineFor, lines_said, all_said, passed, ended}
use Rattle.sm_law_yes.proofs.SeatLines.{seat_at, seat_back, seats_back, seat_data, read_first, read_last, firsts_in_order, lasts_in_order}

-- Lists by their owners.

-- the number of a list is that of its owner
abbrev owner_of : ℕ × List ℕ → ℕ
owner_of list = list.0

abbrev times : ℕ → List (ℕ × List ℕ) → ℕ
times k lists = count_by (λ (y : ℕ). y == k) (owners lists)

times_more : (k : ℕ) (x : ℕ × List ℕ) (lists : List (ℕ × List ℕ)) → times k (x ∷ lists) ≡ cond (x.0 == k) 1 0 + times k lists
times_more k x lists = sum_by-cons (λ (y : ℕ). cond (y == k) 1 0) x.0 (owners lists)

-- whose list is there is counted
counted : (lists : List (ℕ × List ℕ)) (x : ℕ × List ℕ) → Contains lists x → 1 ≤ times x.0 lists
counted [] x c = absurd (let l = c.1 in omega (arith, l))
counted (y ∷ ys) x c = elim (first_or_rest y ys x c) [
  | inl is ↦
      let one = ap {B = ℕ} (λ t. cond t 1 0) (eq-eqb y.0 x.0 (ap owner_of is)) in
      omega (arith, one, times_more x.0 y ys)
  | inr rest ↦ let deep = counted ys x rest in omega (arith, deep, times_more x.0 y ys)
]

-- a list with an owner
record HasList (lists : List (ℕ × List ℕ)) (k : ℕ) : Type 0 where
  list : ℕ × List ℕ
  there : Contains lists list
  is : list.0 ≡ k

-- who is counted has a list
found : (lists : List (ℕ × List ℕ)) (k : ℕ) → 1 ≤ times k lists → HasList lists k
found [] k some = absurd (omega (arith, some))
found (y ∷ ys) k some = elim (cases_eq y.0 k) [
  | inl is ↦ record { list = y; there = here y ys; is = is }
  | inr other ↦
      let none = ap {B = ℕ} (λ t. cond t 1 0) (ne_eqb y.0 k other) in
      let deep = found ys k (omega (arith, some, none, times_more k y ys)) in
      record { list = deep.list; there = further y ys deep.list deep.there; is = deep.is }
]

-- lists of owners that are counted once
numbered_lists : (n : ℕ) (lists : List (ℕ × List ℕ)) → ((k : ℕ) → k < n → times k lists ≤ 1) → ((x : ℕ × List ℕ) → Contains lists x → x.0 < n) → AreNumbered owner_of lists
numbered_lists n [] one below = tt
numbered_lists n (x ∷ xs) one below = (
  λ y c e.
      let inside = below y (further x xs y c) in
      let here_too = counted xs y c in
      let first = ap {B = ℕ} (λ t. cond t 1 0) (eq-eqb x.0 y.0 (sym e)) in
      let most = one y.0 inside in
      omega (arith, here_too, first, most, times_more y.0 x xs),
  numbered_lists n xs (λ k less. let most = one k less in omega (arith, most, times_more k x xs)) (λ y c. below y (further x xs y c)),
)

-- a list of rows with their owners
abbrev list_of : List (List ℕ) → ℕ → Option (ℕ × List ℕ)
list_of rows k = Some (k, row rows k)

-- lists of all agents, each of them once, are those of the agents
those_lists : (rows : List (List ℕ)) (lists : List (ℕ × List ℕ)) → AreAllLists rows lists → ((x : ℕ × List ℕ) → Contains lists x → x.0 < length rows) → AreThose owner_of (list_of rows) 0 (length rows) lists
those_lists rows lists h below = record {
  each = λ x c. let less = below x c in (ap (λ (list : List ℕ). Some (x.0, list)) (sym (h.each x c)), omega arith, omega (arith, less));
  once = numbered_lists (length rows) lists (λ k less. let one = h.once k less in omega (arith, one)) below;
  all = λ k x low high is.
      let less : k < length rows = omega (arith, high) in
      let one = h.once k less in
      let f = found lists k (omega (arith, one)) in
      let same : f.list ≡ (k, row rows k) = (λ j. (f.is j, (h.each f.list f.there ∙ ap (row rows) f.is) j)) in
      subst (Contains lists) (same ∙ same_Some _ _ is) f.there;
}

lists_in_order : (line : ℕ × List ℕ → LineData) (word : (x y : ℕ × List ℕ) → keyword_of (line x) ≡ keyword_of (line y)) (free : (x : ℕ × List ℕ) → is_free (keyword_of (line x)) ≡ true)
    (rows : List (List ℕ)) (lists : List (ℕ × List ℕ)) → AreAllLists rows lists → ((x : ℕ × List ℕ) → Contains lists x → x.0 < length rows)
    → IsReordered (map line lists) (lines_from (λ k. Some (line (k, row rows k))) 0 (length rows))
lists_in_order line word free rows lists h below =
    in_order line word free owner_of (list_of rows) (λ k x is. sym (ap owner_of (same_Some _ _ is))) 0 (length rows) lists (those_lists rows lists h below)

-- Lines of lists.

module _ (w : Written) where
  abbrev proposer_data : ℕ × List ℕ → LineData
  proposer_data list = LineData.ProposerList list.0 (map (seat_of (seating_of w)) list.1)

  abbrev reviewer_data : ℕ × List ℕ → LineData
  reviewer_data list = LineData.ReviewerList (seat_of (seating_of w) list.0) list.1

  read_proposer : (y : LineData) → fits (Two w) y ≡ true → begins (opening_of y) keyword.Proposer ≡ true → IsLineFor proposer_data (proposer_list_in w) y
  read_proposer (LineData.ProposerList p seats) f e =
      record { thing = (p, seat_numbers w seats); says = refl; is = ap (λ (xs : List Seat). LineData.ProposerList p xs) (seats_back w seats f) }
  read_proposer _ f e = absurd (false≢true e)

  read_reviewer : (y : LineData) → fits (Two w) y ≡ true → begins (opening_of y) keyword.Reviewer ≡ true → IsLineFor reviewer_data (reviewer_list_in w) y
  read_reviewer (LineData.ReviewerList seat proposers) f e =
      record { thing = (seat_number w seat, proposers); says = refl; is = ap (λ (x : Seat). LineData.ReviewerList x proposers) (seat_back w seat (first_true (is_seat w seat) true f)) }
  read_reviewer _ f e = absurd (false≢true e)

  -- whose lists are written is there
  abbrev IsBelow : ℕ → ℕ × List ℕ → Type 0
  IsBelow n list = list.0 < n

  proposer_there : (y : LineData) → IsLineOf (Two w) y → fits (Two w) y ≡ true → (x : ℕ × List ℕ) → proposer_list_in w y ≡ Some x → IsBelow (length w.proposers) x
  proposer_there (LineData.ProposerList p seats) own f x e = subst (IsBelow (length w.proposers)) (same_Some _ _ e) own.printable.0
  proposer_there _ own f x e = absurd (no_list e)
    where
      no_list : {x : ℕ × List ℕ} → ◌≡◌ {A = Option (ℕ × List ℕ)} None (Some x) → ⊥
      no_list e = grind arith

  reviewer_there : (y : LineData) → IsLineOf (Two w) y → fits (Two w) y ≡ true → (x : ℕ × List ℕ) → reviewer_list_in w y ≡ Some x → IsBelow (length (seat_market w).reviewers) x
  reviewer_there (LineData.ReviewerList seat proposers) own f x e =
      let less = seat_there (seat_at w seat (first_true (is_seat w seat) true f)) in
      subst (IsBelow (length (seat_market w).reviewers)) (same_Some _ _ e) (let long = length-reviewers w in omega (arith, less, long))
  reviewer_there _ own f x e = absurd (no_list e)
    where
      no_list : {x : ℕ × List ℕ} → ◌≡◌ {A = Option (ℕ × List ℕ)} None (Some x) → ⊥
      no_list e = grind arith

  -- what lines of other groups say
  not_first : (word : Keyword) → is_same keyword.First word ≡ false → (y : LineData) → begins (opening_of y) word ≡ true → first_in w y ≡ None
  not_first word other (LineData.First p seat) e = absurd (false≢true (sym other ∙ e))
  not_first word other _ e = refl

  not_last : (word : Keyword) → is_same keyword.Last word ≡ false → (y : LineData) → begins (opening_of y) word ≡ true → last_in w y ≡ None
  not_last word other (LineData.Last p seat) e = absurd (false≢true (sym other ∙ e))
  not_last word other _ e = refl

  not_proposer : (word : Keyword) → is_same keyword.Proposer word ≡ false → (y : LineData) → begins (opening_of y) word ≡ true → proposer_list_in w y ≡ None
  not_proposer word other (LineData.ProposerList p seats) e = absurd (false≢true (sym other ∙ e))
  not_proposer word other _ e = refl

  not_reviewer : (word : Keyword) → is_same keyword.Reviewer word ≡ false → (y : LineData) → begins (opening_of y) word ≡ true → reviewer_list_in w y ≡ None
  not_reviewer word other (LineData.ReviewerList seat proposers) e = absurd (false≢true (sym other ∙ e))
  not_reviewer word other _ e = refl

behind_head : (w : Written) (rest : List LineData) → IsInstance w → is_whole (reduced_layout ∷ []) (map opening_of rest) ≡ true → AreOwn (Two w) rest → IsReduced w (LineData.Answer HeadData.Reduced ∷ rest)
    → IsRightButForOrder (IsReduction w) (LineData.Answer HeadData.Reduced ∷ rest)
behind_head w rest i placed own r =
    let l = seat_market w in
    let s = seating_of w in
    let h = is_seating (sound_entries i) in
    let reduced = reduced_lists_of l r.first r.last in
    let a = grouped keyword.First (Many keyword.Last ∷ Many keyword.Proposer ∷ Many keyword.Reviewer ∷ closing) rest placed in
    let b = grouped keyword.Last (Many keyword.Proposer ∷ Many keyword.Reviewer ∷ closing) a.rest a.whole in
    let c = grouped keyword.Proposer (Many keyword.Reviewer ∷ closing) b.rest b.whole in
    let d = grouped keyword.Reviewer closing c.rest c.whole in
    let ends = closes d.rest d.whole in
    let own_a = subst (AreOwn (Two w)) a.is own in
    let own_b = subst (AreOwn (Two w)) b.is (own_back (Two w) a.group a.rest own_a) in
    let own_c = subst (AreOwn (Two w)) c.is (own_back (Two w) b.group b.rest own_b) in
    let own_d = subst (AreOwn (Two w)) d.is (own_back (Two w) c.group c.rest own_c) in
    let firsts : firsts_in w rest ≡ firsts_in w a.group =
    ended (first_in w) a (passed (first_in w) b (not_first w keyword.Last refl) ∙ passed (first_in w) c (not_first w keyword.Proposer refl) ∙ passed (first_in w) d (not_first w keyword.Reviewer refl) ∙ ap (firsts_in w) ends) in
    let lasts : lasts_in w rest ≡ lasts_in w b.group =
    passed (last_in w) a (not_last w keyword.First refl)
    ∙ ended (last_in w) b (passed (last_in w) c (not_last w keyword.Proposer refl) ∙ passed (last_in w) d (not_last w keyword.Reviewer refl) ∙ ap (lasts_in w) ends) in
    let proposers : proposer_lists_in w rest ≡ proposer_lists_in w c.group =
    passed (proposer_list_in w) a (not_proposer w keyword.First refl) ∙ passed (proposer_list_in w) b (not_proposer w keyword.Last refl)
    ∙ ended (proposer_list_in w) c (passed (proposer_list_in w) d (not_proposer w keyword.Reviewer refl) ∙ ap (proposer_lists_in w) ends) in
    let reviewers : reviewer_lists_in w rest ≡ reviewer_lists_in w d.group =
    passed (reviewer_list_in w) a (not_reviewer w keyword.First refl) ∙ passed (reviewer_list_in w) b (not_reviewer w keyword.Last refl) ∙ passed (reviewer_list_in w) c (not_reviewer w keyword.Proposer refl)
    ∙ ended (reviewer_list_in w) d (ap (reviewer_lists_in w) ends) in
    let read_a : a.group ≡ map (seat_data w Proposers) (firsts_in w rest) =
    lines_said (first_in w) w keyword.First (seat_data w Proposers) (λ y _ f e. read_first w y f e) a.group (own_front (Two w) a.group a.rest own_a) a.words ∙ ap (map (seat_data w Proposers)) (sym firsts) in
    let read_b : b.group ≡ map (seat_data w Reviewers) (lasts_in w rest) =
    lines_said (last_in w) w keyword.Last (seat_data w Reviewers) (λ y _ f e. read_last w y f e) b.group (own_front (Two w) b.group b.rest own_b) b.words ∙ ap (map (seat_data w Reviewers)) (sym lasts) in
    let read_c : c.group ≡ map (proposer_data w) (proposer_lists_in w rest) =
    lines_said (proposer_list_in w) w keyword.Proposer (proposer_data w) (λ y _ f e. read_proposer w y f e) c.group (own_front (Two w) c.group c.rest own_c) c.words ∙ ap (map (proposer_data w)) (sym proposers) in
    let read_d : d.group ≡ map (reviewer_data w) (reviewer_lists_in w rest) =
    lines_said (reviewer_list_in w) w keyword.Reviewer (reviewer_data w) (λ y _ f e. read_reviewer w y f e) d.group (own_front (Two w) d.group d.rest own_d) d.words ∙ ap (map (reviewer_data w)) (sym reviewers) in
    let long : length reduced.proposers ≡ length l.proposers = length-map-range_with_len (reduced_row l.proposers l.reviewers r.last.proposers r.first.reviewers) 0 (length l.proposers) in
    let long' : length reduced.reviewers ≡ length l.reviewers = length-map-range_with_len (reduced_row l.reviewers l.proposers r.first.reviewers r.last.proposers) 0 (length l.reviewers) in
    let order_a = subst (λ (ls : List LineData). IsReordered ls (lines_from (seat_line Proposers s r.first) 0 (length l.proposers))) (sym read_a)
    (firsts_in_order w r.first (firsts_in w rest) h.market r.first_best.stable.matching r.first_written) in
    let order_b = subst (λ (ls : List LineData). IsReordered ls (lines_from (seat_line Reviewers s r.last) 0 (length l.proposers))) (sym read_b)
    (lasts_in_order w r.last (lasts_in w rest) h.market r.last_best.stable.matching r.last_written) in
    let order_c = subst (λ (ls : List LineData). IsReordered ls (lines_from (proposer_line s reduced.proposers) 0 (length l.proposers))) (sym read_c)
    (subst (λ (n : ℕ). IsReordered (map (proposer_data w) (proposer_lists_in w rest)) (lines_from (proposer_line s reduced.proposers) 0 n)) long
    (lists_in_order (proposer_data w) (λ x y. refl) (λ x. refl) reduced.proposers (proposer_lists_in w rest) r.proposer_lists
    (λ x at. let less = all_said (proposer_list_in w) w (IsBelow w (length w.proposers)) (proposer_there w) rest own x at in let count = h.proposers in omega (arith, less, count, long)))) in
    let order_d = subst (λ (ls : List LineData). IsReordered ls (lines_from (reviewer_line s reduced.reviewers) 0 (length l.reviewers))) (sym read_d)
    (subst (λ (n : ℕ). IsReordered (map (reviewer_data w) (reviewer_lists_in w rest)) (lines_from (reviewer_line s reduced.reviewers) 0 n)) long'
    (lists_in_order (reviewer_data w) (λ x y. refl) (λ x. refl) reduced.reviewers (reviewer_lists_in w rest) r.reviewer_lists
    (λ x at. let less = all_said (reviewer_list_in w) w (IsBelow w (length l.reviewers)) (reviewer_there w) rest own x at in omega (arith, less, long')))) in
    let is : rest ≡ a.group ++ (b.group ++ (c.group ++ (d.group ++ LineData.End ∷ []))) =
    a.is ∙ ap (λ (ls : List LineData). a.group ++ ls)
    (b.is ∙ ap (λ (ls : List LineData). b.group ++ ls) (c.is ∙ ap (λ (ls : List LineData). c.group ++ ls) (d.is ∙ ap (λ (ls : List LineData). d.group ++ ls) ends))) in
    record {
      answer = reduced_lines s r.first r.last;
      right = record { first = r.first; last = r.last; proposers_best = r.first_best; reviewers_best = r.last_best; shows = refl };
      reordered = kept (LineData.Answer HeadData.Reduced)
          (subst (λ (ls : List LineData). IsReordered ls
          (lines_from (seat_line Proposers s r.first) 0 (length l.proposers) ++ (lines_from (seat_line Reviewers s r.last) 0 (length l.proposers)
          ++ (lines_from (proposer_line s reduced.proposers) 0 (length l.proposers) ++ (lines_from (reviewer_line s reduced.reviewers) 0 (length l.reviewers) ++ LineData.End ∷ []))))) (sym is)
          (reordered_both order_a (reordered_both order_b (reordered_both order_c (reordered_both order_d (unmoved (LineData.End ∷ [])))))));
    }

-- the law of `reduced`
pub reduced_is_right : ReducedYes → ReducedIsRight
reduced_is_right meaning w lines i g =
    by_head (λ (ls : List LineData). AreOwn (Two w) ls → IsReduced w ls → IsRightButForOrder (IsReduction w) ls) g
    (λ rest placed _ own r. behind_head w rest i placed own.2 r) (are_own g) (meaning w lines g)
