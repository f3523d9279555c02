-- An answer of `reduced`, one line after another.
use Rattle.std.proofs.Common.{◌≡◌, ℕ, ◌<◌, List, [], ◌∷◌, ◌++◌, Option, None, Some, true, false, ◌&&◌, refl, sym, ap, ◌∙◌, subst, arith}
use Rattle.std.specs.Prelude.{IfSome, not}
use Rattle.std.specs.List.{list_all, cons_option}
use Rattle.std.proofs.lemmas.Bool.{false≢true}
use Rattle.sm_lists.proofs.BoolLemmas.{first_true, second_true}
use Rattle.sm_agents.specs.Written.{Written}
use Rattle.sm_market.specs.Lists.{IsMarket}
use Rattle.sm_market.specs.Stable.{IsStable, IsProposersBest, IsReviewersBest}
use Rattle.sm_seats.specs.SeatMarket.{seat_market}
use Rattle.sm_report.specs.declared.lines.Seat.{Seat}
use Rattle.sm_report.specs.Heads.{HeadData}
use Rattle.sm_report.specs.declared.heads.Head.{Head}
use Rattle.sm_report.specs.declared.lines.Line.{Line}
use Rattle.sm_report.specs.Lines.{LineData, line_of}
use Rattle.sm_check_clauses.specs.declared.verdicts.Reason.{Reason}
use Rattle.sm_check_clauses.specs.declared.verdicts.Reason.TheVariants as reason
use Rattle.sm_check_clauses.specs.declared.seat_pairs.SeatPairs.{SeatPairs}
use Rattle.sm_check_answers.specs.declared.seat_lists.SeatLists.{SeatLists}
use Rattle.sm_check_answers.specs.declared.reduced.Group.{Group}
use Rattle.sm_check_answers.specs.declared.reduced.Group.TheVariants as group
use Rattle.sm_check_forms.specs.Seats.{seat_number}
use Rattle.sm_check_clauses.specs.Said.{first_in, firsts_in, last_in, lasts_in, proposer_list_in, proposer_lists_in, reviewer_list_in, reviewer_lists_in, is_end, is_up_to_firsts, is_up_to_lasts, IsFirstBehind}
use Rattle.sm_check_clauses.specs.SeatMatchings.{IsFreeSeat, FirstsHold, LastsHold, first_of, last_of, seat_places_in, AreSeatPairs}
use Rattle.sm_check_clauses.specs.SeatPairsKept.{HasTakenSeat}
use Rattle.sm_check_clauses.specs.Chain.{ListsHold, ReducedHold, IsRowOf, reduced_of, owners}
use Rattle.sm_check_answers.specs.ListsKept.{AreLists, AreListsOf, AreListsBehind}
use Rattle.sm_check_answers.specs.ReducedKept.{IsTriedFirst, IsGroupAt, IsReducedOf}
use Rattle.sm_check_clauses.specs.Verdicts.{IsFirstThere, Finds, number_of_reason}
use Rattle.sm_check_clauses.specs.Walking.{FindsOrKeeps}
use Rattle.sm_check_clauses.proofs.AnswerLemmas.{found_by, said_same, said_one}
use Rattle.sm_check_forms.proofs.TakingLemmas.{all_more}
use Rattle.sm_check_clauses.proofs.SeatPairLemmas.{none_free}
use Rattle.sm_check_answers.proofs.SeatListLemmas.{no_list}

-- a line that is up to the last seats says nothing of the lists, and one that isn't says nothing of the seats
up_to_lasts : (w : Written) (x : LineData) → is_up_to_lasts x ≡ true → (proposer_list_in w x ≡ None) × (reviewer_list_in w x ≡ None) × (is_end x ≡ false)
up_to_lasts w (LineData.Answer head) e = (refl, refl, refl)
up_to_lasts w (LineData.First p seat) e = (refl, refl, refl)
up_to_lasts w (LineData.Last p seat) e = (refl, refl, refl)
up_to_lasts w _ e = absurd (false≢true e)

behind_lasts : (w : Written) (x : LineData) → is_up_to_lasts x ≡ false → (first_in w x ≡ None) × (last_in w x ≡ None) × (is_up_to_firsts x ≡ false)
behind_lasts w (LineData.Answer head) e = absurd (false≢true (sym e))
behind_lasts w (LineData.First p seat) e = absurd (false≢true (sym e))
behind_lasts w (LineData.Last p seat) e = absurd (false≢true (sym e))
behind_lasts w _ e = (refl, refl, refl)

-- a line that names no seat of a matching and no head
pub no_seat_line : (x : Line) → ((head : Head) → x ≡ Line.Answer head → ⊥) → ((p : ℕ) (seat : Seat) → x ≡ Line.First p seat → ⊥) → ((p : ℕ) (seat : Seat) → x ≡ Line.Last p seat → ⊥) → is_up_to_lasts (line_of x) ≡ false
no_seat_line (Line.Answer head) a b c = absurd (a head refl)
no_seat_line (Line.First p seat) a b c = absurd (b p seat refl)
no_seat_line (Line.Last p seat) a b c = absurd (c p seat refl)
no_seat_line _ a b c = refl

up_to_both : (x : LineData) → is_up_to_firsts x ≡ true → is_up_to_lasts x ≡ true
up_to_both (LineData.Answer head) e = refl
up_to_both (LineData.First p seat) e = refl
up_to_both _ e = absurd (false≢true e)

all_up_to_both : (above : List LineData) → list_all is_up_to_firsts above ≡ true → list_all is_up_to_lasts above ≡ true
all_up_to_both [] e = refl
all_up_to_both (x ∷ above) e =
    ap (λ b. b && list_all is_up_to_lasts above) (up_to_both x (first_true (is_up_to_firsts x) (list_all is_up_to_firsts above) e)) ∙ all_up_to_both above (second_true (is_up_to_firsts x) (list_all is_up_to_firsts above) e)

no_lists_in : (w : Written) (above : List LineData) → list_all is_up_to_lasts above ≡ true → (proposer_lists_in w above ≡ []) × (reviewer_lists_in w above ≡ [])
no_lists_in w [] e = (refl, refl)
no_lists_in w (x ∷ above) e =
    let one = up_to_lasts w x (first_true (is_up_to_lasts x) (list_all is_up_to_lasts above) e) in
    let others = no_lists_in w above (second_true (is_up_to_lasts x) (list_all is_up_to_lasts above) e) in (
      ap (λ (o : Option (ℕ × List ℕ)). cons_option o (proposer_lists_in w above)) one.0 ∙ others.0,
      ap (λ (o : Option (ℕ × List ℕ)). cons_option o (reviewer_lists_in w above)) one.1 ∙ others.1,
    )

module _ (w : Written) (above : List LineData) where
  firsts_hold : (x : LineData) → IfSome (first_in w x) (IsFreeSeat (seat_market w) (firsts_in w above)) → (IsFirstBehind is_up_to_firsts above x → IsProposersBest (seat_market w) (first_of w above)) → (why : Reason) → FirstsHold w above x why
  firsts_hold x free best reason.NotAMatching = free
  firsts_hold x free best reason.Blocked = λ b. (best b).stable
  firsts_hold x free best reason.NotBest = best
  firsts_hold x free best _ = tt

  lasts_hold : (x : LineData) → IfSome (last_in w x) (IsFreeSeat (seat_market w) (lasts_in w above)) → (IsFirstBehind is_up_to_lasts above x → IsReviewersBest (seat_market w) (last_of w above)) → (why : Reason) → LastsHold w above x why
  lasts_hold x free best reason.NotAMatching = free
  lasts_hold x free best reason.Blocked = λ b. (best b).stable
  lasts_hold x free best reason.NotBest = best
  lasts_hold x free best _ = tt

  lists_hold : (x : LineData) → is_up_to_lasts x ≡ true → (why : Reason) → ListsHold w above x why
  lists_hold x up reason.WrongList =
      let none = up_to_lasts w x up in
      record {
        proposer = subst (λ (o : Option (ℕ × List ℕ)). IfSome o (IsRowOf (reduced_of w above).proposers)) (sym none.0) tt;
        reviewer = subst (λ (o : Option (ℕ × List ℕ)). IfSome o (IsRowOf (reduced_of w above).reviewers)) (sym none.1) tt;
        all_proposers = λ e. absurd (false≢true (sym none.2 ∙ e));
        all_reviewers = λ e. absurd (false≢true (sym none.2 ∙ e));
      }
  lists_hold x up _ = tt

  -- what is kept with one line more
  lists_on : (x : LineData) (lists : SeatLists) → first_in w x ≡ None → last_in w x ≡ None → AreListsBehind w above x lists → AreListsOf w (above ++ x ∷ []) lists
  lists_on x lists a b k =
      let proposers = owners (proposer_lists_in w (above ++ x ∷ [])) in
      let seats = owners (reviewer_lists_in w (above ++ x ∷ [])) in
      subst (λ (pairs : List (ℕ × ℕ)). AreLists (seat_market w) (seat_places_in (seat_market w) pairs) (last_of w (above ++ x ∷ [])) proposers seats lists) (sym (said_same (first_in w) above x a))
      (subst (λ (pairs : List (ℕ × ℕ)). AreLists (seat_market w) (first_of w above) (seat_places_in (seat_market w) pairs) proposers seats lists) (sym (said_same (last_in w) above x b)) k)

  first_on : (x : LineData) → first_in w x ≡ None → IsProposersBest (seat_market w) (first_of w above) → IsProposersBest (seat_market w) (first_of w (above ++ x ∷ []))
  first_on x a best = subst (λ (pairs : List (ℕ × ℕ)). IsProposersBest (seat_market w) (seat_places_in (seat_market w) pairs)) (sym (said_same (first_in w) above x a)) best

  last_on : (x : LineData) → last_in w x ≡ None → IsReviewersBest (seat_market w) (last_of w above) → IsReviewersBest (seat_market w) (last_of w (above ++ x ∷ []))
  last_on x a best = subst (λ (pairs : List (ℕ × ℕ)). IsReviewersBest (seat_market w) (seat_places_in (seat_market w) pairs)) (sym (said_same (last_in w) above x a)) best

  firsts_on : (x : LineData) (pairs : SeatPairs) → first_in w x ≡ None → AreSeatPairs (seat_market w) (firsts_in w above) pairs → AreSeatPairs (seat_market w) (firsts_in w (above ++ x ∷ [])) pairs
  firsts_on x pairs a k = subst (λ (said : List (ℕ × ℕ)). AreSeatPairs (seat_market w) said pairs) (sym (said_same (first_in w) above x a)) k

  lasts_on : (x : LineData) (pairs : SeatPairs) → last_in w x ≡ None → AreSeatPairs (seat_market w) (lasts_in w above) pairs → AreSeatPairs (seat_market w) (lasts_in w (above ++ x ∷ [])) pairs
  lasts_on x pairs a k = subst (λ (said : List (ℕ × ℕ)). AreSeatPairs (seat_market w) said pairs) (sym (said_same (last_in w) above x a)) k

  -- the head of an answer
  pub head_line : (head : HeadData) (first last : SeatPairs) (g : Group) → IsReducedOf w above first last g → ((why : Reason) → ReducedHold w above (LineData.Answer head) why) × IsReducedOf w (above ++ LineData.Answer head ∷ []) first last g
  head_line head first last g k =
      let x : LineData = LineData.Answer head in (
        λ why. (firsts_hold x tt (λ b. absurd (false≢true b.behind)) why, lasts_hold x tt (λ b. absurd (false≢true b.behind)) why, lists_hold x refl why),
        record { firsts = firsts_on x first refl k.firsts; lasts = lasts_on x last refl k.lasts; at = at g k.at },
      )
    where
      at : (g : Group) → IsGroupAt w above g → IsGroupAt w (above ++ LineData.Answer head ∷ []) g
      at group.First h = all_more is_up_to_firsts above (LineData.Answer head) h refl
      at group.Last h = record { up_to = all_more is_up_to_lasts above (LineData.Answer head) h.up_to refl; first_best = first_on (LineData.Answer head) refl h.first_best }
      at (group.Lists lists) h = record {
        first_best = first_on (LineData.Answer head) refl h.first_best;
        last_best = last_on (LineData.Answer head) refl h.last_best;
        are_lists = lists_on (LineData.Answer head) lists refl refl (no_list w above h.are_lists (LineData.Answer head) refl refl (λ e. absurd (false≢true e)) (λ e. absurd (false≢true e))).1;
      }

  -- one more of the first seats, which can stand among them alone
  pub first_line : IsMarket (seat_market w) → (p : ℕ) (seat : Seat) (number : ℕ) → number ≡ seat_number w seat → (first after last : SeatPairs) (g : Group) → IsReducedOf w above first last g → HasTakenSeat (seat_market w) (firsts_in w above) (p, number) after
      → ((why : Reason) → ReducedHold w above (LineData.First p seat) why) × IsReducedOf w (above ++ LineData.First p seat ∷ []) after last g
  first_line m p seat number is first after last g k t =
      let x : LineData = LineData.First p seat in
      let one : HasTakenSeat (seat_market w) (firsts_in w above) (p, seat_number w seat) after = subst (λ n. HasTakenSeat (seat_market w) (firsts_in w above) (p, n) after) is t in (
        λ why. (firsts_hold x one.free (λ b. absurd (false≢true b.behind)) why, lasts_hold x tt (λ b. absurd (false≢true b.behind)) why, lists_hold x refl why),
        record {
          firsts = subst (λ (said : List (ℕ × ℕ)). AreSeatPairs (seat_market w) said after) (sym (said_one (first_in w) above x (p, seat_number w seat) refl)) one.kept;
          lasts = lasts_on x last refl k.lasts;
          at = at g k.at;
        },
      )
    where
      at : (g : Group) → IsGroupAt w above g → IsGroupAt w (above ++ LineData.First p seat ∷ []) g
      at group.First h = all_more is_up_to_firsts above (LineData.First p seat) h refl
      at group.Last h = absurd (none_free m (firsts_in w above) h.first_best.stable p number t.free)
      at (group.Lists lists) h = absurd (none_free m (firsts_in w above) h.first_best.stable p number t.free)

  -- one more of the last seats
  module _ (p : ℕ) (seat : Seat) (number : ℕ) (is : number ≡ seat_number w seat) (first last after : SeatPairs) (t : HasTakenSeat (seat_market w) (lasts_in w above) (p, number) after) where
    one : HasTakenSeat (seat_market w) (lasts_in w above) (p, seat_number w seat) after
    one = subst (λ n. HasTakenSeat (seat_market w) (lasts_in w above) (p, n) after) is t

    lasts_more : AreSeatPairs (seat_market w) (lasts_in w (above ++ LineData.Last p seat ∷ [])) after
    lasts_more = subst (λ (said : List (ℕ × ℕ)). AreSeatPairs (seat_market w) said after) (sym (said_one (last_in w) above (LineData.Last p seat) (p, seat_number w seat) refl)) one.kept

    last_holds : (IsFirstBehind is_up_to_firsts above (LineData.Last p seat) → IsProposersBest (seat_market w) (first_of w above)) → (why : Reason) → ReducedHold w above (LineData.Last p seat) why
    last_holds best why = (firsts_hold (LineData.Last p seat) tt best why, lasts_hold (LineData.Last p seat) one.free (λ b. absurd (false≢true b.behind)) why, lists_hold (LineData.Last p seat) refl why)

    -- behind others of them
    pub last_line : IsMarket (seat_market w) → (g : Group) → (g ≡ group.First → ⊥) → IsReducedOf w above first last g
        → ((why : Reason) → ReducedHold w above (LineData.Last p seat) why) × IsReducedOf w (above ++ LineData.Last p seat ∷ []) first after g
    last_line m g going k = (
      last_holds (λ _. best g going k.at),
      record { firsts = firsts_on (LineData.Last p seat) first refl k.firsts; lasts = lasts_more; at = at g going k.at },
    )
      where
        best : (g : Group) → (g ≡ group.First → ⊥) → IsGroupAt w above g → IsProposersBest (seat_market w) (first_of w above)
        best group.First no_first h = absurd (no_first refl)
        best group.Last no_first h = h.first_best
        best (group.Lists lists) no_first h = h.first_best

        at : (g : Group) → (g ≡ group.First → ⊥) → IsGroupAt w above g → IsGroupAt w (above ++ LineData.Last p seat ∷ []) g
        at group.First no_first h = absurd (no_first refl)
        at group.Last no_first h = record { up_to = all_more is_up_to_lasts above (LineData.Last p seat) h.up_to refl; first_best = first_on (LineData.Last p seat) refl h.first_best }
        at (group.Lists lists) no_first h = absurd (none_free m (lasts_in w above) h.last_best.stable p number t.free)

    -- the first of them, where the first seats are tried
    module _ (k : IsReducedOf w above first last group.First) where
      to : (why : Reason) → IsTriedFirst (seat_market w) (first_of w above) why → ReducedHold w above (LineData.Last p seat) why
      to reason.NotAMatching h = (tt, one.free, tt)
      to reason.Blocked h = (λ _. h, λ b. absurd (false≢true b.behind), tt)
      to reason.NotBest h = (λ _. h, λ b. absurd (false≢true b.behind), tt)
      to reason.WrongList h = (tt, tt, lists_hold (LineData.Last p seat) refl reason.WrongList)
      to _ h = (tt, tt, tt)

      from : (why : Reason) → ReducedHold w above (LineData.Last p seat) why → IsTriedFirst (seat_market w) (first_of w above) why
      from reason.Blocked h = h.0 (record { all_above = k.at; behind = refl })
      from reason.NotBest h = h.0 (record { all_above = k.at; behind = refl })
      from _ h = tt

      -- what is found of the first seats is found at this line
      pub last_tried : (r : Option Reason) → Finds (IsTriedFirst (seat_market w) (first_of w above)) r → Finds (ReducedHold w above (LineData.Last p seat)) r
      last_tried r f = found_by to from r f

      -- where these are the proposers' best, the last seats begin with it
      pub last_begins : IsProposersBest (seat_market w) (first_of w above) → IsReducedOf w (above ++ LineData.Last p seat ∷ []) first after group.Last
      last_begins best = record {
        firsts = firsts_on (LineData.Last p seat) first refl k.firsts;
        lasts = lasts_more;
        at = record { up_to = all_more is_up_to_lasts above (LineData.Last p seat) (all_up_to_both above k.at) refl; first_best = first_on (LineData.Last p seat) refl best };
      }

  -- a line behind both matchings
  module _ (x : LineData) (behind : is_up_to_lasts x ≡ false) (first last : SeatPairs) where
    none : (first_in w x ≡ None) × (last_in w x ≡ None) × (is_up_to_firsts x ≡ false)
    none = behind_lasts w x behind

    no_first : IfSome (first_in w x) (IsFreeSeat (seat_market w) (firsts_in w above))
    no_first = subst (λ (o : Option (ℕ × ℕ)). IfSome o (IsFreeSeat (seat_market w) (firsts_in w above))) (sym none.0) tt

    no_last : IfSome (last_in w x) (IsFreeSeat (seat_market w) (lasts_in w above))
    no_last = subst (λ (o : Option (ℕ × ℕ)). IfSome o (IsFreeSeat (seat_market w) (lasts_in w above))) (sym none.1) tt

    -- where both were tried
    pub lists_go : IsProposersBest (seat_market w) (first_of w above) → IsReviewersBest (seat_market w) (last_of w above) → AreSeatPairs (seat_market w) (firsts_in w above) first → AreSeatPairs (seat_market w) (lasts_in w above) last
        → (lists : SeatLists) (r : Option Reason) → FindsOrKeeps (ListsHold w above x) (AreListsBehind w above x lists) r
        → FindsOrKeeps (ReducedHold w above x) (IsReducedOf w (above ++ x ∷ []) first last (group.Lists lists)) r
    lists_go best worst firsts lasts lists None f = (
      λ why. (firsts_hold x no_first (λ _. best) why, lasts_hold x no_last (λ _. worst) why, f.0 why),
      record {
        firsts = firsts_on x first none.0 firsts;
        lasts = lasts_on x last none.1 lasts;
        at = record { first_best = first_on x none.0 best; last_best = last_on x none.1 worst; are_lists = lists_on x lists none.0 none.1 f.1 };
      },
    )
    lists_go best worst firsts lasts lists (Some why) f = record {
      clauses_before = λ other l. (firsts_hold x no_first (λ _. best) other, lasts_hold x no_last (λ _. worst) other, f.clauses_before other l);
      fails = λ h. f.fails h.2;
    }

    -- where they are tried there
    module _ (g : Group) (going : (lists : SeatLists) → g ≡ group.Lists lists → ⊥) (k : IsReducedOf w above first last g) where
      last_behind : IsFirstBehind is_up_to_lasts above x
      last_behind = record { all_above = up g going k.at; behind = ap not behind }
        where
          up : (g : Group) → ((lists : SeatLists) → g ≡ group.Lists lists → ⊥) → IsGroupAt w above g → list_all is_up_to_lasts above ≡ true
          up group.First no_lists h = all_up_to_both above h
          up group.Last no_lists h = h.up_to
          up (group.Lists lists) no_lists h = absurd (no_lists lists refl)

      first_behind : ¬ IsProposersBest (seat_market w) (first_of w above) → IsFirstBehind is_up_to_firsts above x
      first_behind not_best = by_group g going k.at
        where
          by_group : (g : Group) → ((lists : SeatLists) → g ≡ group.Lists lists → ⊥) → IsGroupAt w above g → IsFirstBehind is_up_to_firsts above x
          by_group group.First no_lists h = record { all_above = h; behind = ap not none.2 }
          by_group group.Last no_lists h = absurd (not_best h.first_best)
          by_group (group.Lists lists) no_lists h = absurd (no_lists lists refl)

      -- where the matching of the first seats isn't stable, the answer is blocked
      pub first_blocked : ¬ IsStable (seat_market w) (first_of w above) → IsFirstThere (ReducedHold w above x) reason.Blocked
      first_blocked unstable = record { clauses_before = before; fails = λ h. unstable (h.0 (first_behind (λ best. unstable best.stable))) }
        where
          before : (other : Reason) → number_of_reason other < 2 → ReducedHold w above x other
          before reason.NotAMatching l = (no_first, no_last, tt)
          before reason.Blocked l = absurd (omega arith)
          before reason.NotBest l = absurd (omega arith)
          before reason.WrongList l = absurd (omega arith)
          before _ l = (tt, tt, tt)

      -- where it is stable, and that of the last seats isn't, the answer is blocked too
      pub last_blocked : IsStable (seat_market w) (first_of w above) → ¬ IsStable (seat_market w) (last_of w above) → IsFirstThere (ReducedHold w above x) reason.Blocked
      last_blocked stable unstable = record { clauses_before = before; fails = λ h. unstable (h.1 last_behind) }
        where
          before : (other : Reason) → number_of_reason other < 2 → ReducedHold w above x other
          before reason.NotAMatching l = (no_first, no_last, tt)
          before reason.Blocked l = absurd (omega arith)
          before reason.NotBest l = absurd (omega arith)
          before reason.WrongList l = absurd (omega arith)
          before _ l = (tt, tt, tt)

      stable_before : IsStable (seat_market w) (first_of w above) → IsStable (seat_market w) (last_of w above) → (other : Reason) → number_of_reason other < 3 → ReducedHold w above x other
      stable_before stable stable' reason.NotAMatching l = (no_first, no_last, tt)
      stable_before stable stable' reason.Blocked l = (λ _. stable, λ _. stable', tt)
      stable_before stable stable' reason.NotBest l = absurd (omega arith)
      stable_before stable stable' reason.WrongList l = absurd (omega arith)
      stable_before stable stable' _ l = (tt, tt, tt)

      -- where both are stable, and the first isn't the proposers' best, that is what fails first
      pub first_not_best : IsStable (seat_market w) (first_of w above) → IsStable (seat_market w) (last_of w above) → ¬ IsProposersBest (seat_market w) (first_of w above) → IsFirstThere (ReducedHold w above x) reason.NotBest
      first_not_best stable stable' not_best = record { clauses_before = stable_before stable stable'; fails = λ h. not_best (h.0 (first_behind not_best)) }

      -- and so where the last isn't the reviewers' best
      pub last_not_best : IsStable (seat_market w) (first_of w above) → IsStable (seat_market w) (last_of w above) → ¬ IsReviewersBest (seat_market w) (last_of w above) → IsFirstThere (ReducedHold w above x) reason.NotBest
      last_not_best stable stable' not_best = record { clauses_before = stable_before stable stable'; fails = λ h. not_best (h.1 last_behind) }

      -- where both are the best, what is kept goes on with the lists
      pub lists_begin : (lists : SeatLists) → AreLists (seat_market w) (first_of w above) (last_of w above) [] [] lists → AreListsOf w above lists
      lists_begin lists made =
          let empty = no_lists_in w above last_behind.all_above in
          subst (λ (said : List (ℕ × List ℕ)). AreLists (seat_market w) (first_of w above) (last_of w above) (owners said) (owners (reviewer_lists_in w above)) lists) (sym empty.0)
          (subst (λ (said : List (ℕ × List ℕ)). AreLists (seat_market w) (first_of w above) (last_of w above) [] (owners said) lists) (sym empty.1) made)
