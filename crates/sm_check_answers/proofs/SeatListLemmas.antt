-- Reduced lists as an answer writes them, one after another.
use Rattle.std.proofs.Common.{◌≡◌, ◌≢◌, ℕ, ◌+◌, ◌<◌, ◌==◌, ◌↔◌, ◌⊎◌, inl, inr, cond, min, List, [], ◌∷◌, ◌++◌, length, get_or, set, Option, None, Bool, true, false, Vec, Global, refl, sym, ap, ◌∙◌, subst, arith, eq-eqb}
use Rattle.std.specs.Prelude.{IfSome, IsTrue, count_by}
use Rattle.std.specs.List.{sum_by}
use Rattle.std.proofs.lemmas.Bool.{false≢true, ne_eqb}
use Rattle.std.proofs.lemmas.Bool.Decides.{eqb_tells}
use Rattle.std.proofs.lemmas.List.{length-set, get_or-set_same, get_or-set_other, map-append}
use Rattle.std.proofs.lemmas.List.Sums.{sum_by-append, sum_by-cons}
use Rattle.sm_agents.specs.Written.{Written}
use Rattle.sm_market.specs.Lists.{Lists, row}
use Rattle.sm_market.specs.Matching.{Places}
use Rattle.sm_market.specs.Reduced.{reduced_lists_of}
use Rattle.sm_seats.specs.SeatMarket.{seat_market}
use Rattle.sm_report.specs.declared.lines.Seat.{Seat}
use Rattle.sm_report.specs.declared.lines.Line.{Line}
use Rattle.sm_report.specs.Lines.{LineData, line_of}
use Rattle.sm_check_clauses.specs.declared.verdicts.Reason.{Reason}
use Rattle.sm_check_clauses.specs.declared.verdicts.Reason.TheVariants as reason
use Rattle.sm_check_answers.specs.declared.seat_lists.SeatLists.{SeatLists}
use Rattle.sm_check_forms.specs.Seats.{seat_number, seat_numbers}
use Rattle.sm_check_clauses.specs.Said.{proposer_list_in, proposer_lists_in, reviewer_list_in, reviewer_lists_in, is_end}
use Rattle.sm_check_clauses.specs.SeatMatchings.{first_of}
use Rattle.sm_check_clauses.specs.Chain.{HasOneEach, owners, reduced_of, IsRowOf, ListsAreRight, ListsHold}
use Rattle.sm_check_answers.specs.ListsKept.{AreTimes, AreListsOf, AreListsBehind}
use Rattle.sm_check_clauses.specs.Verdicts.{IsFirstThere, number_of_reason}
use Rattle.sm_check_clauses.proofs.AnswerLemmas.{said_same, said_one}
use Rattle.sm_check_clauses.proofs.SeatPairLemmas.{counted, passed_over}

-- one owner more
count_more : (agents : List ℕ) (a b : ℕ) → count_by (λ y. y == b) (agents ++ a ∷ []) ≡ count_by (λ y. y == b) agents + cond (a == b) 1 0
count_more agents a b =
    let f : ℕ → ℕ = λ y. cond (y == b) 1 0 in
    let all = sum_by-append f agents (a ∷ []) in
    let one : sum_by f (a ∷ []) ≡ cond (a == b) 1 0 + 0 = sum_by-cons f a [] in
    omega (arith, all, one)

-- with one more list of an agent its count is one more, but two at most
pub times_more : (n : ℕ) (agents : List ℕ) (times : List ℕ) (a : ℕ) → a < n → AreTimes n agents times → (more : ℕ) → more ≡ min 2 (get_or times a 0 + 1) → AreTimes n (agents ++ a ∷ []) (set times a more)
times_more n agents times a inside k more is = record {
  one_each = length-set times a more ∙ k.one_each;
  told = λ b b_in. told b b_in (eqb_tells b a);
}
  where
    told : (b : ℕ) → b < n → (((b == a) ≡ true) × (b ≡ a)) ⊎ (((b == a) ≡ false) × (b ≢ a)) → get_or (set times a more) b 0 ≡ min 2 (count_by (λ y. y == b) (agents ++ a ∷ []))
    told b b_in (inl x) =
        let here : get_or (set times a more) a 0 ≡ more = get_or-set_same times a more 0 (let one = k.one_each in omega (arith, one, inside)) in
        let one = counted (a == a) (eq-eqb a a refl) in
        let now : get_or (set times a more) a 0 ≡ min 2 (count_by (λ y. y == a) (agents ++ a ∷ [])) = omega (arith, here, is, k.told a inside, count_more agents a a, one) in
        subst (λ c. get_or (set times a more) c 0 ≡ min 2 (count_by (λ y. y == c) (agents ++ a ∷ []))) (sym x.1) now
    told b b_in (inr x) =
        let none = passed_over (a == b) (ne_eqb a b (λ e. x.1 (sym e))) in
        omega (arith, get_or-set_other times a b more 0 x.1, k.told b b_in, count_more agents a b, none)

-- each had one list where each is told to have had one
pub one_each_of : {n : ℕ} {agents times : List ℕ} → AreTimes n agents times → ((a : ℕ) → a < n → get_or times a 0 ≡ 1) → HasOneEach n agents
one_each_of k all = λ x less. omega (arith, k.told x less, all x less)

-- where some agent is told otherwise, not each had one list
pub not_once : {n : ℕ} {agents times : List ℕ} → AreTimes n agents times → (a : ℕ) → a < n → get_or times a 0 ≢ 1 → ¬ HasOneEach n agents
not_once k a less other all = other (omega (arith, k.told a less, all a less))

-- whether all had one, as it is told of the times that are kept
module _ (w : Written) (above : List LineData) {lists : SeatLists} (k : AreListsOf w above lists) (l : Lists) (is : l ≡ seat_market w) (times : List ℕ) where
  -- of the proposers it is told by their times
  pub proposers_once : times ≡ lists.proposers.items → length lists.proposers.items ≡ length l.proposers → (all : Bool) → ((agents : List ℕ) → AreTimes (length times) agents times → IsTrue all ↔ HasOneEach (length times) agents)
      → IsTrue all ↔ HasOneEach (length (seat_market w).proposers) (owners (proposer_lists_in w above))
  proposers_once same one all decided =
      let long : length times ≡ length (seat_market w).proposers = ap length same ∙ one ∙ ap (λ (l : Lists). length l.proposers) is in
      let kept = subst (λ (ts : List ℕ). AreTimes (length (seat_market w).proposers) (owners (proposer_lists_in w above)) ts) (sym same) k.proposer_times in
      (rw long at decided) (owners (proposer_lists_in w above)) kept

  -- and so for the seats
  pub seats_once : times ≡ lists.seats.items → length lists.seats.items ≡ length l.reviewers → (all : Bool) → ((agents : List ℕ) → AreTimes (length times) agents times → IsTrue all ↔ HasOneEach (length times) agents)
      → IsTrue all ↔ HasOneEach (length (seat_market w).reviewers) (owners (reviewer_lists_in w above))
  seats_once same one all decided =
      let long : length times ≡ length (seat_market w).reviewers = ap length same ∙ one ∙ ap (λ (l : Lists). length l.reviewers) is in
      let kept = subst (λ (ts : List ℕ). AreTimes (length (seat_market w).reviewers) (owners (reviewer_lists_in w above)) ts) (sym same) k.seat_times in
      (rw long at decided) (owners (reviewer_lists_in w above)) kept

module _ (w : Written) (above : List LineData) where
  lists_hold : (x : LineData) → ListsAreRight w above x → (why : Reason) → ListsHold w above x why
  lists_hold x right reason.WrongList = right
  lists_hold x right _ = tt

  -- where a list isn't right, this is the first clause that fails
  pub lists_fail : (x : LineData) → ¬ ListsAreRight w above x → IsFirstThere (ListsHold w above x) reason.WrongList
  lists_fail x wrong = record { clauses_before = before; fails = wrong }
    where
      before : (other : Reason) → number_of_reason other < 4 → ListsHold w above x other
      before reason.WrongList l = absurd (omega arith)
      before _ l = tt

  module _ {lists : SeatLists} (k : AreListsOf w above lists) where
    -- the lists that are wanted
    wanted_is : reduced_lists_of (seat_market w) lists.first.places lists.last.places ≡ reduced_of w above
    wanted_is = ap (λ (m : Places). reduced_lists_of (seat_market w) m lists.last.places) k.first_is ∙ ap (reduced_lists_of (seat_market w) (first_of w above)) k.last_is

    -- a proposer's list
    pub proposer_right : (p : ℕ) (seats : List Seat) (list : List ℕ) → list ≡ seat_numbers w seats → list ≡ row (reduced_lists_of (seat_market w) lists.first.places lists.last.places).proposers p
        → (times : Vec ℕ Global) → AreTimes (length (seat_market w).proposers) (owners (proposer_lists_in w above) ++ p ∷ []) times.items
        → ((why : Reason) → ListsHold w above (LineData.ProposerList p seats) why) × AreListsBehind w above (LineData.ProposerList p seats) (record lists { proposers = times })
    proposer_right p seats list is right times more =
        let x : LineData = LineData.ProposerList p seats in (
          lists_hold x (record {
            proposer = sym is ∙ right ∙ ap (λ (l : Lists). row l.proposers p) wanted_is;
            reviewer = tt;
            all_proposers = λ e. absurd (false≢true e);
            all_reviewers = λ e. absurd (false≢true e);
          }),
          record {
            first = k.first;
            first_is = k.first_is;
            last = k.last;
            last_is = k.last_is;
            proposer_times = subst (λ (agents : List ℕ). AreTimes (length (seat_market w).proposers) agents times.items)
                (sym (ap owners (said_one (proposer_list_in w) above x (p, seat_numbers w seats) refl) ∙ map-append (λ (list : ℕ × List ℕ). list.0) (proposer_lists_in w above) ((p, seat_numbers w seats) ∷ []))) more;
            seat_times = subst (λ (said : List (ℕ × List ℕ)). AreTimes (length (seat_market w).reviewers) (owners said) lists.seats.items) (sym (said_same (reviewer_list_in w) above x refl)) k.seat_times;
          },
        )

    -- a seat's list
    pub reviewer_right : (seat : Seat) (proposers : List ℕ) (number : ℕ) → number ≡ seat_number w seat → proposers ≡ row (reduced_lists_of (seat_market w) lists.first.places lists.last.places).reviewers number
        → (times : Vec ℕ Global) → AreTimes (length (seat_market w).reviewers) (owners (reviewer_lists_in w above) ++ number ∷ []) times.items
        → ((why : Reason) → ListsHold w above (LineData.ReviewerList seat proposers) why) × AreListsBehind w above (LineData.ReviewerList seat proposers) (record lists { seats = times })
    reviewer_right seat proposers number is right times more =
        let x : LineData = LineData.ReviewerList seat proposers in (
          lists_hold x (record {
            proposer = tt;
            reviewer = right ∙ ap (λ (l : Lists). row l.reviewers number) wanted_is ∙ ap (row (reduced_of w above).reviewers) is;
            all_proposers = λ e. absurd (false≢true e);
            all_reviewers = λ e. absurd (false≢true e);
          }),
          record {
            first = k.first;
            first_is = k.first_is;
            last = k.last;
            last_is = k.last_is;
            proposer_times = subst (λ (said : List (ℕ × List ℕ)). AreTimes (length (seat_market w).proposers) (owners said) lists.proposers.items) (sym (said_same (proposer_list_in w) above x refl)) k.proposer_times;
            seat_times = subst (λ (agents : List ℕ). AreTimes (length (seat_market w).reviewers) agents times.items)
                (ap (λ n. owners (reviewer_lists_in w above) ++ n ∷ []) is
                ∙ sym (ap owners (said_one (reviewer_list_in w) above x (seat_number w seat, proposers) refl) ∙ map-append (λ (list : ℕ × List ℕ). list.0) (reviewer_lists_in w above) ((seat_number w seat, proposers) ∷ []))) more;
          },
        )

    -- a line without a list
    pub no_list : (x : LineData) → proposer_list_in w x ≡ None → reviewer_list_in w x ≡ None
        → (is_end x ≡ true → HasOneEach (length (seat_market w).proposers) (owners (proposer_lists_in w above))) → (is_end x ≡ true → HasOneEach (length (seat_market w).reviewers) (owners (reviewer_lists_in w above)))
        → ((why : Reason) → ListsHold w above x why) × AreListsBehind w above x lists
    no_list x a b proposers seats = (
      lists_hold x (record {
        proposer = subst (λ (o : Option (ℕ × List ℕ)). IfSome o (IsRowOf (reduced_of w above).proposers)) (sym a) tt;
        reviewer = subst (λ (o : Option (ℕ × List ℕ)). IfSome o (IsRowOf (reduced_of w above).reviewers)) (sym b) tt;
        all_proposers = proposers;
        all_reviewers = seats;
      }),
      record {
        first = k.first;
        first_is = k.first_is;
        last = k.last;
        last_is = k.last_is;
        proposer_times = subst (λ (said : List (ℕ × List ℕ)). AreTimes (length (seat_market w).proposers) (owners said) lists.proposers.items) (sym (said_same (proposer_list_in w) above x a)) k.proposer_times;
        seat_times = subst (λ (said : List (ℕ × List ℕ)). AreTimes (length (seat_market w).reviewers) (owners said) lists.seats.items) (sym (said_same (reviewer_list_in w) above x b)) k.seat_times;
      },
    )

-- nor does any line that is neither a list nor the end
pub no_list_in : (w : Written) (x : Line) → ((p : ℕ) (seats : Vec Seat Global) → x ≡ Line.ProposerList p seats → ⊥) → ((seat : Seat) (proposers : Vec ℕ Global) → x ≡ Line.ReviewerList seat proposers → ⊥) → (x ≡ Line.End → ⊥)
    → (proposer_list_in w (line_of x) ≡ None) × (reviewer_list_in w (line_of x) ≡ None) × (is_end (line_of x) ≡ false)
no_list_in w (Line.ProposerList p seats) a b c = absurd (a p seats refl)
no_list_in w (Line.ReviewerList seat proposers) a b c = absurd (b seat proposers refl)
no_list_in w Line.End a b c = absurd (c refl)
no_list_in w _ a b c = (refl, refl, refl)
