-- Seats by their numbers, and the pairs of the proposers with their seats in a matching of the seats: each may stand behind
-- those before it, and they give the matching. Their lines in an answer, whatever word they begin with.
use Rattle.std.proofs.Common.{◌≡◌, ℕ, suc, ◌-◌, ◌&&◌, ◌+◌, ◌<◌, ◌≤◌, ◌==◌, nat_le, arith, refl, sym, ap, ◌∙◌, Bool, true, List, [], ◌∷◌, ◌++◌, length, map, Option, Some, None, subst, inl, inr, ext_get_or, ne_eqb}
use Rattle.std.specs.Prelude.{filter_map, IfSome}
use Rattle.std.specs.List.{list_all, All}
use Rattle.std.specs.Option.{option_map}
use Rattle.std.proofs.lemmas.Bool.{le-leb}
use Rattle.std.proofs.lemmas.Option.{same_Some}
use Rattle.std.proofs.lemmas.List.{length-map}
use Rattle.std.proofs.lemmas.List.FromFn.{length-map-range_with_len}
use Rattle.sm_lists.proofs.Counting.{eq_or_ne}
use Rattle.sm_lists.proofs.PlaceLemmas.{get_or-place_on}
use Rattle.sm_agents.specs.Written.{Written}
use Rattle.sm_agents.specs.declared.kinds.Side.{Side}
use Rattle.sm_market.specs.Lists.{Lists, row, entry, place_of, IsMarket}
use Rattle.sm_market.specs.Matching.{Places, held, IsMatching}
use Rattle.sm_market.specs.Stable.{IsProposersBest}
use Rattle.sm_market.proofs.PlaceLemmas.{place_of-entry}
use Rattle.sm_theory.specs.Lattice.{with_proposers}
use Rattle.sm_theory.proofs.Bridge.Places.{held_map}
use Rattle.sm_report.specs.declared.lines.Seat.{Seat}
use Rattle.sm_report.specs.Lines.{LineData}
use Rattle.sm_answer.specs.Lines.{line_or_none, lines_from}
use Rattle.sm_seats.specs.SeatMarket.{seat_market, seats_of, seats_before, seat_count, row_of_seat}
use Rattle.sm_seats.specs.Seating.{seating_of}
use Rattle.sm_seats.proofs.SeatLemmas.{seat_found, seat_name, length-seats}
use Rattle.sm_answer_rotations.specs.Reduction.{seat_of, best_seat, seat_line}
use Rattle.sm_answer_rotations.specs.RotationLines.{seated_rotation}
use Rattle.sm_check_forms.specs.Seats.{is_seat, seat_number, seat_numbers, all_numbered}
use Rattle.sm_holding.specs.Held.{partner_in, times_second}
use Rattle.sm_holding.proofs.HoldingLemmas.{partner_in-push_same, partner_in-push_other}
use Rattle.sm_check_clauses.specs.declared.verdicts.Reason.{Reason}
use Rattle.sm_check_clauses.specs.declared.verdicts.Reason.TheVariants as reason
use Rattle.sm_check_clauses.specs.Said.{first_in, firsts_in, is_up_to_firsts, IsFirstBehind}
use Rattle.sm_check_clauses.specs.SeatMatchings.{IsFreeSeat, seat_places_in, first_of, FirstsHold}
use Rattle.sm_holding.proofs.PairLemmas.{times_second-push}
use Rattle.sm_check_clauses.proofs.SeatPairLemmas.{passed_over, with_proposers_is}
use Rattle.sm_check_clauses.proofs.AnswerLemmas.{said_one}
use Rattle.sm_law_agree.proofs.LineLemmas.{Steps, Held, numbers_hold, numbers_pass}

-- Seats as they are shown.

-- a seat that is there has its number
pub seat_number_is : (w : Written) (k : ℕ) → k < length (seats_of w) → seat_number w (seat_of (seating_of w) k) ≡ k
seat_number_is w k there =
    let it = seat_found w k (length w.reviewers) (omega (arith, there, length-seats w)) in
    let name = ap (λ (x : ℕ × ℕ). seats_before w x.0 + (x.1 - 1)) (seat_name it.of) in
    name ∙ (let e : seats_before w it.reviewer + (it.number + 1 - 1) ≡ k = omega (arith, it.of.is) in e)

-- and is one of its reviewer's
pub is_seat_shown : (w : Written) (k : ℕ) → k < length (seats_of w) → is_seat w (seat_of (seating_of w) k) ≡ true
is_seat_shown w k there =
    let it = seat_found w k (length w.reviewers) (omega (arith, there, length-seats w)) in
    let name = ap (λ (x : ℕ × ℕ). nat_le 1 x.1 && nat_le x.1 (seat_count w x.0)) (seat_name it.of) in
    let most : nat_le (it.number + 1) (seat_count w it.reviewer) ≡ true = le-leb _ _ (let b = it.of.below in omega arith) in
    name ∙ ap (λ t. t && nat_le (it.number + 1) (seat_count w it.reviewer)) (le-leb 1 (it.number + 1) (omega arith)) ∙ most

-- the same of a list of them
pub seat_numbers_are : (w : Written) (xs : List ℕ) → All (λ k. k < length (seats_of w)) xs → seat_numbers w (map (seat_of (seating_of w)) xs) ≡ xs
seat_numbers_are w [] there = refl
seat_numbers_are w (x ∷ xs) there =
    ap (λ k. k ∷ seat_numbers w (map (seat_of (seating_of w)) xs)) (seat_number_is w x (there 0 0 (omega arith)))
    ∙ ap (λ ys. x ∷ ys) (seat_numbers_are w xs (λ k d l. there (suc k) d (omega (arith, l))))

-- all seats that are shown are those of their reviewers
pub are_seats_shown : (w : Written) (xs : List ℕ) → All (λ k. k < length (seats_of w)) xs → list_all (is_seat w) (map (seat_of (seating_of w)) xs) ≡ true
are_seats_shown w [] there = refl
are_seats_shown w (x ∷ xs) there =
    ap (λ t. t && list_all (is_seat w) (map (seat_of (seating_of w)) xs)) (is_seat_shown w x (there 0 0 (omega arith)))
    ∙ are_seats_shown w xs (λ k d l. there (suc k) d (omega (arith, l)))

-- and of pairs of a proposer and a seat
pub all_numbered-seated : (w : Written) (pairs : List (ℕ × ℕ)) → All (λ (pair : ℕ × ℕ). pair.1 < length (seats_of w)) pairs → all_numbered w (seated_rotation (seating_of w) pairs) ≡ pairs
all_numbered-seated w [] there = refl
all_numbered-seated w (pair ∷ pairs) there =
    ap (λ k. (pair.0, k) ∷ all_numbered w (seated_rotation (seating_of w) pairs)) (seat_number_is w pair.1 (there 0 (0, 0) (omega arith)))
    ∙ ap (λ xs. pair ∷ xs) (all_numbered-seated w pairs (λ k d l. there (suc k) d (omega (arith, l))))

-- The pairs of a matching.

-- the seat that a proposer has
abbrev pub seat_held : Lists → Places → ℕ → Option ℕ
seat_held l m q = option_map (entry l.proposers q) (held m.proposers q)

-- a seat is that of a proposer below p
pub record IsHeldBelow (l : Lists) (m : Places) (p seat : ℕ) : Type 0 where
  pub proposer : ℕ
  pub place : ℕ
  pub below : proposer < p
  pub holds : held m.proposers proposer ≡ Some place
  pub is : entry l.proposers proposer place ≡ seat

-- the pairs of the proposers below p
pub record AreSeatedBelow (l : Lists) (m : Places) (p : ℕ) (pairs : List (ℕ × ℕ)) : Type 0 where
  pub below : (q : ℕ) → q < p → partner_in pairs q ≡ seat_held l m q
  pub past : (q : ℕ) → p ≤ q → partner_in pairs q ≡ None
  pub second : (seat : ℕ) → 0 < times_second pairs seat → IsHeldBelow l m p seat

-- below the first proposer there are no pairs
pub none_seated : (l : Lists) (m : Places) → AreSeatedBelow l m 0 []
none_seated l m = record { below = λ q less. absurd (omega (arith, less)); past = λ q le. refl; second = λ seat more. absurd (omega (arith, more)) }

-- who has the same seat is the same proposer
one_holder : {l : Lists} {m : Places} → IsMarket l → IsMatching l m → (q p j i : ℕ) → held m.proposers q ≡ Some j → held m.proposers p ≡ Some i → entry l.proposers q j ≡ entry l.proposers p i → q ≡ p
one_holder {l} {m} h f q p j i holds e same =
    let r = entry l.proposers p i in
    let theirs = subst (λ s. held m.reviewers s ≡ Some (place_of l.reviewers s q)) same (f.proposers.in_turn q j holds) in
    let places = same_Some (place_of l.reviewers r q) (place_of l.reviewers r p) (sym theirs ∙ f.proposers.in_turn p i e) in
    let back = subst (λ s. place_of l.reviewers s q < length (row l.reviewers s)) same (h.proposers.returned q j (f.proposers.on_list q j holds)) in
    sym (get_or-place_on (row l.reviewers r) q back) ∙ ap (entry l.reviewers r) places ∙ get_or-place_on (row l.reviewers r) p (h.proposers.returned p i (f.proposers.on_list p i e))

module _ {l : Lists} {m : Places} {p : ℕ} {pairs : List (ℕ × ℕ)} (k : AreSeatedBelow l m p pairs) where
  -- who is matched has a pair
  pub one_seated : (i : ℕ) → held m.proposers p ≡ Some i → AreSeatedBelow l m (p + 1) (pairs ++ (p, entry l.proposers p i) ∷ [])
  one_seated i e =
      let s = entry l.proposers p i in
      let none = k.past p (omega arith) in
      record {
        below = λ q less. elim (eq_or_ne q p) [
          | inl is ↦ ap (partner_in (pairs ++ (p, s) ∷ [])) is ∙ partner_in-push_same pairs p s none ∙ sym (ap (option_map (entry l.proposers p)) e) ∙ ap (seat_held l m) (sym is)
          | inr ne ↦ partner_in-push_other pairs p s q none ne ∙ k.below q (omega (arith, less, ne))
        ];
        past = λ q le. partner_in-push_other pairs p s q none (λ e. omega (arith, le, e)) ∙ k.past q (omega (arith, le));
        second = λ seat more. elim (eq_or_ne s seat) [
          | inl is ↦ record { proposer = p; place = i; below = omega arith; holds = e; is = is }
          | inr ne ↦
              let before = k.second seat (omega (arith, more, times_second-push pairs p s seat, passed_over (s == seat) (ne_eqb s seat ne))) in
              record { proposer = before.proposer; place = before.place; below = omega (arith, before.below); holds = before.holds; is = before.is }
        ];
      }

  -- who isn't has none
  pub same_seated : held m.proposers p ≡ None → AreSeatedBelow l m (p + 1) pairs
  same_seated e = record {
    below = λ q less. elim (eq_or_ne q p) [
      | inl is ↦ k.past q (omega (arith, is)) ∙ sym (ap (option_map (entry l.proposers p)) e) ∙ ap (seat_held l m) (sym is)
      | inr ne ↦ k.below q (omega (arith, less, ne))
    ];
    past = λ q le. k.past q (omega (arith, le));
    second = λ seat more.
        let before = k.second seat more in
        record { proposer = before.proposer; place = before.place; below = omega (arith, before.below); holds = before.holds; is = before.is };
  }

  -- the next pair may stand behind these
  pub free_seat : IsMarket l → IsMatching l m → (i : ℕ) → held m.proposers p ≡ Some i → IsFreeSeat l pairs (p, entry l.proposers p i)
  free_seat h f i e =
      let s = entry l.proposers p i in
      let on = f.proposers.on_list p i e in
      record {
        acceptable = omega (arith, on, place_of-entry h.proposers p i on);
        proposer_free = k.past p (omega arith);
        seat_free = elim (eq_or_ne (times_second pairs s) 0) [
          | inl none ↦ none
          | inr some ↦
              let before = k.second s (omega (arith, some)) in
              absurd (omega (arith, before.below, one_holder h f before.proposer p before.place i before.holds e before.is))
        ];
      }

-- the pairs of all proposers give the matching
pub all_seated : {l : Lists} {m : Places} {pairs : List (ℕ × ℕ)} → AreSeatedBelow l m (length l.proposers) pairs → IsMarket l → IsMatching l m → seat_places_in l pairs ≡ m
all_seated {l} {m} {pairs} k h f = ap (with_proposers l) same ∙ with_proposers_is h f
  where
    place_in : ℕ → Option ℕ
    place_in p = option_map (place_of l.proposers p) (partner_in pairs p)

    back : (p : ℕ) (o : Option ℕ) → held m.proposers p ≡ o → option_map (place_of l.proposers p) (option_map (entry l.proposers p) o) ≡ o
    back p None e = refl
    back p (Some i) e = ap Some (place_of-entry h.proposers p i (f.proposers.on_list p i e))

    at : (p : ℕ) → p < length l.proposers → held (seat_places_in l pairs).proposers p ≡ held m.proposers p
    at p less = held_map l.proposers place_in p less ∙ ap (option_map (place_of l.proposers p)) (k.below p less) ∙ back p (held m.proposers p) refl

    long : length (seat_places_in l pairs).proposers ≡ length l.proposers
    long = length-map-range_with_len place_in 0 (length l.proposers)

    same : (seat_places_in l pairs).proposers ≡ m.proposers
    same = ext_get_or None (seat_places_in l pairs).proposers m.proposers (omega (arith, long, f.proposers.one_each)) (λ p less. at p (omega (arith, less, long)))

-- The lines of the pairs.

-- a seat that is held is there
seat_there : (w : Written) {m : Places} → IsMarket (seat_market w) → IsMatching (seat_market w) m → (p i : ℕ) → held m.proposers p ≡ Some i → entry (seat_market w).proposers p i < length (seats_of w)
seat_there w h f p i e = omega (arith, h.proposers.in_range p i (f.proposers.on_list p i e), length-map (seats_of w) (row_of_seat w))

-- the pairs of the proposers below p stand above, and something else is known
abbrev pub SeatsAbove : Lists → Places → (LineData → Option (ℕ × ℕ)) → (List LineData → Type 0) → ℕ → List LineData → Type 0
SeatsAbove l m said Known p above = AreSeatedBelow l m p (filter_map said above) × Known above

module _ (w : Written) (m : Places) (h : IsMarket (seat_market w)) (f : IsMatching (seat_market w) m) (side : Side) (line : ℕ → Option LineData)
    (is_line : (p : ℕ) → p < length (seat_market w).proposers → line p ≡ seat_line side (seating_of w) m p) where
  abbrev l : Lists
  l = seat_market w

  abbrev shown : ℕ → Seat
  shown k = seat_of (seating_of w) k

  -- these lines say pairs, and whatever else is known of the lines above stays known
  module _ (Clauses : List LineData → LineData → Reason → Type 0) (said : LineData → Option (ℕ × ℕ))
      (is_said : (p : ℕ) (seat : Seat) → said (best_seat side p seat) ≡ Some (p, seat_number w seat)) (Known : List LineData → Type 0) where
    abbrev Above : ℕ → List LineData → Type 0
    Above p above = SeatsAbove l m said Known p above

    module _ (keep : (above : List LineData) (p : ℕ) (seat : Seat) → Known above → Known (above ++ best_seat side p seat ∷ []))
        (holds : (above : List LineData) (p : ℕ) (seat : Seat) → Known above → IsFreeSeat l (filter_map said above) (p, seat_number w seat) → (why : Reason) → Clauses above (best_seat side p seat) why) where
      step : (p : ℕ) (above : List LineData) → Above p above → Steps Clauses (Above (p + 1)) above (seat_line side (seating_of w) m p)
      step p above k = go (held m.proposers p) refl
        where
          go : (o : Option ℕ) → held m.proposers p ≡ o → Steps Clauses (Above (p + 1)) above (option_map (λ i. best_seat side p (shown (entry l.proposers p i))) o)
          go None e = (same_seated k.0 e, k.1)
          go (Some i) e =
              let seat = shown (entry l.proposers p i) in
              let number = seat_number_is w (entry l.proposers p i) (seat_there w h f p i e) in
              let said_is : filter_map said (above ++ best_seat side p seat ∷ []) ≡ filter_map said above ++ (p, entry l.proposers p i) ∷ [] =
              said_one said above (best_seat side p seat) (p, seat_number w seat) (is_said p seat) ∙ ap (λ s. filter_map said above ++ (p, s) ∷ []) number in (
                holds above p seat k.1 (subst (λ s. IsFreeSeat l (filter_map said above) (p, s)) (sym number) (free_seat k.0 h f i e)),
                (subst (AreSeatedBelow l m (p + 1)) (sym said_is) (one_seated k.0 i e), keep above p seat k.1),
              )

      -- all clauses hold at the lines of the seats, where they do at each behind the ones before it
      pub seats_hold : (above : List LineData) → filter_map said above ≡ [] → Known above → Held Clauses (Above (length l.proposers)) above (lines_from line 0 (length l.proposers))
      seats_hold above none known =
          numbers_hold Clauses Above line (length l.proposers) (λ p now less k. subst (Steps Clauses (Above (p + 1)) now) (sym (is_line p less)) (step p now k)) 0 (length l.proposers) above (omega arith)
          (subst (AreSeatedBelow l m 0) (sym none) (none_seated l m), known)

  -- tests that they pass
  pub seats_pass : (test : LineData → Bool) → ((p k : ℕ) → k < length (seats_of w) → test (best_seat side p (shown k)) ≡ true) → list_all test (lines_from line 0 (length l.proposers)) ≡ true
  seats_pass test each =
      numbers_pass test line (length l.proposers)
      (λ p less. subst (λ o. list_all test (line_or_none o) ≡ true) (sym (is_line p less)) (go p (held m.proposers p) refl)) 0 (length l.proposers) (omega arith)
    where
      go : (p : ℕ) (o : Option ℕ) → held m.proposers p ≡ o → list_all test (line_or_none (option_map (λ i. best_seat side p (shown (entry l.proposers p i))) o)) ≡ true
      go p None e = refl
      go p (Some i) e = ap (λ t. t && true) (each p (entry l.proposers p i) (seat_there w h f p i e))

-- The clauses on first seats.
pub firsts_hold : (w : Written) (above : List LineData) (line : LineData) → IfSome (first_in w line) (IsFreeSeat (seat_market w) (firsts_in w above))
    → (IsFirstBehind is_up_to_firsts above line → IsProposersBest (seat_market w) (first_of w above)) → (why : Reason) → FirstsHold w above line why
firsts_hold w above line free best reason.NotAMatching = free
firsts_hold w above line free best reason.Blocked = λ b. (best b).stable
firsts_hold w above line free best reason.NotBest = best
firsts_hold w above line free best _ = tt
