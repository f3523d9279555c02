-- The lines of seats: a seat that a line names is the one of its number, and the pairs of a matching of the seats are in the order of
-- the proposers or in any other.
use Rattle.std.proofs.Common.{◌≡◌, ℕ, ◌+◌, ◌-◌, ◌≤◌, nat_le, arith, refl, ap, ◌∙◌, true, List, [], ◌∷◌, length, map, get_or, Option, Some, None, subst}
use Rattle.std.specs.List.{list_all}
use Rattle.std.specs.Option.{option_map}
use Rattle.std.proofs.lemmas.Bool.{false≢true, leb-true}
use Rattle.sm_lists.proofs.BoolLemmas.{first_true, second_true}
use Rattle.sm_agents.specs.Written.{Written}
use Rattle.sm_instance.specs.declared.inputs.Input.TheVariants.{Two}
use Rattle.sm_agents.specs.declared.kinds.Side.{Side}
use Rattle.sm_agents.specs.declared.kinds.Side.TheVariants.{Proposers, Reviewers}
use Rattle.sm_market.specs.Lists.{Lists, IsMarket, entry}
use Rattle.sm_market.specs.Matching.{Places, IsMatching, held}
use Rattle.sm_market.proofs.PlaceLemmas.{place_of-entry}
use Rattle.sm_report.specs.declared.lines.Seat.{Seat}
use Rattle.sm_report.specs.Lines.{LineData}
use Rattle.sm_report.specs.declared.keywords.Keyword.TheVariants as keyword
use Rattle.sm_answer.specs.Lines.{lines_from}
use Rattle.sm_answer.proofs.AnswerLemmas.{lines_from-same}
use Rattle.sm_seats.specs.SeatMarket.{seat_market, seat_count, seats_of}
use Rattle.sm_seats.specs.Seating.{seating_of}
use Rattle.sm_seats.proofs.SeatLemmas.{IsSeatOf, seat_name}
use Rattle.sm_answer_rotations.specs.Reduction.{seat_of, best_seat, seat_line}
use Rattle.sm_check_forms.specs.Seats.{is_seat, seat_number, seat_numbers}
use Rattle.sm_check_forms.proofs.KeywordLayouts.{begins, opening_of}
use Rattle.sm_check_forms.specs.Forms.{fits}
use Rattle.sm_check_clauses.specs.Said.{first_in, last_in}
use Rattle.sm_cert.specs.Yes.{ArePairsOf}
use Rattle.sm_law_yes.specs.Reordered.{IsReordered}
use Rattle.sm_law_yes.proofs.LineGroups.{IsLineFor}
use Rattle.sm_law_yes.proofs.PairLines.{IsFirstHeld, pair_of, pairs_in_order}

-- Seats by their numbers.
module _ (w : Written) where
  -- a reviewer's seat has a number in the market
  pub seat_at : (seat : Seat) → is_seat w seat ≡ true → IsSeatOf w (seat_number w seat) seat.reviewer (seat.number - 1)
  seat_at seat e = record { is = refl; below = omega (arith, low seat e, high seat e) }
    where
      low : (seat : Seat) → is_seat w seat ≡ true → 1 ≤ seat.number
      low seat e = leb-true 1 seat.number (first_true (nat_le 1 seat.number) (nat_le seat.number (seat_count w seat.reviewer)) e)

      high : (seat : Seat) → is_seat w seat ≡ true → seat.number ≤ seat_count w seat.reviewer
      high seat e = leb-true seat.number (seat_count w seat.reviewer) (second_true (nat_le 1 seat.number) (nat_le seat.number (seat_count w seat.reviewer)) e)

  -- and is the seat with it
  pub seat_back : (seat : Seat) → is_seat w seat ≡ true → seat_of (seating_of w) (seat_number w seat) ≡ seat
  seat_back seat e =
      let at = seat_at seat e in
      let low = leb-true 1 seat.number (first_true (nat_le 1 seat.number) (nat_le seat.number (seat_count w seat.reviewer)) e) in
      let name : get_or (seats_of w) (seat_number w seat) (0, 0) ≡ (seat.reviewer, seat.number) =
      seat_name at ∙ ap (λ n. (seat.reviewer, n)) (let same : seat.number - 1 + 1 ≡ seat.number = omega (arith, low) in same) in
      ap (λ (x : ℕ × ℕ). let seat : Seat = record { reviewer = x.0; number = x.1 } in seat) name

  -- the same of some of them
  pub seats_back : (seats : List Seat) → list_all (is_seat w) seats ≡ true → map (seat_of (seating_of w)) (seat_numbers w seats) ≡ seats
  seats_back [] e = refl
  seats_back (seat ∷ seats) e =
      ap (λ (x : Seat). x ∷ map (seat_of (seating_of w)) (seat_numbers w seats)) (seat_back seat (first_true (is_seat w seat) (list_all (is_seat w) seats) e))
      ∙ ap (λ (xs : List Seat). seat ∷ xs) (seats_back seats (second_true (is_seat w seat) (list_all (is_seat w) seats) e))

  -- the line of a proposer with a seat, by the number of the seat
  abbrev pub seat_data : Side → ℕ × ℕ → LineData
  seat_data side pair = best_seat side pair.0 (seat_of (seating_of w) pair.1)

  -- a line with the keyword of first seats is such a line
  pub read_first : (y : LineData) → fits (Two w) y ≡ true → begins (opening_of y) keyword.First ≡ true → IsLineFor (seat_data Proposers) (first_in w) y
  read_first (LineData.First p seat) f e =
      record { thing = (p, seat_number w seat); says = refl; is = ap (λ (x : Seat). LineData.First p x) (seat_back seat (first_true (is_seat w seat) true f)) }
  read_first _ f e = absurd (false≢true e)

  -- and so is one with the keyword of last seats
  pub read_last : (y : LineData) → fits (Two w) y ≡ true → begins (opening_of y) keyword.Last ≡ true → IsLineFor (seat_data Reviewers) (last_in w) y
  read_last (LineData.Last p seat) f e =
      record { thing = (p, seat_number w seat); says = refl; is = ap (λ (x : Seat). LineData.Last p x) (seat_back seat (first_true (is_seat w seat) true f)) }
  read_last _ f e = absurd (false≢true e)

-- The pairs of a matching of the seats.

-- that of a market
pub market_held : {l : Lists} {m : Places} → IsMarket l → IsMatching l m → IsFirstHeld l.proposers m.proposers
market_held h f = record {
  one_each = f.proposers.one_each;
  on_list = f.proposers.on_list;
  first = λ p i e. place_of-entry h.proposers p i (f.proposers.on_list p i e);
}

-- the lines of the first seats come into the order of the proposers
pub firsts_in_order : (w : Written) (m : Places) (pairs : List (ℕ × ℕ)) → IsMarket (seat_market w) → IsMatching (seat_market w) m → ArePairsOf (seat_market w).proposers m.proposers pairs
    → IsReordered (map (seat_data w Proposers) pairs) (lines_from (seat_line Proposers (seating_of w) m) 0 (length (seat_market w).proposers))
firsts_in_order w m pairs h f are =
    subst (IsReordered (map (seat_data w Proposers) pairs)) (lines_from-same given shown (λ p. by_place p (held m.proposers p)) 0 (length (seat_market w).proposers))
    (pairs_in_order (seat_data w Proposers) (λ x y. refl) (λ x. refl) (seat_market w).proposers m.proposers pairs (market_held h f) are)
  where
    given : ℕ → Option LineData
    given p = option_map (seat_data w Proposers) (pair_of (seat_market w).proposers m.proposers p)

    shown : ℕ → Option LineData
    shown p = seat_line Proposers (seating_of w) m p

    by_place : (p : ℕ) (o : Option ℕ) → option_map (seat_data w Proposers) (option_map (λ i. (p, entry (seat_market w).proposers p i)) o)
        ≡ option_map (λ i. best_seat Proposers p (seat_of (seating_of w) (entry (seat_market w).proposers p i))) o
    by_place p None = refl
    by_place p (Some i) = refl

-- and so do those of the last seats
pub lasts_in_order : (w : Written) (m : Places) (pairs : List (ℕ × ℕ)) → IsMarket (seat_market w) → IsMatching (seat_market w) m → ArePairsOf (seat_market w).proposers m.proposers pairs
    → IsReordered (map (seat_data w Reviewers) pairs) (lines_from (seat_line Reviewers (seating_of w) m) 0 (length (seat_market w).proposers))
lasts_in_order w m pairs h f are =
    subst (IsReordered (map (seat_data w Reviewers) pairs)) (lines_from-same given shown (λ p. by_place p (held m.proposers p)) 0 (length (seat_market w).proposers))
    (pairs_in_order (seat_data w Reviewers) (λ x y. refl) (λ x. refl) (seat_market w).proposers m.proposers pairs (market_held h f) are)
  where
    given : ℕ → Option LineData
    given p = option_map (seat_data w Reviewers) (pair_of (seat_market w).proposers m.proposers p)

    shown : ℕ → Option LineData
    shown p = seat_line Reviewers (seating_of w) m p

    by_place : (p : ℕ) (o : Option ℕ) → option_map (seat_data w Reviewers) (option_map (λ i. (p, entry (seat_market w).proposers p i)) o)
        ≡ option_map (λ i. best_seat Reviewers p (seat_of (seating_of w) (entry (seat_market w).proposers p i))) o
    by_place p None = refl
    by_place p (Some i) = refl
