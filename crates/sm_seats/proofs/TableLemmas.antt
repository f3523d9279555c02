-- What stands in the tables that are made on the way to the market of seats.
use Rattle.std.proofs.Common.{◌≡◌, ℕ, ◌+◌, ◌-◌, ◌*◌, ◌<◌, ◌≤◌, ◌++◌, ◌∷◌, [], true, false, cond, nat_eq, List, length, take, drop, map, get_or, min, sym, ap, ◌∙◌, arith, inl, inr}
use Rattle.std.specs.List.{filter, flat_map, range_with_len}
use Rattle.std.proofs.lemmas.Bool.{cases_lt, eqb-true, cases_Bool}
use Rattle.std.proofs.lemmas.List.{length_push, length-take, length-take-le, get_or-map, length-map, get_or_past, length-append, append-nil}
use Rattle.std.proofs.lemmas.List.Concat.{flat_map-append}
use Rattle.std.proofs.lemmas.List.FromFn.{get_or-map-range_with_len, length-map-range_with_len, length-range_with_len}
use Rattle.sm_lists.specs.Rows.{place_on}
use Rattle.sm_lists.specs.Rows.{row as table_row, entry as table_entry}
use Rattle.sm_agents.specs.Written.{AgentData, Written, no_agent, row, entry, place_of, capacity_of}
use Rattle.sm_agents.specs.Sound.{IsInstance}
use Rattle.std.proofs.lemmas.List.Sums.{length-filter, count_by-le-length}
use Rattle.sm_instance.proofs.AcceptLemmas.{lt_true, proposer_row_fits}
use Rattle.sm_seats.specs.Mutual.{lists_back, mutual_row}
use Rattle.sm_seats.specs.SeatMarket.{seat_count, seats_before, seats_at}
use Rattle.sm_seats.specs.Tables.{mutual_before, mutual_places_at, inert_places_at, inert_places_of, reviewers_before, seats_listed, seat_places_at, seat_places_of, begin_of}
use Rattle.sm_seats.specs.Counted.{acceptable_at, seat_numbers_of, first_seats_of}
use Rattle.sm_seats.proofs.MutualLemmas.{IsMutual, mutual_turned, mutual_on_row}
use Rattle.sm_seats.proofs.SeatLemmas.{seat_count-le-capacity, seats_before_more, seats_end}
use Rattle.sm_seats.proofs.PieceLemmas.{numbers_between}
use Rattle.sm_seats.proofs.SeatPlaces.{first_place}
use Rattle.sm_seats.proofs.FilterLemmas.{whole_before, pieces_up}
use Rattle.sm_seats.proofs.CrossLemmas.{back_more, back_same, filter-take_place}

-- Counts along a list.

-- so many of the first n on a list list its owner
pub record IsCounted (agents others : List AgentData) (a n count : ℕ) : Type 0 where
  pub few : count ≤ n
  pub counted : count ≡ length (filter (lists_back others a) (take n (row agents a)))

-- one more of them does
pub count_more : {agents others : List AgentData} {a i count : ℕ} → i < length (row agents a) → lists_back others a (entry agents a i) ≡ true → IsCounted agents others a i count → IsCounted agents others a (i + 1) (count + 1)
count_more {agents} {others} {a} {i} {count} on yes_ c =
    let long = ap length (back_more agents others a i on yes_) ∙ length_push (filter (lists_back others a) (take i (row agents a))) (entry agents a i) in
    record { few = omega (arith, c.few); counted = omega (arith, long, c.counted) }

-- the next one doesn't
pub count_same : {agents others : List AgentData} {a i count : ℕ} → i < length (row agents a) → lists_back others a (entry agents a i) ≡ false → IsCounted agents others a i count → IsCounted agents others a (i + 1) count
count_same {agents} {others} {a} {i} {count} on no_ c =
    let long = ap length (back_same agents others a i on no_) in
    record { few = omega (arith, c.few); counted = omega (arith, long, c.counted) }

-- so many of its first seats p lists
pub record IsListed (w : Written) (p n count : ℕ) : Type 0 where
  pub few : count ≤ n * 4096
  pub counted : count ≡ seats_listed w p n

-- before a later place it lists no fewer
pub seats_listed-le : (w : Written) (p i n : ℕ) → i ≤ n → seats_listed w p i ≤ seats_listed w p n
seats_listed-le w p i n le = pieces_up (seats_at w) (lists_back w.reviewers p) (row w.proposers p) i n le

pub seats_joined : (w : Written) (xs : List ℕ) (r : ℕ) → length (flat_map (seats_at w) (xs ++ r ∷ [])) ≡ length (flat_map (seats_at w) xs) + seat_count w r
seats_joined w xs r =
    let one : seats_at w r ++ [] ≡ seats_at w r = append-nil (seats_at w r) in
    ap length (flat_map-append (seats_at w) xs (r ∷ [])) ∙ length-append (flat_map (seats_at w) xs) (seats_at w r ++ [])
    ∙ ap (λ l. length (flat_map (seats_at w) xs) + length l) one
    ∙ ap (λ n. length (flat_map (seats_at w) xs) + n) (length-range_with_len (seats_before w r) (seat_count w r))

module _ {w : Written} (h : IsInstance w) where
  -- a capacity is at most 4096
  pub capacity-le : (r : ℕ) → capacity_of w.reviewers r ≤ 4096
  capacity-le r = elim (cases_lt r (length w.reviewers)) [
    | inl here ↦ (h.reviewers.sound r here).capacity
    | inr past ↦ let none : capacity_of w.reviewers r ≡ 0 = ap (λ (x : AgentData). x.capacity) (get_or_past w.reviewers r no_agent past) in omega arith
  ]

  -- and so is the number of a reviewer's seats
  pub seat_count-le : (r : ℕ) → seat_count w r ≤ 4096
  seat_count-le r = omega (arith, seat_count-le-capacity w r, capacity-le r)

  -- the next reviewer lists p, and adds its seats
  pub list_more : {p i count : ℕ} → i < length (row w.proposers p) → lists_back w.reviewers p (entry w.proposers p i) ≡ true → IsListed w p i count → IsListed w p (i + 1) (count + seat_count w (entry w.proposers p i))
  list_more {p} {i} {count} on yes_ c =
      let r = entry w.proposers p i in
      let more = ap (λ l. length (flat_map (seats_at w) l)) (back_more w.proposers w.reviewers p i on yes_) ∙ seats_joined w (reviewers_before w p i) r in
      record { few = omega (arith, c.few, seat_count-le r); counted = omega (arith, more, c.counted) }

  -- the next reviewer doesn't list p, and adds none
  pub list_same : {p i count : ℕ} → i < length (row w.proposers p) → lists_back w.reviewers p (entry w.proposers p i) ≡ false → IsListed w p i count → IsListed w p (i + 1) count
  list_same {p} {i} {count} on no_ c =
      let same = ap (λ l. length (flat_map (seats_at w) l)) (back_same w.proposers w.reviewers p i on no_) in
      record { few = omega (arith, c.few); counted = omega (arith, same, c.counted) }

  seats_of_some : (xs : List ℕ) → length (flat_map (seats_at w) xs) ≤ length xs * 4096
  seats_of_some [] = omega arith
  seats_of_some (x ∷ xs) =
      let long = length-append (seats_at w x) (flat_map (seats_at w) xs) in
      omega (arith, length-range_with_len (seats_before w x) (seat_count w x), seat_count-le x, seats_of_some xs)

  -- so many that they can be counted
  pub begin-le : (r p : ℕ) → begin_of w r p ≤ 16777216
  begin-le r p =
      let i : ℕ = place_of w.proposers p r in
      let some : List ℕ = reviewers_before w p i in
      let few = length-filter (lists_back w.reviewers p) (take i (row w.proposers p)) in
      let fewer = count_by-le-length (lists_back w.reviewers p) (take i (row w.proposers p)) in
      omega (arith, seats_of_some some, few, fewer, length-take i (row w.proposers p), proposer_row_fits h p)

-- What is read of the tables.

-- the number of r's first seat, or behind the last reviewer how many seats there are
pub first_seat_at : (w : Written) (r : ℕ) → r ≤ length w.reviewers → get_or (first_seats_of w) r 0 ≡ seats_before w r
first_seat_at w r le = get_or-map-range_with_len (seats_before w) 0 (length w.reviewers + 1) r r 0 (omega arith) (omega arith)

-- the row of a reviewer in the table of lists with inert entries
pub inert_row_at : (w : Written) (r : ℕ) → r < length w.reviewers → table_row (inert_places_of w) r ≡ inert_places_at w r
inert_row_at w r there = get_or-map-range_with_len (inert_places_at w) 0 (length w.reviewers) r r [] there (omega arith)

-- the places that are read of a table of a list with inert entries, or without a table
module _ (w : Written) (r j : ℕ) (on : j < length (row w.reviewers r)) where
  -- where there is a table of its list, the place is read there
  pub mutual_place_read : j < length (inert_places_at w r) → get_or (inert_places_at w r) j 0 ≡ mutual_before w r j
  mutual_place_read there = elim (cases_Bool (nat_eq (acceptable_at w r) (length (row w.reviewers r)))) [
    | inl whole ↦
        let none_ : length (inert_places_at w r) ≡ 0 = ap (λ b. length (cond b [] (mutual_places_at w r))) whole in
        omega (arith, none_, there)
    | inr other ↦
        ap (λ b. get_or (cond b [] (mutual_places_at w r)) j 0) other
        ∙ get_or-map-range_with_len (mutual_before w r) 0 (length (row w.reviewers r)) j j 0 on (omega arith)
  ]

  -- without a table of its list the place is that of the written list
  pub mutual_place_same : length (inert_places_at w r) ≤ j → j ≡ mutual_before w r j
  mutual_place_same past = elim (cases_Bool (nat_eq (acceptable_at w r) (length (row w.reviewers r)))) [
    | inl whole ↦ sym (whole_before (lists_back w.proposers r) (row w.reviewers r) j (eqb-true _ _ whole) (omega (arith, on)))
    | inr other ↦
        let long : length (inert_places_at w r) ≡ length (row w.reviewers r) = ap (λ b. length (cond b [] (mutual_places_at w r))) other ∙ length-map-range_with_len (mutual_before w r) 0 (length (row w.reviewers r)) in
        omega (arith, long, past, on)
  ]

-- the place where the seats of the reviewer at place i begin on p's list of seats
pub seat_place_at : (w : Written) (p i : ℕ) → p < length w.proposers → i ≤ length (row w.proposers p) → table_entry (seat_places_of w) p i ≡ seats_listed w p i
seat_place_at w p i there on =
    ap (λ l. get_or l i 0) (get_or-map-range_with_len (seat_places_at w) 0 (length w.proposers) p p [] there (omega arith))
    ∙ get_or-map-range_with_len (seats_listed w p) 0 (length (row w.proposers p) + 1) i i 0 (omega arith) (omega arith)

-- all such places of p
pub seat_row_at : (w : Written) (p : ℕ) → p < length w.proposers → table_row (seat_places_of w) p ≡ seat_places_at w p
seat_row_at w p there = get_or-map-range_with_len (seat_places_at w) 0 (length w.proposers) p p [] there (omega arith)

-- the place of a mutual agent on the list without inert entries
pub mutual_before_is : (w : Written) {p r : ℕ} → IsMutual w.proposers w.reviewers p r → mutual_before w r (place_of w.reviewers r p) ≡ place_on (mutual_row w.reviewers w.proposers r) p
mutual_before_is w {p} {r} m =
    let list : List ℕ = mutual_row w.reviewers w.proposers r in
    let on : place_on list p < length list = mutual_on_row (mutual_turned m) in
    ap length (filter-take_place (lists_back w.proposers r) (row w.reviewers r) p (lt_true _ _ m.lists) m.listed) ∙ length-take-le (place_on list p) list (omega arith)

-- the place where the seats of a mutual reviewer begin
pub begin_of-first_place : (w : Written) {p r : ℕ} → IsMutual w.proposers w.reviewers p r → begin_of w r p ≡ first_place w p r
begin_of-first_place w {p} {r} m = ap (λ l. length (flat_map (seats_at w) l)) (filter-take_place (lists_back w.reviewers p) (row w.proposers p) r (lt_true _ _ m.listed) m.lists)

-- what is read of the first seats
pub record AreSeatsRead (w : Written) (firsts : List ℕ) (r : ℕ) : Type 0 where
  pub inside : r + 1 < length firsts
  pub first : get_or firsts r 0 ≡ seats_before w r
  pub next : get_or firsts (r + 1) 0 ≡ seats_before w r + seat_count w r
  pub count : get_or firsts (r + 1) 0 - get_or firsts r 0 ≡ seat_count w r
  pub within : get_or firsts (r + 1) 0 ≤ seats_before w (length w.reviewers)

-- the numbers of r's first seat and of the one behind its last tell how many seats r has
pub seats_read : (w : Written) {firsts : List ℕ} (r : ℕ) → firsts ≡ first_seats_of w → r < length w.reviewers → AreSeatsRead w firsts r
seats_read w {firsts} r is there =
    let long = ap length is ∙ length-map-range_with_len (seats_before w) 0 (length w.reviewers + 1) in
    let first : get_or firsts r 0 ≡ seats_before w r = ap (λ l. get_or l r 0) is ∙ first_seat_at w r (omega arith) in
    let next : get_or firsts (r + 1) 0 ≡ seats_before w r + seat_count w r = ap (λ l. get_or l (r + 1) 0) is ∙ first_seat_at w (r + 1) (omega arith) ∙ seats_before_more w r in
    record { inside = omega (arith, long); first = first; next = next; count = omega (arith, first, next); within = omega (arith, next, seats_end w r (length w.reviewers) there) }

-- so many seats there are
pub length-numbers : (w : Written) (numbers : List ℕ) → numbers ≡ seat_numbers_of w → length numbers ≡ seats_before w (length w.reviewers)
length-numbers w numbers is = ap length is ∙ length-range_with_len 0 (seats_before w (length w.reviewers))

-- the seats of r, among all
pub seats_between : (w : Written) {firsts : List ℕ} (numbers : List ℕ) (r : ℕ) → numbers ≡ seat_numbers_of w → AreSeatsRead w firsts r
    → take (get_or firsts (r + 1) 0 - get_or firsts r 0) (drop (get_or firsts r 0) numbers) ≡ seats_at w r
seats_between w {firsts} numbers r is s =
    let from : ℕ = get_or firsts r 0 in
    let size : ℕ = get_or firsts (r + 1) 0 - get_or firsts r 0 in
    ap (λ l. take size (drop from l)) is ∙ numbers_between (seats_before w (length w.reviewers)) from size (omega (arith, s.within, s.first, s.next))
    ∙ ap (range_with_len from) s.count ∙ ap (λ n. range_with_len n (seat_count w r)) s.first

-- the seats of r, and the entries on their lists, where they are counted
pub count_is : (w : Written) (r : ℕ) {count capacity acceptable : ℕ} → count ≡ min capacity acceptable → capacity ≡ capacity_of w.reviewers r → acceptable ≡ length (mutual_row w.reviewers w.proposers r) → count ≡ seat_count w r
count_is w r {count} {capacity} {acceptable} is c a = is ∙ ap (λ x. min x acceptable) c ∙ ap (min (capacity_of w.reviewers r)) a

-- the numbers at which seats begin are small
pub begins_small : {w : Written} → IsInstance w → (r : ℕ) (list begins : List ℕ) → begins ≡ map (begin_of w r) list → (i : ℕ) → get_or begins i 0 ≤ 16777216
begins_small {w} h r list begins is i = elim (cases_lt i (length list)) [
  | inl here ↦
      let at : get_or begins i 0 ≡ begin_of w r (get_or list i 0) = ap (λ l. get_or l i 0) is ∙ get_or-map (begin_of w r) list i 0 0 here in
      omega (arith, at, begin-le h r (get_or list i 0))
  | inr past ↦
      let none : get_or begins i 0 ≡ 0 = ap (λ l. get_or l i 0) is ∙ get_or_past (map (begin_of w r) list) i 0 (omega (arith, length-map list (begin_of w r))) in
      omega arith
]

-- the same where the reviewer is read of a proposer's list
pub read_at : (w : Written) (p i : ℕ) {firsts list : List ℕ} → IsInstance w → firsts ≡ first_seats_of w → list ≡ row w.proposers p → i < length (row w.proposers p) → AreSeatsRead w firsts (get_or list i 0)
read_at w p i {firsts} {list} h is same on =
    let there = (h.proposer_entries.sound p i on).in_range in
    let named : get_or list i 0 ≡ entry w.proposers p i = ap (λ l. get_or l i 0) same in
    seats_read w (get_or list i 0) is (omega arith)

-- and who that reviewer is
pub named_at : (w : Written) (p i : ℕ) {list : List ℕ} → IsInstance w → list ≡ row w.proposers p → i < length (row w.proposers p) → (get_or list i 0 ≡ entry w.proposers p i) × (get_or list i 0 < length w.reviewers)
named_at w p i {list} h same on =
    let there = (h.proposer_entries.sound p i on).in_range in
    let named : get_or list i 0 ≡ entry w.proposers p i = ap (λ l. get_or l i 0) same in
    (named, omega arith)
