-- A market of few seats is within its limits.
use Rattle.std.proofs.Common.{◌≡◌, ℕ, zero, suc, ◌+◌, ◌*◌, ◌<◌, ◌≤◌, ◌++◌, Bool, false, nat_lt, Some, None, List, [], ◌∷◌, length, map, get_or, min, ltb-false, refl, sym, ap, ◌∙◌, subst, arith, inl, inr}
use Rattle.std.proofs.lemmas.Nat.{mul-le}
use Rattle.std.specs.List.{flat_map, range_with_len, sum_by, All}
use Rattle.std.proofs.lemmas.List.Sums.{sum_by_push, sum_by-append, sum_by-le}
use Rattle.std.proofs.lemmas.List.Concat.{flat_map-append}
use Rattle.std.specs.List.{position_or_len}
use Rattle.std.proofs.lemmas.Bool.{cases_eq, false≢true, le-ltb}
use Rattle.std.proofs.lemmas.List.Sums.{position_or_len_is, passes_at_first, fails_before_first}
use Rattle.std.proofs.lemmas.Option.{none-some}
use Rattle.std.proofs.lemmas.List.FromFn.{get_or-range_with_len, length-range_with_len}
use Rattle.sm_text.specs.Limits.{most_seat_entries}
use Rattle.sm_instance.proofs.AcceptLemmas.{lt_true}
use Rattle.sm_theory.proofs.Bridge.Places.{position_cases}
use Rattle.sm_agents.specs.Written.{Written, row, capacity_of}
use Rattle.sm_agents.specs.Faults.{HasSoundEntries}
use Rattle.sm_market.specs.Limits.{IsWithinLimits}
use Rattle.sm_seats.specs.Mutual.{lists_back, mutual_row}
use Rattle.sm_seats.specs.SeatMarket.{seat_count, seats_before, named_seats, seats_of, row_of_seat, seat_market}
use Rattle.sm_seats.specs.SeatEntries.{seat_entries, seat_entries_before, AreFewSeats, IsFirstTooMany, first_too_many}
use Rattle.sm_lists.proofs.RangeLemmas.{range_more}
use Rattle.sm_seats.proofs.SeatLemmas.{seats_before_more, seat_count-le-row, length-reviewers, length-names}
use Rattle.sm_seats.proofs.MarketLaws.{length-proposers, is_market}
use Rattle.sm_seats.proofs.EntryLemmas.{entries-le}
use Rattle.sm_seats.proofs.FilterLemmas.{length-filter-le}

-- one more reviewer
pub seat_entries_before-suc : (w : Written) (n : ℕ) → seat_entries_before w (n + 1) ≡ seat_entries_before w n + seat_entries w n
seat_entries_before-suc w n = ap (sum_by (seat_entries w)) (range_more 0 n n (omega arith)) ∙ sum_by_push (seat_entries w) (range_with_len 0 n) n

-- no more than the seats would have if the whole list were acceptable
pub seat_entries-le : (w : Written) (r : ℕ) {count capacity len : ℕ} → count ≡ min capacity len → capacity ≡ capacity_of w.reviewers r → len ≡ length (row w.reviewers r) → seat_entries w r ≤ count * len
seat_entries-le w r {count} {capacity} {len} is c l =
    let fewer = length-filter-le (lists_back w.proposers r) (row w.reviewers r) in
    mul-le (seat_count w r) (length (mutual_row w.reviewers w.proposers r)) count len (omega (arith, is, c, l, fewer)) (omega (arith, l, fewer))

-- no more than those of all later ones with them
pub seat_entries_end : (w : Written) (r n : ℕ) → r < n → seat_entries_before w (r + 1) ≤ seat_entries_before w n
seat_entries_end w r zero less = absurd (omega arith)
seat_entries_end w r (suc n) less =
    let more : seat_entries_before w (suc n) ≡ seat_entries_before w n + seat_entries w n = ap (seat_entries_before w) (let e : suc n ≡ n + 1 = omega arith in e) ∙ seat_entries_before-suc w n in
    elim (cases_eq r n) [
      | inl same ↦ let e : seat_entries_before w (r + 1) ≡ seat_entries_before w (suc n) = ap (seat_entries_before w) (let e : r + 1 ≡ suc n = omega (arith, same) in e) in omega (arith, e)
      | inr other ↦ let deep = seat_entries_end w r n (omega (arith, less, other)) in omega (arith, more, deep)
    ]

-- the lists of one reviewer's seats
abbrev length_at : Written → (ℕ × ℕ) → ℕ
length_at w seat = length (row_of_seat w seat)

all_alike : (w : Written) (r a n : ℕ) → All (λ seat. length_at w seat ≤ length (mutual_row w.reviewers w.proposers r)) (map {B = ℕ × ℕ} (λ k. (r, k)) (range_with_len a n))
all_alike w r a zero = grind arith
all_alike w r a (suc n) = grind (arith, all_alike w r (a + 1) n)

one_reviewer_lists : (w : Written) (r : ℕ) → sum_by (length_at w) (named_seats w r) ≤ seat_entries w r
one_reviewer_lists w r =
    let le = sum_by-le (length_at w) (length (mutual_row w.reviewers w.proposers r)) (named_seats w r) (all_alike w r 1 (seat_count w r)) in
    let n = ap (λ k. k * length (mutual_row w.reviewers w.proposers r)) (length-names w r) in
    omega (arith, n)

few_lists : (w : Written) (n : ℕ) → sum_by (length_at w) (flat_map (named_seats w) (range_with_len 0 n)) ≤ seat_entries_before w n
few_lists w zero = omega arith
few_lists w (suc n) =
    let k1 : suc n ≡ n + 1 = omega arith in
    let none : named_seats w n ++ [] ≡ named_seats w n = Rattle.std.proofs.Common.append-nil (named_seats w n) in
    let all : flat_map (named_seats w) (range_with_len 0 (suc n)) ≡ flat_map (named_seats w) (range_with_len 0 n) ++ named_seats w n =
    ap (λ m. flat_map (named_seats w) (range_with_len 0 m)) k1 ∙ ap (flat_map (named_seats w)) (range_more 0 n n (omega arith))
    ∙ flat_map-append (named_seats w) (range_with_len 0 n) (n ∷ []) ∙ ap (λ l. flat_map (named_seats w) (range_with_len 0 n) ++ l) none in
    let parts = sum_by-append (length_at w) (flat_map (named_seats w) (range_with_len 0 n)) (named_seats w n) in
    let whole = ap (sum_by (length_at w)) all in
    let deep = few_lists w n in
    let one = one_reviewer_lists w n in
    let more : seat_entries_before w (suc n) ≡ seat_entries_before w n + seat_entries w n = ap (seat_entries_before w) k1 ∙ seat_entries_before-suc w n in
    omega (arith, whole, parts, more)

sum_of_rows : {X : Type 0} (f : X → List ℕ) (xs : List X) → sum_by (λ (list : List ℕ). length list) (map f xs) ≡ sum_by (λ x. length (f x)) xs
sum_of_rows f [] = refl
sum_of_rows f (x ∷ xs) =
    Rattle.std.proofs.lemmas.List.Sums.sum_by-cons (λ (list : List ℕ). length list) (f x) (map f xs) ∙ ap (λ n. length (f x) + n) (sum_of_rows f xs)
    ∙ sym (Rattle.std.proofs.lemmas.List.Sums.sum_by-cons (λ y. length (f y)) x xs)

-- the lists of all seats have the seats' entries
pub reviewer_entries-le : (w : Written) → sum_by (λ (list : List ℕ). length list) (seat_market w).reviewers ≤ seat_entries_before w (length w.reviewers)
reviewer_entries-le w = omega (arith, sum_of_rows (row_of_seat w) (seats_of w), few_lists w (length w.reviewers))

-- no reviewer has more seats than entries on their lists
one_entry : (c n : ℕ) → c ≤ n → c ≤ c * n
one_entry zero n le = omega arith
one_entry (suc c) zero le = absurd (omega arith)
one_entry (suc c) (suc n) le = let e : suc c * suc n ≡ suc c + suc c * n = grind arith in omega (arith, e)

-- so there are no more seats than entries
pub seats-le-entries : (w : Written) (n : ℕ) → seats_before w n ≤ seat_entries_before w n
seats-le-entries w zero = omega arith
seats-le-entries w (suc n) =
    let k1 : suc n ≡ n + 1 = omega arith in
    let more : seat_entries_before w (suc n) ≡ seat_entries_before w n + seat_entries w n = ap (seat_entries_before w) k1 ∙ seat_entries_before-suc w n in
    let seats : seats_before w (suc n) ≡ seats_before w n + seat_count w n = ap (seats_before w) k1 ∙ seats_before_more w n in
    let deep = seats-le-entries w n in
    let one : seat_count w n ≤ seat_entries w n = one_entry (seat_count w n) (length (mutual_row w.reviewers w.proposers n)) (seat_count-le-row w n) in
    omega (arith, more, seats)

-- and both sides of the market are within its limits
pub market_within : {w : Written} → HasSoundEntries w → length w.proposers ≤ 4096 → AreFewSeats w → IsWithinLimits (seat_market w)
market_within {w} h few seats =
    let entries = reviewer_entries-le w in
    let back = entries-le (is_market h).proposers in
    let agents = seats-le-entries w (length w.reviewers) in
    record {
      proposers = record { agents = omega (arith, length-proposers w); entries = omega arith };
      reviewers = record { agents = omega (arith, length-reviewers w); entries = omega arith };
    }

-- The first reviewer with whom they are too many.

entries_rise : (w : Written) (r n : ℕ) → r ≤ n → seat_entries_before w r ≤ seat_entries_before w n
entries_rise w r zero le = (let e = ap (seat_entries_before w) (let same : r ≡ 0 = omega arith in same) in omega arith)
entries_rise w r (suc n) le =
    let more : seat_entries_before w (suc n) ≡ seat_entries_before w n + seat_entries w n = ap (seat_entries_before w) (let e : suc n ≡ n + 1 = omega arith in e) ∙ seat_entries_before-suc w n in
    elim (cases_eq r (suc n)) [
      | inl same ↦ (let e = ap (seat_entries_before w) same in omega arith)
      | inr other ↦ (let deep = entries_rise w r n (omega arith) in omega (arith, more))
    ]

is_past : Written → ℕ → Bool
is_past w r = nat_lt most_seat_entries (seat_entries_before w (r + 1))

-- where so many reviewers keep within the limit, none of them is it
none_before : (w : Written) (n k d : ℕ) → seat_entries_before w n ≤ most_seat_entries → k < n → n ≤ length w.reviewers → is_past w (get_or (range_with_len 0 (length w.reviewers)) k d) ≡ false
unfolding is_past
none_before w n k d few less le =
    let this : get_or (range_with_len 0 (length w.reviewers)) k d ≡ k = get_or-range_with_len 0 (length w.reviewers) k d (omega arith) ∙ (let e : 0 + k ≡ k = omega arith in e) in
    ap (λ r. nat_lt most_seat_entries (seat_entries_before w (r + 1))) this ∙ le-ltb _ _ (let rise = entries_rise w (k + 1) n (omega arith) in omega arith)

-- the first reviewer with whom they are too many is the one that is found
pub first_too_many-some : {w : Written} {r : ℕ} → IsFirstTooMany w r → first_too_many w ≡ Some r
unfolding is_past
first_too_many-some {w} {r} f =
    let all = range_with_len 0 (length w.reviewers) in
    let long = length-range_with_len 0 (length w.reviewers) in
    let there = f.there in
    let at : position_or_len (is_past w) all ≡ r = position_or_len_is (is_past w) all r 0 (omega arith) (λ k less. none_before w r k 0 f.earlier less (omega arith))
    (λ _.
    let this : get_or all r 0 ≡ r = get_or-range_with_len 0 (length w.reviewers) r 0 f.there ∙ (let e : 0 + r ≡ r = omega arith in e) in
    ap (λ r. nat_lt most_seat_entries (seat_entries_before w (r + 1))) this ∙ lt_true _ _ f.past) in
    elim (position_cases (is_past w) all) [
      | inl found ↦ found.0 ∙ ap Some at
      | inr none ↦ absurd (let e = none.1 in omega arith)
    ]

-- and none is found where they are few
pub first_too_many-none : (w : Written) → AreFewSeats w → first_too_many w ≡ None
unfolding is_past
first_too_many-none w few =
    let all = range_with_len 0 (length w.reviewers) in
    let long = length-range_with_len 0 (length w.reviewers) in
    elim (position_cases (is_past w) all) [
      | inr none ↦ none.0
      | inl found ↦ absurd (false≢true (sym (none_before w (length w.reviewers) (position_or_len (is_past w) all) 0 few (let l = found.1 in omega arith) (omega arith)) ∙ passes_at_first (is_past w) all 0 found.1))
    ]

-- and where none is found they are few
pub few_where_none : (w : Written) → first_too_many w ≡ None → AreFewSeats w
few_where_none w none = by_count (length w.reviewers) refl
  where
    past : ℕ → Bool
    past r = nat_lt most_seat_entries (seat_entries_before w (r + 1))

    all : List ℕ
    all = range_with_len 0 (length w.reviewers)

    by_count : (n : ℕ) → length w.reviewers ≡ n → AreFewSeats w
    by_count zero e = rw e (omega arith)
    by_count (suc n) e = elim (position_cases past all) [
      | inl found ↦ absurd (none-some _ (sym none ∙ found.0))
      | inr other ↦
          let there : n < position_or_len past all = omega (arith, other.1, e, length-range_with_len 0 (length w.reviewers)) in
          let at : get_or all n 0 ≡ n = get_or-range_with_len 0 (length w.reviewers) n 0 (omega (arith, e)) ∙ omega arith in
          let fails : past n ≡ false = ap past (sym at) ∙ fails_before_first past all n 0 there in
          let most = ltb-false most_seat_entries (seat_entries_before w (n + 1)) fails in
          let same : length w.reviewers ≡ n + 1 = omega (arith, e) in
          subst (λ (m : ℕ). seat_entries_before w m ≤ most_seat_entries) (sym same) most
    ]
