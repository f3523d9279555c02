-- Seats by number: of which reviewer a seat is.
use Rattle.std.proofs.Common.{◌≡◌, ℕ, zero, suc, ◌+◌, ◌-◌, ◌<◌, ◌≤◌, ◌++◌, [], ◌∷◌, length, take, get_or, refl, sym, ap, ◌∙◌, arith, inl, inr}
use Rattle.std.specs.List.{flat_map, range_with_len, sum_by}
use Rattle.std.proofs.lemmas.Bool.{cases_lt, cases_eq}
use Rattle.std.proofs.lemmas.List.{get_or_past, get_or-map, length-map}
use Rattle.std.proofs.lemmas.List.Sums.{sum_by_push}
use Rattle.std.proofs.lemmas.List.Concat.{get_or-flat_map, flat_map-append}
use Rattle.std.proofs.lemmas.List.{length-append}
use Rattle.std.proofs.lemmas.List.FromFn.{get_or-range_with_len, length-range_with_len, get_or-map-range_with_len, length-map-range_with_len}
use Rattle.sm_agents.specs.Written.{AgentData, Written, no_agent, capacity_of}
use Rattle.sm_market.specs.Lists.{row}
use Rattle.sm_seats.specs.Mutual.{mutual_row}
use Rattle.sm_seats.specs.SeatMarket.{seat_count, seats_before, named_seats, seats_of, seat_market, row_of_seat}
use Rattle.sm_lists.proofs.RangeLemmas.{range_more}
use Rattle.sm_seats.proofs.PieceLemmas.{take-range}

-- the k-th seat of r, from 0 on
pub record IsSeatOf (w : Written) (seat r k : ℕ) : Type 0 where
  pub is : seat ≡ seats_before w r + k
  pub below : k < seat_count w r

-- one more reviewer
pub seats_before_more : (w : Written) (r : ℕ) → seats_before w (r + 1) ≡ seats_before w r + seat_count w r
seats_before_more w r = ap (sum_by (seat_count w)) (range_more 0 r r (omega arith)) ∙ sum_by_push (seat_count w) (range_with_len 0 r) r

-- seats are no more than places
pub seat_count-le-capacity : (w : Written) (r : ℕ) → seat_count w r ≤ capacity_of w.reviewers r
seat_count-le-capacity w r = omega arith

-- and no more than acceptable proposers
pub seat_count-le-row : (w : Written) (r : ℕ) → seat_count w r ≤ length (mutual_row w.reviewers w.proposers r)
seat_count-le-row w r = omega arith

-- only a reviewer that is there has seats
pub has_seats : (w : Written) (r k : ℕ) → k < seat_count w r → r < length w.reviewers
has_seats w r k h = elim (cases_lt r (length w.reviewers)) [
  | inl here ↦ here
  | inr past ↦
      let none : capacity_of w.reviewers r ≡ 0 = ap (λ (x : AgentData). x.capacity) (get_or_past w.reviewers r no_agent past) in
      absurd (omega (arith, none, seat_count-le-capacity w r))
]

-- a reviewer's seats come before those of a later one
pub seats_end : (w : Written) (r n : ℕ) → r < n → seats_before w r + seat_count w r ≤ seats_before w n
seats_end w r zero less = absurd (omega arith)
seats_end w r (suc n) less =
    let more : seats_before w (suc n) ≡ seats_before w n + seat_count w n = ap (seats_before w) (let e : suc n ≡ n + 1 = omega arith in e) ∙ seats_before_more w n in
    elim (cases_eq r n) [
      | inl same ↦
          let a = ap (seats_before w) same in
          let b = ap (seat_count w) same in
          omega (arith, more, a, b)
      | inr other ↦ let deep = seats_end w r n (omega arith) in omega (arith, more)
    ]

-- a seat is of one reviewer, and has one number there
pub one_reviewer : {w : Written} {seat r k s j : ℕ} → IsSeatOf w seat r k → IsSeatOf w seat s j → r ≡ s
one_reviewer {w} {seat} {r} {k} {s} {j} a b = elim (cases_lt r s) [
  | inl less ↦ absurd (omega (arith, a.is, a.below, b.is, seats_end w r s less))
  | inr ge ↦ elim (cases_lt s r) [
    | inl less ↦ absurd (omega (arith, a.is, b.below, b.is, seats_end w s r less))
    | inr le ↦ omega arith
  ]
]

-- and it has one number there
pub one_number : {w : Written} {seat r k s j : ℕ} → IsSeatOf w seat r k → IsSeatOf w seat s j → k ≡ j
one_number {w} a b = let same = ap (seats_before w) (one_reviewer a b) in omega (arith, a.is, b.is)

-- each seat is of a reviewer
pub record IsSeat (w : Written) (seat : ℕ) : Type 0 where
  pub reviewer : ℕ
  pub number : ℕ
  pub of : IsSeatOf w seat reviewer number

-- one is found for each number that is low enough
pub seat_found : (w : Written) (seat n : ℕ) → seat < seats_before w n → IsSeat w seat
seat_found w seat zero h = absurd (omega arith)
seat_found w seat (suc n) h =
    let more : seats_before w (suc n) ≡ seats_before w n + seat_count w n = ap (seats_before w) (let e : suc n ≡ n + 1 = omega arith in e) ∙ seats_before_more w n in
    elim (cases_lt seat (seats_before w n)) [
      | inl less ↦ seat_found w seat n less
      | inr ge ↦ record { reviewer = n; number = seat - seats_before w n; of = record { is = omega arith; below = omega (arith, more) } }
    ]

-- a reviewer has as many names as seats
pub length-names : (w : Written) (r : ℕ) → length (named_seats w r) ≡ seat_count w r
length-names w r = length-map-range_with_len {X = ℕ × ℕ} (λ k. (r, k)) 1 (seat_count w r)

-- how many seats there are
pub length-named : (w : Written) (n : ℕ) → length (flat_map (named_seats w) (range_with_len 0 n)) ≡ seats_before w n
length-named w zero = refl
length-named w (suc n) =
    let k1 : suc n ≡ n + 1 = omega arith in
    let one = length-names w n in
    let none : named_seats w n ++ [] ≡ named_seats w n = Rattle.std.proofs.Common.append-nil (named_seats w n) in
    ap (λ m. length (flat_map (named_seats w) (range_with_len 0 m))) k1
    ∙ ap (λ l. length (flat_map (named_seats w) l)) (range_more 0 n n (omega arith))
    ∙ ap length (flat_map-append (named_seats w) (range_with_len 0 n) (n ∷ []))
    ∙ length-append (flat_map (named_seats w) (range_with_len 0 n)) (named_seats w n ++ [])
    ∙ ap (λ l. length (flat_map (named_seats w) (range_with_len 0 n)) + length l) none
    ∙ (let deep = length-named w n in let more = seats_before_more w n in let e : length (flat_map (named_seats w) (range_with_len 0 n)) + length (named_seats w n) ≡ seats_before w (n + 1) = omega (arith, deep, more, one) in e)
    ∙ ap (seats_before w) (sym k1)

-- the same of all reviewers
pub length-seats : (w : Written) → length (seats_of w) ≡ seats_before w (length w.reviewers)
length-seats w = length-named w (length w.reviewers)

-- and of the market's lists
pub length-reviewers : (w : Written) → length (seat_market w).reviewers ≡ seats_before w (length w.reviewers)
length-reviewers w = length-map (seats_of w) (row_of_seat w) ∙ length-seats w

-- a reviewer's seat is one of the market
pub seat_there : {w : Written} {seat r k : ℕ} → IsSeatOf w seat r k → seat < seats_before w (length w.reviewers)
seat_there {w} {seat} {r} {k} h = omega (arith, h.is, h.below, seats_end w r (length w.reviewers) (has_seats w r k h.below))

-- the name of a seat
pub seat_name : {w : Written} {seat r k : ℕ} → IsSeatOf w seat r k → get_or (seats_of w) seat (0, 0) ≡ (r, k + 1)
seat_name {w} {seat} {r} {k} h =
    let all = range_with_len 0 (length w.reviewers) in
    let there = has_seats w r k h.below in
    let this : get_or all r 0 ≡ r = get_or-range_with_len 0 (length w.reviewers) r 0 there ∙ (let e : 0 + r ≡ r = omega arith in e) in
    let long = length-names w r in
    let inside : k < length (named_seats w (get_or all r 0)) = rw this (omega (arith, h.below)) in
    let before : length (flat_map (named_seats w) (take r all)) ≡ seats_before w r = ap (λ l. length (flat_map (named_seats w) l)) (take-range 0 (length w.reviewers) r (omega arith)) ∙ length-named w r in
    let at : seat ≡ length (flat_map (named_seats w) (take r all)) + k = omega (arith, h.is, before) in
    let length_all = length-range_with_len 0 (length w.reviewers) in
    ap (λ i. get_or (seats_of w) i (0, 0)) at
    ∙ get_or-flat_map (named_seats w) all r k 0 (0, 0) (omega arith) inside
    ∙ ap (λ x. get_or (named_seats w x) k (0, 0)) this
    ∙ get_or-map-range_with_len {X = ℕ × ℕ} (λ j. (r, j)) 1 (seat_count w r) k (k + 1) (0, 0) h.below (omega arith)

-- the list of a seat
pub row-seat : {w : Written} {seat r k : ℕ} → IsSeatOf w seat r k → row (seat_market w).reviewers seat ≡ mutual_row w.reviewers w.proposers r
row-seat {w} {seat} {r} {k} h =
    let there = seat_there h in
    let long = length-seats w in
    get_or-map (row_of_seat w) (seats_of w) seat (0, 0) [] (omega arith) ∙ ap (row_of_seat w) (seat_name h)

-- whoever has an entry on a seat's list has a seat
pub listed_seat : (w : Written) (seat i : ℕ) → i < length (row (seat_market w).reviewers seat) → IsSeat w seat
listed_seat w seat i h = elim (cases_lt seat (seats_before w (length w.reviewers))) [
  | inl less ↦ seat_found w seat (length w.reviewers) less
  | inr past ↦ absurd (let none = ap length (get_or_past (seat_market w).reviewers seat [] (omega (arith, length-reviewers w))) in omega arith)
]
