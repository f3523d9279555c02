-- Where seats stand on the lists of proposers.
use Rattle.std.proofs.Common.{◌≡◌, ℕ, ◌+◌, ◌<◌, ◌≤◌, List, [], length, get_or, refl, sym, ap, ◌∙◌, arith, inl, inr}
use Rattle.std.specs.List.{flat_map, filter}
use Rattle.std.proofs.lemmas.Bool.{cases_lt}
use Rattle.std.proofs.lemmas.List.{get_or_past}
use Rattle.std.proofs.lemmas.List.Concat.{get_or-flat_map}
use Rattle.std.proofs.lemmas.List.Folds.{length-flat_map-take}
use Rattle.std.proofs.lemmas.List.FromFn.{get_or-range_with_len, length-range_with_len, get_or-map-range_with_len, length-map-range_with_len}
use Rattle.sm_lists.specs.Rows.{place_on}
use Rattle.sm_lists.proofs.PlaceLemmas.{get_or-place_on, place_on_is}
use Rattle.sm_agents.specs.Written.{AgentData, Written, no_agent, row as written_row, place_of as written_place}
use Rattle.sm_agents.specs.Faults.{HasSoundEntries}
use Rattle.sm_market.specs.Lists.{row, entry, place_of}
use Rattle.sm_seats.specs.Mutual.{lists_back, mutual_row}
use Rattle.sm_seats.specs.SeatMarket.{seat_count, seats_before, seats_at, seat_row, seat_market}
use Rattle.sm_seats.proofs.MutualLemmas.{IsMutual, mutual_on_row, entry_mutual, order_kept, mutual_distinct, place_on-get_or}
use Rattle.sm_seats.proofs.PieceLemmas.{start_of, in_piece, piece_end}
use Rattle.sm_seats.proofs.SeatLemmas.{IsSeatOf, one_reviewer, one_number}

-- whom of the reviewers p and they accept, in p's order
abbrev pub partners : Written → ℕ → List ℕ
partners w p = mutual_row w.proposers w.reviewers p

-- a proposer's list in the market
pub row_is : (w : Written) (p : ℕ) → row (seat_market w).proposers p ≡ seat_row w p
row_is w p = elim (cases_lt p (length w.proposers)) [
  | inl here ↦ get_or-map-range_with_len (seat_row w) 0 (length w.proposers) p p [] here (omega arith)
  | inr past ↦
      let none : written_row w.proposers p ≡ [] = ap (λ (x : AgentData). x.entries) (get_or_past w.proposers p no_agent past) in
      let long = length-map-range_with_len (seat_row w) 0 (length w.proposers) in
      get_or_past (seat_market w).proposers p [] (omega arith) ∙ ap (λ l. flat_map (seats_at w) (filter (lists_back w.reviewers p) l)) (sym none)
]

-- the place on p's list where the seats of r begin
abbrev pub first_place : Written → ℕ → ℕ → ℕ
first_place w p r = start_of (seats_at w) (partners w p) (place_on (partners w p) r)

-- at place i of p's list is the k-th seat of r
pub record IsPlaced (w : Written) (p i r k : ℕ) : Type 0 where
  pub mutual_ : IsMutual w.proposers w.reviewers p r
  pub below : k < seat_count w r
  pub is : i ≡ first_place w p r + k
  pub on : i < length (row (seat_market w).proposers p)
  pub names : entry (seat_market w).proposers p i ≡ seats_before w r + k

-- that seat, by number
pub seat_at_place : {w : Written} {p i r k : ℕ} → IsPlaced w p i r k → IsSeatOf w (entry (seat_market w).proposers p i) r k
seat_at_place h = record { is = h.names; below = h.below }

-- each seat of an acceptable reviewer is there
pub placed : {w : Written} {p r k : ℕ} → IsMutual w.proposers w.reviewers p r → k < seat_count w r → IsPlaced w p (first_place w p r + k) r k
placed {w} {p} {r} {k} m below = record { mutual_ = m; below = below; is = refl; on = on; names = names }
  where
    xs : List ℕ
    xs = partners w p

    there : place_on (partners w p) r < length (partners w p)
    there = mutual_on_row m

    this : get_or (partners w p) (place_on (partners w p) r) 0 ≡ r
    this = get_or-place_on (partners w p) r there

    long : length (seats_at w (get_or (partners w p) (place_on (partners w p) r) 0)) ≡ seat_count w r
    long = ap (λ x. length (seats_at w x)) this ∙ length-range_with_len (seats_before w r) (seat_count w r)

    on : first_place w p r + k < length (row (seat_market w).proposers p)
    on = let whole = length-flat_map-take (seats_at w) (partners w p) (place_on (partners w p) r) 0 there in
        let e = ap length (row_is w p) in
        omega (arith, long)

    names : entry (seat_market w).proposers p (first_place w p r + k) ≡ seats_before w r + k
    names =
        ap (λ l. get_or l (first_place w p r + k) 0) (row_is w p)
        ∙ get_or-flat_map (seats_at w) (partners w p) (place_on (partners w p) r) k 0 0 there (omega (arith, long))
        ∙ ap (λ x. get_or (seats_at w x) k 0) this
        ∙ get_or-range_with_len (seats_before w r) (seat_count w r) k 0 below

-- each place of p's list has a seat
pub record HasSeat (w : Written) (p i : ℕ) : Type 0 where
  pub reviewer : ℕ
  pub number : ℕ
  pub at : IsPlaced w p i reviewer number

module _ {w : Written} (h : HasSoundEntries w) where
  -- at each place of a proposer's list is a seat of some reviewer
  pub seat_on : (p i : ℕ) → i < length (row (seat_market w).proposers p) → HasSeat w p i
  seat_on p i on =
      let piece = in_piece (seats_at w) (partners w p) 0 i (let e = ap length (row_is w p) in omega arith) in
      let r = get_or (partners w p) piece.piece 0 in
      let m = entry_mutual w.proposers w.reviewers p piece.piece piece.there in
      let place : place_on (partners w p) r ≡ piece.piece = place_on-get_or (partners w p) piece.piece (mutual_distinct h.proposers w.reviewers p) piece.there in
      let long = length-range_with_len (seats_before w r) (seat_count w r) in
      let it = placed {w = w} {p = p} {r = r} {k = piece.at} m (omega (arith, piece.inside, long)) in
      let start = ap (start_of (seats_at w) (partners w p)) place in
      let same : i ≡ first_place w p r + piece.at = omega (arith, piece.is, start) in
      record {
        reviewer = r;
        number = piece.at;
        at = record { mutual_ = m; below = it.below; is = same; on = on; names = ap (entry (seat_market w).proposers p) same ∙ it.names };
      }

  -- and the k-th seat of r has the k-th place from where those of r begin
  pub seat_place : {p r k : ℕ} → IsMutual w.proposers w.reviewers p r → k < seat_count w r → place_of (seat_market w).proposers p (seats_before w r + k) ≡ first_place w p r + k
  seat_place {p} {r} {k} m below =
      let it = placed {w = w} {p = p} {r = r} {k = k} m below in
      place_on_is (row (seat_market w).proposers p) (seats_before w r + k) (first_place w p r + k) it.on it.names (λ j less same.
      let other = seat_on p j (omega (arith, it.on)) in
      let a : IsSeatOf w (seats_before w r + k) r k = record { is = refl; below = below } in
      let b : IsSeatOf w (seats_before w r + k) other.reviewer other.number = record { is = sym same ∙ other.at.names; below = other.at.below } in
      let r_is = ap (first_place w p) (one_reviewer a b) in
      omega (arith, other.at.is, one_number a b))

  -- the seat at a place has that place
  pub place_is : {p i r k : ℕ} → IsPlaced w p i r k → place_of (seat_market w).proposers p (seats_before w r + k) ≡ i
  place_is it = seat_place it.mutual_ it.below ∙ sym it.is

-- the seats of a reviewer end before those of a later one begin
pub places_order : (w : Written) {p r s : ℕ} → IsMutual w.proposers w.reviewers p r → IsMutual w.proposers w.reviewers p s → written_place w.proposers p r < written_place w.proposers p s
    → first_place w p r + seat_count w r ≤ first_place w p s
places_order w {p} {r} {s} m n less =
    let order = order_kept m n less in
    let there = mutual_on_row m in
    let this : get_or (partners w p) (place_on (partners w p) r) 0 ≡ r = get_or-place_on (partners w p) r there in
    let long : length (seats_at w (get_or (partners w p) (place_on (partners w p) r) 0)) ≡ seat_count w r = ap (λ x. length (seats_at w x)) this ∙ length-range_with_len (seats_before w r) (seat_count w r) in
    let end = piece_end (seats_at w) (partners w p) (place_on (partners w p) r) (place_on (partners w p) s) 0 order there in
    omega (arith, long)
