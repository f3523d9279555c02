-- A reviewer whose seats are all taken has nobody further down its list.
use Rattle.std.proofs.Common.{◌≡◌, ℕ, zero, suc, ◌+◌, ◌<◌, ◌≤◌, ◌⊎◌, Bool, true, false, cond, List, [], ◌∷◌, Option, length, get_or, take, sym, ap, ◌∙◌, arith, inl, inr}
use Rattle.std.specs.List.{filter}
use Rattle.std.proofs.lemmas.Bool.{cases_lt}
use Rattle.std.proofs.lemmas.List.{take_all}
use Rattle.sm_agents.specs.Written.{Written, capacity_of}
use Rattle.sm_agents.specs.Faults.{HasSoundEntries}
use Rattle.sm_instance.specs.Matching.{load, is_at, IsMatching}
use Rattle.sm_instance.proofs.LoadLemmas.{at_place}
use Rattle.sm_seats.specs.Mutual.{mutual_row}
use Rattle.sm_seats.specs.SeatMarket.{seat_count, seats_before, seats_of}
use Rattle.sm_seats.specs.Taken.{seated}
use Rattle.sm_seats.specs.Taking.{AreSeatedAt, AreFirstSeatedAt}
use Rattle.sm_seats.proofs.MutualLemmas.{mutual_distinct}
use Rattle.sm_seats.proofs.SeatLemmas.{IsSeatOf, seat_name, seat_there, length-seats}
use Rattle.sm_seats.proofs.LoadLaws.{length-seated, seated-le-row, sits}
use Rattle.sm_seats.proofs.TakingLemmas.{all_seated, place_kept}

-- a longer front has no fewer that pass a test
front_mono : (t : ℕ → Bool) (xs : List ℕ) (j k : ℕ) → j ≤ k → length (filter t (take j xs)) ≤ length (filter t (take k xs))
front_mono t [] zero k le = omega arith
front_mono t [] (suc j) zero le = absurd (omega arith)
front_mono t [] (suc j) (suc k) le = omega arith
front_mono t (x ∷ xs) zero k le = omega arith
front_mono t (x ∷ xs) (suc j) zero le = absurd (omega arith)
front_mono t (x ∷ xs) (suc j) (suc k) le = by_test (t x) (front_mono t xs j k (omega arith))
  where
    by_test : (b : Bool) → length (filter t (take j xs)) ≤ length (filter t (take k xs)) → length (cond b (x ∷ filter t (take j xs)) (filter t (take j xs))) ≤ length (cond b (x ∷ filter t (take k xs)) (filter t (take k xs)))
    by_test true deep = omega (arith, deep)
    by_test false deep = deep

-- a seat of a reviewer has its name
pub named_there : (w : Written) (seats : List (ℕ × ℕ)) (seat r k : ℕ) → seats ≡ seats_of w → seat ≡ seats_before w r + k → k < seat_count w r → (seat < length seats) × ((get_or seats seat (0, 0)).0 ≡ r)
named_there w seats seat r k is at below =
    let s : IsSeatOf w seat r k = record { is = at; below = below } in
    let long = ap (λ (l : List (ℕ × ℕ)). length l) is ∙ length-seats w in
    (omega (arith, long, seat_there s), ap (λ (l : List (ℕ × ℕ)). (get_or l seat (0, 0)).0) is ∙ ap (λ (p : ℕ × ℕ). p.0) (seat_name s))

module _ {w : Written} (h : HasSoundEntries w) {places : List (Option ℕ)} (m : IsMatching w places) where
  -- where as many have their seats as the reviewer has seats, all have
  pub full_seated : {r j count : ℕ} {before after : List (Option ℕ)} → AreFirstSeatedAt w places r j count before after → seat_count w r ≤ count → AreSeatedAt w places r before after
  full_seated {r} {j} {count} {before} {after} f full =
      let t : ℕ → Bool = λ q. is_at w places q r in
      let row = mutual_row w.reviewers w.proposers r in
      let all : length (filter t (take (length row) row)) ≡ length (seated w places r) = ap (λ xs. length (filter t xs)) (take_all (length row) row (omega arith)) in
      let loaded = length-seated h places m.acceptable r in
      let within = m.within r in
      let few = seated-le-row w places r in
      let whole : count ≡ length (seated w places r) = upper (cases_lt j (length row)) all loaded within few in
      all_seated h m (record {
        long = f.long;
        few = omega (arith, whole, few);
        counted = whole ∙ sym all;
        seated = λ k i less holds there. elim (cases_lt k j) [
          | inl early ↦ f.seated k i early holds there
          | inr late ↦
              let at = at_place w places (get_or row k 0) r i holds there in
              let place = place_kept t row k (mutual_distinct h.reviewers w.proposers r) less at in
              let sits_there = sits h places m.acceptable (get_or row k 0) r at in
              let more = front_mono t row j k late in
              absurd (omega (arith, place, sits_there, more, f.counted, whole))
        ];
        others = f.others;
      }) (omega arith)
    where
      upper : (j < length (mutual_row w.reviewers w.proposers r)) ⊎ (length (mutual_row w.reviewers w.proposers r) ≤ j) → length (filter (λ q. is_at w places q r) (take (length (mutual_row w.reviewers w.proposers r)) (mutual_row w.reviewers w.proposers r))) ≡ length (seated w places r)
          → length (seated w places r) ≡ load w places r → load w places r ≤ capacity_of w.reviewers r → length (seated w places r) ≤ length (mutual_row w.reviewers w.proposers r) → count ≡ length (seated w places r)
      upper (inl less) all loaded within few =
          let le = front_mono (λ q. is_at w places q r) (mutual_row w.reviewers w.proposers r) j (length (mutual_row w.reviewers w.proposers r)) (omega (arith, less)) in
          omega (arith, le, all, loaded, within, few, f.counted, full)
      upper (inr past) all loaded within few = f.counted ∙ ap (λ xs. length (filter (λ q. is_at w places q r) xs)) (take_all j (mutual_row w.reviewers w.proposers r) past)
