-- Where seats begin on the proposers' lists of seats, and the levels that follow from it.
use Rattle.std.proofs.Common.{◌≡◌, ℕ, zero, suc, ◌+◌, ◌-◌, ◌<◌, ◌≤◌, ◌++◌, ◌∷◌, [], true, List, Option, Some, None, MatchOption, length, take, replicate, get_or, take_all, refl, sym, ap, ◌∙◌, arith, inl, inr}
use Rattle.std.proofs.lemmas.List.{ext_get_or, get_or_append_left, get_or-append_right, get_or-replicate, length-append, length-replicate, length_push, get_or_push}
use Rattle.std.specs.List.{filter, flat_map}
use Rattle.std.proofs.lemmas.Bool.{cases_lt}
use Rattle.std.proofs.lemmas.List.FromFn.{length-map-range_with_len}
use Rattle.sm_lists.proofs.RowLemmas.{row_in_range}
use Rattle.sm_agents.specs.Written.{Written, row as written_row, entry as written_entry, place_of as written_place_of}
use Rattle.sm_agents.specs.Sound.{IsInstance}
use Rattle.sm_instance.proofs.AcceptLemmas.{lt_true, proposer_row_fits}
use Rattle.sm_instance.proofs.PlaceLemmas.{place_of-entry}
use Rattle.sm_market.specs.Lists.{row, entry}
use Rattle.sm_seats.specs.Mutual.{lists_back}
use Rattle.sm_seats.specs.SeatMarket.{seat_count, seats_at, seat_market}
use Rattle.sm_seats.specs.Seating.{Seating, seating_of, written_place, at_places, rank_of, levels_at}
use Rattle.sm_seats.specs.Tables.{reviewers_before, seats_listed, seat_places_at, seat_places_of}
use Rattle.sm_seats.specs.Plain.{IsPlain}
use Rattle.sm_seats.specs.Begins.{AreRisingPlaces, AreLevelsBetween, AreLevelsUpTo, AreBegins, AreWrittenPlaces}
use Rattle.sm_seats.proofs.CorrespondenceLaws.{sound_entries}
use Rattle.sm_seats.proofs.MarketLaws.{length-proposers}
use Rattle.sm_seats.proofs.MutualLemmas.{IsMutual}
use Rattle.sm_seats.proofs.PlainLemmas.{number_is, seat_row_is}
use Rattle.sm_seats.proofs.SeatPlaces.{row_is, seat_on}
use Rattle.sm_seats.proofs.SeatingLemmas.{at_place_is, length-at_places}
use Rattle.sm_seats.proofs.TableLemmas.{seats_joined, seats_listed-le, seat_row_at, seat_place_at, begin_of-first_place}
use Rattle.sm_seats.proofs.CrossLemmas.{back_more}
use Rattle.sm_seats.proofs.WrittenLemmas.{row-seating, written_place-seating, written_there}

-- the levels up to where the seats of the reviewer at place n of the written list begin
pub record AreLevelsTo (begins : List ℕ) (n : ℕ) (levels : List ℕ) : Type 0 where
  pub long : length levels ≡ get_or begins n 0
  pub at : (j i : ℕ) → j < n → get_or begins j 0 ≤ i → i < get_or begins (j + 1) 0 → get_or levels i 0 ≡ j + 1

-- no level yet
pub no_levels : {begins levels : List ℕ} → AreRisingPlaces begins → levels ≡ [] → AreLevelsTo begins 0 levels
no_levels r is = record { long = ap length is ∙ sym r.from; at = λ j i less. absurd (omega arith) }

-- places that rise from one to the next rise
rises : {begins : List ℕ} → AreRisingPlaces begins → (i k : ℕ) → i ≤ k → k < length begins → get_or begins i 0 ≤ get_or begins k 0
rises {begins} r i zero le on = let is : i ≡ 0 = omega arith in rw is (omega arith)
rises {begins} r i (suc k) le on = elim (cases_lt k i) [
  | inl at ↦ let is : i ≡ suc k = omega arith in rw is (omega arith)
  | inr before ↦ let deep = rises r i k before (omega arith) in let same : k + 1 ≡ suc k = omega arith in let up : get_or begins k 0 ≤ get_or begins (suc k) 0 = rw same at (r.rise k (omega arith)) in omega (arith, deep, up)
]

-- with those of the seats of the next reviewer
pub levels_more : {begins levels after : List ℕ} {n long : ℕ} → AreRisingPlaces begins → n + 1 < length begins → AreLevelsTo begins n levels → long ≡ length levels
    → after ≡ take (get_or begins (n + 1) 0) levels ++ replicate (get_or begins (n + 1) 0 - long) (n + 1) → AreLevelsTo begins (n + 1) after
levels_more {begins} {levels} {after} {n} {long} r on l same is =
    let to : ℕ = get_or begins (n + 1) 0 in
    let le = r.rise n on in
    let count : ℕ = to - long in
    let whole : after ≡ levels ++ replicate count (n + 1) = is ∙ ap (λ front. front ++ replicate count (n + 1)) (take_all to levels (omega (arith, l.long))) in
    record {
      long = ap length whole ∙ length-append levels (replicate count (n + 1)) ∙ ap (λ k. length levels + k) (length-replicate count (n + 1)) ∙ (let sum : length levels + count ≡ to = omega (arith, l.long, same, le) in sum);
      at = λ j i less from before. elim (cases_lt i (length levels)) [
        | inl here ↦
            let low : j < n = elim (cases_lt j n) [
              | inl low ↦ low
              | inr at ↦ let last : j ≡ n = omega (arith, less, at) in absurd (let e = ap (λ k. get_or begins k 0) last in omega (arith, e, from, here, l.long))
            ] in
            ap (λ xs. get_or xs i 0) whole ∙ get_or_append_left levels (replicate count (n + 1)) 0 i here ∙ l.at j i low from before
        | inr behind ↦
            let last : j ≡ n = elim (cases_lt j n) [
              | inl low ↦ absurd (let up = rises r (j + 1) n (omega arith) (omega (arith, on)) in omega (arith, up, before, behind, l.long))
              | inr at ↦ omega (arith, less, at)
            ] in
            let e = ap (λ k. get_or begins (k + 1) 0) last in
            ap (λ xs. get_or xs i 0) whole
            ∙ get_or-append_right levels (replicate count (n + 1)) (length levels) i 0 refl behind
            ∙ get_or-replicate count (i - length levels) (n + 1) 0 (omega (arith, e, before, behind, same, l.long))
            ∙ ap (λ k. k + 1) (sym last)
      ];
    }

-- and that of being unmatched
pub levels_whole : {begins levels after : List ℕ} {n : ℕ} → AreRisingPlaces begins → n + 1 ≡ length begins → AreLevelsTo begins n levels → after ≡ levels ++ (n + 1) ∷ [] → AreLevelsBetween begins after
levels_whole {begins} {levels} {after} {n} r all l is =
    let end : get_or begins (length begins - 1) 0 ≡ length levels = (let last : length begins - 1 ≡ n = omega (arith, all) in ap (λ k. get_or begins k 0) last ∙ sym l.long) in
    record {
      long = ap length is ∙ length_push levels (n + 1) ∙ ap (λ k. k + 1) (sym end);
      at = λ j i less from before. elim (cases_lt i (length levels)) [
        | inl here ↦ ap (λ xs. get_or xs i 0) is ∙ get_or_append_left levels ((n + 1) ∷ []) 0 i here ∙ l.at j i (omega (arith, less, all)) from before
        | inr behind ↦ absurd (let up = rises r (j + 1) n (omega (arith, less, all)) (omega (arith, all)) in omega (arith, up, before, behind, l.long))
      ];
      last = ap (λ xs. get_or xs (get_or begins (length begins - 1) 0) 0) is ∙ get_or_push levels (n + 1) 0 (get_or begins (length begins - 1) 0) (sym end) ∙ all;
    }

-- the levels of a proposer, by the written places of its seats
pub levels_are : (s : Seating) (p : ℕ) (levels : List ℕ) → length levels ≡ length (row s.market.proposers p) + 1
    → ((i : ℕ) → i < length (row s.market.proposers p) → get_or levels i 0 ≡ written_place s p i + 1)
    → get_or levels (length (row s.market.proposers p)) 0 ≡ length (row s.lists p) + 1 → levels ≡ levels_at s p
levels_are s p levels long at last =
    let n : ℕ = length (row s.market.proposers p) in
    let past : ℕ = length (row s.lists p) + 1 in
    let places : List ℕ = at_places s rank_of p in
    let count = length-at_places s rank_of p in
    let whole = length_push places past in
    ext_get_or 0 levels (levels_at s p) (omega (arith, long, count, whole)) (λ i on. elim (cases_lt i n) [
      | inl here ↦ at i here ∙ sym (get_or_append_left places _ 0 i (omega (arith, count, here)) ∙ at_place_is s rank_of 0 p i here)
      | inr end ↦ let is : i ≡ n = omega (arith, on, long, end) in
          ap (λ k. get_or levels k 0) is ∙ last ∙ sym (ap (λ k. get_or (levels_at s p) k 0) is ∙ get_or_push places past 0 n count)
    ])

-- where the lists of seats are the written ones
pub written_levels : {s : Seating} {p n : ℕ} {levels : List ℕ} → AreWrittenPlaces s → p < length s.market.proposers → n ≡ length (row s.market.proposers p) → AreLevelsUpTo n levels → levels ≡ levels_at s p
written_levels {s} {p} {n} {levels} same there is up = levels_are s p levels (omega (arith, up.long, is))
    (λ i on. up.at i (omega (arith, is, on)) ∙ ap (λ k. k + 1) (sym (same.same p i on)))
    (up.at (length (row s.market.proposers p)) (omega (arith, is)) ∙ ap (λ k. k + 1) (same.as_long p there))

-- a number before the n-th of some that begin with 0 is between two of them
record IsBetween (f : ℕ → ℕ) (n i : ℕ) : Type 0 where
  pub piece : ℕ
  pub below : piece < n
  pub from : f piece ≤ i
  pub to : i < f (piece + 1)

between : (f : ℕ → ℕ) (n i : ℕ) → f 0 ≡ 0 → i < f n → IsBetween f n i
between f zero i start less = absurd (omega arith)
between f (suc n) i start less = elim (cases_lt i (f n)) [
  | inl before ↦ let deep = between f n i start before in record { piece = deep.piece; below = omega (arith, deep.below); from = deep.from; to = deep.to }
  | inr here ↦ let same : suc n ≡ n + 1 = omega arith in record { piece = n; below = omega arith; from = here; to = rw same at less }
]

-- where the seats begin at these places
pub begun_levels : {s : Seating} {p : ℕ} {begins : List (List ℕ)} {levels : List ℕ} → AreBegins s begins → p < length s.market.proposers → AreLevelsBetween (row begins p) levels → levels ≡ levels_at s p
begun_levels {s} {p} {begins} {levels} b there l =
    let n : ℕ = length (row s.lists p) in
    let count = b.as_long p there in
    let end = b.end p there in
    let last : get_or (row begins p) (length (row begins p) - 1) 0 ≡ length (row s.market.proposers p) = (let is : length (row begins p) - 1 ≡ n = omega (arith, count) in ap (λ k. get_or (row begins p) k 0) is ∙ end) in
    levels_are s p levels (omega (arith, l.long, last))
    (λ i on.
    let it = between (λ j. entry begins p j) n i (b.rising p there).from (omega (arith, end, on)) in
    l.at it.piece i (omega (arith, it.below, count)) it.from it.to ∙ ap (λ k. k + 1) (sym (b.between p it.piece i there it.below it.from it.to)))
    (ap (λ k. get_or levels k 0) (sym last) ∙ l.last ∙ count)

module _ {w : Written} (h : IsInstance w) where
  -- an acceptable reviewer is there
  there_is : {p r : ℕ} → IsMutual w.proposers w.reviewers p r → r < length w.reviewers
  there_is {p} {r} m = (let named = written_there w m in let below = (h.proposer_entries.sound p (written_place_of w.proposers p r) m.lists).in_range in omega (arith, named, below))

  -- where each reviewer has one seat and no entry is inert, the lists of seats are the written ones
  pub plain_places : IsPlain w → AreWrittenPlaces (seating_of w)
  plain_places plain = record {
    as_long = λ p there. let here : p < length w.proposers = omega (arith, length-proposers w, there) in ap length (row_is w p ∙ seat_row_is h plain p here ∙ sym (row-seating w p));
    same = λ p i on.
        let there : p < length w.proposers = omega (arith, length-proposers w, row_in_range (seat_market w).proposers p i on) in
        let list : row (seat_market w).proposers p ≡ written_row w.proposers p = row_is w p ∙ seat_row_is h plain p there in
        let it = seat_on (sound_entries h) p i on in
        let r : ℕ = it.reviewer in
        let here : r < length w.reviewers = there_is it.at.mutual_ in
        let one = (plain.reviewers r here).one in
        let number = number_is h plain r (omega (arith, here)) in
        let named : written_entry w.proposers p i ≡ r = sym (ap (λ l. get_or l i 0) list) ∙ (let at = it.at.names in let below = it.at.below in omega (arith, at, below, one, number)) in
        written_place-seating it.at ∙ place_of-entry h.proposer_entries p r i (let long = ap length list in omega (arith, long, on)) named;
  }

  -- so many seats stand before place j of p's written list
  place_at : (p j : ℕ) → p < length w.proposers → j ≤ length (written_row w.proposers p) → entry (seat_places_of w) p j ≡ seats_listed w p j
  place_at p j there on = seat_place_at w p j there on

  -- the places rise from 0 on
  rising : (p : ℕ) → p < length w.proposers → AreRisingPlaces (row (seat_places_of w) p)
  rising p there =
      let list : row (seat_places_of w) p ≡ seat_places_at w p = seat_row_at w p there in
      let long : length (row (seat_places_of w) p) ≡ length (written_row w.proposers p) + 1 = ap length list ∙ length-map-range_with_len (seats_listed w p) 0 (length (written_row w.proposers p) + 1) in
      record {
        some = omega (arith, long);
        few = omega (arith, long, proposer_row_fits h p);
        from = place_at p 0 there (omega arith);
        rise = λ j on. let here = place_at p j there (omega (arith, long, on)) in let next = place_at p (j + 1) there (omega (arith, long, on)) in omega (arith, here, next, seats_listed-le w p j (j + 1) (omega arith));
      }

  -- one place for each entry, and one behind them
  as_long : (p : ℕ) → p < length w.proposers → length (row (seat_places_of w) p) ≡ length (written_row w.proposers p) + 1
  as_long p there = ap length (seat_row_at w p there) ∙ length-map-range_with_len (seats_listed w p) 0 (length (written_row w.proposers p) + 1)

  -- all that stand before the end are the proposer's list of seats
  whole : (p : ℕ) → seats_listed w p (length (written_row w.proposers p)) ≡ length (row (seat_market w).proposers p)
  whole p =
      ap (λ l. length (flat_map (seats_at w) (filter (lists_back w.reviewers p) l))) (take_all (length (written_row w.proposers p)) (written_row w.proposers p) (omega arith))
      ∙ ap length (sym (row_is w p))

  inside : (p j i : ℕ) → p < length w.proposers → j < length (written_row w.proposers p) → i < seats_listed w p (j + 1) → i < length (row (seat_market w).proposers p)
  inside p j i there on less = omega (arith, less, seats_listed-le w p (j + 1) (length (written_row w.proposers p)) (omega (arith, on)), whole p)

  -- a seat between those before place j and those before the next one is of the reviewer there
  placed : (p j i : ℕ) → j < length (written_row w.proposers p) → i < length (row (seat_market w).proposers p) → seats_listed w p j ≤ i → i < seats_listed w p (j + 1) → written_place (seating_of w) p i ≡ j
  placed p j i on seat from to =
      let it = seat_on (sound_entries h) p i seat in
      let m = it.at.mutual_ in
      let r : ℕ = it.reviewer in
      let k : ℕ = written_place_of w.proposers p r in
      let begin = begin_of-first_place w m in
      let there : lists_back w.reviewers p (written_entry w.proposers p k) ≡ true = rw (written_there w m) (lt_true _ _ m.listed) in
      let end : seats_listed w p (k + 1) ≡ seats_listed w p k + seat_count w r = ap (λ l. length (flat_map (seats_at w) l)) (back_more w.proposers w.reviewers p k m.lists there) ∙ seats_joined w (reviewers_before w p k) (written_entry w.proposers p k) ∙ ap (λ x. seats_listed w p k + seat_count w x) (written_there w m) in
      let below = it.at.below in
      let is = it.at.is in
      let same : k ≡ j = elim (cases_lt k j) [
        | inl less ↦ absurd (omega (arith, begin, end, below, is, from, seats_listed-le w p (k + 1) j (omega arith)))
        | inr le ↦ elim (cases_lt j k) [
          | inl less ↦ absurd (omega (arith, begin, is, to, seats_listed-le w p (j + 1) k (omega arith)))
          | inr same ↦ omega (arith, le, same)
        ]
      ] in
      written_place-seating it.at ∙ same

  -- the seats of each reviewer begin where those that are listed before are counted
  pub counted_begins : AreBegins (seating_of w) (seat_places_of w)
  counted_begins = record {
    one_each = length-map-range_with_len (seat_places_at w) 0 (length w.proposers) ∙ sym (length-proposers w);
    rising = λ p there. rising p (omega (arith, length-proposers w, there));
    as_long = λ p there. as_long p (omega (arith, length-proposers w, there)) ∙ ap (λ (l : List ℕ). length l + 1) (sym (row-seating w p));
    end = λ p there. let here : p < length w.proposers = omega (arith, length-proposers w, there) in
        ap (λ (l : List ℕ). entry (seat_places_of w) p (length l)) (row-seating w p) ∙ place_at p (length (written_row w.proposers p)) here (omega arith)
        ∙ whole p;
    between = λ p j i there on from to.
        let here : p < length w.proposers = omega (arith, length-proposers w, there) in
        let on' : j < length (written_row w.proposers p) = (let long = ap (λ (l : List ℕ). length l) (row-seating w p) in omega (arith, long, on)) in
        placed p j i on' (inside p j i here on' (let is = place_at p (j + 1) here (omega (arith, on')) in omega (arith, is, to))) (let is = place_at p j here (omega (arith, on')) in omega (arith, is, from)) (let is = place_at p (j + 1) here (omega (arith, on')) in omega (arith, is, to));
  }

  -- what is kept beside a seating of where seats begin
  pub begins_kept : (begins : Option (List (List ℕ))) → MatchOption begins (IsPlain w) (λ begins. begins ≡ seat_places_of w)
      → MatchOption begins (AreWrittenPlaces (seating_of w)) (AreBegins (seating_of w))
  begins_kept None plain = plain_places plain
  begins_kept (Some begins) is = rw is counted_begins
