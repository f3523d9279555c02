-- The proposers at a reviewer, in its order of preference, are as many as its load.
use Rattle.std.proofs.Common.{◌≡◌, ℕ, ◌+◌, ◌<◌, ◌≤◌, Bool, true, false, List, Option, Some, length, get_or, cond, refl, sym, ◌∙◌, arith}
use Rattle.std.specs.List.{filter, range_with_len}
use Rattle.std.proofs.lemmas.List.Sums.{sum-map, length-filter}
use Rattle.std.proofs.lemmas.List.FromFn.{get_or-range_with_len, length-range_with_len}
use Rattle.sm_lists.specs.Rows.{place_on}
use Rattle.sm_lists.proofs.PlaceLemmas.{place_on-lt}
use Rattle.sm_agents.specs.Written.{Written, entry, IsAcceptable}
use Rattle.sm_agents.specs.Faults.{HasSoundEntries}
use Rattle.sm_instance.specs.Matching.{held, is_at, load}
use Rattle.sm_instance.proofs.LoadLemmas.{place_at}
use Rattle.sm_agents.proofs.ListLemmas.{row_in_range}
use Rattle.sm_seats.specs.Mutual.{mutual_row}
use Rattle.sm_seats.specs.Taken.{seated}
use Rattle.sm_seats.proofs.FilterLemmas.{kept, kept_passes, kept_order_back, AreDistinct, kept_distinct, length-filter-le, length-filter-lt, length-le}
use Rattle.sm_seats.proofs.MutualLemmas.{IsMutual, mutual_turned, acceptable_mutual, mutual_on_row, mutual_distinct}

-- each proposer that is matched has a reviewer that is acceptable to it
abbrev pub AreAcceptable : Written → List (Option ℕ) → Type 0
AreAcceptable w places = (p i : ℕ) → held places p ≡ Some i → IsAcceptable w p (entry w.proposers p i)

-- all proposers at r, by number
abbrev all_at : Written → List (Option ℕ) → ℕ → List ℕ
all_at w places r = filter (λ q. is_at w places q r) (range_with_len 0 (length w.proposers))

-- who sits at r is at r
pub seated_at : (w : Written) (places : List (Option ℕ)) (r q : ℕ) → place_on (seated w places r) q < length (seated w places r) → is_at w places q r ≡ true
seated_at w places r q on = (kept_passes (λ q. is_at w places q r) (mutual_row w.reviewers w.proposers r) q on).0

-- and so is whoever has a place there
pub item_at : (w : Written) (places : List (Option ℕ)) (r i : ℕ) → i < length (seated w places r) → is_at w places (get_or (seated w places r) i 0) r ≡ true
item_at w places r i on = seated_at w places r _ (place_on-lt (seated w places r) _ i on refl)

-- no more sit there than are acceptable
pub seated-le-row : (w : Written) (places : List (Option ℕ)) (r : ℕ) → length (seated w places r) ≤ length (mutual_row w.reviewers w.proposers r)
seated-le-row w places r = length-filter-le (λ q. is_at w places q r) (mutual_row w.reviewers w.proposers r)

-- where one that is acceptable to r isn't at it, not all that are acceptable are
pub seated-lt-row : (w : Written) (places : List (Option ℕ)) {r p : ℕ} → IsMutual w.reviewers w.proposers r p → is_at w places p r ≡ false → length (seated w places r) < length (mutual_row w.reviewers w.proposers r)
seated-lt-row w places {r} {p} m no_ = length-filter-lt (λ q. is_at w places q r) (mutual_row w.reviewers w.proposers r) p (mutual_on_row m) no_

module _ {w : Written} (h : HasSoundEntries w) (places : List (Option ℕ)) where
  -- nobody sits there twice
  pub seated_distinct : (r : ℕ) → AreDistinct (seated w places r)
  seated_distinct r = kept_distinct (λ q. is_at w places q r) (mutual_row w.reviewers w.proposers r) (mutual_distinct h.reviewers w.proposers r)

  module _ (accepted : AreAcceptable w places) where
    -- who is at r accepts r and is acceptable to it
    pub mutual_at : (q r : ℕ) → is_at w places q r ≡ true → IsMutual w.proposers w.reviewers q r
    mutual_at q r at = let x = place_at w q r (held places q) at in rw x.2 at (acceptable_mutual {w = w} (accepted q x.0 x.1))

    -- and sits there
    pub sits : (q r : ℕ) → is_at w places q r ≡ true → place_on (seated w places r) q < length (seated w places r)
    sits q r at = kept (λ q. is_at w places q r) (mutual_row w.reviewers w.proposers r) q at (mutual_on_row (mutual_turned (mutual_at q r at)))

    -- and is liked better than those behind it
    pub prefers : (p q r : ℕ) → is_at w places p r ≡ true → is_at w places q r ≡ true → place_on (seated w places r) p < place_on (seated w places r) q
        → place_on (mutual_row w.reviewers w.proposers r) p < place_on (mutual_row w.reviewers w.proposers r) q
    prefers p q r at at' less = kept_order_back (λ q. is_at w places q r) (mutual_row w.reviewers w.proposers r) p q at at' (mutual_on_row (mutual_turned (mutual_at p r at))) less

    -- they are as many as the load
    pub length-seated : (r : ℕ) → length (seated w places r) ≡ load w places r
    length-seated r =
        let n = length w.proposers in
        let all = range_with_len 0 n in
        let test : ℕ → Bool = λ q. is_at w places q r in
        let long = length-range_with_len 0 n in
        let plus : (k : ℕ) → 0 + k ≡ k = λ k. omega arith in
        let on_all : (q : ℕ) → q < n → place_on all q < length all = λ q l. place_on-lt all q q (omega arith) (get_or-range_with_len 0 n q 0 l ∙ plus q) in
        let apart : AreDistinct all = record { distinct = λ i j less on same. (let a = get_or-range_with_len 0 n i 0 (omega arith) in let b = get_or-range_with_len 0 n j 0 (omega arith) in omega arith) } in
        let one = length-le (seated w places r) (all_at w places r) (seated_distinct r) (λ i on.
        let at = item_at w places r i on in
        kept test all _ at (on_all _ (row_in_range w.proposers _ _ (mutual_at _ r at).lists))) in
        let two = length-le (all_at w places r) (seated w places r) (kept_distinct test all apart) (λ i on.
        sits _ r (kept_passes test all _ (place_on-lt (all_at w places r) _ i on refl)).0) in
        let count : load w places r ≡ length (all_at w places r) = sum-map (λ q. cond (is_at w places q r) 1 0) all ∙ sym (length-filter test all) in
        omega (arith, count)
