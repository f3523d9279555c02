-- How many pairs the rotations of a chain have, and how many predecessors: no more than the places by which proposers go down
-- their lists.
use Rattle.std.proofs.Common.{◌≡◌, ◌≢◌, ℕ, zero, suc, ◌+◌, ◌-◌, ◌<◌, ◌≤◌, ◌^◌, ◌⊎◌, inl, inr, arith, refl, sym, ap, ◌∙◌, subst, List, [], length, take, pos, ◌-ℤ◌, slice_index}
use Rattle.std.specs.List.{sum_by}
use Rattle.std.proofs.lemmas.Int.{ints}
use Rattle.std.proofs.lemmas.List.Sums.{sum_by_more, sum_by-take-le}
use Rattle.sm_lists.specs.Sums.{sum_to}
use Rattle.sm_lists.proofs.Counting.{lt_or_le, eq_or_ne, one_to_one-le}
use Rattle.sm_lists.proofs.Sums.{sum_le}
use Rattle.sm_lists.proofs.PlaceLemmas.{entry-place_of}
use Rattle.sm_market.specs.Lists.{Lists, row, entry, place_of, IsMarket}
use Rattle.sm_market.specs.Limits.{IsWithinLimits}
use Rattle.sm_market.specs.Matching.{Places, standing}
use Rattle.sm_market.proofs.Bridge.{standing-some, stable_of}
use Rattle.sm_theory.specs.Rotations.{proposer_at, reviewer_at, target_at}
use Rattle.sm_theory.specs.Chains.{rotation_at, stage, IsCompleteChain, IsNeededBy, AreNeedsOf, AreNeeds}
use Rattle.sm_theory.specs.Marks.{MovesOver}
use Rattle.sm_theory.specs.Weights.{total}
use Rattle.sm_theory.proofs.Core.Chain.{stay, way_of}
use Rattle.sm_theory.proofs.Core.Cycle.{Moves}
use Rattle.sm_theory.proofs.Bridge.Rotation.{cycle_of}
use Rattle.sm_theory.proofs.Bridge.Chain.{chain_of, stage_stable, eliminable_of}
use Rattle.sm_theory.proofs.Chains.Marks.{once_over}
use Rattle.sm_theory.proofs.Weighing.Totals.{total_same, total_changes}
use Rattle.sm_poset.specs.Moves.{IsMove}
use Rattle.sm_poset.proofs.ChainLemmas.{in_range, holds_after, move_at, further}

-- sums of natural numbers among the integers
total_pos : (f : ℕ → ℕ) (n : ℕ) → total (λ i. pos (f i)) n ≡ pos (sum_to f n)
total_pos f zero = refl
total_pos f (suc n) = let before = total_pos f n in omega (arith, ints)

less_by : (a b : ℕ) → b ≤ a → pos a -ℤ pos b ≡ pos (a - b)
less_by a b le = omega (arith, ints)

-- n times one is n
pub sum_to-ones : (n : ℕ) → sum_to (λ _. 1) n ≡ n
sum_to-ones zero = refl
sum_to-ones (suc n) = omega (arith, sum_to-ones n)

-- sums grow with how many values they have
pub sum_grows : (f : ℕ → ℕ) (m n : ℕ) → m ≤ n → sum_to f m ≤ sum_to f n
sum_grows f m zero le = let e : m ≡ 0 = omega arith in omega (arith, ap (sum_to f) e)
sum_grows f m (suc n) le = elim (eq_or_ne m (suc n)) [
  | inl e ↦ omega (arith, ap (sum_to f) e)
  | inr ne ↦ omega (arith, sum_grows f m n (omega arith))
]

-- the entries of all lists
entries_to : (rows : List (List ℕ)) (n : ℕ) → n ≤ length rows → sum_to (λ p. length (row rows p)) n ≤ sum_by (λ list. length list) (take n rows)
entries_to rows zero fits = omega arith
entries_to rows (suc n) fits =
    let more : sum_by (λ list. length list) (take (n + 1) rows) ≡ sum_by (λ list. length list) (take n rows) + length (row rows n) = sum_by_more (λ (list : List ℕ). length list) rows n [] (omega arith) in
    let e : n + 1 ≡ suc n = omega arith in
    omega (arith, more, ap (λ k. sum_by (λ (list : List ℕ). length list) (take k rows)) e, entries_to rows n (omega arith))

module _ {l : Lists} (h : IsMarket l) {first : Places} {rotations : List (List (ℕ × ℕ))} (chain : IsCompleteChain l first rotations) where
  abbrev who : ℕ → ℕ → ℕ
  who k i = proposer_at (rotation_at rotations k) i

  abbrev size : ℕ → ℕ
  size k = length (rotation_at rotations k)

  abbrev stand : ℕ → ℕ → ℕ
  stand k p = standing l.proposers (stage l first rotations k).proposers p

  -- the places between which a rotation moves the proposer of a pair
  abbrev old_place : ℕ → ℕ → ℕ
  old_place k i = place_of l.proposers (who k i) (reviewer_at (rotation_at rotations k) i)

  abbrev new_place : ℕ → ℕ → ℕ
  new_place k i = place_of l.proposers (who k i) (target_at (rotation_at rotations k) i)

  -- the places by which a rotation moves its proposers
  abbrev steps : ℕ → ℕ
  steps k = sum_to (λ i. new_place k i - old_place k i) (size k)

  before_is : (k i : ℕ) → k < length rotations → i < size k → stand k (who k i) ≡ old_place k i
  before_is k i g b = standing-some l.proposers (stage l first rotations k).proposers (who k i) (old_place k i) ((chain.exposed k g).paired i b)

  after_is : (k i : ℕ) → k < length rotations → i < size k → stand (suc k) (who k i) ≡ new_place k i
  after_is k i g b = standing-some l.proposers (stage l first rotations (suc k)).proposers (who k i) (new_place k i) (holds_after h chain k i g b)

  goes_down : (k i : ℕ) → k < length rotations → i < size k → old_place k i < new_place k i
  goes_down k i g b = omega (arith, before_is k i g b, ((chain.exposed k g).next i b).behind)

  distinct : (k : ℕ) → k < length rotations → (i j : ℕ) → i < size k → j < size k → who k i ≡ who k j → i ≡ j
  distinct k g i j x y same = elim (lt_or_le i j) [
    | inl less ↦ absurd ((chain.exposed k g).distinct i j less y same)
    | inr le ↦ elim (eq_or_ne i j) [
      | inl e ↦ e
      | inr ne ↦ absurd ((chain.exposed k g).distinct j i (omega arith) x (sym same))
    ]
  ]

  -- what a stage is worth: the sum of the places at which the proposers stand
  abbrev worth : ℕ → ℕ
  worth k = sum_to (stand k) (length l.proposers)

  worth_more : (k : ℕ) → k < length rotations → worth (suc k) ≡ worth k + steps k
  worth_more k g =
      let changes = total_changes (length l.proposers) (λ p. pos (stand (suc k) p)) (λ p. pos (stand k p)) (size k) (who k) (λ i b. in_range h chain k i g b) (distinct k g)
      (λ p less none. ap pos (stay (way_of (chain_of h chain)) k p g (λ (mv : Moves (cycle_of (rotation_at rotations k)) p). none mv.at mv.below mv.holds))) in
      let moved : total (λ i. pos (stand (suc k) (who k i)) -ℤ pos (stand k (who k i))) (size k) ≡ total (λ i. pos (new_place k i - old_place k i)) (size k) =
      total_same (size k) _ _ (λ i b. ap (λ n. pos n -ℤ pos (stand k (who k i))) (after_is k i g b) ∙ ap (λ n. pos (new_place k i) -ℤ pos n) (before_is k i g b) ∙ less_by (new_place k i) (old_place k i) (let x = goes_down k i g b in omega arith)) in
      let one = total_pos (stand (suc k)) (length l.proposers) in
      let two = total_pos (stand k) (length l.proposers) in
      let three = total_pos (λ i. new_place k i - old_place k i) (size k) in
      omega (arith, ints)

  worth_all : (t : ℕ) → t ≤ length rotations → worth 0 + sum_to steps t ≡ worth t
  worth_all zero le = omega arith
  worth_all (suc t) le = omega (arith, worth_all t (omega arith), worth_more t (omega arith))

  -- the rotations of a chain move proposers by fewer than 2^24 places together
  pub steps_few : IsWithinLimits l → sum_to steps (length rotations) < 2 ^ 24
  steps_few limits =
      let n : ℕ = length rotations in
      let stable = stage_stable h chain n (omega arith) in
      let short : worth n ≤ sum_to (λ p. length (row l.proposers p)) (length l.proposers) = sum_le (length l.proposers) _ _ (λ p less. (stable_of h stable).fit.left.within p) in
      omega (arith, worth_all n (omega arith), short, entries_to l.proposers (length l.proposers) (omega arith), sum_by-take-le (λ (list : List ℕ). length list) l.proposers (length l.proposers), limits.proposers.entries)

  -- each pair goes down at least one place
  size_le : (k : ℕ) → k < length rotations → size k ≤ steps k
  size_le k g = omega (arith, sum_to-ones (size k), sum_le (size k) (λ _. 1) (λ i. new_place k i - old_place k i) (λ i b. let x = goes_down k i g b in omega arith))

  -- so they have fewer than 2^24 pairs
  pub pairs_few : IsWithinLimits l → sum_to size (length rotations) < 2 ^ 24
  pairs_few limits = omega (arith, sum_le (length rotations) size steps size_le, steps_few limits)

  one_le : (f : ℕ → ℕ) (n k : ℕ) → k < n → f k ≤ sum_to f n
  one_le f n k less = omega (arith, sum_grows f (suc k) n less)

  -- and so has each of them
  pub pairs_of_few : IsWithinLimits l → (k : ℕ) → k < length rotations → size k < 2 ^ 24
  pairs_of_few limits k g = omega (arith, one_le size (length rotations) k g, pairs_few limits)

  -- a predecessor of rotation j is found at a place that j moves a proposer from, or past
  record Owner (j i : ℕ) : Type 0 where
    at : ℕ
    below : at < size j
    place : ℕ
    low : old_place j at ≤ place
    high : place < new_place j at
    kind : ((place ≡ old_place j at) × IsMove l rotations (who j at) i (old_place j at)) ⊎ ((old_place j at < place) × MovesOver l (rotation_at rotations i) (size i) (who j at) place)

  owner_of : (j i : ℕ) → j < length rotations → i < length rotations → IsNeededBy l (rotation_at rotations i) (rotation_at rotations j) → Owner j i
  owner_of j i g f (inl w) = record {
    at = w.other;
    below = w.other_in;
    place = old_place j w.other;
    low = omega arith;
    high = goes_down j w.other g w.other_in;
    kind = inl (
      refl,
      subst (λ r. IsMove l rotations (who j w.other) i (place_of l.proposers (who j w.other) r)) w.same_reviewer
          (subst (λ p. IsMove l rotations p i (place_of l.proposers p (target_at (rotation_at rotations i) w.pair))) w.same_proposer (move_at h chain i w.pair f w.pair_in)),
    );
  }
  owner_of j i g f (inr w) =
      let p : ℕ = who j w.other in
      let r : ℕ = target_at (rotation_at rotations i) w.pair in
      let on : new_place j w.other < length (row l.proposers p) = ((chain.exposed j g).next w.other w.other_in).on_list in
      let here : entry l.proposers p (place_of l.proposers p r) ≡ r = entry-place_of l.proposers p r (omega (arith, on, w.before)) in
      record {
        at = w.other;
        below = w.other_in;
        place = place_of l.proposers p r;
        low = let x = w.behind in omega arith;
        high = w.before;
        kind = inr (w.behind, record { pair = w.pair; pair_in = w.pair_in; reviewer = sym here; gains = rw here w.gains; loses = rw here w.loses });
      }

  -- and found there only once
  one_owner : (j i i' : ℕ) → i < i' → i' < length rotations → (v : Owner j i) (w : Owner j i') → v.at ≡ w.at → v.place ≡ w.place → ⊥
  one_owner j i i' less f v w same also = go v.kind w.kind
    where
      go : ((v.place ≡ old_place j v.at) × IsMove l rotations (who j v.at) i (old_place j v.at)) ⊎ ((old_place j v.at < v.place) × MovesOver l (rotation_at rotations i) (size i) (who j v.at) v.place)
          → ((w.place ≡ old_place j w.at) × IsMove l rotations (who j w.at) i' (old_place j w.at)) ⊎ ((old_place j w.at < w.place) × MovesOver l (rotation_at rotations i') (size i') (who j w.at) w.place) → ⊥
      go (inl x) (inl y) =
          let moved : IsMove l rotations (who j w.at) i (old_place j w.at) = subst (λ a. IsMove l rotations (who j a) i (old_place j a)) same x.1 in
          let down = further h chain (who j w.at) i i' (old_place j w.at) (old_place j w.at) less f moved y.1 in omega arith
      go (inr x) (inr y) =
          let over : MovesOver l (rotation_at rotations i) (size i) (who j w.at) w.place = subst (λ b. MovesOver l (rotation_at rotations i) (size i) (who j w.at) b) also (subst (λ a. MovesOver l (rotation_at rotations i) (size i) (who j a) v.place) same x.1) in
          once_over h chain.from_best.stable.matching (eliminable_of chain) (who j w.at) w.place i i' less f over y.1
      go (inl x) (inr y) = let e = ap (old_place j) same in omega (arith, x.0, y.0, also)
      go (inr x) (inl y) = let e = ap (old_place j) same in omega (arith, x.0, y.0, also)

  -- the number of such a place
  abbrev front : ℕ → ℕ → ℕ
  front j at = sum_to (λ i. new_place j i - old_place j i) at

  code : (j i : ℕ) → Owner j i → ℕ
  code j i v = front j v.at + (v.place - old_place j v.at)

  code_below : (j i : ℕ) (v : Owner j i) → code j i v < steps j
  unfolding code
  code_below j i v = omega (arith, sum_grows (λ i. new_place j i - old_place j i) (suc v.at) (size j) v.below, v.low, v.high)

  code_at : (j i i' : ℕ) (v : Owner j i) (w : Owner j i') → code j i v ≡ code j i' w → v.at < w.at → ⊥
  unfolding code
  code_at j i i' v w same less = omega (arith, same, sum_grows (λ i. new_place j i - old_place j i) (suc v.at) w.at less, v.low, v.high)

  code_place : (j i i' : ℕ) (v : Owner j i) (w : Owner j i') → code j i v ≡ code j i' w → v.at ≡ w.at → v.place ≡ w.place
  unfolding code
  code_place j i i' v w same at = omega (arith, same, ap (front j) at, ap (old_place j) at, v.low, w.low)

  one_code : (j i i' : ℕ) → i < i' → i' < length rotations → (v : Owner j i) (w : Owner j i') → code j i v ≢ code j i' w
  one_code j i i' less f v w same = elim (lt_or_le v.at w.at) [
    | inl x ↦ code_at j i i' v w same x
    | inr x ↦ elim (eq_or_ne v.at w.at) [
      | inl e ↦ one_owner j i i' less f v w e (code_place j i i' v w same e)
      | inr ne ↦ code_at j i' i w v (sym same) (omega arith)
    ]
  ]

  module _ (j : ℕ) (g : j < length rotations) {needs : List ℕ} (are : AreNeedsOf l rotations j needs) where
    owner : (a : ℕ) → a < length needs → Owner j (slice_index needs a)
    owner a less = owner_of j (slice_index needs a) g (are.sound a less) (are.each a less)

    number_go : (a : ℕ) → (a < length needs) ⊎ (length needs ≤ a) → ℕ
    number_go a (inl less) = code j (slice_index needs a) (owner a less)
    number_go a (inr _) = 0

    number : ℕ → ℕ
    number a = number_go a (lt_or_le a (length needs))

    record Numbered (a : ℕ) : Type 0 where
      owner_is : Owner j (slice_index needs a)
      code_is : number a ≡ code j (slice_index needs a) owner_is

    numbered : (a : ℕ) → a < length needs → Numbered a
    unfolding number number_go
    numbered a less = go (lt_or_le a (length needs)) refl
      where
        go : (d : (a < length needs) ⊎ (length needs ≤ a)) → lt_or_le a (length needs) ≡ d → Numbered a
        go (inl x) e = record { owner_is = owner a x; code_is = ap (number_go a) e }
        go (inr x) e = absurd (omega arith)

    -- so a rotation has no more predecessors than places by which it moves its proposers
    pub needs_le : length needs ≤ steps j
    needs_le = one_to_one-le (length needs) (steps j) number
        (λ a less. let w = numbered a less in omega (arith, w.code_is, code_below j (slice_index needs a) w.owner_is))
        (λ a b less in_it same.
        let v = numbered a (omega arith) in
        let w = numbered b in_it in
        one_code j (slice_index needs a) (slice_index needs b) (are.rising a b less in_it) (are.sound b in_it) v.owner_is w.owner_is (sym v.code_is ∙ same ∙ w.code_is))

  -- the rotations of a chain have fewer than 2^24 predecessors together
  pub needs_few : IsWithinLimits l → {needs : List (List ℕ)} → AreNeeds l rotations needs → sum_to (λ j. length (row needs j)) (length rotations) < 2 ^ 24
  needs_few limits {needs} are = omega (arith, sum_le (length rotations) (λ j. length (row needs j)) steps (λ j g. needs_le j g (are.each j g)), steps_few limits)
