-- How many edges there are before they are merged, and the sum of their rooms.
use Rattle.std.proofs.Common.{◌≡◌, ℕ, zero, suc, ◌+◌, ◌*◌, ◌≤◌, ◌==◌, arith, refl, ap, Bool, true, false, List, [], ◌∷◌, ◌++◌, length, take, None, slice_index_or, ℤ, pos, negsuc}
use Rattle.std.specs.Prelude.{if◌then◌else◌}
use Rattle.std.specs.List.{flat_map, sum_by}
use Rattle.std.specs.Int.RustNames.{unsigned_abs}
use Rattle.std.proofs.lemmas.List.{length-append, take_all}
use Rattle.std.proofs.lemmas.List.Sums.{sum_by-append, sum_by_more}
use Rattle.sm_lists.specs.Sums.{sum_to}
use Rattle.sm_lists.proofs.Sums.{sum_le, sum_none}
use Rattle.sm_market.specs.Lists.{Lists, row}
use Rattle.sm_market.specs.Matching.{Places}
use Rattle.sm_theory.specs.Conditions.{entry_node, exit_node}
use Rattle.sm_weight.proofs.CountLemmas.{sum_to-ones}
use Rattle.sm_weight.specs.declared.edges.Edge.{Edge}
use Rattle.sm_weight.specs.Edges.{loose, room_size, room_total}
use Rattle.sm_weight.specs.Net.{joined, need_edges, gain_edge, gain_edges, forced_edges, forbidden_edges, raw_edges}

pub rooms_append : (xs ys : List Edge) → room_total (xs ++ ys) ≡ room_total xs + room_total ys
rooms_append xs ys = sum_by-append (λ (e : Edge). room_size e.room) xs ys

-- what joined lists come to
pub joined_few : (f : ℕ → List Edge) (n : ℕ) → length (joined f n) ≡ sum_to (λ k. length (f k)) n
joined_few f zero = refl
joined_few f (suc n) = omega (arith, length-append (joined f n) (f n), joined_few f n)

pub joined_rooms : (f : ℕ → List Edge) (n : ℕ) → room_total (joined f n) ≡ sum_to (λ k. room_total (f k)) n
joined_rooms f zero = refl
joined_rooms f (suc n) = omega (arith, rooms_append (joined f n) (f n), joined_rooms f n)

flat_few : {X : Type 0} (f : X → List Edge) (most : ℕ) → ((x : X) → length (f x) ≤ most) → (xs : List X) → length (flat_map f xs) ≤ most * length xs
flat_few f most few [] = omega arith
flat_few f most few (x ∷ xs) = let one = few x in let rest = flat_few f most few xs in grind (arith, length-append)

flat_rooms : {X : Type 0} (f : X → List Edge) → ((x : X) → room_total (f x) ≡ 0) → (xs : List X) → room_total (flat_map f xs) ≡ 0
flat_rooms f none [] = refl
flat_rooms f none (x ∷ xs) = omega (arith, rooms_append (f x) (flat_map f xs), none x, flat_rooms f none xs)

loose_few : (i j : ℕ) → length (loose i j) ≤ 1
loose_few i j = go (i == j)
  where
    go : (b : Bool) → length {A = Edge} (if b then [] else record { from = i; to = j; room = None } ∷ []) ≤ 1
    go true = omega arith
    go false = omega arith

loose_rooms : (i j : ℕ) → room_total (loose i j) ≡ 0
loose_rooms i j = go (i == j)
  where
    go : (b : Bool) → room_total (if b then [] else record { from = i; to = j; room = None } ∷ []) ≡ 0
    go true = refl
    go false = refl

pub gain_few : (sink k : ℕ) (g : ℤ) → length (gain_edge sink k g) ≤ 1
gain_few sink k (pos zero) = omega arith
gain_few sink k (pos (suc m)) = omega arith
gain_few sink k (negsuc m) = omega arith

pub gain_rooms : (sink k : ℕ) (g : ℤ) → room_total (gain_edge sink k g) ≤ unsigned_abs g
gain_rooms sink k (pos zero) = omega arith
gain_rooms sink k (pos (suc m)) = omega arith
gain_rooms sink k (negsuc m) = omega arith

-- a sum over a list is one over its places
pub sum_places : (f : ℤ → ℕ) (xs : List ℤ) (n : ℕ) → n ≤ length xs → sum_to (λ k. f (slice_index_or xs k (pos 0))) n ≡ sum_by f (take n xs)
sum_places f xs zero le = refl
sum_places f xs (suc n) le =
    let more : sum_by f (take (n + 1) xs) ≡ sum_by f (take n xs) + f (slice_index_or xs n (pos 0)) = sum_by_more f xs n (pos 0) (omega arith) in
    let e : n + 1 ≡ suc n = omega arith in
    omega (arith, more, ap (λ k. sum_by f (take k xs)) e, sum_places f xs n (omega arith))

module _ (l : Lists) (levels : List (List ℕ)) (forced forbidden : List (ℕ × ℕ)) (first : Places) (rotations : List (List (ℕ × ℕ))) (needs : List (List ℕ)) (gains : List ℤ) where
  abbrev n : ℕ
  n = length rotations

  abbrev need_list : List Edge
  need_list = joined (need_edges needs) (length needs)

  abbrev gain_list : List Edge
  gain_list = joined (gain_edges (suc n) gains) (length gains)

  abbrev forced_list : List Edge
  forced_list = flat_map (forced_edges l levels first rotations) forced

  abbrev forbidden_list : List Edge
  forbidden_list = flat_map (forbidden_edges l levels first rotations) forbidden

  need_few : (k : ℕ) → length (need_edges needs k) ≤ length (row needs k)
  need_few k = let x = flat_few (λ i. loose (k + 1) (i + 1)) 1 (λ i. loose_few (k + 1) (i + 1)) (row needs k) in omega arith

  need_rooms : (k : ℕ) → room_total (need_edges needs k) ≡ 0
  need_rooms k = flat_rooms (λ i. loose (k + 1) (i + 1)) (λ i. loose_rooms (k + 1) (i + 1)) (row needs k)

  forced_few : (c : ℕ × ℕ) → length (forced_edges l levels first rotations c) ≤ 2
  forced_few c = omega (
    arith,
    length-append (loose 0 (entry_node l levels first rotations c.0 c.1)) (loose (exit_node l levels rotations c.0 c.1) (suc n)),
    loose_few 0 (entry_node l levels first rotations c.0 c.1),
    loose_few (exit_node l levels rotations c.0 c.1) (suc n),
  )

  forced_rooms : (c : ℕ × ℕ) → room_total (forced_edges l levels first rotations c) ≡ 0
  forced_rooms c = omega (
    arith,
    rooms_append (loose 0 (entry_node l levels first rotations c.0 c.1)) (loose (exit_node l levels rotations c.0 c.1) (suc n)),
    loose_rooms 0 (entry_node l levels first rotations c.0 c.1),
    loose_rooms (exit_node l levels rotations c.0 c.1) (suc n),
  )

  -- there are no more edges than predecessors, gains, twice the forced pairs and the forbidden ones
  pub raw_few : length (raw_edges l levels forced forbidden first rotations needs gains) ≤ sum_to (λ k. length (row needs k)) (length needs) + length gains + 2 * length forced + length forbidden
  raw_few = omega (
    arith,
    length-append ((need_list ++ gain_list) ++ forced_list) forbidden_list,
    length-append (need_list ++ gain_list) forced_list,
    length-append need_list gain_list,
    joined_few (need_edges needs) (length needs),
    sum_le (length needs) (λ k. length (need_edges needs k)) (λ k. length (row needs k)) (λ k _. need_few k),
    joined_few (gain_edges (suc n) gains) (length gains),
    sum_le (length gains) (λ k. length (gain_edges (suc n) gains k)) (λ _. 1) (λ k _. gain_few (suc n) k (slice_index_or gains k (pos 0))),
    sum_to-ones (length gains),
    flat_few (forced_edges l levels first rotations) 2 forced_few forced,
    flat_few (forbidden_edges l levels first rotations) 1 (λ c. loose_few (entry_node l levels first rotations c.0 c.1) (exit_node l levels rotations c.0 c.1)) forbidden,
  )

  -- their rooms sum up to no more than the sizes of the gains
  pub raw_small : room_total (raw_edges l levels forced forbidden first rotations needs gains) ≤ sum_by unsigned_abs gains
  raw_small = omega (
    arith,
    rooms_append ((need_list ++ gain_list) ++ forced_list) forbidden_list,
    rooms_append (need_list ++ gain_list) forced_list,
    rooms_append need_list gain_list,
    joined_rooms (need_edges needs) (length needs),
    sum_le (length needs) (λ k. room_total (need_edges needs k)) (λ _. 0) (λ k _. omega (arith, need_rooms k)),
    sum_none (length needs) (λ _. 0) (λ _ _. refl),
    joined_rooms (gain_edges (suc n) gains) (length gains),
    sum_le (length gains) (λ k. room_total (gain_edges (suc n) gains k)) (λ k. unsigned_abs (slice_index_or gains k (pos 0))) (λ k _. gain_rooms (suc n) k (slice_index_or gains k (pos 0))),
    sum_places unsigned_abs gains (length gains) (omega arith),
    ap (sum_by unsigned_abs) (take_all (length gains) gains (omega arith)),
    flat_rooms (forced_edges l levels first rotations) forced_rooms forced,
    flat_rooms (forbidden_edges l levels first rotations) (λ c. loose_rooms (entry_node l levels first rotations c.0 c.1) (exit_node l levels rotations c.0 c.1)) forbidden,
  )
