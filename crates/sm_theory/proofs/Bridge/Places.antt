-- Matchings that are made from the places of their proposers.
use Rattle.std.proofs.Common.{◌≡◌, ◌≢◌, ℕ, zero, suc, ◌+◌, ◌<◌, ◌≤◌, ◌⊎◌, ◌==◌, inl, inr, arith, refl, sym, ap, ◌∙◌, List, [], length, map, Option, None, Some, IsSome, get_or, unwrap_or, cond, Bool, true, false, nat_lt, eqb-true, eq-eqb, ne_eqb, ltb-true, ltb-false, lt-ltb, le-ltb, ext_get_or, min, max}
use Rattle.std.specs.List.{position_or_len, position}
use Rattle.std.proofs.lemmas.Bool.{eqb-false}
use Rattle.std.proofs.lemmas.List.{get_or_past}
use Rattle.std.proofs.lemmas.List.Sums.{passes_at_first, fails_before_first, prefix_len-le-length}
use Rattle.std.proofs.lemmas.List.FromFn.{get_or-map-range_with_len, length-map-range_with_len}
use Rattle.std.proofs.lemmas.Option.{none-some}
use Rattle.sm_market.specs.Lists.{Lists, row, entry, place_of, IsMarket}
use Rattle.sm_market.specs.Matching.{Places, held, standing, IsMatching}
use Rattle.sm_market.specs.Stable.{IsStable}
use Rattle.sm_lists.proofs.Counting.{lt_or_le}
use Rattle.sm_market.proofs.Core.{Stand, Fit, Stable}
use Rattle.sm_market.proofs.Bridge.{sides_of, stand_of, unblocked_of, held_in_turn_of, standing-some}
use Rattle.sm_theory.specs.Lattice.{agents, with_proposers}
use Rattle.sm_theory.proofs.Core.Seats.{Seats, same_stable}

-- nobody past the last agent has a list
pub row_past : (rows : List (List ℕ)) (a : ℕ) → length rows ≤ a → length (row rows a) ≡ 0
row_past rows a h = ap length (get_or_past rows a [] h)

-- what an agent holds in a table of a function is the function's value
pub held_map : (rows : List (List ℕ)) (f : ℕ → Option ℕ) (a : ℕ) → a < length rows → held (map f (agents rows)) a ≡ f a
held_map rows f a h = get_or-map-range_with_len f 0 (length rows) a a None h (omega arith)

-- past the table nothing is held
pub held_map_past : (rows : List (List ℕ)) (f : ℕ → Option ℕ) (a : ℕ) → length rows ≤ a → held (map f (agents rows)) a ≡ None
held_map_past rows f a h = get_or_past (map f (agents rows)) a None (rw (length-map-range_with_len f 0 (length rows)) h)

-- the standing in a table, where None is the list's length
pub standing_map : (rows : List (List ℕ)) (f : ℕ → Option ℕ) (a : ℕ) → a < length rows → standing rows (map f (agents rows)) a ≡ unwrap_or (f a) (length (row rows a))
standing_map rows f a h = rw (held_map rows f a h) refl

-- an agent past the last stands at 0, whatever is held
pub standing_map_past : (rows : List (List ℕ)) (f : ℕ → Option ℕ) (a : ℕ) → length rows ≤ a → standing rows (map f (agents rows)) a ≡ 0
standing_map_past rows f a h = rw (held_map_past rows f a h) (row_past rows a h)

-- the first place that passes, as an option
pub position_cases : {X : Type 0} (test : X → Bool) (xs : List X) → ((position test xs ≡ Some (position_or_len test xs)) × (position_or_len test xs < length xs)) ⊎ ((position test xs ≡ None) × (position_or_len test xs ≡ length xs))
position_cases test xs = go (nat_lt (position_or_len test xs) (length xs)) refl
  where
    go : (b : Bool) → nat_lt (position_or_len test xs) (length xs) ≡ b → ((position test xs ≡ Some (position_or_len test xs)) × (position_or_len test xs < length xs)) ⊎ ((position test xs ≡ None) × (position_or_len test xs ≡ length xs))
    go true e = inl (rw e refl, ltb-true _ _ e)
    go false e = inr (rw e refl, let h = ltb-false (position_or_len test xs) (length xs) e in let k = prefix_len-le-length (λ x. Rattle.std.proofs.Common.not (test x)) xs in omega arith)

-- the first place that passes, or the length where none does
pub unwrap_position : {X : Type 0} (test : X → Bool) (xs : List X) → unwrap_or (position test xs) (length xs) ≡ position_or_len test xs
unwrap_position test xs = elim (position_cases test xs) [
  | inl w ↦ rw w.0 refl
  | inr w ↦ rw w.0 (sym w.1)
]

module _ {l : Lists} (h : IsMarket l) (places : List (Option ℕ)) where
  seat_is : (r : ℕ) → r < length l.reviewers → standing l.reviewers (with_proposers l places).reviewers r ≡ position_or_len (λ p. standing l.proposers places p == place_of l.proposers p r) (row l.reviewers r)
  seat_is r k = standing_map l.reviewers (λ r. position (λ p. standing l.proposers places p == place_of l.proposers p r) (row l.reviewers r)) r k ∙ unwrap_position _ (row l.reviewers r)

  seat_past : (r : ℕ) → length l.reviewers ≤ r → standing l.reviewers (with_proposers l places).reviewers r ≡ 0
  seat_past r k = standing_map_past l.reviewers (λ r. position (λ p. standing l.proposers places p == place_of l.proposers p r) (row l.reviewers r)) r k

  -- each reviewer stands at the first proposer on its list that has it
  pub seats_with : Seats (sides_of l h) (stand_of l (with_proposers l places))
  seats_with = record { within = within; has = has; first = first }
    where
      within : (r : ℕ) → standing l.reviewers (with_proposers l places).reviewers r ≤ length (row l.reviewers r)
      within r = elim (lt_or_le r (length l.reviewers)) [
        | inl k ↦ rw (seat_is r k) (prefix_len-le-length _ (row l.reviewers r))
        | inr k ↦ omega (arith, seat_past r k)
      ]

      has : (r : ℕ) → standing l.reviewers (with_proposers l places).reviewers r < length (row l.reviewers r)
          → place_of l.proposers (entry l.reviewers r (standing l.reviewers (with_proposers l places).reviewers r)) r ≡ standing l.proposers places (entry l.reviewers r (standing l.reviewers (with_proposers l places).reviewers r))
      has r less = elim (lt_or_le r (length l.reviewers)) [
        | inl k ↦ rw (seat_is r k) (sym (eqb-true _ _ (passes_at_first (λ p. standing l.proposers places p == place_of l.proposers p r) (row l.reviewers r) 0 (rw (seat_is r k) at less))))
        | inr k ↦ absurd (omega (arith, row_past l.reviewers r k))
      ]

      first : (r k : ℕ) → k < standing l.reviewers (with_proposers l places).reviewers r → place_of l.proposers (entry l.reviewers r k) r ≢ standing l.proposers places (entry l.reviewers r k)
      first r k less e = elim (lt_or_le r (length l.reviewers)) [
        | inl j ↦ eqb-false _ _ (fails_before_first (λ p. standing l.proposers places p == place_of l.proposers p r) (row l.reviewers r) k 0 (rw (seat_is r j) at less)) (sym e)
        | inr j ↦ absurd (omega (arith, seat_past r j))
      ]

  -- a matching, where the standings are those of one
  pub matching_with : length places ≡ length l.proposers → ((p i : ℕ) → held places p ≡ Some i → i < length (row l.proposers p)) → Fit (sides_of l h) (stand_of l (with_proposers l places)) → IsMatching l (with_proposers l places)
  matching_with one on f = record {
    proposers = held_in_turn_of h.proposers one on f.left;
    reviewers = held_in_turn_of h.reviewers (length-map-range_with_len _ 0 (length l.reviewers)) on' f.right;
  }
    where
      on' : (r k : ℕ) → held (with_proposers l places).reviewers r ≡ Some k → k < length (row l.reviewers r)
      on' r k e = elim (lt_or_le r (length l.reviewers)) [
        | inl j ↦ elim (position_cases (λ p. standing l.proposers places p == place_of l.proposers p r) (row l.reviewers r)) [
          | inl w ↦ omega (arith, w.1, sym (standing-some l.reviewers (with_proposers l places).reviewers r k e), seat_is r j)
          | inr w ↦ absurd (none-some _ (sym w.0 ∙ sym (held_map l.reviewers (λ r. position (λ p. standing l.proposers places p == place_of l.proposers p r) (row l.reviewers r)) r j) ∙ e))
        ]
        | inr j ↦ absurd (none-some _ (sym (held_map_past l.reviewers (λ r. position (λ p. standing l.proposers places p == place_of l.proposers p r) (row l.reviewers r)) r j) ∙ e))
      ]

  -- and a stable one, where they are those of a stable one
  pub stable_with : length places ≡ length l.proposers → ((p i : ℕ) → held places p ≡ Some i → i < length (row l.proposers p)) → Stable (sides_of l h) (stand_of l (with_proposers l places)) → IsStable l (with_proposers l places)
  stable_with one on s = record { matching = matching_with one on s.fit; unblocked = unblocked_of h s }

-- a stand that is stable has a matching that is
pub record Tabled (l : Lists) (n : Stand) : Type 0 where
  pub places : Places
  pub stable : IsStable l places
  pub alike : (p : ℕ) → standing l.proposers places.proposers p ≡ n.a p

choose : ℕ → ℕ → Option ℕ
choose a len = cond (nat_lt a len) (Some a) None

choose_in : (a len : ℕ) → a ≤ len → unwrap_or (choose a len) len ≡ a
unfolding choose
choose_in a len h = elim (lt_or_le a len) [ inl k ↦ rw (lt-ltb a len k) refl | inr k ↦ rw (le-ltb a len k) (omega arith) ]

choose_on : (a len i : ℕ) → choose a len ≡ Some i → i < len
unfolding choose
choose_on a len i e = elim (lt_or_le a len) [
  | inl k ↦ let x : ◌≡◌ {A = Option ℕ} (Some a) (Some i) = rw (lt-ltb a len k) at e in let y : a ≡ i = cc in omega arith
  | inr k ↦ let x : ◌≡◌ {A = Option ℕ} None (Some i) = rw (le-ltb a len k) at e in absurd cc
]

-- a stable matching as functions is that of some places over lists
pub tabled : {l : Lists} (h : IsMarket l) {n : Stand} → Stable (sides_of l h) n → Tabled l n
tabled {l} h {n} s = record { places = with_proposers l list; stable = stable_with h list (length-map-range_with_len _ 0 (length l.proposers)) on (same_stable s alike (seats_with h list)); alike = alike }
  where
    list : List (Option ℕ)
    list = map (λ p. choose (n.a p) (length (row l.proposers p))) (agents l.proposers)

    alike : (p : ℕ) → standing l.proposers list p ≡ n.a p
    alike p = elim (lt_or_le p (length l.proposers)) [
      | inl k ↦ standing_map l.proposers (λ p. choose (n.a p) (length (row l.proposers p))) p k ∙ choose_in (n.a p) (length (row l.proposers p)) (s.fit.left.within p)
      | inr k ↦ omega (arith, standing_map_past l.proposers (λ p. choose (n.a p) (length (row l.proposers p))) p k, s.fit.left.within p, row_past l.proposers p k)
    ]

    on : (p i : ℕ) → held list p ≡ Some i → i < length (row l.proposers p)
    on p i e = elim (lt_or_le p (length l.proposers)) [
      | inl k ↦ choose_on (n.a p) (length (row l.proposers p)) i (sym (held_map l.proposers (λ p. choose (n.a p) (length (row l.proposers p))) p k) ∙ e)
      | inr k ↦ let x : ◌≡◌ {A = Option ℕ} None (Some i) = sym (held_map_past l.proposers (λ p. choose (n.a p) (length (row l.proposers p))) p k) ∙ e in absurd cc
    ]
