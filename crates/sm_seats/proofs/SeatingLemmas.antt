-- What is read off a seating, whichever it is.
use Rattle.std.proofs.Common.{◌≡◌, ℕ, ◌+◌, ◌-◌, ◌<◌, List, [], ◌∷◌, Option, None, length, get_or, sym, ap, ◌∙◌, arith, inl, inr}
use Rattle.std.specs.Option.{option_map}
use Rattle.std.proofs.lemmas.Bool.{cases_lt}
use Rattle.std.proofs.lemmas.List.{get_or_past, get_or_append_left, get_or_push, length_push}
use Rattle.std.proofs.lemmas.List.FromFn.{get_or-map-range_with_len, length-map-range_with_len}
use Rattle.sm_lists.proofs.PlaceLemmas.{entry-place_of}
use Rattle.sm_lists.proofs.RowLemmas.{row_in_range}
use Rattle.sm_market.specs.Lists.{row, place_of}
use Rattle.sm_market.specs.Matching.{held}
use Rattle.sm_seats.specs.Seating.{Seating, reviewer_of, written_place, written_of, at_places, rank_of, levels_at, levels_of}

-- what a proposer holds on its written list
pub held-written_of : (s : Seating) (places : List (Option ℕ)) (p : ℕ) → length places ≡ length s.market.proposers → held (written_of s places) p ≡ option_map (written_place s p) (held places p)
held-written_of s places p long =
    let n = length s.market.proposers in
    let each : ℕ → Option ℕ = λ p. option_map (written_place s p) (held places p) in
    elim (cases_lt p n) [
      | inl here ↦ get_or-map-range_with_len each 0 n p p None here (omega arith)
      | inr past ↦
          let e = length-map-range_with_len each 0 n in
          get_or_past (written_of s places) p None (omega arith) ∙ ap (option_map _) (sym (get_or_past places p None (omega arith)))
    ]

-- there is one for each proposer
pub length-written : (s : Seating) (places : List (Option ℕ)) → length (written_of s places) ≡ length s.market.proposers
length-written s places = length-map-range_with_len (λ p. option_map (written_place s p) (held places p)) 0 (length s.market.proposers)

-- the written place of a seat that p lists
pub written_place-place_of : (s : Seating) (p seat : ℕ) → place_of s.market.proposers p seat < length (row s.market.proposers p)
    → written_place s p (place_of s.market.proposers p seat) ≡ place_of s.lists p (reviewer_of s seat)
written_place-place_of s p seat on = ap (λ x. place_of s.lists p (reviewer_of s x)) (entry-place_of s.market.proposers p seat on)

-- what stands at a place
pub at_place_is : {X : Type 0} (s : Seating) (f : ℕ → ℕ → X) (d : X) (p i : ℕ) → i < length (row s.market.proposers p) → get_or (at_places s f p) i d ≡ f p (written_place s p i)
at_place_is s f d p i on = get_or-map-range_with_len (λ i. f p (written_place s p i)) 0 (length (row s.market.proposers p)) i i d on (omega arith)

-- as many as there are places
pub length-at_places : {X : Type 0} (s : Seating) (f : ℕ → ℕ → X) (p : ℕ) → length (at_places s f p) ≡ length (row s.market.proposers p)
length-at_places s f p = length-map-range_with_len (λ i. f p (written_place s p i)) 0 (length (row s.market.proposers p))

-- the levels of a proposer
pub levels_row : (s : Seating) (p : ℕ) → p < length s.market.proposers → row (levels_of s) p ≡ levels_at s p
levels_row s p here = get_or-map-range_with_len (levels_at s) 0 (length s.market.proposers) p p [] here (omega arith)

-- one more than there are places
pub length-levels : (s : Seating) (p : ℕ) → p < length s.market.proposers → length (row (levels_of s) p) ≡ length (row s.market.proposers p) + 1
length-levels s p here =
    ap length (levels_row s p here) ∙ length_push (at_places s rank_of p) (length (row s.lists p) + 1) ∙ ap (λ n. n + 1) (length-at_places s rank_of p)

-- one more than the written place
pub level_is : (s : Seating) (p i : ℕ) → i < length (row s.market.proposers p) → get_or (row (levels_of s) p) i 0 ≡ written_place s p i + 1
level_is s p i on =
    ap (λ l. get_or l i 0) (levels_row s p (row_in_range s.market.proposers p i on))
    ∙ get_or_append_left (at_places s rank_of p) ((length (row s.lists p) + 1) ∷ []) 0 i (omega (arith, length-at_places s rank_of p, on))
    ∙ at_place_is s rank_of 0 p i on

-- the same of the levels of a proposer, where they are at hand
pub level_read : (s : Seating) (p i : ℕ) {levels : List ℕ} → levels ≡ row (levels_of s) p → i < length (row s.market.proposers p) → get_or levels i 0 ≡ written_place s p i + 1
level_read s p i same on = ap (λ xs. get_or xs i 0) same ∙ level_is s p i on

-- so what is one less is the written place
pub place_read : (s : Seating) (p i : ℕ) {levels : List ℕ} → levels ≡ row (levels_of s) p → i < length (row s.market.proposers p) → get_or levels i 0 - 1 ≡ written_place s p i
place_read s p i same on = (let level = level_read s p i same on in omega (arith, level))

-- and at last one more than the length of the written list
pub level_last : (s : Seating) (p : ℕ) → p < length s.market.proposers → get_or (row (levels_of s) p) (length (row s.market.proposers p)) 0 ≡ length (row s.lists p) + 1
level_last s p here =
    ap (λ l. get_or l (length (row s.market.proposers p)) 0) (levels_row s p here)
    ∙ get_or_push (at_places s rank_of p) (length (row s.lists p) + 1) 0 (length (row s.market.proposers p)) (length-at_places s rank_of p)
