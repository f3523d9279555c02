-- The places of seats and their weights.
use Rattle.std.proofs.Common.{◌≡◌, ℕ, ◌^◌, ◌-◌, ◌<◌, ◌≤◌, ◌∙◌, ℤ, pos, All, List, [], Option, Some, length, get_or, sym, ap, subst, arith, inl, inr}
use Rattle.std.specs.Int.RustNames.{unsigned_abs}
use Rattle.std.proofs.lemmas.Bool.{cases_lt}
use Rattle.std.proofs.lemmas.List.{get_or_past}
use Rattle.std.proofs.lemmas.List.Elements.{All-get_or}
use Rattle.std.proofs.lemmas.List.FromFn.{get_or-map-range_with_len, length-map-range_with_len}
use Rattle.sm_lists.proofs.PlaceLemmas.{get_or-place_on}
use Rattle.sm_agents.specs.Written.{Written, row as written_row, entry, IsAcceptable}
use Rattle.sm_agents.specs.Sound.{IsInstance}
use Rattle.sm_market.specs.Lists.{Lists, row}
use Rattle.sm_theory.specs.Weights.{weight_at}
use Rattle.sm_seats.specs.Seating.{Seating, seating_of, at_places, levels_of}
use Rattle.sm_seats.specs.Correspondence.{weights_by}
use Rattle.sm_seats.proofs.SeatingLemmas.{length-at_places, place_read}
use Rattle.sm_seats.proofs.SeatPlaces.{seat_on}
use Rattle.sm_seats.proofs.MutualLemmas.{mutual_acceptable}
use Rattle.sm_seats.proofs.WrittenLemmas.{written_place-seating}
use Rattle.sm_seats.proofs.CorrespondenceLaws.{sound_entries}
use Rattle.sm_theory.specs.Sizes.{AreWeights}
use Rattle.sm_seats.specs.PlaceWeights.{IsLight, AreLight, AreAcceptableAt}

-- whom a seat's place leads to is acceptable
pub are_acceptable : {w : Written} {s : Seating} → IsInstance w → s ≡ seating_of w → (p : ℕ) → AreAcceptableAt w s p
are_acceptable {w} {s} instance is p = subst (λ (s : Seating). AreAcceptableAt w s p) (sym is) (λ i on.
    let seat = seat_on (sound_entries instance) p i on in
    let both = mutual_acceptable seat.at.mutual_ in
    subst (IsAcceptable w p) (sym (ap (entry w.proposers p) (written_place-seating seat.at) ∙ get_or-place_on (written_row w.proposers p) seat.reviewer both.proposer_lists)) both)

-- so is the entry that a level leads to, which is one more than its place
pub acceptable_read : (w : Written) (s : Seating) (p i : ℕ) {levels : List ℕ} → AreAcceptableAt w s p → levels ≡ row (levels_of s) p → i < length (row s.market.proposers p)
    → IsAcceptable w p (entry w.proposers p (get_or levels i 0 - 1))
acceptable_read w s p i accepts same on = subst (λ k. IsAcceptable w p (entry w.proposers p k)) (sym (place_read s p i same on)) (accepts i on)

-- the weights of one proposer
pub weights_at : (weigh : ℕ → Option ℕ → ℤ) (s : Seating) (p : ℕ) → p < length s.market.proposers → get_or (weights_by weigh s) p [] ≡ at_places s (λ p i. weigh p (Some i)) p
weights_at weigh s p here = get_or-map-range_with_len (at_places s (λ p i. weigh p (Some i))) 0 (length s.market.proposers) p p [] here (omega arith)

-- the weight at each place of light weights is light
pub light_at : (weights : List (List ℤ)) → AreLight weights → (p i : ℕ) → i < length (get_or weights p []) → IsLight (weight_at weights p i)
light_at weights light p i on = elim (cases_lt p (length weights)) [
  | inl here ↦ All-get_or IsLight (get_or weights p []) i (pos 0) on (All-get_or (All IsLight) weights p [] here light)
  | inr past ↦ absurd (let none = ap (λ (xs : List ℤ). length xs) (get_or_past weights p [] past) in omega (arith, none, on))
]

-- a light weight is a small one
pub small_of : (z : ℤ) → IsLight z → unsigned_abs z ≤ 2 ^ 30
small_of z light = omega arith

-- they are small weights, one for each place
pub are_weights : (weigh : ℕ → Option ℕ → ℤ) (s : Seating) {l : Lists} {weights : List (List ℤ)} → l ≡ s.market → weights ≡ weights_by weigh s → AreLight weights → AreWeights l weights
are_weights weigh s {l} {weights} same is light = subst (λ l. AreWeights l weights) (sym same) (subst (AreWeights s.market) (sym is) (record {
  one_each = length-map-range_with_len (at_places s (λ p i. weigh p (Some i))) 0 (length s.market.proposers);
  per_place = λ p here. ap (λ (xs : List ℤ). length xs) (weights_at weigh s p here) ∙ length-at_places s (λ p i. weigh p (Some i)) p;
  small = λ p i on. small_of (weight_at (weights_by weigh s) p i) (light_at (weights_by weigh s) (subst AreLight is light) p i on);
}))
