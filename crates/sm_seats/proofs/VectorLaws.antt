-- What is allowed at the seats is what is allowed in the instance: vectors, listings, and matchings that are least.
use Rattle.std.proofs.Common.{◌≡◌, ℕ, ◌≤◌, Bool, List, Option, sym, ap, ◌∙◌, subst}
use Rattle.sm_agents.specs.Written.{Written}
use Rattle.sm_instance.specs.Stable.{IsStable as IsWrittenStable}
use Rattle.sm_instance.specs.Allowed.{IsAllowed as IsWrittenAllowed}
use Rattle.sm_instance.specs.Ranks.{rank_vector_of, regret_of as written_regret}
use Rattle.sm_market.specs.Matching.{Places}
use Rattle.sm_market.specs.Stable.{IsStable}
use Rattle.sm_theory.specs.Vectors.{IsAllowed, IsAllowedVector}
use Rattle.sm_theory.specs.Weights.{regret_of}
use Rattle.sm_theory.specs.Listings.{IsListing}
use Rattle.sm_seats.specs.Seating.{Seating, written_of, levels_of}
use Rattle.sm_seats.specs.Correspondence.{IsSeating, leveled, worse_ranks_of}
use Rattle.sm_seats.specs.Vectors.{IsAllowedRankVector}

-- a listing of what is in question lists what is in question by other words
pub listing_alike : {Before : List ℕ → List ℕ → Type 0} {IsOne IsOther : List ℕ → Type 0} {cursor : Option (List ℕ)} {limit : ℕ} {out : List (List ℕ)} {more : Bool}
    → ((v : List ℕ) → IsOne v → IsOther v) → ((v : List ℕ) → IsOther v → IsOne v) → IsListing Before IsOne cursor limit out more → IsListing Before IsOther cursor limit out more
listing_alike there back l = record {
  begins = l.begins;
  rises = l.rises;
  sound = λ k h. there _ (l.sound k h);
  whole = λ v one behind. l.whole v (back v one) behind;
  limited = l.limited;
  ended = (λ e v one behind. l.ended.0 e v (back v one) behind, λ none. l.ended.1 (λ v one behind. none v (there v one) behind));
  cut = l.cut;
}

-- the conditions of an instance, at its seats
abbrev pub IsAllowedSeated : Written → Seating → Places → Type 0
IsAllowedSeated w s m = IsAllowed (levels_of s) (leveled w w.forced) (leveled w w.forbidden) m

-- the matching of seats of an allowed stable matching of the instance
pub record HasAllowedSeats (w : Written) (s : Seating) (places : List (Option ℕ)) : Type 0 where
  pub matching : Places
  pub stable : IsStable s.market matching
  pub allowed : IsAllowedSeated w s matching
  pub forgets : written_of s matching.proposers ≡ places

module _ {w : Written} {s : Seating} (h : IsSeating w s) where
  -- an allowed stable matching of the instance has its seats
  pub allowed_seats : {places : List (Option ℕ)} → IsWrittenStable w places → IsWrittenAllowed w places → HasAllowedSeats w s places
  allowed_seats {places} st a =
      let n = h.seated places st in
      record { matching = n.matching; stable = n.stable; allowed = (h.allowed n.matching n.stable.matching).1 (subst (IsWrittenAllowed w) (sym n.forgets) a); forgets = n.forgets }

  -- level vectors of allowed stable matchings of the seats are rank vectors of those of the instance
  pub vector_written : (v : List ℕ) → IsAllowedVector s.market (levels_of s) (leveled w w.forced) (leveled w w.forbidden) v → IsAllowedRankVector w v
  vector_written v a = record {
    places = written_of s a.matching.proposers;
    stable = h.forgotten a.matching a.stable;
    allowed = (h.allowed a.matching a.stable.matching).0 a.allowed;
    vector = a.vector ∙ h.ranks a.matching a.stable.matching;
  }

  -- and the other way round
  pub vector_seated : (v : List ℕ) → IsAllowedRankVector w v → IsAllowedVector s.market (levels_of s) (leveled w w.forced) (leveled w w.forbidden) v
  vector_seated v a =
      let n = allowed_seats a.stable a.allowed in
      record { matching = n.matching; stable = n.stable; allowed = n.allowed; vector = a.vector ∙ ap (rank_vector_of w) (sym n.forgets) ∙ sym (h.ranks n.matching n.stable.matching) }

  -- so a listing at the seats is one of the instance
  pub listing_written : {Before : List ℕ → List ℕ → Type 0} {cursor : Option (List ℕ)} {limit : ℕ} {out : List (List ℕ)} {more : Bool}
      → IsListing Before (IsAllowedVector s.market (levels_of s) (leveled w w.forced) (leveled w w.forbidden)) cursor limit out more
      → IsListing Before (IsAllowedRankVector w) cursor limit out more
  listing_written l = listing_alike vector_written vector_seated l

  -- the least regret that is allowed at the seats is no greater than any that is allowed in the instance
  pub least_regret_written : (m : Places) → IsStable s.market m
      → ((n : Places) → IsStable s.market n → IsAllowedSeated w s n → regret_of s.market (worse_ranks_of w s) m ≤ regret_of s.market (worse_ranks_of w s) n)
      → (places : List (Option ℕ)) → IsWrittenStable w places → IsWrittenAllowed w places → written_regret w (written_of s m.proposers) ≤ written_regret w places
  least_regret_written m hm least places st a =
      let n = allowed_seats st a in
      let theirs : regret_of s.market (worse_ranks_of w s) n.matching ≡ written_regret w places = h.regrets n.matching n.stable.matching ∙ ap (written_regret w) n.forgets in
      subst (λ x. x ≤ written_regret w places) (h.regrets m hm.matching) (subst (λ x. regret_of s.market (worse_ranks_of w s) m ≤ x) theirs (least n.matching n.stable n.allowed))
