-- Conditions by levels name proposers of the instance.
use Rattle.std.proofs.Common.{ℕ, ◌+◌, ◌<◌, List, length, arith, sym, subst}
use Rattle.std.proofs.lemmas.List.{get_or-map, length-map}
use Rattle.sm_agents.specs.Written.{Written, place_of}
use Rattle.sm_agents.specs.Sound.{IsInstance, IsPairOf}
use Rattle.sm_lists.specs.Pairs.{pair_at}
use Rattle.sm_agents.proofs.ItemLemmas.{forced_in_range, forbidden_in_range}
use Rattle.sm_theory.specs.Vectors.{AreInRange}
use Rattle.sm_seats.specs.Correspondence.{leveled}

-- levels stand beside the proposers of their pairs
named : (w : Written) (pairs : List (ℕ × ℕ)) → ((n : ℕ) → n < length pairs → IsPairOf (length w.proposers) (length w.reviewers) (pair_at pairs n)) → AreInRange (length w.proposers) (leveled w pairs)
named w pairs each c l =
    let f : (ℕ × ℕ) → (ℕ × ℕ) = λ pair. (pair.0, place_of w.proposers pair.0 pair.1 + 1) in
    let on : c < length pairs = omega (arith, l, length-map pairs f) in
    subst (λ (pair : ℕ × ℕ). pair.0 < length w.proposers) (sym (get_or-map f pairs c (0, 0) (0, 0) on)) (each c on).proposer

-- forced pairs name proposers of the instance
pub forced_named : {w : Written} → IsInstance w → AreInRange (length w.proposers) (leveled w w.forced)
forced_named {w} i = named w w.forced (forced_in_range i)

-- forbidden pairs name proposers of the instance
pub forbidden_named : {w : Written} → IsInstance w → AreInRange (length w.proposers) (leveled w w.forbidden)
forbidden_named {w} i = named w w.forbidden (forbidden_in_range i)
