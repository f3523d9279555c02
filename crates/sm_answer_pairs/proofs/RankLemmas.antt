-- The ranks of the places of seats.
use Rattle.std.proofs.Common.{◌≡◌, ℕ, ◌<◌, ◌∙◌, List, [], length, get_or, Some, sym, ap, subst, arith}
use Rattle.std.proofs.lemmas.List.FromFn.{get_or-map-range_with_len, length-map-range_with_len}
use Rattle.sm_lists.proofs.RowLemmas.{row_in_range}
use Rattle.sm_agents.specs.Written.{Written}
use Rattle.sm_instance.specs.Ranks.{worse_rank}
use Rattle.sm_market.specs.Lists.{Lists, row}
use Rattle.sm_theory.specs.Regrets.{AreRanks}
use Rattle.sm_seats.specs.Seating.{Seating, written_place, at_places, levels_of}
use Rattle.sm_seats.specs.Correspondence.{worse_ranks_of}
use Rattle.sm_seats.proofs.SeatingLemmas.{at_place_is, length-at_places, level_is}

-- the ranks of one proposer
pub ranks_at : (w : Written) (s : Seating) (p : ℕ) → p < length s.market.proposers → row (worse_ranks_of w s) p ≡ at_places s (λ p i. worse_rank w p (Some i)) p
ranks_at w s p here = get_or-map-range_with_len (at_places s (λ p i. worse_rank w p (Some i))) 0 (length s.market.proposers) p p [] here (omega arith)

rank_at : (w : Written) (s : Seating) (p i : ℕ) → p < length s.market.proposers → i < length (row s.market.proposers p) → get_or (row (worse_ranks_of w s) p) i 0 ≡ worse_rank w p (Some (written_place s p i))
rank_at w s p i here on = ap (λ (xs : List ℕ). get_or xs i 0) (ranks_at w s p here) ∙ at_place_is s (λ p i. worse_rank w p (Some i)) 0 p i on

-- places of one level have one rank, since they are those of one reviewer
pub are_ranks : (w : Written) (s : Seating) → AreRanks s.market (levels_of s) (worse_ranks_of w s)
are_ranks w s = record {
  one_each = length-map-range_with_len (at_places s (λ p i. worse_rank w p (Some i))) 0 (length s.market.proposers);
  per_place = λ p here. ap length (ranks_at w s p here) ∙ length-at_places s (λ p i. worse_rank w p (Some i)) p;
  alike = λ p i j on other same.
      let here : p < length s.market.proposers = row_in_range s.market.proposers p i on in
      let place : written_place s p i ≡ written_place s p j = omega (arith, level_is s p i on, level_is s p j other, same) in
      rank_at w s p i here on ∙ ap (λ k. worse_rank w p (Some k)) place ∙ sym (rank_at w s p j here other);
}

-- so it is with those of a search at the levels of the seats
pub are_ranks_of : (w : Written) (s : Seating) {l : Lists} {levels ranks : List (List ℕ)} → l ≡ s.market → levels ≡ levels_of s → ranks ≡ worse_ranks_of w s → AreRanks l levels ranks
are_ranks_of w s {l} {levels} {ranks} same at given =
    subst (λ l. AreRanks l levels ranks) (sym same) (subst (λ x. AreRanks s.market x ranks) (sym at) (subst (AreRanks s.market (levels_of s)) (sym given) (are_ranks w s)))
