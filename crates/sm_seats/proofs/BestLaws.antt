-- The best stable matchings of the instance are those of the seats.
use Rattle.std.proofs.Common.{◌≡◌, ℕ, ◌+◌, ◌≤◌, length, map, sym, ap, ◌∙◌, arith}
use Rattle.std.specs.List.{range_with_len}
use Rattle.sm_agents.specs.Written.{Written}
use Rattle.sm_instance.specs.Matching.{standing as written_standing}
use Rattle.sm_instance.specs.Stable.{IsProposersBest as IsWrittenProposersBest, IsReviewersBest as IsWrittenReviewersBest}
use Rattle.sm_market.specs.Matching.{Places, standing}
use Rattle.sm_market.specs.Stable.{IsStable, IsProposersBest, IsReviewersBest}
use Rattle.sm_theory.specs.Choices.{meet_of, join_of}
use Rattle.sm_theory.proofs.Chains.Lattice.{meet_is_stable, join_is_stable, levels_determine}
use Rattle.sm_seats.specs.Seating.{Seating, written_of, levels_of}
use Rattle.sm_seats.specs.Correspondence.{IsSeating}
use Rattle.sm_seats.proofs.SeatingLaws.{as_well}

module _ {w : Written} {s : Seating} (h : IsSeating w s) {m : Places} (st : IsStable s.market m) where
  -- who stands alike in the instance stands alike at the seats
  alike : {k : Places} → IsStable s.market k → ((p : ℕ) → written_standing w (written_of s k.proposers) p ≡ written_standing w (written_of s m.proposers) p) → k ≡ m
  alike {k} hk same = levels_determine s.market (levels_of s) k m h.market h.alike hk st
      (h.ranks k hk.matching ∙ (λ t. map (λ p. same p t + 1) (range_with_len 0 (length w.proposers))) ∙ sym (h.ranks m st.matching))

  -- in the meet with another nobody stands better in the instance, so the meet is the best matching itself
  pub seats_proposers_best : IsWrittenProposersBest w (written_of s m.proposers) → IsProposersBest s.market m
  seats_proposers_best b = record {
    stable = st;
    best = λ n hn p.
        let k = meet_of s.market m n in
        let both = meet_is_stable s.market m n h.market st hn in
        let is : k ≡ m = alike both.0 (λ q.
        let lower : standing s.market.proposers k.proposers q ≤ standing s.market.proposers m.proposers q = omega (arith, both.1 q) in
        omega (arith, b.best (written_of s k.proposers) (h.forgotten k both.0) q, as_well h both.0 st q lower)) in
        omega (arith, both.1 p, ap (λ (x : Places). standing s.market.proposers x.proposers p) is);
  }

  -- and so with the join and the worst
  pub seats_reviewers_best : IsWrittenReviewersBest w (written_of s m.proposers) → IsReviewersBest s.market m
  seats_reviewers_best b = record {
    stable = st;
    worst = λ n hn p.
        let k = join_of s.market m n in
        let both = join_is_stable s.market m n h.market st hn in
        let is : k ≡ m = alike both.0 (λ q.
        let higher : standing s.market.proposers m.proposers q ≤ standing s.market.proposers k.proposers q = omega (arith, both.1 q) in
        omega (arith, b.worst (written_of s k.proposers) (h.forgotten k both.0) q, as_well h st both.0 q higher)) in
        omega (arith, both.1 p, ap (λ (x : Places). standing s.market.proposers x.proposers p) is);
  }
