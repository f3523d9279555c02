-- What is found of an answer of `solve`.
use Rattle.std.proofs.Common.{◌≡◌, ℕ, ◌↔◌, List, [], ◌∷◌, ◌++◌, Option, None, Some, sym, ap, ◌∙◌, subst}
use Rattle.std.proofs.lemmas.Bool.{false≢true}
use Rattle.std.proofs.lemmas.List.Elements.{filter_map-append}
use Rattle.sm_agents.specs.Written.{Written}
use Rattle.sm_agents.specs.Sound.{IsInstance}
use Rattle.sm_instance.specs.Stable.{IsStable as IsWrittenStable, IsBestOf}
use Rattle.sm_agents.specs.declared.kinds.Side.{Side}
use Rattle.sm_agents.specs.declared.kinds.Side.TheVariants.{Proposers, Reviewers}
use Rattle.sm_market.specs.Matching.{Places}
use Rattle.sm_market.specs.Pairing.{Paired, IsPairingOf}
use Rattle.sm_market.specs.Stable.{IsStable, IsProposersBest, IsReviewersBest}
use Rattle.sm_market.proofs.PairingLemmas.{one_matching}
use Rattle.sm_seats.specs.Seating.{Seating, seating_of, written_of}
use Rattle.sm_seats.specs.Taken.{places_taken}
use Rattle.sm_seats.specs.Correspondence.{IsSeating, IsSeatedAs}
use Rattle.sm_seats.proofs.LawsProved.{seats_correspond, bests_correspond}
use Rattle.sm_report.specs.Lines.{LineData}
use Rattle.sm_holding.specs.declared.holding.Holding.{Holding}
use Rattle.sm_check_clauses.specs.declared.verdicts.Reason.{Reason}
use Rattle.sm_check_clauses.specs.declared.verdicts.Reason.TheVariants as reason
use Rattle.sm_check_clauses.specs.Said.{pair_in, pairs_in}
use Rattle.sm_check_clauses.specs.Walking.{FindsOrKeeps}
use Rattle.sm_holding.specs.Held.{CanFollow}
use Rattle.sm_check_clauses.specs.Pairs.{SolveHolds}
use Rattle.sm_holding.specs.PairsKept.{ArePairsHeld}
use Rattle.sm_check_answers.specs.Solving.{IsSolveKept}

module _ (w : Written) (side : Side) (pairs : List (ℕ × ℕ)) where
  -- at a line with a pair
  pub pair_holds : (p r : ℕ) → CanFollow w pairs (p, r) → (why : Reason) → SolveHolds w side pairs (LineData.Pair p r) why
  pair_holds p r free reason.NotAMatching = free
  pair_holds p r free reason.Blocked = λ e. absurd (false≢true e)
  pair_holds p r free reason.NotBest = λ e. absurd (false≢true e)
  pair_holds p r free _ = tt

module _ {w : Written} {s : Seating} (i : IsInstance w) (is : s ≡ seating_of w) {places : List (Option ℕ)} (stable : IsWrittenStable w places) {m : Paired} (made : IsPairingOf s.market m) (taken : m.places.proposers ≡ places_taken w places) where
  seating : IsSeating w s
  seating = subst (IsSeating w) (sym is) (seats_correspond w i)

  -- the matching of the seats is the one that corresponds to it
  seated : IsSeatedAs w s places
  seated = seating.seated places stable

  same : m.places ≡ seated.matching
  same = one_matching made.matching seated.stable.matching (taken ∙ sym seated.taken)

  -- the matching of the seats is stable
  pub seats_stable : IsStable s.market m.places
  seats_stable = subst (IsStable s.market) (sym same) seated.stable

  back : written_of s m.places.proposers ≡ places
  back = ap (λ (n : Places). written_of s n.proposers) same ∙ seated.forgets

  -- and it is the best of a side exactly where that is
  pub proposers_best_is : IsProposersBest s.market m.places ↔ IsBestOf Proposers w places
  proposers_best_is = subst (λ (x : List (Option ℕ)). IsProposersBest s.market m.places ↔ IsBestOf Proposers w x) back (bests_correspond w s m.places seating seats_stable).0

  -- and so for the reviewers
  pub reviewers_best_is : IsReviewersBest s.market m.places ↔ IsBestOf Reviewers w places
  reviewers_best_is = subst (λ (x : List (Option ℕ)). IsReviewersBest s.market m.places ↔ IsBestOf Reviewers w x) back (bests_correspond w s m.places seating seats_stable).1

-- what is found with the pairs above a line is found with the lines
pub kept_more : {w : Written} (side : Side) {s : Seating} {before : Holding} (after : Holding) (above : List LineData) → IsSolveKept w s above before → (x : LineData) (r : Option Reason)
    → FindsOrKeeps (SolveHolds w side (pairs_in above) x) (ArePairsHeld w (pairs_in above ++ pairs_in (x ∷ [])) after) r
    → FindsOrKeeps (SolveHolds w side (pairs_in above) x) (IsSolveKept w s (above ++ x ∷ []) after) r
kept_more {w} side after above k x None f =
    (f.0, record { seats = k.seats; pairs = subst (λ (pairs : List (ℕ × ℕ)). ArePairsHeld w pairs after) (sym (filter_map-append pair_in above (x ∷ []))) f.1 })
kept_more side after above k x (Some why) f = f
