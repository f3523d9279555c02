-- The places at which the proposers end.
use Rattle.std.proofs.Common.{◌≡◌, ℕ, ◌<◌, ◌≤◌, List, Option, Some, None, cond, length, get_or, sym, ap, ◌∙◌, arith, inl, inr, lt-ltb, le-ltb}
use Rattle.std.proofs.lemmas.Bool.{cases_lt}
use Rattle.std.proofs.lemmas.List.{get_or_past}
use Rattle.std.proofs.lemmas.List.FromFn.{get_or-map-range_with_len, length-map-range_with_len}
use Rattle.std.proofs.lemmas.Option.{none-some, same_Some}
use Rattle.sm_agents.specs.Written.{AgentData, Written, no_agent, row}
use Rattle.sm_instance.specs.Matching.{held}
use Rattle.sm_answer_solve.specs.Ends.{end_at, ended_places}

-- who has come to a place of its list ends there
pub ended_on : (len place : ℕ) → place < len → end_at len place ≡ Some place
ended_on len place lt = ap (λ b. cond b (Some place) None) (lt-ltb place len lt)

-- who is behind its list is unmatched
pub ended_past : (len place : ℕ) → len ≤ place → end_at len place ≡ None
ended_past len place le = ap (λ b. cond b (Some place) None) (le-ltb place len le)

-- there is a place for each proposer
pub length-ended : (w : Written) (places : List ℕ) → length (ended_places w places) ≡ length w.proposers
length-ended w places = length-map-range_with_len (λ p. end_at (length (row w.proposers p)) (get_or places p 0)) 0 (length w.proposers)

-- and it is where that proposer ends
pub held_ended : (w : Written) (places : List ℕ) (p : ℕ) → held (ended_places w places) p ≡ end_at (length (row w.proposers p)) (get_or places p 0)
held_ended w places p =
    let each : ℕ → Option ℕ = λ q. end_at (length (row w.proposers q)) (get_or places q 0) in
    elim (cases_lt p (length w.proposers)) [
      | inl here ↦ get_or-map-range_with_len each 0 (length w.proposers) p p None here (omega arith)
      | inr past ↦
          let none : length (row w.proposers p) ≡ 0 = ap (λ (x : AgentData). length x.entries) (get_or_past w.proposers p no_agent past) in
          get_or_past (ended_places w places) p None (omega (arith, past, length-ended w places)) ∙ sym (ended_past (length (row w.proposers p)) (get_or places p 0) (omega (arith, none)))
    ]

-- who is matched ends at a place of its list
pub ended_at : (w : Written) (places : List ℕ) (p i : ℕ) → held (ended_places w places) p ≡ Some i → (get_or places p 0 ≡ i) × (i < length (row w.proposers p))
ended_at w places p i h = elim (cases_lt (get_or places p 0) (length (row w.proposers p))) [
  | inl on ↦
      let same : get_or places p 0 ≡ i = same_Some _ _ (sym (held_ended w places p ∙ ended_on (length (row w.proposers p)) (get_or places p 0) on) ∙ h) in
      (same, omega (arith, same, on))
  | inr past ↦ absurd (none-some _ (sym (held_ended w places p ∙ ended_past (length (row w.proposers p)) (get_or places p 0) past) ∙ h))
]
