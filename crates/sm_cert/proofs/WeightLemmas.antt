-- The worked answers of `weight`.
use Rattle.std.proofs.Common.{◌≡◌, ℕ, zero, suc, ◌<◌, ◌≤◌, inl, inr, arith, refl, sym, List, [], ◌∷◌, take, drop, None, Some, Option, ℤ, pos, negsuc, true, false, subst, ne_eqb, length}
use Rattle.std.specs.Prelude.{Contains, IfSome, ◌↔◌, ◌⊎◌, not, Bool, All}
use Rattle.std.proofs.lemmas.Option.{none-some, same_Some}
use Rattle.sm_agents.specs.declared.kinds.Measure.TheVariants.{Given}
use Rattle.sm_instance.specs.Allowed.{IsAllowed}
use Rattle.sm_instance.specs.Matching.{IsMatching, load, held}
use Rattle.sm_agents.specs.Written.{capacity_of, IsAcceptable, entry, row}
use Rattle.sm_market.specs.Stable.{IsStable, IsProposersBest}
use Rattle.sm_theory.specs.Witnesses.{three_cycle, three_cycle_first, three_cycle_chain}
use Rattle.sm_theory.specs.Chains.{AreNeedsOf, IsNeededBy, rotation_at, stage}
use Rattle.sm_theory.specs.ClosedSets.{IsClosed, IsMember}
use Rattle.sm_theory.specs.Rotations.{IsNothingExposed, IsLowestExposed}
use Rattle.sm_theory.specs.Net.{Net, IsReachable}
use Rattle.sm_theory.specs.Flows.{IsResidualReach, IsResidualStep}
use Rattle.sm_theory.specs.FlowLines.{amount_on, IsNewEdge, IsConserved, HaveSameEnds}
use Rattle.sm_theory.specs.declared.flow_lines.FlowLine.{FlowLine}
use Rattle.sm_theory.proofs.Chains.Rotations.{predecessor_is_earlier}
use Rattle.sm_theory.proofs.Tests.Markets.{below_two, three_cycle_is}
use Rattle.sm_theory.proofs.Flow.Witness.{worked_net}
use Rattle.sm_seats.specs.SeatMarket.{seat_market}
use Rattle.sm_report.specs.declared.lines.Seat.{Seat}
use Rattle.sm_report.specs.Heads.{HeadData}
use Rattle.sm_report.specs.Lines.{LineData}
use Rattle.sm_report.specs.Texts.{SINK}
use Rattle.sm_check_clauses.specs.declared.verdicts.Reason.{Reason}
use Rattle.sm_check_clauses.specs.declared.verdicts.Reason.TheVariants as reason
use Rattle.sm_check_clauses.specs.Verdicts.{number_of_reason}
use Rattle.sm_check_clauses.specs.Said.{first_in, firsts_in, rotation_in, rotations_in, needs_in, gain_in, taken_in, pair_in, pairs_in, is_end, is_up_to_firsts, is_up_to_rotations, IsFirstBehind}
use Rattle.sm_check_clauses.specs.Pairs.{IsWanted, WantedHold, AreAllThere}
use Rattle.sm_check_clauses.specs.SeatMatchings.{IsFreeSeat, FirstsHold, first_of}
use Rattle.sm_check_clauses.specs.Chain.{reached, last_rotation, ChainHolds}
use Rattle.sm_check_clauses.specs.Flows.{net_in, first_level, LevelHolds, TakenHolds, IsAllowedSet, taken_matching, WeightHolds}
use Rattle.sm_report.specs.Witnesses.{first_seat_of}
use Rattle.sm_cert.specs.WitnessesWeight.{three_by_three, weight_lines, WeightAnswers}
use Rattle.sm_check_clauses.proofs.LinewiseLemmas.{AllHold, hold_at, hold_append, all_hold, no_end}

-- The clauses at lines that are none of theirs.
NotFirst : (above : List LineData) (x : LineData) → (is_up_to : LineData → Bool) → is_up_to x ≡ true → IsFirstBehind is_up_to above x → ⊥
NotFirst above x is_up_to e b = no_end (subst (λ t. not t ≡ true) e b.behind)

module _ (above : List LineData) (x : LineData) where
  -- before the rotations, and from them on
  firsts_early : is_up_to_firsts x ≡ true → IfSome (first_in three_by_three x) (IsFreeSeat (seat_market three_by_three) (firsts_in three_by_three above))
      → (why : Reason) → FirstsHold three_by_three above x why
  firsts_early e free reason.NotAMatching = free
  firsts_early e free reason.Blocked = λ b. absurd (NotFirst above x is_up_to_firsts e b)
  firsts_early e free reason.NotBest = λ b. absurd (NotFirst above x is_up_to_firsts e b)
  firsts_early e free _ = tt

  firsts_late : first_in three_by_three x ≡ None → first_of three_by_three above ≡ three_cycle_first → (why : Reason) → FirstsHold three_by_three above x why
  firsts_late none is reason.NotAMatching = subst (λ o. IfSome o (IsFreeSeat (seat_market three_by_three) (firsts_in three_by_three above))) (sym none) tt
  firsts_late none is reason.Blocked = λ _. subst (IsStable three_cycle) (sym is) three_cycle_is.1.chain.from_best.stable
  firsts_late none is reason.NotBest = λ _. subst (IsProposersBest three_cycle) (sym is) three_cycle_is.1.chain.from_best
  firsts_late none is _ = tt

  -- at a line up to the rotations, and behind them
  chain_early : is_up_to_rotations x ≡ true → IfSome (rotation_in three_by_three x) (IsLowestExposed (seat_market three_by_three) (reached three_by_three above))
      → IfSome (needs_in x) (AreNeedsOf (seat_market three_by_three) (rotations_in three_by_three above) (last_rotation three_by_three above)) → (why : Reason) → ChainHolds three_by_three above x why
  chain_early e next needs reason.NotExposed = next
  chain_early e next needs reason.RotationMissing = λ b. absurd (NotFirst above x is_up_to_rotations e b)
  chain_early e next needs reason.WrongNeeds = needs
  chain_early e next needs _ = tt

  chain_late : rotation_in three_by_three x ≡ None → needs_in x ≡ None → IsNothingExposed (seat_market three_by_three) (reached three_by_three above) → (why : Reason) → ChainHolds three_by_three above x why
  chain_late none none_needed nothing reason.NotExposed = subst (λ o. IfSome o (IsLowestExposed (seat_market three_by_three) (reached three_by_three above))) (sym none) tt
  chain_late none none_needed nothing reason.RotationMissing = λ _. nothing
  chain_late none none_needed nothing reason.WrongNeeds = subst (λ o. IfSome o (AreNeedsOf (seat_market three_by_three) (rotations_in three_by_three above) (last_rotation three_by_three above))) (sym none_needed) tt
  chain_late none none_needed nothing _ = tt

  -- no set, and no end
  taken_quiet : taken_in x ≡ None → is_end x ≡ false → (why : Reason) → TakenHolds three_by_three (first_level three_by_three Given above) above x why
  taken_quiet none open_still reason.NotClosed = subst (λ o. IfSome o (IsAllowedSet three_by_three above)) (sym none) tt
  taken_quiet none open_still reason.NotLeast = λ e. no_end (subst (λ t. t ≡ true) open_still e)
  taken_quiet none open_still _ = tt

  wanted_quiet : pair_in x ≡ None → is_end x ≡ false → (why : Reason) → WantedHold three_by_three (taken_matching three_by_three above) (pairs_in above) x why
  wanted_quiet none open_still reason.WrongPair = (
    subst (λ o. IfSome o (IsWanted three_by_three (taken_matching three_by_three above) (pairs_in above))) (sym none) tt,
    (λ e. no_end (subst (λ t. t ≡ true) open_still e)),
  )
  wanted_quiet none open_still _ = tt

  together : ((why : Reason) → FirstsHold three_by_three above x why) → ((why : Reason) → ChainHolds three_by_three above x why)
      → ((why : Reason) → LevelHolds three_by_three (first_level three_by_three Given above) above x why)
      → ((why : Reason) → TakenHolds three_by_three (first_level three_by_three Given above) above x why)
      → ((why : Reason) → WantedHold three_by_three (taken_matching three_by_three above) (pairs_in above) x why)
      → (why : Reason) → WeightHolds three_by_three Given above x why
  together f c l t p why = (f why, c why, l why, l why, t why, p why)

-- The chain.
abbrev first_rotation : List (ℕ × ℕ)
first_rotation = (0, 0) ∷ (1, 1) ∷ (2, 2) ∷ []

next_first : IsLowestExposed three_cycle three_cycle_first first_rotation
next_first = three_cycle_is.1.lowest 0 (omega arith)

next_second : IsLowestExposed three_cycle (stage three_cycle three_cycle_first three_cycle_chain 1) ((0, 1) ∷ (1, 2) ∷ (2, 0) ∷ [])
next_second = three_cycle_is.1.lowest 1 (omega arith)

none_left : IsNothingExposed three_cycle (stage three_cycle three_cycle_first three_cycle_chain 2)
none_left = record { none = three_cycle_is.1.chain.complete }

no_needs : AreNeedsOf three_cycle (first_rotation ∷ []) 0 []
no_needs = record {
  rising = λ a b x y. absurd (omega arith);
  sound = λ a x. absurd (omega arith);
  each = λ a x. absurd (omega arith);
  all = all;
}
  where
    all : (i : ℕ) → i < 1 → IsNeededBy three_cycle (rotation_at (first_rotation ∷ []) i) first_rotation → Contains [] i
    all zero h need =
        absurd (omega (arith, predecessor_is_earlier three_cycle three_cycle_first three_cycle_chain 0 0 three_cycle_is.0 three_cycle_is.1.chain (omega arith) (omega arith) need))
    all (suc i) h need = absurd (omega arith)

-- The flow.
abbrev edge : ℕ → ℕ → ℕ → FlowLine
edge from to amount = record { from = from; to = to; amount = amount }

abbrev net : Net
net = net_in three_by_three Given (weight_lines 0 0 0 0)

none_before : (P : FlowLine → Type 0) → All P []
none_before P k d h = absurd (omega arith)

one_before : (P : FlowLine → Type 0) (x : FlowLine) → P x → All P (x ∷ [])
one_before P x p zero d h = p
one_before P x p (suc k) d h = absurd (omega arith)

two_before : (P : FlowLine → Type 0) (x y : FlowLine) → P x → P y → All P (x ∷ y ∷ [])
two_before P x y p q zero d h = p
two_before P x y p q (suc zero) d h = q
two_before P x y p q (suc (suc k)) d h = absurd (omega arith)

new_first : (a : ℕ) → IsNewEdge net [] (edge 0 2 a)
new_first a = record { not_through = λ h. omega (arith, h.1); edge = inr (omega arith); new = none_before _ }

new_second : (a c : ℕ) → IsNewEdge net (edge 0 2 a ∷ []) (edge 1 3 c)
new_second a c = record {
  not_through = λ h. omega (arith, h.0);
  edge = inr (omega arith);
  new = one_before (λ other. ¬ HaveSameEnds other (edge 1 3 c)) (edge 0 2 a) (λ h. omega (arith, h.0));
}

new_third : (a c d : ℕ) → IsNewEdge net (edge 0 2 a ∷ edge 1 3 c ∷ []) (edge 2 1 d)
new_third a c d = record {
  not_through = λ h. omega (arith, h.0);
  edge = inl refl;
  new = two_before (λ other. ¬ HaveSameEnds other (edge 2 1 d)) (edge 0 2 a) (edge 1 3 c) (λ h. omega (arith, h.0)) (λ h. omega (arith, h.0));
}

conserved : (a : ℕ) → a ≡ 4 ⊎ a ≡ 3 → IsConserved 2 (edge 0 2 a ∷ edge 1 3 a ∷ edge 2 1 a ∷ [])
conserved a (inl e) = subst (λ n. IsConserved 2 (edge 0 2 n ∷ edge 1 3 n ∷ edge 2 1 n ∷ [])) (sym e) (below_two _ refl refl)
conserved a (inr e) = subst (λ n. IsConserved 2 (edge 0 2 n ∷ edge 1 3 n ∷ edge 2 1 n ∷ [])) (sym e) (below_two _ refl refl)

-- The set of both rotations, and its matching.
closed : IsClosed three_cycle three_cycle_chain (true ∷ true ∷ [])
closed = record { one_each = refl; closed = λ i j x y member need. below_two (λ i. IsMember (true ∷ true ∷ []) i) refl refl i x }

abbrev lasts : List (Option ℕ)
lasts = Some 2 ∷ Some 2 ∷ Some 2 ∷ []

last_matching : IsMatching three_by_three lasts
last_matching = record { assigned = record { one_each = refl; on_lists = on_lists }; acceptable = acceptable; within = within }
  where
    on_lists : (p i : ℕ) → held lasts p ≡ Some i → i < length (row three_by_three.proposers p)
    on_lists zero i e = let f : 2 ≡ i = same_Some _ _ e in omega (arith, f)
    on_lists (suc zero) i e = let f : 2 ≡ i = same_Some _ _ e in omega (arith, f)
    on_lists (suc (suc zero)) i e = let f : 2 ≡ i = same_Some _ _ e in omega (arith, f)
    on_lists (suc (suc (suc p))) i e = absurd (none-some _ e)

    acceptable : (p i : ℕ) → held lasts p ≡ Some i → IsAcceptable three_by_three p (entry three_by_three.proposers p i)
    acceptable zero i e = let f : 2 ≡ i = same_Some _ _ e in rw (sym f) (record { proposer_lists = omega arith; reviewer_lists = omega arith })
    acceptable (suc zero) i e = let f : 2 ≡ i = same_Some _ _ e in rw (sym f) (record { proposer_lists = omega arith; reviewer_lists = omega arith })
    acceptable (suc (suc zero)) i e = let f : 2 ≡ i = same_Some _ _ e in rw (sym f) (record { proposer_lists = omega arith; reviewer_lists = omega arith })
    acceptable (suc (suc (suc p))) i e = absurd (none-some _ e)

    within : (r : ℕ) → load three_by_three lasts r ≤ capacity_of three_by_three.reviewers r
    within zero = omega arith
    within (suc zero) = omega arith
    within (suc (suc zero)) = omega arith
    within (suc (suc (suc r))) =
        rw (ne_eqb 0 (suc (suc (suc r))) (λ e. omega arith), ne_eqb 1 (suc (suc (suc r))) (λ e. omega arith), ne_eqb 2 (suc (suc (suc r))) (λ e. omega arith)) (omega arith)

allowed : IsAllowed three_by_three lasts
allowed = record { matching = last_matching; forced = λ k d h. absurd (omega arith); forbidden = λ k d h. absurd (omega arith) }

taken_allowed : (a c d v : ℕ) → IsAllowedSet three_by_three (take 13 (weight_lines a c d v)) (1 ∷ 2 ∷ [])
taken_allowed a c d v = record { there = there; closed = closed; allowed = allowed }
  where
    there : (i : ℕ) → Contains (1 ∷ 2 ∷ []) i → i ≤ 2
    there i (zero, h, e) = omega (arith, e)
    there i (suc zero, h, e) = omega (arith, e)
    there i (suc (suc k), h, e) = absurd (omega (arith, h))

abbrev flow : ℕ → ℕ → ℕ
flow = amount_on (edge 0 2 4 ∷ edge 1 3 4 ∷ edge 2 1 4 ∷ [])

reach : IsResidualReach net flow (true ∷ true ∷ [])
reach = record { one_each = refl; exact = exact }
  where
    to_second : IsResidualStep net flow 0 2
    to_second = refl

    to_first : IsResidualStep net flow 2 1
    to_first = refl

    exact : (k : ℕ) → k < 2 → IsMember (true ∷ true ∷ []) k ↔ IsReachable (IsResidualStep net flow) 0 (suc k)
    exact zero h = ((λ _. record { path = 2 ∷ 1 ∷ []; is = (to_second, (to_first, refl)) }), (λ _. refl))
    exact (suc zero) h = ((λ _. record { path = 2 ∷ []; is = (to_second, refl) }), (λ _. refl))
    exact (suc (suc k)) h = absurd (omega arith)

all_there : AreAllThere lasts ((0, 2) ∷ (1, 0) ∷ (2, 1) ∷ [])
all_there zero h = refl
all_there (suc zero) h = refl
all_there (suc (suc zero)) h = refl
all_there (suc (suc (suc p))) h = no_end h

-- The clauses of a level at its lines.
module _ (above : List LineData) where
  abbrev Level : LineData → Reason → Type 0
  Level x why = LevelHolds three_by_three (first_level three_by_three Given above) above x why

  at_first : (p r : ℕ) (why : Reason) → Level (LineData.First p (first_seat_of r)) why
  at_first p r reason.WrongGain = tt
  at_first p r _ = tt

  at_head : (why : Reason) → Level (LineData.Answer (HeadData.Weight Given)) why
  at_head reason.WrongGain = tt
  at_head _ = tt

  at_rotation : (i : ℕ) (pairs : List (ℕ × Seat)) (why : Reason) → Level (LineData.Rotation i pairs) why
  at_rotation i pairs reason.WrongGain = tt
  at_rotation i pairs _ = tt

  at_needs : (i : ℕ) (needed : List ℕ) (why : Reason) → Level (LineData.Needs i needed) why
  at_needs i needed reason.WrongGain = tt
  at_needs i needed _ = tt

  at_gain : (i : ℕ) (gain : ℤ) → IfSome (gain_in (LineData.Gain i gain)) (λ g. Level (LineData.Gain i g) reason.WrongGain) → (why : Reason) → Level (LineData.Gain i gain) why
  at_gain i gain e reason.WrongGain = e
  at_gain i gain e _ = tt

  at_flow : (from to amount : ℕ) → Level (LineData.Flow from to amount) reason.NoEdge → Level (LineData.Flow from to amount) reason.OverRoom → (why : Reason) → Level (LineData.Flow from to amount) why
  at_flow from to amount e f reason.NoEdge = e
  at_flow from to amount e f reason.OverRoom = f
  at_flow from to amount e f _ = tt

  at_taken : (taken : List ℕ) → Level (LineData.Taken taken) reason.NotConserved → (why : Reason) → Level (LineData.Taken taken) why
  at_taken taken e reason.NotConserved = e
  at_taken taken e _ = tt

  at_value : (value : ℕ) → Level (LineData.Value value) reason.WrongValue → (why : Reason) → Level (LineData.Value value) why
  at_value value e reason.WrongValue = e
  at_value value e _ = tt

  at_cut : (cut : ℕ) → Level (LineData.Cut cut) reason.WrongCut → Level (LineData.Cut cut) reason.CutDiffers → (why : Reason) → Level (LineData.Cut cut) why
  at_cut cut e f reason.WrongCut = e
  at_cut cut e f reason.CutDiffers = f
  at_cut cut e f _ = tt

  at_total : (total : ℤ) → Level (LineData.Total total) reason.WrongTotal → (why : Reason) → Level (LineData.Total total) why
  at_total total e reason.WrongTotal = e
  at_total total e _ = tt

  at_pair : (p r : ℕ) (why : Reason) → Level (LineData.Pair p r) why
  at_pair p r reason.WrongGain = tt
  at_pair p r _ = tt

  at_end : (why : Reason) → Level LineData.End why
  at_end reason.WrongGain = tt
  at_end _ = tt

  -- the set and the wanted pairs at theirs
  set_at_taken : IsAllowedSet three_by_three above (1 ∷ 2 ∷ []) → (why : Reason) → TakenHolds three_by_three (first_level three_by_three Given above) above (LineData.Taken (1 ∷ 2 ∷ [])) why
  set_at_taken h reason.NotClosed = h
  set_at_taken h reason.NotLeast = λ e. no_end e
  set_at_taken h _ = tt

  wanted_at_pair : (p r : ℕ) → IsWanted three_by_three (taken_matching three_by_three above) (pairs_in above) (p, r) → (why : Reason) → WantedHold three_by_three (taken_matching three_by_three above) (pairs_in above) (LineData.Pair p r) why
  wanted_at_pair p r h reason.WrongPair = (h, λ e. no_end e)
  wanted_at_pair p r h _ = tt

-- The lines up to the flow.
module _ (a c d v : ℕ) (a_room : 0 < a × a ≤ 14) (c_room : 0 < c × c ≤ 4) (d_room : 0 < d) where
  abbrev up_to : ℕ → List LineData
  up_to k = take k (weight_lines a c d v)

  abbrev Line : ℕ → LineData → Type 0
  Line k x = (why : Reason) → WeightHolds three_by_three Given (up_to k) x why

  early : (k : ℕ) (x : LineData) → is_up_to_firsts x ≡ true → IfSome (first_in three_by_three x) (IsFreeSeat (seat_market three_by_three) (firsts_in three_by_three (up_to k)))
      → is_up_to_rotations x ≡ true → IfSome (rotation_in three_by_three x) (IsLowestExposed (seat_market three_by_three) (reached three_by_three (up_to k)))
      → IfSome (needs_in x) (AreNeedsOf (seat_market three_by_three) (rotations_in three_by_three (up_to k)) (last_rotation three_by_three (up_to k)))
      → taken_in x ≡ None → is_end x ≡ false → pair_in x ≡ None → ((why : Reason) → Level (up_to k) x why) → Line k x
  early k x e free f next needs no_set open_still no_pair level = together (up_to k) x (firsts_early (up_to k) x e free) (chain_early (up_to k) x f next needs) level
      (taken_quiet (up_to k) x no_set open_still) (wanted_quiet (up_to k) x no_pair open_still)

  chained : (k : ℕ) (x : LineData) → first_in three_by_three x ≡ None → first_of three_by_three (up_to k) ≡ three_cycle_first → is_up_to_rotations x ≡ true
      → IfSome (rotation_in three_by_three x) (IsLowestExposed (seat_market three_by_three) (reached three_by_three (up_to k)))
      → IfSome (needs_in x) (AreNeedsOf (seat_market three_by_three) (rotations_in three_by_three (up_to k)) (last_rotation three_by_three (up_to k)))
      → taken_in x ≡ None → is_end x ≡ false → pair_in x ≡ None → ((why : Reason) → Level (up_to k) x why) → Line k x
  chained k x no_first is e next needs no_set open_still no_pair level = together (up_to k) x (firsts_late (up_to k) x no_first is) (chain_early (up_to k) x e next needs) level
      (taken_quiet (up_to k) x no_set open_still) (wanted_quiet (up_to k) x no_pair open_still)

  later : (k : ℕ) (x : LineData) → first_in three_by_three x ≡ None → first_of three_by_three (up_to k) ≡ three_cycle_first
      → rotation_in three_by_three x ≡ None → needs_in x ≡ None → IsNothingExposed (seat_market three_by_three) (reached three_by_three (up_to k))
      → ((why : Reason) → Level (up_to k) x why) → ((why : Reason) → TakenHolds three_by_three (first_level three_by_three Given (up_to k)) (up_to k) x why)
      → ((why : Reason) → WantedHold three_by_three (taken_matching three_by_three (up_to k)) (pairs_in (up_to k)) x why) → Line k x
  later k x no_first is no_rotation none_needed nothing level set wanted = together (up_to k) x (firsts_late (up_to k) x no_first is) (chain_late (up_to k) x no_rotation none_needed nothing) level set wanted

  flowing : (k : ℕ) (from to amount : ℕ) → first_of three_by_three (up_to k) ≡ three_cycle_first → IsNothingExposed (seat_market three_by_three) (reached three_by_three (up_to k))
      → Level (up_to k) (LineData.Flow from to amount) reason.NoEdge → Level (up_to k) (LineData.Flow from to amount) reason.OverRoom → Line k (LineData.Flow from to amount)
  flowing k from to amount is nothing e f = later k (LineData.Flow from to amount) refl is refl refl nothing (at_flow (up_to k) from to amount e f)
      (taken_quiet (up_to k) (LineData.Flow from to amount) refl refl) (wanted_quiet (up_to k) (LineData.Flow from to amount) refl refl)

  front_holds : AllHold (WeightHolds three_by_three Given) [] (up_to 13)
  front_holds = (
    early 0 (LineData.Answer (HeadData.Weight Given)) refl tt refl tt tt refl refl refl (at_head []),
    (
      early 1 (LineData.First 0 (first_seat_of 0)) refl (record { acceptable = omega arith; proposer_free = refl; seat_free = refl }) refl tt tt refl refl refl (at_first (up_to 1) 0 0),
      (
        early 2 (LineData.First 1 (first_seat_of 1)) refl (record { acceptable = omega arith; proposer_free = refl; seat_free = refl }) refl tt tt refl refl refl (at_first (up_to 2) 1 1),
        (
          early 3 (LineData.First 2 (first_seat_of 2)) refl (record { acceptable = omega arith; proposer_free = refl; seat_free = refl }) refl tt tt refl refl refl (at_first (up_to 3) 2 2),
          (
            chained 4 (LineData.Rotation 1 ((0, first_seat_of 0) ∷ (1, first_seat_of 1) ∷ (2, first_seat_of 2) ∷ [])) refl refl refl next_first tt refl refl refl (at_rotation (up_to 4) 1 ((0, first_seat_of 0) ∷ (1, first_seat_of 1) ∷ (2, first_seat_of 2) ∷ [])),
            (
              chained 5 (LineData.Needs 1 []) refl refl refl tt no_needs refl refl refl (at_needs (up_to 5) 1 []),
              (
                chained 6 (LineData.Gain 1 (pos 4)) refl refl refl tt tt refl refl refl (at_gain (up_to 6) 1 (pos 4) refl),
                (
                  chained 7 (LineData.Rotation 2 ((0, first_seat_of 1) ∷ (1, first_seat_of 2) ∷ (2, first_seat_of 0) ∷ [])) refl refl refl next_second tt refl refl refl (at_rotation (up_to 7) 2 ((0, first_seat_of 1) ∷ (1, first_seat_of 2) ∷ (2, first_seat_of 0) ∷ [])),
                  (
                    chained 8 (LineData.Needs 2 (1 ∷ [])) refl refl refl tt (worked_net.0.each 1 (omega arith)) refl refl refl (at_needs (up_to 8) 2 (1 ∷ [])),
                    (
                      chained 9 (LineData.Gain 2 (negsuc 13)) refl refl refl tt tt refl refl refl (at_gain (up_to 9) 2 (negsuc 13) refl),
                      (
                        flowing 10 0 2 a refl none_left (new_first a) (record { positive = a_room.0; within = inr a_room.1 }),
                        (
                          flowing 11 1 SINK c refl none_left (new_second a c) (record { positive = c_room.0; within = inr c_room.1 }),
                          (flowing 12 2 1 d refl none_left (new_third a c d) (record { positive = d_room; within = inl refl }), tt),
                        ),
                      ),
                    ),
                  ),
                ),
              ),
            ),
          ),
        ),
      ),
    ),
  )

  -- behind the flow: the set, the value, and a pair
  at_set : IsConserved 2 (edge 0 2 a ∷ edge 1 3 c ∷ edge 2 1 d ∷ []) → Line 13 (LineData.Taken (1 ∷ 2 ∷ []))
  at_set h = later 13 (LineData.Taken (1 ∷ 2 ∷ [])) refl refl refl refl none_left (at_taken (up_to 13) (1 ∷ 2 ∷ []) h) (set_at_taken (up_to 13) (taken_allowed a c d v))
      (wanted_quiet (up_to 13) (LineData.Taken (1 ∷ 2 ∷ [])) refl refl)

  quiet : (k : ℕ) (x : LineData) → first_in three_by_three x ≡ None → first_of three_by_three (up_to k) ≡ three_cycle_first
      → rotation_in three_by_three x ≡ None → needs_in x ≡ None → IsNothingExposed (seat_market three_by_three) (reached three_by_three (up_to k))
      → taken_in x ≡ None → is_end x ≡ false → pair_in x ≡ None → ((why : Reason) → Level (up_to k) x why) → Line k x
  quiet k x no_first is no_rotation none_needed nothing no_set open_still no_pair level =
      later k x no_first is no_rotation none_needed nothing level (taken_quiet (up_to k) x no_set open_still) (wanted_quiet (up_to k) x no_pair open_still)

  pairing : (k p r : ℕ) → first_of three_by_three (up_to k) ≡ three_cycle_first → IsNothingExposed (seat_market three_by_three) (reached three_by_three (up_to k))
      → IsWanted three_by_three (taken_matching three_by_three (up_to k)) (pairs_in (up_to k)) (p, r) → Line k (LineData.Pair p r)
  pairing k p r is nothing h = later k (LineData.Pair p r) refl is refl refl nothing (at_pair (up_to k) p r) (taken_quiet (up_to k) (LineData.Pair p r) refl refl) (wanted_at_pair (up_to k) p r h)

-- The right answer.
abbrev right_above : ℕ → List LineData
right_above k = take k (weight_lines 4 4 4 4)

end_taken : (why : Reason) → TakenHolds three_by_three (first_level three_by_three Given (right_above 20)) (right_above 20) LineData.End why
end_taken reason.NotClosed = tt
end_taken reason.NotLeast = λ _. reach
end_taken _ = tt

end_wanted : (why : Reason) → WantedHold three_by_three (taken_matching three_by_three (right_above 20)) (pairs_in (right_above 20)) LineData.End why
end_wanted reason.WrongPair = (tt, λ _. all_there)
end_wanted _ = tt

four : 0 < 4 × 4 ≤ 4
four = (omega arith, omega arith)

right_front : AllHold (WeightHolds three_by_three Given) [] (right_above 13)
right_front = front_holds 4 4 4 4 (omega arith, omega arith) four (omega arith)

right_rest : AllHold (WeightHolds three_by_three Given) (right_above 13) (drop 13 (weight_lines 4 4 4 4))
right_rest = (
  at_set 4 4 4 4 (omega arith, omega arith) four (omega arith) (conserved 4 (inl refl)),
  (
    quiet 4 4 4 4 (omega arith, omega arith) four (omega arith) 14 (LineData.Value 4) refl refl refl refl none_left refl refl refl (at_value (right_above 14) 4 refl),
    (
      quiet 4 4 4 4 (omega arith, omega arith) four (omega arith) 15 (LineData.Cut 4) refl refl refl refl none_left refl refl refl (at_cut (right_above 15) 4 refl refl),
      (
        quiet 4 4 4 4 (omega arith, omega arith) four (omega arith) 16 (LineData.Total (negsuc 9)) refl refl refl refl none_left refl refl refl (at_total (right_above 16) (negsuc 9) refl),
        (
          pairing 4 4 4 4 (omega arith, omega arith) four (omega arith) 17 0 2 refl none_left (record { in_matching = refl; once = refl }),
          (
            pairing 4 4 4 4 (omega arith, omega arith) four (omega arith) 18 1 0 refl none_left (record { in_matching = refl; once = refl }),
            (
              pairing 4 4 4 4 (omega arith, omega arith) four (omega arith) 19 2 1 refl none_left (record { in_matching = refl; once = refl }),
              (later 4 4 4 4 (omega arith, omega arith) four (omega arith) 20 LineData.End refl refl refl refl none_left (at_end (right_above 20)) end_taken end_wanted, tt),
            ),
          ),
        ),
      ),
    ),
  ),
)

-- A flow that isn't conserved.
abbrev lost_above : List LineData
lost_above = take 13 (weight_lines 3 4 4 4)

lost_front : AllHold (WeightHolds three_by_three Given) [] lost_above
lost_front = front_holds 3 4 4 4 (omega arith, omega arith) four (omega arith)

abbrev set : LineData
set = LineData.Taken (1 ∷ 2 ∷ [])

lost_level : (why : Reason) → number_of_reason why < 11 → LevelHolds three_by_three (first_level three_by_three Given lost_above) lost_above set why
lost_level reason.NotConserved h = absurd (omega (arith, h))
lost_level _ h = tt

lost_taken : (why : Reason) → number_of_reason why < 11 → TakenHolds three_by_three (first_level three_by_three Given lost_above) lost_above set why
lost_taken reason.NotClosed h = absurd (omega (arith, h))
lost_taken reason.NotLeast h = absurd (omega (arith, h))
lost_taken _ h = tt

lost_before : (why : Reason) → number_of_reason why < 11 → WeightHolds three_by_three Given lost_above set why
lost_before why h = (firsts_late lost_above set refl refl why, chain_late lost_above set refl refl none_left why, lost_level why h, lost_level why h, lost_taken why h, wanted_quiet lost_above set refl refl why)

-- A flow that doesn't come up to the cut.
abbrev low_above : ℕ → List LineData
low_above k = take k (weight_lines 3 3 3 3)

three : 0 < 3 × 3 ≤ 4
three = (omega arith, omega arith)

low_front : AllHold (WeightHolds three_by_three Given) [] (low_above 13)
low_front = front_holds 3 3 3 3 (omega arith, omega arith) three (omega arith)

low_rest : AllHold (WeightHolds three_by_three Given) (low_above 13) (set ∷ LineData.Value 3 ∷ [])
low_rest = (
  at_set 3 3 3 3 (omega arith, omega arith) three (omega arith) (conserved 3 (inr refl)),
  (quiet 3 3 3 3 (omega arith, omega arith) three (omega arith) 14 (LineData.Value 3) refl refl refl refl none_left refl refl refl (at_value (low_above 14) 3 refl), tt),
)

low_level : (why : Reason) → number_of_reason why < 15 → LevelHolds three_by_three (first_level three_by_three Given (low_above 15)) (low_above 15) (LineData.Cut 4) why
low_level reason.WrongCut h = refl
low_level reason.CutDiffers h = absurd (omega (arith, h))
low_level _ h = tt

low_before : (why : Reason) → number_of_reason why < 15 → WeightHolds three_by_three Given (low_above 15) (LineData.Cut 4) why
low_before why h = (
  firsts_late (low_above 15) (LineData.Cut 4) refl refl why,
  chain_late (low_above 15) (LineData.Cut 4) refl refl none_left why,
  low_level why h,
  low_level why h,
  taken_quiet (low_above 15) (LineData.Cut 4) refl refl why,
  wanted_quiet (low_above 15) (LineData.Cut 4) refl refl why,
)

-- the verdicts on them are as they should be
pub weight_answers : WeightAnswers
weight_answers = (
  all_hold (WeightHolds three_by_three Given) (weight_lines 4 4 4 4)
      (hold_append (WeightHolds three_by_three Given) [] (right_above 13) (drop 13 (weight_lines 4 4 4 4)) right_front right_rest),
  (
    13,
    refl,
    record {
      lines_above = λ j why h. hold_at (WeightHolds three_by_three Given) [] lost_above (drop 13 (weight_lines 3 4 4 4)) lost_front j why h;
      clauses_before = lost_before;
      fails = λ w. omega (arith, w.2 1 (omega arith));
    },
  ),
  (
    15,
    refl,
    record {
      lines_above = λ j why h. hold_at (WeightHolds three_by_three Given) [] (low_above 15) (drop 15 (weight_lines 3 3 3 3))
          (hold_append (WeightHolds three_by_three Given) [] (low_above 13) (set ∷ LineData.Value 3 ∷ []) low_front low_rest) j why h;
      clauses_before = low_before;
      fails = λ w. omega (arith, w.2);
    },
  ),
)
