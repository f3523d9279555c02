-- The residual steps of a flow are those that are listed.
use Rattle.std.proofs.Common.{◌≡◌, ◌≢◌, ℕ, zero, suc, ◌+◌, ◌<◌, ◌≤◌, ◌⊎◌, ◌↔◌, inl, inr, arith, refl, sym, ap, ◌∙◌, subst, Bool, true, not, List, [], ◌∷◌, ◌++◌, length, get_or, eqb-true, eq-eqb, ne_eqb, lt-ltb, le-ltb, Contains, pos}
use Rattle.std.specs.Prelude.{◌==◌, ◌&&◌, nat_lt, if◌then◌else◌}
use Rattle.std.specs.List.{list_any, sum_by}
use Rattle.std.proofs.lemmas.Bool.{false≢true, ltb-true, and_from, or_left, or_right}
use Rattle.std.proofs.lemmas.List.{get_or_past}
use Rattle.std.proofs.lemmas.List.Folds.{list_any_at}
use Rattle.std.proofs.lemmas.List.Sums.{sum_by-cons, get_or-le-sum_by}
use Rattle.sm_lists.specs.Rows.{row}
use Rattle.sm_lists.proofs.Counting.{eq_or_ne, lt_or_le}
use Rattle.sm_theory.specs.ClosedSets.{IsMember}
use Rattle.sm_theory.specs.Conditions.{leads_to_need, rise_of}
use Rattle.sm_theory.specs.Net.{Net, sink_of, room_of, IsUnbounded, IsPath}
use Rattle.sm_theory.specs.Flows.{IsResidualStep, IsResidualReach}
use Rattle.sm_theory.specs.declared.flow_lines.FlowLine.{FlowLine}
use Rattle.sm_theory.specs.FlowLines.{line_at, amount_on, AreOnNodes}
use Rattle.sm_theory.proofs.Net.Tests.{and_parts, or_parts, not_same, some_passes}
use Rattle.sm_theory.proofs.Flow.Steps.{step_kind, step_end, step_of_kind}
use Rattle.sm_check_net.specs.Pairs.{has_pair}
use Rattle.sm_lists.specs.Pairs.{pair_at}
use Rattle.sm_check_net.specs.CheckedNets.{NetParts, net_of_parts}
use Rattle.sm_check_decide.specs.Trails.{Trail}
use Rattle.sm_check_net.specs.Reaching.{IsStepOf, IsReachedTrail}
use Rattle.sm_check_net.specs.Residual.{pair_if, joined, may_lead, need_steps, bond_steps, back_steps, supply_steps, drain_steps, residual_steps}
use Rattle.sm_check_net.proofs.PairListLemmas.{has_pair-pair_if, in_pair_if, in_either, has_pair-append_left, has_pair-append_right, in_joined, has_pair-joined, in_flat, has_pair-flat_map}
use Rattle.sm_check_net.proofs.ReachLemmas.{step_at}

-- a line with a positive part of a sum
pub record HasPart {X : Type 0} (f : X → ℕ) (xs : List X) (d : X) : Type 0 where
  pub at : ℕ
  pub below : at < length xs
  pub some : 0 < f (get_or xs at d)

pub has_part : {X : Type 0} (f : X → ℕ) (xs : List X) (d : X) → 0 < sum_by f xs → HasPart f xs d
has_part f [] d h = absurd (omega arith)
has_part f (x ∷ xs) d h = elim (lt_or_le 0 (f x)) [
  | inl here ↦ record { at = 0; below = omega arith; some = here }
  | inr none ↦ let w = has_part f xs d (omega (arith, sum_by-cons f x xs, h)) in record { at = suc w.at; below = omega (arith, w.below); some = w.some }
]

next : (k : ℕ) → suc k ≡ k + 1
next k = omega arith

module _ (parts : NetParts) (lines : List FlowLine) where
  abbrev net : Net
  net = net_of_parts parts

  abbrev size : ℕ
  size = length parts.gains

  abbrev Step : ℕ → ℕ → Type 0
  Step = IsResidualStep net (amount_on lines)

  unbounded_by : (i j : ℕ) → may_lead net i j ≡ true → (leads_to_need parts.needs i j ≡ true) ⊎ (has_pair parts.bonds i j ≡ true) → Step i j
  unbounded_by i zero m or = absurd (false≢true m)
  unbounded_by i (suc j) m or =
      let whole = and_parts (not (suc j == 0)) _ m in
      let range = and_parts (nat_lt (suc j) (suc (sink_of net))) _ whole.1 in
      let ends = and_parts (not (i == suc j)) _ range.1 in
      step_of_kind net (amount_on lines) i (suc j) (ltb-true _ _ range.0) (inl (and_from _ _ ends.0 (and_from _ _ ends.1 (elim or [ inl a ↦ or_left _ _ a | inr b ↦ or_right (leads_to_need parts.needs i (suc j)) _ b ]))))

  from_need : (i j : ℕ) → has_pair (joined (need_steps net parts.needs) (length parts.needs)) i j ≡ true → Step i j
  from_need i j h =
      let w = in_joined (need_steps net parts.needs) (length parts.needs) i j h in
      let v = in_flat (λ x. pair_if (may_lead net (w.at + 1) (x + 1)) (w.at + 1) (x + 1)) (row parts.needs w.at) 0 i j w.has in
      let x : ℕ = get_or (row parts.needs w.at) v.at 0 in
      let p = in_pair_if (may_lead net (w.at + 1) (x + 1)) (w.at + 1) (x + 1) i j v.has in
      let needed : list_any (λ y. y == x) (row parts.needs w.at) ≡ true = list_any_at (λ y. y == x) (row parts.needs w.at) v.at 0 v.below (eq-eqb x x refl) in
      let leads : leads_to_need parts.needs (w.at + 1) (x + 1) ≡ true = sym (λ t. leads_to_need parts.needs (next w.at t) (next x t)) ∙ needed in
      subst (λ a. Step a j) p.1 (subst (Step (w.at + 1)) p.2 (unbounded_by (w.at + 1) (x + 1) p.0 (inl leads)))

  from_bond : (i j : ℕ) → has_pair (bond_steps net parts.bonds) i j ≡ true → Step i j
  from_bond i j h =
      let v = in_flat (λ (b : ℕ × ℕ). pair_if (may_lead net b.0 b.1) b.0 b.1) parts.bonds (0, 0) i j h in
      let b : ℕ × ℕ = pair_at parts.bonds v.at in
      let p = in_pair_if (may_lead net b.0 b.1) b.0 b.1 i j v.has in
      subst (λ a. Step a j) p.1 (subst (Step b.0) p.2 (unbounded_by b.0 b.1 p.0 (inr (step_at parts.bonds v.at b.0 v.below refl))))

  from_back : AreOnNodes (size + 2) lines → (i j : ℕ) → has_pair (back_steps lines) i j ≡ true → Step i j
  from_back on i j h =
      let v = in_flat (λ (l : FlowLine). pair_if (nat_lt 0 l.amount) l.to l.from) lines (record { from = 0; to = 0; amount = 0 }) i j h in
      let l : FlowLine = line_at lines v.at in
      let p = in_pair_if (nat_lt 0 l.amount) l.to l.from i j v.has in
      let some : 0 < l.amount = ltb-true _ _ p.0 in
      let part : (if l.from == j && l.to == i then l.amount else 0) ≡ l.amount = rw (eq-eqb l.from j p.2, eq-eqb l.to i p.1) refl in
      let sum = get_or-le-sum_by (λ (x : FlowLine). if x.from == j && x.to == i then x.amount else 0) lines v.at (record { from = 0; to = 0; amount = 0 }) v.below in
      step_of_kind net (amount_on lines) i j (omega (arith, (on v.at v.below).0, p.2)) (inr (inr (omega (arith, some, part, sum))))

  from_supply : (i j : ℕ) → has_pair (joined (supply_steps net lines) size) i j ≡ true → Step i j
  from_supply i j h =
      let w = in_joined (supply_steps net lines) size i j h in
      let p = in_pair_if (nat_lt (amount_on lines 0 (w.at + 1)) (net.supply w.at)) 0 (w.at + 1) i j w.has in
      let room : room_of net 0 (w.at + 1) ≡ net.supply w.at = sym (λ t. room_of net 0 (next w.at t)) ∙ rw (lt-ltb w.at size w.below) refl in
      let less : amount_on lines 0 (w.at + 1) < net.supply w.at = ltb-true _ _ p.0 in
      subst (λ a. Step a j) p.1 (subst (Step 0) p.2 (step_of_kind net (amount_on lines) 0 (w.at + 1) (omega (arith, w.below)) (inr (inl (omega (arith, room, less))))))

  from_drain : (i j : ℕ) → has_pair (joined (drain_steps net lines) size) i j ≡ true → Step i j
  from_drain i j h =
      let w = in_joined (drain_steps net lines) size i j h in
      let p = in_pair_if (nat_lt (amount_on lines (w.at + 1) (sink_of net)) (net.drain w.at)) (w.at + 1) (sink_of net) i j w.has in
      let room : room_of net (w.at + 1) (sink_of net) ≡ net.drain w.at = sym (λ t. room_of net (next w.at t) (sink_of net)) ∙ rw (eq-eqb size size refl) refl in
      let less : amount_on lines (w.at + 1) (sink_of net) < net.drain w.at = ltb-true _ _ p.0 in
      subst (λ a. Step a j) p.1 (subst (Step (w.at + 1)) p.2 (step_of_kind net (amount_on lines) (w.at + 1) (sink_of net) (omega arith) (inr (inl (omega (arith, room, less))))))

  abbrev needed : List (ℕ × ℕ)
  needed = joined (need_steps net parts.needs) (length parts.needs)

  abbrev bonded : List (ℕ × ℕ)
  bonded = needed ++ bond_steps net parts.bonds

  abbrev backed : List (ℕ × ℕ)
  backed = bonded ++ back_steps lines

  abbrev supplied : List (ℕ × ℕ)
  supplied = backed ++ joined (supply_steps net lines) size

  -- each pair is a residual step
  pub step_of : AreOnNodes (size + 2) lines → (i j : ℕ) → has_pair (residual_steps parts lines) i j ≡ true → Step i j
  step_of on i j h = elim (in_either supplied (joined (drain_steps net lines) size) i j h) [
    | inr d ↦ from_drain i j d
    | inl h ↦ elim (in_either backed (joined (supply_steps net lines) size) i j h) [
      | inr s ↦ from_supply i j s
      | inl h ↦ elim (in_either bonded (back_steps lines) i j h) [
        | inr b ↦ from_back on i j b
        | inl h ↦ elim (in_either needed (bond_steps net parts.bonds) i j h) [ inl n ↦ from_need i j n | inr b ↦ from_bond i j b ]
      ]
    ]
  ]

  abbrev Listed : ℕ → ℕ → Type 0
  Listed i j = has_pair (residual_steps parts lines) i j ≡ true

  by_drain : (i j : ℕ) → has_pair (joined (drain_steps net lines) size) i j ≡ true → Listed i j
  by_drain i j h = has_pair-append_right supplied _ i j h

  by_supply : (i j : ℕ) → has_pair (joined (supply_steps net lines) size) i j ≡ true → Listed i j
  by_supply i j h = has_pair-append_left supplied _ i j (has_pair-append_right backed _ i j h)

  by_back : (i j : ℕ) → has_pair (back_steps lines) i j ≡ true → Listed i j
  by_back i j h = has_pair-append_left supplied _ i j (has_pair-append_left backed _ i j (has_pair-append_right bonded _ i j h))

  by_bond : (i j : ℕ) → has_pair (bond_steps net parts.bonds) i j ≡ true → Listed i j
  by_bond i j h = has_pair-append_left supplied _ i j (has_pair-append_left backed _ i j (has_pair-append_left bonded _ i j (has_pair-append_right needed _ i j h)))

  by_need : (i j : ℕ) → has_pair needed i j ≡ true → Listed i j
  by_need i j h = has_pair-append_left supplied _ i j (has_pair-append_left backed _ i j (has_pair-append_left bonded _ i j (has_pair-append_left needed _ i j h)))

  need_listed : (i j : ℕ) → may_lead net i j ≡ true → leads_to_need parts.needs i j ≡ true → Listed i j
  need_listed zero j m h = absurd (false≢true h)
  need_listed (suc k) zero m h = absurd (false≢true h)
  need_listed (suc k) (suc x) m h =
      let w = some_passes (λ y. y == x) (row parts.needs k) 0 h in
      let e : get_or (row parts.needs k) w.at 0 ≡ x = eqb-true _ x w.holds in
      let f : suc (get_or (row parts.needs k) w.at 0) ≡ suc x = (λ t. suc (e t)) in
      let to : get_or (row parts.needs k) w.at 0 + 1 ≡ suc x = sym (next _) ∙ f in
      let leads : may_lead net (k + 1) (get_or (row parts.needs k) w.at 0 + 1) ≡ true = (λ t. may_lead net (sym (next k) t) (to t)) ∙ m in
      by_need (suc k) (suc x) (has_pair-joined (need_steps net parts.needs) (length parts.needs) k (suc k) (suc x) (there w.at w.below)
      (has_pair-flat_map (λ y. pair_if (may_lead net (k + 1) (y + 1)) (k + 1) (y + 1)) (row parts.needs k) 0 w.at (suc k) (suc x) w.below
      (has_pair-pair_if _ (k + 1) (get_or (row parts.needs k) w.at 0 + 1) (suc k) (suc x) leads (sym (next k)) to)))
    where
      there : (a : ℕ) → a < length (row parts.needs k) → k < length parts.needs
      there a less = elim (lt_or_le k (length parts.needs)) [
        | inl h ↦ h
        | inr past ↦ let none : row parts.needs k ≡ [] = get_or_past parts.needs k [] past in absurd (omega (arith, ap length none, less))
      ]

  bond_listed : (i j : ℕ) → may_lead net i j ≡ true → has_pair parts.bonds i j ≡ true → Listed i j
  bond_listed i j m h =
      let w = some_passes (λ (x : ℕ × ℕ). x.0 == i && x.1 == j) parts.bonds (0, 0) h in
      let both = and_parts _ _ w.holds in
      let from : (pair_at parts.bonds w.at).0 ≡ i = eqb-true _ i both.0 in
      let to : (pair_at parts.bonds w.at).1 ≡ j = eqb-true _ j both.1 in
      by_bond i j (has_pair-flat_map (λ (b : ℕ × ℕ). pair_if (may_lead net b.0 b.1) b.0 b.1) parts.bonds (0, 0) w.at i j w.below
      (has_pair-pair_if _ (pair_at parts.bonds w.at).0 (pair_at parts.bonds w.at).1 i j ((λ t. may_lead net (from t) (to t)) ∙ m) from to))

  unbounded_listed : (i j : ℕ) → j < suc (sink_of net) → IsUnbounded net i j → Listed i j
  unbounded_listed i zero less u = absurd (false≢true u)
  unbounded_listed i (suc j) less u =
      let out = and_parts (not (i == suc j)) _ u in
      let through = and_parts (not (i == 0 && suc j == suc size)) _ out.1 in
      let m : may_lead net i (suc j) ≡ true = and_from _ _ (not_same (suc j) 0 (λ e. omega (arith, e))) (and_from _ _ (lt-ltb _ _ less) (and_from _ _ out.0 through.0)) in
      elim (or_parts (leads_to_need parts.needs i (suc j)) _ through.1) [ inl n ↦ need_listed i (suc j) m n | inr b ↦ bond_listed i (suc j) m b ]

  room_listed : (i j : ℕ) → amount_on lines i j < room_of net i j → Listed i j
  room_listed zero zero less = absurd (omega arith)
  room_listed (suc i) zero less = absurd (omega arith)
  room_listed zero (suc k) less = elim (lt_or_le k size) [
    | inl h ↦ by_supply 0 (suc k) (has_pair-joined (supply_steps net lines) size k 0 (suc k) h
        (has_pair-pair_if _ 0 (k + 1) 0 (suc k) (lt-ltb _ _ (omega (arith, room h, less, same))) refl (sym (next k))))
    | inr h ↦ absurd (omega (arith, none h, less))
  ]
    where
      room : k < size → room_of net 0 (suc k) ≡ net.supply k
      room h = rw (lt-ltb k size h) refl

      none : size ≤ k → room_of net 0 (suc k) ≡ 0
      none h = rw (le-ltb k size h) refl

      same : amount_on lines 0 (k + 1) ≡ amount_on lines 0 (suc k)
      same = ap (amount_on lines 0) (sym (next k))
  room_listed (suc i) (suc k) less = elim (eq_or_ne k size) [
    | inr ne ↦ absurd (omega (arith, none ne, less))
    | inl e ↦ elim (lt_or_le i size) [
      | inr h ↦ absurd (omega (arith, room e, dry h, less))
      | inl h ↦ by_drain (suc i) (suc k) (has_pair-joined (drain_steps net lines) size i (suc i) (suc k) h
          (has_pair-pair_if _ (i + 1) (sink_of net) (suc i) (suc k) (lt-ltb _ _ (omega (arith, room e, less, same e))) (sym (next i)) (λ t. suc (sym e t))))
    ]
  ]
    where
      room : k ≡ size → room_of net (suc i) (suc k) ≡ net.drain i
      room e = rw (eq-eqb k size e) refl

      none : k ≢ size → room_of net (suc i) (suc k) ≡ 0
      none ne = rw (ne_eqb k size ne) refl

      dry : size ≤ i → net.drain i ≡ 0
      dry h = ap rise_of (get_or_past parts.gains i (pos 0) h)

      same : k ≡ size → amount_on lines (i + 1) (sink_of net) ≡ amount_on lines (suc i) (suc k)
      same e = (λ t. amount_on lines (sym (next i) t) (suc (sym e t)))

  back_listed : (i j : ℕ) → 0 < amount_on lines j i → Listed i j
  back_listed i j some =
      let w = has_part (λ (x : FlowLine). if x.from == j && x.to == i then x.amount else 0) lines (record { from = 0; to = 0; amount = 0 }) some in
      let p = part (line_at lines w.at) w.some in
      by_back i j (has_pair-flat_map (λ (l : FlowLine). pair_if (nat_lt 0 l.amount) l.to l.from) lines (record { from = 0; to = 0; amount = 0 }) w.at i j w.below
      (has_pair-pair_if _ (line_at lines w.at).to (line_at lines w.at).from i j (lt-ltb _ _ p.0) p.2 p.1))
    where
      part : (l : FlowLine) → 0 < (if l.from == j && l.to == i then l.amount else 0) → (0 < l.amount) × (l.from ≡ j) × (l.to ≡ i)
      part l some = elim (eq_or_ne l.from j) [
        | inl a ↦ elim (eq_or_ne l.to i) [
          | inl b ↦ (rw (eq-eqb l.from j a, eq-eqb l.to i b) at some, a, b)
          | inr b ↦ absurd (let bad : 0 < 0 = rw (eq-eqb l.from j a, ne_eqb l.to i b) at some in omega arith)
        ]
        | inr a ↦ absurd (let bad : 0 < 0 = rw (ne_eqb l.from j a) at some in omega arith)
      ]

  -- and each residual step is one of the pairs
  pub step_listed : (i j : ℕ) → Step i j → Listed i j
  step_listed i j s = elim (step_kind net (amount_on lines) i j s) [
    | inl u ↦ unbounded_listed i j (step_end net (amount_on lines) i j s) u
    | inr more ↦ elim more [ inl room ↦ room_listed i j room | inr back ↦ back_listed i j back ]
  ]

  module _ (steps : List (ℕ × ℕ)) (same : (i j : ℕ) → has_pair steps i j ≡ has_pair (residual_steps parts lines) i j) (on : AreOnNodes (size + 2) lines) where
    -- the listed steps lead to nodes of the net
    pub steps_lead : (k : ℕ) → k < length steps → (pair_at steps k).1 < size + 2
    steps_lead k less =
        let i : ℕ = (pair_at steps k).0 in
        let j : ℕ = (pair_at steps k).1 in
        let s = step_of on i j (sym (same i j) ∙ step_at steps k i less refl) in
        omega (arith, step_end net (amount_on lines) i j s)

    there : (path : List ℕ) (i j : ℕ) → IsPath (IsStepOf steps) i path j → IsPath Step i path j
    there [] i j w = w
    there (k ∷ path) i j w = (step_of on i k (sym (same i k) ∙ w.0), there path k j w.1)

    back : (path : List ℕ) (i j : ℕ) → IsPath Step i path j → IsPath (IsStepOf steps) i path j
    back [] i j w = w
    back (k ∷ path) i j w = (same i k ∙ step_listed i k w.0, back path k j w.1)

    -- a set is what is reached over residual steps exactly where it is what the trail of listed steps has
    pub reach_is : {trail : Trail} {set : List Bool} → IsReachedTrail (size + 2) steps trail → length set ≡ size
        → ((k : ℕ) → k < length set → IsMember set k ↔ Contains trail.items (k + 1)) ↔ IsResidualReach net (amount_on lines) set
    reach_is {trail} {set} r long = (
      (λ all. record {
        one_each = long;
        exact = λ k less. (
          (λ m. let w = (r.exact (suc k)).0 (subst (Contains trail.items) (sym (next k)) ((all k (omega (arith, long))).0 m)) in record { path = w.path; is = there w.path 0 (suc k) w.is }),
          (λ w. (all k (omega (arith, long))).1 (subst (Contains trail.items) (next k) ((r.exact (suc k)).1 (record { path = w.path; is = back w.path 0 (suc k) w.is })))),
        );
      }),
      (λ reach k less. (
        (λ m. let w = (reach.exact k (omega (arith, long))).0 m in subst (Contains trail.items) (next k) ((r.exact (suc k)).1 (record { path = w.path; is = back w.path 0 (suc k) w.is }))),
        (λ c. (reach.exact k (omega (arith, long))).1 (let w = (r.exact (suc k)).0 (subst (Contains trail.items) (sym (next k)) c) in record { path = w.path; is = there w.path 0 (suc k) w.is })),
      )),
    )
