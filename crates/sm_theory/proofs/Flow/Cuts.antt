-- Flows and cuts: what a flow takes out of a set less what it brings in is its value.
use Rattle.std.proofs.Common.{◌≡◌, ℕ, zero, suc, ◌+◌, ◌<◌, ◌≤◌, ◌⊎◌, inl, inr, arith, refl, sym, ap, ◌∙◌, Bool, true, false, cond, List, [], ◌∷◌, length, lt-ltb, le-ltb, eq-eqb, ne_eqb}
use Rattle.std.proofs.lemmas.List.{get_or_past}
use Rattle.std.proofs.lemmas.Bool.{false≢true}
use Rattle.sm_lists.proofs.Counting.{lt_or_le, eq_or_ne}
use Rattle.sm_theory.specs.ClosedSets.{is_member, IsMember}
use Rattle.sm_lists.specs.Sums.{sum_to}
use Rattle.sm_theory.specs.Net.{Net, sink_of, room_of, IsUnbounded, is_in, NoneLeaves, IsCut, cut_of, IsPath}
use Rattle.sm_theory.specs.Flows.{IsFlow, flow_value, IsResidualStep}
use Rattle.sm_theory.specs.LawsFlows.{NoFlowAboveCut, ReachIsLeastCut}
use Rattle.sm_lists.proofs.Sums.{sum_same, sum_le, sum_none, sum_plus, sum_first, sum_swap, sum_tight, sum_cond}
use Rattle.sm_theory.proofs.Flow.Steps.{step_kind, step_end, step_of_kind}

abbrev nodes : Net → ℕ
nodes net = suc (suc net.size)

-- what a function of two nodes gives from inside a set to the outside, and within the set
out_of : (ℕ → Bool) → (ℕ → ℕ → ℕ) → ℕ → ℕ → ℕ
out_of x f i j = cond (x i) (cond (x j) 0 (f i j)) 0

inside : (ℕ → Bool) → (ℕ → ℕ → ℕ) → ℕ → ℕ → ℕ
inside x f i j = cond (x i) (cond (x j) (f i j) 0) 0

abbrev both_sums : ℕ → (ℕ → ℕ → ℕ) → ℕ
both_sums n f = sum_to (λ i. sum_to (f i) n) n

split : (x : ℕ → Bool) (f : ℕ → ℕ → ℕ) (i j : ℕ) → cond (x i) (f i j) 0 ≡ inside x f i j + out_of x f i j
unfolding inside out_of
split x f i j = go (x i) (x j)
  where
    go : (a b : Bool) → cond a (f i j) 0 ≡ cond a (cond b (f i j) 0) 0 + cond a (cond b 0 (f i j)) 0
    go true true = omega arith
    go true false = omega arith
    go false b = omega arith

turned_inside : (x : ℕ → Bool) (f : ℕ → ℕ → ℕ) (i j : ℕ) → inside x (λ i j. f j i) i j ≡ inside x f j i
unfolding inside
turned_inside x f i j = go (x i) (x j)
  where
    go : (a b : Bool) → cond a (cond b (f j i) 0) 0 ≡ cond b (cond a (f j i) 0) 0
    go true true = refl
    go true false = refl
    go false true = refl
    go false false = refl

-- the sum over a set of what leaves its nodes
all_out : (n : ℕ) (x : ℕ → Bool) (f : ℕ → ℕ → ℕ) → sum_to (λ i. cond (x i) (sum_to (f i) n) 0) n ≡ both_sums n (inside x f) + both_sums n (out_of x f)
all_out n x f =
    sum_same n _ _ (λ i _. sum_cond n (x i) (f i) ∙ sum_same n _ _ (λ j _. split x f i j) ∙ sum_plus n (inside x f i) (out_of x f i))
    ∙ sum_plus n (λ i. sum_to (inside x f i) n) (λ i. sum_to (out_of x f i) n)

inside_turned : (n : ℕ) (x : ℕ → Bool) (f : ℕ → ℕ → ℕ) → both_sums n (inside x (λ i j. f j i)) ≡ both_sums n (inside x f)
inside_turned n x f = sum_same n _ _ (λ i _. sum_same n _ _ (λ j _. turned_inside x f i j)) ∙ sym (sum_swap n n (inside x f))

at_out : (x : ℕ → Bool) (f : ℕ → ℕ → ℕ) (i j : ℕ) → x i ≡ true → x j ≡ false → out_of x f i j ≡ f i j
unfolding out_of
at_out x f i j a b = rw (a, b) refl

-- two functions are compared where an edge leaves the set
compare : (P : ℕ → ℕ → Type 0) (x : ℕ → Bool) (f g : ℕ → ℕ → ℕ) (i j : ℕ) → P 0 0 → (x i ≡ true → x j ≡ false → P (f i j) (g i j)) → P (out_of x f i j) (out_of x g i j)
unfolding out_of
compare P x f g i j none some = go (x i) (x j) some
  where
    go : (a b : Bool) → (a ≡ true → b ≡ false → P (f i j) (g i j)) → P (cond a (cond b 0 (f i j)) 0) (cond a (cond b 0 (g i j)) 0)
    go true true _ = none
    go true false s = s refl refl
    go false b _ = none

module _ (net : Net) (set : List Bool) (one : length set ≡ net.size) where
  x : ℕ → Bool
  x i = is_in set i

  x_is : (i : ℕ) → x i ≡ is_in set i
  unfolding x
  x_is i = refl

  past : is_member set net.size ≡ false
  past = get_or_past set net.size false (omega (arith, one))

  -- the rooms of all edges that leave a set
  cut_is : both_sums (nodes net) (out_of x (room_of net)) ≡ cut_of net set
  unfolding x out_of
  cut_is = omega (
    arith,
    sum_first (suc net.size) leaving,
    from_source,
    sum_same net.size (λ k. leaving (suc k)) (λ k. cond (is_member set k) (net.drain k) 0) (λ k h. from k),
    from_sink,
    sum_plus net.size (λ k. cond (is_member set k) 0 (net.supply k)) (λ k. cond (is_member set k) (net.drain k) 0),
    sum_same net.size (λ k. cond (is_member set k) 0 (net.supply k) + cond (is_member set k) (net.drain k) 0) (λ k. cond (is_member set k) (net.drain k) (net.supply k)) (λ k h. join (is_member set k) (net.drain k) (net.supply k)),
  )
    where
      leaving : ℕ → ℕ
      leaving i = sum_to (out_of x (room_of net) i) (nodes net)

      join : (b : Bool) (d s : ℕ) → cond b 0 s + cond b d 0 ≡ cond b d s
      join true d s = omega arith
      join false d s = omega arith

      from_source : leaving 0 ≡ sum_to (λ k. cond (is_member set k) 0 (net.supply k)) net.size
      from_source = omega (
        arith,
        sum_first (suc net.size) (out_of x (room_of net) 0),
        sum_same net.size (λ k. out_of x (room_of net) 0 (suc k)) (λ k. cond (is_member set k) 0 (net.supply k)) (λ k h. rw (lt-ltb k net.size h) refl),
        last,
      )
        where
          last : out_of x (room_of net) 0 (suc net.size) ≡ 0
          last = rw (past, le-ltb net.size net.size (omega arith)) refl

      from : (k : ℕ) → leaving (suc k) ≡ cond (is_member set k) (net.drain k) 0
      from k = omega (
        arith,
        sum_first (suc net.size) (out_of x (room_of net) (suc k)),
        first,
        sum_none net.size (λ j. out_of x (room_of net) (suc k) (suc j)) (λ j h. middle j h),
        last,
      )
        where
          zero_both : (a b : Bool) → ◌≡◌ {A = ℕ} (cond a (cond b 0 0) 0) 0
          zero_both true true = refl
          zero_both true false = refl
          zero_both false b = refl

          first : out_of x (room_of net) (suc k) 0 ≡ 0
          first = zero_both (is_member set k) true

          middle : (j : ℕ) → j < net.size → out_of x (room_of net) (suc k) (suc j) ≡ 0
          middle j h = rw (ne_eqb j net.size (λ e. omega arith)) (zero_both (is_member set k) (is_member set j))

          last : out_of x (room_of net) (suc k) (suc net.size) ≡ cond (is_member set k) (net.drain k) 0
          last = rw (past, eq-eqb net.size net.size refl) refl

      from_sink : leaving (suc net.size) ≡ 0
      from_sink = sum_none (nodes net) (out_of x (room_of net) (suc net.size)) (λ j h. rw past refl)

  module _ (flow : ℕ → ℕ → ℕ) (h : IsFlow net flow) where
    abbrev entering : ℕ
    entering = both_sums (nodes net) (out_of x (λ i j. flow j i))

    abbrev leaving : ℕ
    leaving = both_sums (nodes net) (out_of x flow)

    -- what leaves a set is the value and what enters it
    balance : flow_value net flow + entering ≡ leaving
    unfolding x
    balance = omega (
      arith,
      all_out (nodes net) x flow,
      all_out (nodes net) x (λ i j. flow j i),
      inside_turned (nodes net) x flow,
      sum_first (suc net.size) (λ i. cond (x i) (sum_to (flow i) (nodes net)) 0),
      sum_first (suc net.size) (λ i. cond (x i) (sum_to (λ j. flow j i) (nodes net)) 0),
      source_out,
      source_in,
      sum_same (suc net.size) (λ k. cond (x (suc k)) (sum_to (flow (suc k)) (nodes net)) 0) (λ k. cond (x (suc k)) (sum_to (λ j. flow j (suc k)) (nodes net)) 0) same,
    )
      where
        source_out : cond (x 0) (sum_to (flow 0) (nodes net)) 0 ≡ flow_value net flow
        source_out = refl

        no_room : (i : ℕ) → room_of net i 0 ≡ 0
        no_room zero = refl
        no_room (suc i) = refl

        source_in : cond (x 0) (sum_to (λ j. flow j 0) (nodes net)) 0 ≡ 0
        source_in = sum_none (nodes net) (λ j. flow j 0) (λ j _. omega (arith, h.within j 0 (λ e. false≢true e), no_room j))

        same : (k : ℕ) → k < suc net.size → cond (x (suc k)) (sum_to (flow (suc k)) (nodes net)) 0 ≡ cond (x (suc k)) (sum_to (λ j. flow j (suc k)) (nodes net)) 0
        same k a = elim (eq_or_ne k net.size) [
          | inl e ↦ rw (e, past) refl
          | inr e ↦ ap (λ n. cond (is_member set k) n 0) (sym (h.conserved k (omega arith)))
        ]

    -- the flow over a cut is within its rooms
    over_cut : IsCut net set → (i j : ℕ) → i < nodes net → j < nodes net → out_of x flow i j ≤ out_of x (room_of net) i j
    over_cut c i j a b = compare (λ m n. m ≤ n) x flow (room_of net) i j (omega arith) (λ p q. h.within i j (λ u. c.bounded i j a b (sym (x_is i) ∙ p) (sym (x_is j) ∙ q) u))

    leaving_le : IsCut net set → leaving ≤ both_sums (nodes net) (out_of x (room_of net))
    leaving_le c = sum_le (nodes net) _ _ (λ i a. sum_le (nodes net) _ _ (λ j b. over_cut c i j a b))

    -- the value of a flow is no greater than a cut
    pub below_cut : IsCut net set → flow_value net flow ≤ cut_of net set
    below_cut c = omega (arith, balance, leaving_le c, cut_is)

    -- where no residual step leaves, all edges out are full and all edges in are empty
    pub value_is_cut : NoneLeaves net (IsResidualStep net flow) set → flow_value net flow ≡ cut_of net set
    value_is_cut none = omega (arith, balance, cut_is, full, empty)
      where
        full : leaving ≡ both_sums (nodes net) (out_of x (room_of net))
        full = sum_same (nodes net) _ _ (λ i a. sum_same (nodes net) _ _ (λ j b. compare (λ m n. m ≡ n) x flow (room_of net) i j refl (λ p q.
            let out = none i j a b (sym (x_is i) ∙ p) (sym (x_is j) ∙ q) in
            elim (lt_or_le (flow i j) (room_of net i j)) [
              | inl less ↦ absurd (out (step_of_kind net flow i j b (inr (inl less))))
              | inr more ↦ omega (arith, h.within i j (λ u. out (step_of_kind net flow i j b (inl u))))
            ])))

        empty : entering ≡ 0
        empty = sum_none (nodes net) _ (λ i a. sum_none (nodes net) _ (λ j b. compare (λ m n. m ≡ 0) x (λ i j. flow j i) (λ i j. 0) i j refl (λ p q.
            let out = none i j a b (sym (x_is i) ∙ p) (sym (x_is j) ∙ q) in
            elim (lt_or_le 1 (flow j i)) [
              | inl more ↦ absurd (out (step_of_kind net flow i j b (inr (inr (omega arith)))))
              | inr less ↦ elim (eq_or_ne (flow j i) 0) [
                | inl e ↦ e
                | inr e ↦ absurd (out (step_of_kind net flow i j b (inr (inr (omega arith)))))
              ]
            ])))

    -- no residual step leaves a cut that isn't above the value
    pub none_leaves : IsCut net set → cut_of net set ≤ flow_value net flow → NoneLeaves net (IsResidualStep net flow) set
    none_leaves c le i j a b p q w = go (step_kind net flow i j w)
      where
        rows : both_sums (nodes net) (out_of x (room_of net)) ≤ leaving
        rows = omega (arith, balance, cut_is)

        row : sum_to (out_of x flow i) (nodes net) ≡ sum_to (out_of x (room_of net) i) (nodes net)
        row = sum_tight (nodes net) (λ i. sum_to (out_of x flow i) (nodes net)) (λ i. sum_to (out_of x (room_of net) i) (nodes net)) (λ i a. sum_le (nodes net) _ _ (λ j b. over_cut c i j a b)) rows i a

        full : flow i j ≡ room_of net i j
        full = sym (at_out x flow i j (x_is i ∙ p) (x_is j ∙ q)) ∙ sum_tight (nodes net) (out_of x flow i) (out_of x (room_of net) i) (λ j b. over_cut c i j a b) (omega (arith, row)) j b ∙ at_out x (room_of net) i j (x_is i ∙ p) (x_is j ∙ q)

        none_in : entering ≡ 0
        none_in = omega (arith, balance, cut_is, leaving_le c)

        zeros : (n : ℕ) (f : ℕ → ℕ) → sum_to f n ≡ 0 → (i : ℕ) → i < n → f i ≡ 0
        zeros n f e i a = sym (sum_tight n (λ _. 0) f (λ i _. omega arith) (omega (arith, sum_none n (λ _. 0) (λ i _. refl))) i a)

        empty : flow j i ≡ 0
        empty = sym (at_out x (λ i j. flow j i) i j (x_is i ∙ p) (x_is j ∙ q)) ∙ zeros (nodes net) (out_of x (λ i j. flow j i) i) (zeros (nodes net) (λ i. sum_to (out_of x (λ i j. flow j i) i) (nodes net)) none_in i a) j b

        go : IsUnbounded net i j ⊎ ((flow i j < room_of net i j) ⊎ (0 < flow j i)) → ⊥
        go (inl u) = c.bounded i j a b p q u
        go (inr (inl less)) = omega (arith, full)
        go (inr (inr more)) = omega (arith, empty)

-- no flow is greater than a cut
pub no_flow_above_cut : NoFlowAboveCut
no_flow_above_cut net flow set h c = below_cut net set c.one_each flow h c

-- a path stays in a set that no step leaves
pub path_stays : (net : Net) (Step : ℕ → ℕ → Type 0) (set : List Bool) → ((i j : ℕ) → Step i j → j < suc (sink_of net)) → NoneLeaves net Step set
    → (path : List ℕ) (i j : ℕ) → i < suc (sink_of net) → is_in set i ≡ true → IsPath Step i path j → is_in set j ≡ true
path_stays net Step set range none [] i j a p w = ap (is_in set) (sym w) ∙ p
path_stays net Step set range none (k ∷ path) i j a p w = go (is_in set k) refl (λ e. path_stays net Step set range none path k j (range i k w.0) e w.1)
  where
    go : (b : Bool) → is_in set k ≡ b → (is_in set k ≡ true → is_in set j ≡ true) → is_in set j ≡ true
    go true e on = on e
    go false e on = absurd (none i k a (range i k w.0) p e w.0)

-- where no residual step leaves the reach of a flow, the reach is the least of the least cuts
pub reach_is_least_cut : ReachIsLeastCut
reach_is_least_cut net flow set h r none = (
  record { cut = cut; least = λ other c. omega (arith, value, below_cut net other c.one_each flow h c) },
  value,
  λ other c k m.
      let k_in : k < net.size = member_in k m in
      let w = (r.exact k k_in).0 m in
      path_stays net (IsResidualStep net flow) other (step_end net flow)
      (none_leaves net other c.cut.one_each flow h c.cut (omega (arith, value, c.least set cut)))
      w.path 0 (suc k) (omega arith) refl w.is,
)
  where
    cut : IsCut net set
    cut = record { one_each = r.one_each; bounded = λ i j a b p q u. none i j a b p q (step_of_kind net flow i j b (inl u)) }

    value : flow_value net flow ≡ cut_of net set
    value = value_is_cut net set r.one_each flow h none

    member_in : (k : ℕ) → IsMember set k → k < net.size
    member_in k m = elim (lt_or_le k net.size) [
      | inl a ↦ a
      | inr a ↦ absurd (false≢true (sym (get_or_past set k false (omega (arith, r.one_each))) ∙ m))
    ]
