-- Either a path of unbounded edges leads from the source to the sink, or there is a cut.
use Rattle.std.proofs.Common.{◌≡◌, ℕ, zero, suc, ◌<◌, ◌≤◌, ◌⊎◌, inl, inr, arith, refl, sym, ◌∙◌, Bool, true, false, cond, List, [], ◌∷◌, ◌++◌, length, map, set}
use Rattle.std.specs.List.{range_with_len}
use Rattle.std.proofs.lemmas.List.FromFn.{get_or-map-range_with_len, length-map-range_with_len}
use Rattle.std.proofs.lemmas.Bool.{false≢true}
use Rattle.std.proofs.lemmas.List.{get_or_past, get_or-set_same, get_or-set_other, length-set}
use Rattle.sm_lists.proofs.Counting.{Decided, Decided-and, Decided-some, lt_or_le, eq_or_ne, First, Decided-true}
use Rattle.sm_theory.specs.ClosedSets.{is_member}
use Rattle.sm_lists.specs.Sums.{sum_to}
use Rattle.sm_theory.specs.Net.{Net, sink_of, is_unbounded, IsUnbounded, is_in, IsCut, IsPath, IsReachable}
use Rattle.sm_lists.proofs.Sums.{sum_tight}
use Rattle.sm_theory.proofs.Net.Tests.{some_first}

-- one step more
path_on : (Step : ℕ → ℕ → Type 0) (path : List ℕ) (i j k : ℕ) → IsPath Step i path j → Step j k → IsPath Step i (path ++ k ∷ []) k
path_on Step [] i j k w s = (rw (sym w) at s, refl)
path_on Step (n ∷ path) i j k w s = (w.0, path_on Step path n j k w.1 s)

-- one more step
pub reach_on : {Step : ℕ → ℕ → Type 0} {i j k : ℕ} → IsReachable Step i j → Step j k → IsReachable Step i k
reach_on {Step} {i} {j} {k} w s = record { path = w.path ++ k ∷ []; is = path_on Step w.path i j k w.is s }

Decided-false : (b : Bool) → Decided (b ≡ false)
Decided-false true = inr (λ e. false≢true (sym e))
Decided-false false = inl refl

-- a smaller sum
sum_less : (n : ℕ) (f g : ℕ → ℕ) → ((i : ℕ) → i < n → f i ≤ g i) → (i : ℕ) → i < n → f i < g i → sum_to f n < sum_to g n
sum_less n f g e i a less = elim (lt_or_le (sum_to f n) (sum_to g n)) [
  | inl k ↦ k
  | inr k ↦ absurd (omega (arith, sum_tight n f g e k i a))
]

-- a set that no unbounded edge leaves
pub record Cut (net : Net) : Type 0 where
  pub members : List Bool
  pub is : IsCut net members

module _ (net : Net) where
  -- an unbounded edge that leaves a set
  abbrev Goes : List Bool → ℕ → ℕ → Type 0
  Goes found i j = (is_in found i ≡ true) × ((is_in found j ≡ false) × IsUnbounded net i j)

  abbrev GoesFrom : List Bool → ℕ → Type 0
  GoesFrom found i = First (suc (sink_of net)) (Goes found i)

  decide : (found : List Bool) (i j : ℕ) → j < suc (sink_of net) → Decided (Goes found i j)
  decide found i j _ = Decided-and (Decided-true (is_in found i)) (Decided-and (Decided-false (is_in found j)) (Decided-true (is_unbounded net i j)))

  decide_from : (found : List Bool) (i : ℕ) → i < suc (sink_of net) → Decided (GoesFrom found i)
  decide_from found i _ = Decided-some (suc (sink_of net)) (Goes found i) (decide found i)

  -- how many inner nodes are still outside
  left_over : List Bool → ℕ
  left_over found = sum_to (λ k. cond (is_member found k) 0 1) net.size

  record Found (found : List Bool) : Type 0 where
    one_each : length found ≡ net.size
    reached : (n : ℕ) → is_in found n ≡ true → IsReachable (IsUnbounded net) 0 n

  added : (found : List Bool) → Found found → (k : ℕ) → k < net.size → is_member found k ≡ false → IsReachable (IsUnbounded net) 0 (suc k) → Found (set found k true) × (left_over (set found k true) < left_over found)
  unfolding left_over
  added found w k a out r = (
    record { one_each = length-set found k true ∙ w.one_each; reached = reached },
    sum_less net.size (λ j. cond (is_member (set found k true) j) 0 1) (λ j. cond (is_member found j) 0 1) no_more k a (rw (here, out) (omega arith)),
  )
    where
      here : is_member (set found k true) k ≡ true
      here = get_or-set_same found k true false (omega (arith, w.one_each))

      reached : (n : ℕ) → is_in (set found k true) n ≡ true → IsReachable (IsUnbounded net) 0 n
      reached zero e = record { path = []; is = refl }
      reached (suc j) e = elim (eq_or_ne j k) [
        | inl x ↦ rw x r
        | inr x ↦ w.reached (suc j) (sym (get_or-set_other found k j true false x) ∙ e)
      ]

      no_more : (j : ℕ) → j < net.size → cond (is_member (set found k true) j) 0 1 ≤ cond (is_member found j) 0 1
      no_more j b = elim (eq_or_ne j k) [
        | inl x ↦ rw (x, here) (omega arith)
        | inr x ↦ rw (get_or-set_other found k j true false x) (omega arith)
      ]

  grow : (fuel : ℕ) (found : List Bool) → left_over found < fuel → Found found → IsReachable (IsUnbounded net) 0 (sink_of net) ⊎ Cut net
  grow zero found small w = absurd (omega arith)
  grow (suc fuel) found small w = elim (Decided-some (suc (sink_of net)) (GoesFrom found) (decide_from found)) [
    | inr none ↦ inr (record { members = found; is = record { one_each = w.one_each; bounded = λ i j a b p q u. none (some_first (suc (sink_of net)) (GoesFrom found) (decide_from found) i a (some_first (suc (sink_of net)) (Goes found i) (decide found i) j b (p, (q, u)))) } })
    | inl v ↦ step v.holds.at v.holds.below v.holds.holds.1.0 (reach_on (w.reached v.at v.holds.holds.0) v.holds.holds.1.1) (λ k a out r.
        let x = added found w k a out r in grow fuel (set found k true) (omega (arith, x.1)) x.0)
  ]
    where
      step : (j : ℕ) → j < suc (sink_of net) → is_in found j ≡ false → IsReachable (IsUnbounded net) 0 j
          → ((k : ℕ) → k < net.size → is_member found k ≡ false → IsReachable (IsUnbounded net) 0 (suc k) → IsReachable (IsUnbounded net) 0 (sink_of net) ⊎ Cut net)
          → IsReachable (IsUnbounded net) 0 (sink_of net) ⊎ Cut net
      step zero a out r next = absurd (false≢true (sym out))
      step (suc k) a out r next = elim (eq_or_ne k net.size) [
        | inl e ↦ inl (rw e at r)
        | inr e ↦ next k (omega arith) out r
      ]

  -- some path of unbounded edges leads from the source to the sink, or there is a cut
  pub path_or_cut : IsReachable (IsUnbounded net) 0 (sink_of net) ⊎ Cut net
  path_or_cut = grow (suc (left_over none)) none (omega arith) (record { one_each = length-map-range_with_len _ 0 net.size; reached = reached })
    where
      none : List Bool
      none = map (λ _. false) (range_with_len 0 net.size)

      reached : (n : ℕ) → is_in none n ≡ true → IsReachable (IsUnbounded net) 0 n
      reached zero e = record { path = []; is = refl }
      reached (suc k) e = elim (lt_or_le k net.size) [
        | inl a ↦ absurd (false≢true (sym (get_or-map-range_with_len (λ _. false) 0 net.size k k false a (omega arith)) ∙ e))
        | inr a ↦ absurd (false≢true (sym (get_or_past none k false (omega (arith, length-map-range_with_len (λ _. false) 0 net.size))) ∙ e))
      ]
