-- Sums over lines and sums over nodes.
use Rattle.std.proofs.Common.{◌≡◌, ℕ, zero, suc, ◌+◌, ◌<◌, ◌≤◌, ◌&&◌, ◌==◌, inl, inr, arith, refl, sym, ◌∙◌, Bool, true, false, List, [], ◌∷◌, length, eq-eqb, ne_eqb}
use Rattle.std.specs.Prelude.{if◌then◌else◌}
use Rattle.std.proofs.lemmas.List.Sums.{sum_by-cons}
use Rattle.sm_lists.specs.Sums.{sum_to}
use Rattle.sm_lists.proofs.Counting.{eq_or_ne}
use Rattle.sm_lists.proofs.Sums.{sum_same, sum_none, sum_plus}
use Rattle.sm_theory.specs.Net.{sink_of}
use Rattle.sm_theory.proofs.Flow.Cuts.{none_leaves, value_is_cut}
use Rattle.sm_theory.specs.declared.flow_lines.FlowLine.{FlowLine}
use Rattle.sm_theory.specs.FlowLines.{line_at, amount_on, amount_from, amount_to}
use Rattle.sm_theory.specs.LawsFlows.{FullCutsAreUnleft, FlowOfLines}

-- a sum over all nodes of what one line has
none_before : (a n v : ℕ) (b : Bool) → n ≤ a → sum_to (λ i. if a == i && b then v else 0) n ≡ 0
none_before a n v b h = sum_none n _ (λ i k. rw (ne_eqb a i (λ e. omega arith)) refl)

one_node : (a n v : ℕ) (b : Bool) → a < n → sum_to (λ i. if a == i && b then v else 0) n ≡ (if b then v else 0)
one_node a zero v b h = absurd (omega arith)
one_node a (suc n) v b h = elim (eq_or_ne a n) [
  | inl e ↦ omega (arith, none_before a n v b (omega arith), there e)
  | inr e ↦ omega (arith, one_node a n v b (omega arith), not_there e)
]
  where
    there : a ≡ n → (if a == n && b then v else 0) ≡ (if b then v else 0)
    there e = rw (eq-eqb a n e) refl

    not_there : (a ≡ n → ⊥) → (if a == n && b then v else 0) ≡ 0
    not_there e = rw (ne_eqb a n e) refl

one_node_back : (a n v : ℕ) (b : Bool) → a < n → sum_to (λ j. if b && a == j then v else 0) n ≡ (if b then v else 0)
one_node_back a n v true h = sum_same n _ _ (λ j k. swap (a == j)) ∙ one_node a n v true h
  where
    swap : (t : Bool) → (if true && t then v else 0) ≡ (if t && true then v else 0)
    swap true = refl
    swap false = refl
one_node_back a n v false h = sum_none n _ (λ j k. refl)

-- the ends of lines are below n
AreBelow : ℕ → List FlowLine → Type 0
AreBelow n lines = (a : ℕ) → a < length lines → ((line_at lines a).from < n) × ((line_at lines a).to < n)

rest : (n : ℕ) (x : FlowLine) (xs : List FlowLine) → AreBelow n (x ∷ xs) → AreBelow n xs
unfolding AreBelow
rest n x xs all a h = all (suc a) (omega arith)

ends : (n : ℕ) (x : FlowLine) (xs : List FlowLine) → AreBelow n (x ∷ xs) → (x.from < n) × (x.to < n)
unfolding AreBelow
ends n x xs all = all 0 (omega arith)

below : (n : ℕ) (xs : List FlowLine) → ((a : ℕ) → a < length xs → ((line_at xs a).from < n) × ((line_at xs a).to < n)) → AreBelow n xs
unfolding AreBelow
below n xs h = h

into_node : (n j : ℕ) (xs : List FlowLine) → AreBelow n xs → sum_to (λ i. amount_on xs i j) n ≡ amount_to xs j
into_node n j [] all = sum_none n _ (λ i k. refl)
into_node n j (x ∷ xs) all =
    sum_same n _ _ (λ i k. sum_by-cons (λ (f : FlowLine). if f.from == i && f.to == j then f.amount else 0) x xs)
    ∙ sum_plus n (λ i. if x.from == i && x.to == j then x.amount else 0) (λ i. amount_on xs i j)
    ∙ (λ k. one_node x.from n x.amount (x.to == j) ((ends n x xs all).0) k + into_node n j xs (rest n x xs all) k) ∙ sym (sum_by-cons (λ (f : FlowLine). if f.to == j then f.amount else 0) x xs)

out_of_node : (n i : ℕ) (xs : List FlowLine) → AreBelow n xs → sum_to (amount_on xs i) n ≡ amount_from xs i
out_of_node n i [] all = sum_none n _ (λ j k. refl)
out_of_node n i (x ∷ xs) all =
    sum_same n _ _ (λ j k. sum_by-cons (λ (f : FlowLine). if f.from == i && f.to == j then f.amount else 0) x xs)
    ∙ sum_plus n (λ j. if x.from == i && x.to == j then x.amount else 0) (amount_on xs i)
    ∙ (λ k. one_node_back x.to n x.amount (x.from == i) ((ends n x xs all).1) k + out_of_node n i xs (rest n x xs all) k) ∙ sym (sum_by-cons (λ (f : FlowLine). if f.from == i then f.amount else 0) x xs)

-- amounts on lines are a flow exactly where they are within the rooms and conserved
pub flow_of_lines : FlowOfLines
flow_of_lines net lines all = (
  (
    (λ f. (f.within, λ k h. sym (into_node n (suc k) lines ok) ∙ f.conserved k h ∙ out_of_node n (suc k) lines ok)),
    (λ c. record { within = c.0; conserved = λ k h. into_node n (suc k) lines ok ∙ c.1 k h ∙ sym (out_of_node n (suc k) lines ok) }),
  ),
  out_of_node n 0 lines ok,
)
  where
    n : ℕ
    n = suc (sink_of net)

    ok : AreBelow n lines
    ok = below n lines all

-- a flow's value is a cut exactly where no residual step leaves the cut
pub full_cuts_are_unleft : FullCutsAreUnleft
full_cuts_are_unleft net flow set f c = (
  (λ e. none_leaves net set c.one_each flow f c (omega (arith, e))),
  (λ none. value_is_cut net set c.one_each flow f none),
)
