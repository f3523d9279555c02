-- Sums over the first lines of a flow, for each node.
use Rattle.std.proofs.Common.{◌≡◌, ◌≢◌, ℕ, ◌+◌, ◌*◌, ◌<◌, ◌≤◌, ◌==◌, ◌&&◌, Bool, true, false, arith, refl, ap, ◌∙◌, List, length, take, set, get_or}
use Rattle.std.proofs.lemmas.List.{length-set, take_all}
use Rattle.std.proofs.lemmas.List.Sums.{sum_by_more}
use Rattle.std.specs.Prelude.{if◌then◌else◌}
use Rattle.std.proofs.lemmas.Grind.{get_or_default_zero}
use Rattle.std.specs.List.{sum_by}
use Rattle.sm_lists.proofs.ItemLemmas.{set_cases}
use Rattle.sm_theory.specs.declared.flow_lines.FlowLine.{FlowLine}
use Rattle.sm_theory.specs.FlowLines.{line_at, amount_on}
use Rattle.sm_check_net.specs.FlowSums.{AreSums, carried_from, carried_to}

-- the sums over the first i lines, of what each counts at each node
pub record AreSummed (nodes : ℕ) (part : ℕ → FlowLine → ℕ) (lines : List FlowLine) (i : ℕ) (sums : List ℕ) : Type 0 where
  pub one_each : length sums ≡ nodes
  pub each : (v : ℕ) → v < nodes → get_or sums v 0 ≡ sum_by (part v) (take i lines)
  pub small : (v : ℕ) → v < nodes → get_or sums v 0 ≤ i * 18446744073709551615

-- one more line, which counts at one node alone
pub one_summed : {nodes : ℕ} {part : ℕ → FlowLine → ℕ} {lines : List FlowLine} {sums : List ℕ} (i to before amount : ℕ) → AreSummed nodes part lines i sums → i < length lines → to < nodes
    → before ≡ get_or sums to before → amount ≤ 18446744073709551615 → part to (line_at lines i) ≡ amount → ((v : ℕ) → v ≢ to → part v (line_at lines i) ≡ 0)
    → AreSummed nodes part lines (i + 1) (set sums to (before + amount))
one_summed {nodes} {part} {lines} {sums} i to before amount s more inside was few here others = record {
  one_each = length-set sums to _ ∙ s.one_each;
  each = set_cases (λ v x. v < nodes → x ≡ sum_by (part v) (take (i + 1) lines)) sums to _ 0 there
      (λ less. omega (arith, s.each to inside, next to, here, is))
      (λ v ne less. omega (arith, s.each v less, next v, others v ne));
  small = set_cases (λ v x. v < nodes → x ≤ (i + 1) * 18446744073709551615) sums to _ 0 there
      (λ less. omega (arith, s.small to inside, is))
      (λ v ne less. omega (arith, s.small v less));
}
  where
    there : to < length sums
    there = omega (arith, s.one_each)

    is : before ≡ get_or sums to 0
    is = was ∙ get_or_default_zero sums to before there

    next : (v : ℕ) → sum_by (part v) (take (i + 1) lines) ≡ sum_by (part v) (take i lines) + part v (line_at lines i)
    next v = sum_by_more (part v) lines i _ more

-- all of them
pub all_summed : {nodes : ℕ} {part : ℕ → FlowLine → ℕ} {lines : List FlowLine} {sums : List ℕ} (i : ℕ) → AreSummed nodes part lines i sums → length lines ≤ i → AreSums nodes (λ v. sum_by (part v) lines) sums
all_summed {part = part} {lines} i s all = record {
  one_each = s.one_each;
  each = λ v less. s.each v less ∙ ap (sum_by (part v)) (take_all i lines all);
}

-- all of them, by the other ends of lines from one node, and to one
pub from_summed : {nodes : ℕ} {lines : List FlowLine} {sums : List ℕ} (from i : ℕ) → AreSummed nodes (λ v line. if line.to == v then carried_from from line else 0) lines i sums
    → length lines ≤ i → AreSums nodes (amount_on lines from) sums
unfolding carried_from
from_summed {lines = lines} from i s all = record {
  one_each = s.one_each;
  each = λ v less. (all_summed i s all).each v less ∙ ap (λ (f : FlowLine → ℕ). sum_by f lines) (λ t line. both (line.from == from) (line.to == v) line.amount t);
}
  where
    both : (a b : Bool) (n : ℕ) → (if b then (if a then n else 0) else 0) ≡ (if a && b then n else 0)
    both true true n = refl
    both true false n = refl
    both false true n = refl
    both false false n = refl

-- and by the nodes from which lines lead to one node
pub to_summed : {nodes : ℕ} {lines : List FlowLine} {sums : List ℕ} (to i : ℕ) → AreSummed nodes (λ v line. if line.from == v then carried_to to line else 0) lines i sums
    → length lines ≤ i → AreSums nodes (λ from. amount_on lines from to) sums
unfolding carried_to
to_summed {lines = lines} to i s all = record {
  one_each = s.one_each;
  each = λ v less. (all_summed i s all).each v less ∙ ap (λ (f : FlowLine → ℕ). sum_by f lines) (λ t line. both (line.from == v) (line.to == to) line.amount t);
}
  where
    both : (a b : Bool) (n : ℕ) → (if a then (if b then n else 0) else 0) ≡ (if a && b then n else 0)
    both true true n = refl
    both true false n = refl
    both false true n = refl
    both false false n = refl

-- an amount that is read
pub amount_at : {nodes : ℕ} {amount : ℕ → ℕ} {sums : List ℕ} → AreSums nodes amount sums → (v : ℕ) → v < nodes → {x : ℕ} → x ≡ get_or sums v x → x ≡ amount v
amount_at {sums = sums} s v less {x} is = is ∙ get_or_default_zero sums v x (omega (arith, s.one_each)) ∙ s.each v less
