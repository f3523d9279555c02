-- The flow of the worked net, by its lines, and other lines.
use Rattle.std.proofs.Common.{◌≡◌, ℕ, zero, suc, ◌<◌, ◌≤◌, inl, inr, arith, refl, subst, ne_eqb}
use Rattle.std.specs.List.{All}
use Rattle.std.proofs.lemmas.Bool.{false≢true}
use Rattle.sm_theory.specs.Net.{sink_of, HasEdge}
use Rattle.sm_theory.specs.Flows.{IsFlow}
use Rattle.sm_theory.specs.WitnessesFlows.{three_cycle_net, three_cycle_flow}
use Rattle.sm_theory.proofs.Flow.Witness.{worked_net}
use Rattle.sm_theory.specs.FlowLines.{line_at, amount_on, IsConserved, HaveSameEnds, IsLineBefore, AreFlowLines}
use Rattle.sm_theory.specs.WitnessesLines.{line, three_cycle_lines, broken_lines, WorkedLines, EachLine}

lines_are : AreFlowLines three_cycle_net three_cycle_lines
lines_are = record { rising = rising; positive = positive; edges = edges; nodes = nodes }
  where
    rising : (a b : ℕ) → a < b → b < 3 → IsLineBefore (line_at three_cycle_lines a) (line_at three_cycle_lines b)
    rising zero zero less few = absurd (omega arith)
    rising zero (suc zero) less few = inl (omega arith)
    rising zero (suc (suc zero)) less few = inl (omega arith)
    rising (suc zero) zero less few = absurd (omega arith)
    rising (suc zero) (suc zero) less few = absurd (omega arith)
    rising (suc zero) (suc (suc zero)) less few = inl (omega arith)
    rising (suc (suc a)) zero less few = absurd (omega arith)
    rising (suc (suc a)) (suc zero) less few = absurd (omega arith)
    rising (suc (suc a)) (suc (suc zero)) less few = absurd (omega arith)
    rising a (suc (suc (suc b))) less few = absurd (omega arith)

    positive : (a : ℕ) → a < 3 → 0 < (line_at three_cycle_lines a).amount
    positive zero few = omega arith
    positive (suc zero) few = omega arith
    positive (suc (suc zero)) few = omega arith
    positive (suc (suc (suc a))) few = absurd (omega arith)

    edges : (a : ℕ) → a < 3 → HasEdge three_cycle_net (line_at three_cycle_lines a).from (line_at three_cycle_lines a).to
    edges zero few = inr (omega arith)
    edges (suc zero) few = inr (omega arith)
    edges (suc (suc zero)) few = inl refl
    edges (suc (suc (suc a))) few = absurd (omega arith)

    nodes : (a : ℕ) → a < 3 → ((line_at three_cycle_lines a).from < suc (sink_of three_cycle_net)) × ((line_at three_cycle_lines a).to < suc (sink_of three_cycle_net))
    nodes zero few = (omega arith, omega arith)
    nodes (suc zero) few = (omega arith, omega arith)
    nodes (suc (suc zero)) few = (omega arith, omega arith)
    nodes (suc (suc (suc a))) few = absurd (omega arith)

-- the amounts on the lines are those of the worked flow
same : (i j : ℕ) → three_cycle_flow i j ≡ amount_on three_cycle_lines i j
same zero zero = refl
same zero (suc zero) = refl
same zero (suc (suc zero)) = refl
same zero (suc (suc (suc j))) = rw (ne_eqb 2 (suc (suc (suc j))) (λ e. omega (arith, e))) refl
same (suc zero) zero = refl
same (suc zero) (suc zero) = refl
same (suc zero) (suc (suc zero)) = refl
same (suc zero) (suc (suc (suc zero))) = refl
same (suc zero) (suc (suc (suc (suc j)))) = rw (ne_eqb 3 (suc (suc (suc (suc j)))) (λ e. omega (arith, e))) refl
same (suc (suc zero)) zero = refl
same (suc (suc zero)) (suc zero) = refl
same (suc (suc zero)) (suc (suc j)) = rw (ne_eqb 1 (suc (suc j)) (λ e. omega (arith, e))) refl
same (suc (suc (suc i))) j = rw (ne_eqb 0 (suc (suc (suc i))) (λ e. omega (arith, e)), ne_eqb 1 (suc (suc (suc i))) (λ e. omega (arith, e)), ne_eqb 2 (suc (suc (suc i))) (λ e. omega (arith, e))) refl

is_flow : IsFlow three_cycle_net (amount_on three_cycle_lines)
is_flow =
    let all : ◌≡◌ {A = ℕ → ℕ → ℕ} three_cycle_flow (amount_on three_cycle_lines) = (λ t i j. same i j t) in
    subst (IsFlow three_cycle_net) all worked_net.1

-- the lines of the worked net are its flow
pub worked_lines : WorkedLines
worked_lines = (
  lines_are,
  is_flow,
  refl,
  refl,
  (λ f. let over : 15 ≤ 14 = f.within 0 2 (λ u. false≢true u) in omega arith),
  (λ f. let none : ◌≡◌ {A = ℕ} 0 4 = f.conserved 0 (omega arith) in omega (arith, none)),
)

conserved : IsConserved 2 three_cycle_lines
conserved zero h = refl
conserved (suc zero) h = refl
conserved (suc (suc k)) h = absurd (omega arith)

new_line : All (λ other. ¬ HaveSameEnds other (line 2 1 3)) broken_lines
new_line zero d less = λ e. omega (arith, e.0)
new_line (suc zero) d less = λ e. omega (arith, e.0)
new_line (suc (suc k)) d less = absurd (omega arith)

-- what is asked of each line holds of these, and not of others
pub each_line : EachLine
each_line = (
  conserved,
  (λ f. let none : ◌≡◌ {A = ℕ} 0 4 = f 0 (omega arith) in omega (arith, none)),
  record { not_through = λ e. omega (arith, e.0); edge = inl refl; new = new_line },
  record { not_through = λ e. omega (arith, e.1); edge = inr (omega arith); new = λ k d less. absurd (omega arith) },
  (λ n. n.new 0 (line 0 0 0) (omega arith) (refl, refl)),
  (λ n. elim n.edge [ inl u ↦ false≢true u | inr more ↦ omega arith ]),
  (λ n. n.not_through (refl, refl)),
  record { positive = omega arith; within = inr (omega arith) },
  (λ w. elim w.within [ inl u ↦ false≢true u | inr more ↦ omega arith ]),
  (λ w. let more = w.positive in omega arith),
  record { positive = omega arith; within = inl refl },
)
