use Rattle.std.proofs.Common.{◌≡◌, ◌≢◌, ℕ, ◌+◌, ◌-◌, ◌<◌, ◌++◌, ◌∷◌, [], ◌∙◌, arith, rules, sym, ap, Bool, true, false, List, get_or, replicate, set, take}
use Rattle.std.proofs.lemmas.List.{take_more}
use Rattle.sm_check_clauses.specs.Flows.{set_of_numbers}
use Rattle.sm_check_weight.proofs.SetLemmas.{set_none, set_same, set_more}
use Rattle.sm_check_weight.proofs.taken.set_of.Goals as goal
use Rattle.sm_check_weight.proofs.taken.set_of.Goals.{then-number-gt0+then-number-size, else-number-gt0, else-number-gt0-via-then-number-gt0+else-number-size, else-number-gt0-via-else-number-gt0}

pub loop-number-init : goal.loop-number-init
loop-number-init c = let is : c.in_ok-set.set.items ≡ replicate c.args.size false = search rules in is ∙ set_none c.args.size

pub loop-number-preserved : goal.loop-number-preserved
loop-number-preserved c =
    let numbers = c.args.numbers.now in
    let size : ℕ = c.args.size in
    let i : ℕ = c.loop-number.number-index in
    let n : ℕ = get_or numbers i 0 in
    let more : take (i + 1) numbers ≡ take i numbers ++ n ∷ [] = take_more numbers i 0 c.loop-number-test.true in
    let kept : ((k : ℕ) → k < size → n ≢ k + 1) → c.loop-number.set.items ≡ set_of_numbers size (take (i + 1) numbers) =
    (λ none. c.loop-number.invariant ∙ sym (set_same size (take i numbers) n none) ∙ ap (set_of_numbers size) (sym more)) in
    elim c.if-number-gt0.branch [
      | then-number-gt0+then-number-size w ↦
          let back : n - 1 + 1 ≡ n = omega (arith, w.if-number-gt0.true) in
          rw w.set-is (
          ap (λ (s : List Bool). set s (n - 1) true) c.loop-number.invariant
          ∙ set_more size (take i numbers) (n - 1) (omega (arith, w.if-number-gt0.true, w.if-number-size.true))
          ∙ ap (λ (m : ℕ). set_of_numbers size (take i numbers ++ m ∷ [])) back
          ∙ ap (set_of_numbers size) (sym more)
          )
      | else-number-gt0 w ↦
          rw w.set-is (
          elim w.else-number-gt0.branch [
            | else-number-gt0-via-then-number-gt0+else-number-size v ↦ kept (λ k less e. omega (arith, v.if-number-size.false, less, e))
            | else-number-gt0-via-else-number-gt0 v ↦ kept (λ k less e. omega (arith, v.if-number-gt0.false, e))
          ]
          )
    ]
