use Rattle.std.proofs.Common.{◌≡◌, ℕ, ◌<◌, ◌≤◌, ◌∙◌, arith, refl, get_or}
use Rattle.std.proofs.lemmas.Bool.{false≢true}
use Rattle.std.proofs.lemmas.List.{get_or_default}
use Rattle.std.proofs.lemmas.List.Elements.{Contains-get_or}
use Rattle.sm_check_weight.proofs.taken.are_there.Goals as goal

pub returns-then-number-size : goal.returns-then-number-size
returns-then-number-size c =
    let numbers = c.args.numbers.now in
    let i : ℕ = c.loop-number.number-index in (
      (λ e. absurd (false≢true e)),
      (λ all.
          let most : get_or numbers i 0 ≤ c.args.size = all (get_or numbers i 0) (Contains-get_or numbers i 0 c.loop-number-test.true) in
          absurd (omega (arith, most, c.if-number-size.true))),
    )

pub returns : goal.returns
returns c =
    let numbers = c.args.numbers.now in (
      (λ e i there.
          let at : get_or numbers there.0 0 ≡ i = get_or_default numbers there.0 0 i there.1 ∙ there.2 in
          let inside : there.0 < c.loop-number.number-index = let lt = there.1 in omega (arith, lt, c.loop-number-test.false) in
          let most : get_or numbers there.0 0 ≤ c.args.size = c.loop-number.invariant there.0 inside in
          omega (arith, at, most)),
      (λ all. refl),
    )
