use Rattle.std.proofs.Common.{ℕ, get_or, ap, ◌∙◌, arith, inl, inr}
use Rattle.std.proofs.lemmas.Bool.{cases_eq}
use Rattle.sm_lists.specs.Rows.{place_on}
use Rattle.sm_lists.proofs.PlaceLemmas.{get_or-place_on, place_on-le-at}
use Rattle.sm_seats.proofs.levels.place_on.Goals as goal

pub loop-place-preserved : goal.loop-place-preserved
loop-place-preserved c =
    let here : ℕ = place_on c.args.list.now c.args.r in
    elim (cases_eq c.loop-place.place here) [
      | inl same ↦ absurd (c.loop-place-test.true (ap (λ i. get_or c.args.list.now i 0) same ∙ get_or-place_on c.args.list.now c.args.r c.requires.listed))
      | inr other ↦ omega (arith, c.loop-place.invariant, other)
    ]

pub returns : goal.returns
returns c = omega (arith, c.loop-place.invariant, place_on-le-at c.args.list.now c.args.r c.loop-place.place c.loop-place-test.false)
