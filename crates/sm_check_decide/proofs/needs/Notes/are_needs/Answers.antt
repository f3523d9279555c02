use Rattle.std.proofs.Common.{◌≡◌, length, ap, sym, ◌∙◌, eqb-true, eq-eqb}
use Rattle.sm_check_decide.specs.Noting.{RotationNotes}
use Rattle.sm_check_decide.proofs.NotingLemmas.{needs_of_found, found_of_needs, as_long_as}
use Rattle.sm_check_decide.proofs.needs.Notes.are_needs.Goals as goal

pub returns-then-needs-len : goal.returns-then-needs-len
returns-then-needs-len c = λ l first rotations noted.
    let found : c.self.inside.found.items ≡ c.args.self.now.found = ap (λ (n : RotationNotes). n.found) c.self.view_is in (
      (λ b. let w = c.are_rising_in.ensures.0 b in needs_of_found noted c.args.needs.now w.0 (rw found at w.1) (c.if-needs-len.true ∙ c.len.ensures.count ∙ ap length found)),
      (λ w. c.are_rising_in.ensures.1 (w.rising, rw found (found_of_needs noted w))),
    )

pub returns-else-needs-len : goal.returns-else-needs-len
returns-else-needs-len c = λ l first rotations noted.
    let found : c.self.inside.found.items ≡ c.args.self.now.found = ap (λ (n : RotationNotes). n.found) c.self.view_is in (
      (λ b. absurd (c.if-needs-len.false (eqb-true _ _ b))),
      (λ w. eq-eqb _ _ (as_long_as noted w (rw found at c.len.ensures.trail.distinct) ∙ ap length (sym found) ∙ sym c.len.ensures.count)),
    )
