use Rattle.std.proofs.Common.{sym, ◌∙◌, eqb-true, eq-eqb}
use Rattle.sm_theory.proofs.Chains.Links.{successor_named, entry-successor}
use Rattle.sm_theory.proofs.rotations.is_successor.Goals as goal

pub returns-in-Some : goal.returns-in-Some
returns-in-Some c =
    let l = c.args.market.now in
    let m = c.args.m.now.places in
    let x = c.in-Some.ensures in
    let named = c.reviewer_at.ensures.named in (
      (λ e. successor_named l m c.args.p c.in-Some.place c.args.target c.requires.market x (sym named ∙ eqb-true _ _ e)),
      (λ y. eq-eqb _ _ (named ∙ entry-successor l m c.args.p c.in-Some.place c.args.target x y)),
    )
