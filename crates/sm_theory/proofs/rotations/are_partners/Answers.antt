use Rattle.std.proofs.Common.{sym, ◌∙◌, eqb-true, eq-eqb}
use Rattle.sm_theory.proofs.Chains.Links.{held_named, entry-held}
use Rattle.sm_theory.proofs.rotations.are_partners.Goals as goal

pub returns-in-Some : goal.returns-in-Some
returns-in-Some c =
    let l = c.args.market.now in
    let m = c.args.m.now.places in
    let f = c.requires.made.matching in
    let e = sym c.place.ensures ∙ c.in-Some.is in
    let named = c.reviewer_at.ensures.named in (
      (λ x. held_named l m c.args.p c.in-Some.place c.args.r c.requires.market f e (sym named ∙ eqb-true _ _ x)),
      (λ x. eq-eqb _ _ (named ∙ entry-held l m c.args.p c.in-Some.place c.args.r f e x)),
    )
