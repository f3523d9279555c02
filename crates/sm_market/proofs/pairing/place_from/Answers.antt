use Rattle.std.proofs.Common.{◌≡◌, ℕ, sym, ap, ◌∙◌, arith, ⊎_elim}
use Rattle.std.proofs.lemmas.Bool.{cases_lt}
use Rattle.sm_market.specs.Lists.{entry, place_of}
use Rattle.sm_lists.proofs.PlaceLemmas.{entry-place_of}
use Rattle.sm_market.proofs.PlaceLemmas.{place_of-entry}
use Rattle.sm_market.proofs.pairing.place_from.Goals as goal

pub returns-then-reviewer_at-r : goal.returns-then-reviewer_at-r
returns-then-reviewer_at-r c =
    sym (place_of-entry c.reviewer_at.ensures.market.proposers c.args.p c.loop-place.place (omega arith))
    ∙ ap (place_of c.args.market.now.proposers c.args.p) (sym c.reviewer_at.ensures.named ∙ c.if-reviewer_at-r.true)

pub earlier-preserved : goal.earlier-preserved
earlier-preserved c =
    let k : ℕ = place_of c.args.market.now.proposers c.args.p c.args.r in
    let there = entry-place_of c.args.market.now.proposers c.args.p c.args.r c.requires.listed in
    ⊎_elim
    (λ less. omega (arith, less))
    (λ past.
    let same : c.earlier.place ≡ k = omega (arith, past, c.earlier.invariant) in
    absurd (c.earlier-test.true (c.reviewer_at-in-earlier.ensures.named ∙ ap (entry c.args.market.now.proposers c.args.p) same ∙ there)))
    (cases_lt c.earlier.place k)

pub returns : goal.returns
returns c =
    sym (place_of-entry c.reviewer_at-in-earlier.ensures.market.proposers c.args.p c.earlier.place (omega (arith, c.earlier.invariant, c.requires.listed)))
    ∙ ap (place_of c.args.market.now.proposers c.args.p) (sym c.reviewer_at-in-earlier.ensures.named ∙ c.earlier-test.false)
