use Rattle.std.proofs.Common.{◌+◌, ◌<◌, length, sym, subst, ap, ◌∙◌, arith}
use Rattle.sm_market.specs.Lists.{row}
use Rattle.sm_seats.specs.Seating.{Seating, written_place}
use Rattle.sm_seats.proofs.KeptLemmas.{place_read}
use Rattle.sm_seats.proofs.seats.Seats.level.Goals as goal

pub place_on-requires-clause-listed : goal.place_on-requires-clause-listed
place_on-requires-clause-listed c =
    (place_read c.self.invariant.kept c.args.p c.args.place c.reviewer_at.result c.at.result.now c.index.result.now
    (subst (λ (s : Seating). c.args.place < length (row s.market.proposers c.args.p)) (sym c.self.view_is) c.requires.on_list) (rw c.as_ref.ensures at c.reviewer_at.ensures.named) c.index.ensures
    c.at.ensures).listed

pub overflow_add-result : goal.overflow_add-result
overflow_add-result c =
    let it = place_read c.self.invariant.kept c.args.p c.args.place c.reviewer_at.result c.at.result.now c.index.result.now
    (subst (λ (s : Seating). c.args.place < length (row s.market.proposers c.args.p)) (sym c.self.view_is) c.requires.on_list) (rw c.as_ref.ensures at c.reviewer_at.ensures.named) c.index.ensures
    c.at.ensures in
    omega (arith, c.place_on.ensures, it.listed, it.short)

pub returns : goal.returns
returns c =
    let it = place_read c.self.invariant.kept c.args.p c.args.place c.reviewer_at.result c.at.result.now c.index.result.now
    (subst (λ (s : Seating). c.args.place < length (row s.market.proposers c.args.p)) (sym c.self.view_is) c.requires.on_list) (rw c.as_ref.ensures at c.reviewer_at.ensures.named) c.index.ensures
    c.at.ensures in
    ap (λ n. n + 1) (c.place_on.ensures ∙ it.is) ∙ ap (λ (s : Seating). written_place s c.args.p c.args.place + 1) c.self.view_is
