use Rattle.std.proofs.Common.{◌≡◌, ◌<◌, length, subst, ap, ◌∙◌, arith}
use Rattle.sm_lists.proofs.ResultLemmas.{IfOk-more}
use Rattle.sm_market.specs.Lists.{Lists, row}
use Rattle.sm_seats.specs.Begins.{AreBegins, AreWrittenPlaces, AreLevelsBetween}
use Rattle.sm_seats.specs.Seating.{Seating}
use Rattle.sm_seats.proofs.BeginLemmas.{written_levels, begun_levels}
use Rattle.sm_seats.proofs.seats.Seats.levels_at.Goals as goal

pub at-requires : goal.at-requires
at-requires c =
    let begun : AreBegins c.args.self.now c.in-Some.begins = subst (λ (s : Seating). AreBegins s c.in-Some.begins) c.self.view_is (rw c.in-Some.is at c.self.invariant.placed) in
    omega (arith, begun.one_each, c.requires)

pub levels_between-requires : goal.levels_between-requires
levels_between-requires c =
    let begun : AreBegins c.args.self.now c.in-Some.begins = subst (λ (s : Seating). AreBegins s c.in-Some.begins) c.self.view_is (rw c.in-Some.is at c.self.invariant.placed) in
    rw c.at.ensures (begun.rising c.args.p c.requires)

pub levels_up_to-requires : goal.levels_up_to-requires
levels_up_to-requires c =
    let same : AreWrittenPlaces c.args.self.now = subst AreWrittenPlaces c.self.view_is (rw c.in-None.is at c.self.invariant.placed) in
    let short : length (row c.args.self.now.lists c.args.p) < 16777216 = subst (λ (s : Seating). length (row s.lists c.args.p) < 16777216) c.self.view_is (c.self.invariant.kept.short c.args.p) in
    let count : c.proposer_len.result ≡ length (row c.args.self.now.market.proposers c.args.p) = c.proposer_len.ensures ∙ ap (λ (l : Lists). length (row l.proposers c.args.p)) (c.as_ref.ensures ∙ ap (λ (s : Seating). s.market) c.self.view_is) in
    omega (arith, count, short, same.as_long c.args.p c.requires)

pub returns-in-Some : goal.returns-in-Some
returns-in-Some c =
    let begun : AreBegins c.args.self.now c.in-Some.begins = subst (λ (s : Seating). AreBegins s c.in-Some.begins) c.self.view_is (rw c.in-Some.is at c.self.invariant.placed) in
    IfOk-more c.levels_between.result _ _ (λ levels between. begun_levels begun c.requires (subst (λ row. AreLevelsBetween row levels.items) c.at.ensures between)) c.levels_between.ensures

pub returns-in-None : goal.returns-in-None
returns-in-None c =
    let same : AreWrittenPlaces c.args.self.now = subst AreWrittenPlaces c.self.view_is (rw c.in-None.is at c.self.invariant.placed) in
    let count : c.proposer_len.result ≡ length (row c.args.self.now.market.proposers c.args.p) = c.proposer_len.ensures ∙ ap (λ (l : Lists). length (row l.proposers c.args.p)) (c.as_ref.ensures ∙ ap (λ (s : Seating). s.market) c.self.view_is) in
    IfOk-more c.levels_up_to.result _ _ (λ levels up. written_levels same c.requires count up) c.levels_up_to.ensures
