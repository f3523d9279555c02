use Rattle.std.proofs.Common.{◌≡◌, ◌<◌, length, sym, subst, ◌∙◌, arith}
use Rattle.std.proofs.lemmas.Bool.{false≢true}
use Rattle.std.specs.List.{All}
use Rattle.sm_market.specs.Lists.{row}
use Rattle.sm_market.specs.Vectors.{rows_of}
use Rattle.sm_theory.specs.ClosedSets.{IsMember}
use Rattle.sm_lists.proofs.RowLemmas.{row_read}
use Rattle.sm_poset.proofs.sets.are_closed.Goals as goal

pub are_members-requires : goal.are_members-requires
are_members-requires c =
    let there : c.loop-j.j < length c.args.needs.now = omega (arith, c.requires.one_each) in
    let same : c.deref.result.now ≡ row (rows_of c.args.needs.now) c.loop-j.j = row_read c.args.needs.now c.loop-j.j c.index-needs-j.result c.deref.result.now there c.index-needs-j.is c.deref.ensures.value in
    subst (All (λ k. k < length c.args.members.now)) (sym same) (c.requires.in_range c.loop-j.j)

pub returns-then-not-are_members : goal.returns-then-not-are_members
returns-then-not-are_members c =
    let there : c.loop-j.j < length c.args.needs.now = omega (arith, c.requires.one_each) in
    let same : c.deref.result.now ≡ row (rows_of c.args.needs.now) c.loop-j.j = row_read c.args.needs.now c.loop-j.j c.index-needs-j.result c.deref.result.now there c.index-needs-j.is c.deref.ensures.value in (
      λ x. absurd (false≢true x),
      λ all. sym c.if-not-are_members.true ∙ c.are_members.ensures.1 (subst (All (λ k. IsMember c.args.members.now k)) (sym same) (all c.loop-j.j (omega arith) c.if-members-j.true)),
    )
