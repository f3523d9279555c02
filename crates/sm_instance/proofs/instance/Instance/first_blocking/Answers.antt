use Rattle.std.proofs.Common.{◌≡◌, ℕ, ◌+◌, Option, Some, length, arith, subst, sym}
use Rattle.sm_instance.specs.Loads.{IsFirstBelow}
use Rattle.sm_lists.specs.declared.compact_naming.CompactNaming.{CompactNaming}
use Rattle.sm_instance.proofs.BlockLemmas.{first_more, first_end}
use Rattle.sm_instance.proofs.instance.Instance.first_blocking.Goals as goal

pub loop-r-preserved : goal.loop-r-preserved
loop-r-preserved c =
    let w = c.args.self.now in
    let places = c.args.a.now.places.items in
    let Q : Option CompactNaming → Type 0 = λ o. IsFirstBelow w places (c.loop-r.r + 1) o in
    subst Q (sym c.sooner-first.ensures) (first_more w places c.loop-r.r c.loop-r.first c.first_blocking_at.result c.loop-r.invariant c.first_blocking_at.ensures)

pub returns-in-Some : goal.returns-in-Some
returns-in-Some c =
    let w = c.args.self.now in
    let places = c.args.a.now.places.items in
    let count = c.reviewer_count-r-end.ensures.count in
    let all : c.loop-r.r ≡ length w.reviewers = omega arith in
    let Q : ℕ → Option CompactNaming → Type 0 = λ k o. IsFirstBelow w places k o in
    let here = subst (Q c.loop-r.r) c.in-Some.is c.loop-r.invariant in
    let whole = subst (λ k. Q k (Some c.in-Some.naming)) all here in
    rw (c.reviewer_at.ensures.named, c.from-p.ensures, c.from.ensures) (first_end c.reviewer_count-r-end.ensures.instance c.requires.matching (Some c.in-Some.naming) whole)
