use Rattle.std.proofs.Common.{◌≡◌, ◌+◌, ◌⊎◌, sym, subst, length, ℕ, Option, arith}
use Rattle.sm_instance.specs.Loads.{IsFirstOf, IsUnacceptable, IsOverfullBelow}
use Rattle.sm_instance.proofs.BreachLemmas.{breach_start, breach_more, breach_end}
use Rattle.sm_instance.proofs.instance.Instance.breach.Goals as goal

pub loop-r-init : goal.loop-r-init
loop-r-init c = breach_start c.args.self.now c.args.a.now.places.items c.first_unacceptable-first.result c.first_unacceptable-first.ensures

pub loop-r-preserved : goal.loop-r-preserved
loop-r-preserved c =
    let w = c.args.self.now in
    let places = c.args.a.now.places.items in
    let Q : Option ℕ → Type 0 = λ o. IsFirstOf (λ p. IsUnacceptable w places p ⊎ IsOverfullBelow w places (c.loop-r.r + 1) p) o in
    subst Q (sym c.earlier-first.ensures) (breach_more w places c.loop-r.r c.loop-r.first c.first_overfull.result c.loop-r.invariant c.first_overfull.ensures)

pub returns : goal.returns
returns c =
    let w = c.args.self.now in
    let places = c.args.a.now.places.items in
    let count = c.reviewer_count-r-end.ensures.count in
    let all : c.loop-r.r ≡ length w.reviewers = omega arith in
    let Q : ℕ → Type 0 = λ k. IsFirstOf (λ p. IsUnacceptable w places p ⊎ IsOverfullBelow w places k p) c.loop-r.first in
    breach_end c.reviewer_count-r-end.ensures.instance c.requires c.loop-r.first (subst Q all c.loop-r.invariant)
