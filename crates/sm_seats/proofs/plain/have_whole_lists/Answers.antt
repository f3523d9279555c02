use Rattle.std.proofs.Common.{◌≡◌, ℕ, subst, sym, ◌∙◌, arith, inl, inr}
use Rattle.std.proofs.lemmas.Bool.{cases_eq}
use Rattle.sm_agents.specs.Written.{row}
use Rattle.sm_seats.specs.Mutual.{lists_back, mutual_row}
use Rattle.sm_seats.proofs.FilterLemmas.{whole_filter}
use Rattle.sm_seats.proofs.plain.have_whole_lists.Goals as goal

pub loop-p-preserved : goal.loop-p-preserved
loop-p-preserved c =
    let w = c.args.instance.now in
    let p = c.loop-p.p in
    let long = sym c.acceptable_count.ensures ∙ c.if-acceptable_count-proposer_len.false ∙ c.proposer_len.ensures.length in
    let whole : mutual_row w.proposers w.reviewers p ≡ row w.proposers p = whole_filter (lists_back w.reviewers p) (row w.proposers p) long in
    λ q less. elim (cases_eq q p) [
      | inl same ↦ subst (λ (x : ℕ). mutual_row w.proposers w.reviewers x ≡ row w.proposers x) (sym same) whole
      | inr other ↦ c.loop-p.invariant q (omega (arith, less, other))
    ]
