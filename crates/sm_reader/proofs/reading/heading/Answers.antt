use Rattle.std.proofs.Common.{ℕ, ◌<◌, ◌≤◌, length, ap, ◌∙◌, sym, refl, arith}
use Rattle.std.specs.Option.{option_map_or}
use Rattle.std.proofs.lemmas.Bool.Decides.{nat_tests}
use Rattle.sm_text.specs.declared.refusal.RefusalKind.TheVariants.{BadHeader}
use Rattle.sm_agents.specs.declared.kinds.Kind.{Kind}
use Rattle.sm_reader.specs.Judging.{heads, faces}
use Rattle.sm_reader.proofs.JudgeLemmas.{heading_of-empty, heading_of-bad, heading_of-form}
use Rattle.sm_reader.proofs.reading.heading.Goals as goal

pub returns-then-is_empty-clause-heading : goal.returns-then-is_empty-clause-heading
returns-then-is_empty-clause-heading c =
    let e = c.is_empty.ensures in
    let t = c.if-is_empty.true in
    heading_of-empty c.args.tokens.now (let h : length c.args.tokens.now < 1 = grind (arith, nat_tests) in h)

pub returns-then-bad-clause-fault : goal.returns-then-bad-clause-fault
returns-then-bad-clause-fault c =
    let e = c.is_empty.ensures in
    let t = c.if-is_empty.false in
    (heading_of-bad c.args.tokens.now (let h : 1 ≤ length c.args.tokens.now = grind (arith, nat_tests) in h) (sym c.requires ∙ c.if-bad.true), refl)

pub returns-in-Some-clause-heading : goal.returns-in-Some-clause-heading
returns-in-Some-clause-heading c =
    let e = c.is_empty.ensures in
    let t = c.if-is_empty.false in
    heading_of-form c.args.tokens.now (let h : 1 ≤ length c.args.tokens.now = grind (arith, nat_tests) in h) (sym c.requires ∙ c.if-bad.false)
    ∙ ap (λ o. option_map_or (λ (header : Kind × ℕ). heads header.0 header.1) o (faces BadHeader)) (sym c.header_of.ensures ∙ c.in-Some.is)

pub returns-in-None-clause-fault : goal.returns-in-None-clause-fault
returns-in-None-clause-fault c =
    let e = c.is_empty.ensures in
    let t = c.if-is_empty.false in (
      heading_of-form c.args.tokens.now (let h : 1 ≤ length c.args.tokens.now = grind (arith, nat_tests) in h) (sym c.requires ∙ c.if-bad.false)
          ∙ ap (λ o. option_map_or (λ (header : Kind × ℕ). heads header.0 header.1) o (faces BadHeader)) (sym c.header_of.ensures ∙ c.in-None.is),
      refl,
    )
