use Rattle.std.proofs.Common.{◌≡◌, ◌<◌, ◌∙◌, Some, false, ap, sym, arith, length}
use Rattle.std.proofs.lemmas.List.{get_or_default}
use Rattle.sm_lists.proofs.PlaceLemmas.{get_or-place_on}
use Rattle.sm_agents.specs.Written.{entry, place_of, row}
use Rattle.sm_instance.proofs.PlaceLemmas.{place_of-entry}
use Rattle.sm_check_answers.proofs.WantedLemmas.{stood_more, partner_in-none, some_stands}
use Rattle.sm_check_answers.proofs.wanted.Stood.add.Goals.{then-reviewer_at-r-via-then-reviewer_at-r, then-reviewer_at-r-via-else-reviewer_at-r+then-index}
use Rattle.sm_check_answers.proofs.wanted.Stood.add.Goals as goal

pub returns-then-reviewer_at-r-clause-stands : goal.returns-then-reviewer_at-r-clause-stands
returns-then-reviewer_at-r-clause-stands c = λ pairs k wants.
    let w = c.args.instance.now in
    elim c.then-reviewer_at-r.branch [
      | then-reviewer_at-r-via-then-reviewer_at-r v ↦
          let same : c.in-Some.place ≡ place_of w.proposers c.args.p c.args.r = (let e = sym c.in-Some.is ∙ wants.in_matching in cc) in
          let on : c.in-Some.place < length (row w.proposers c.args.p) = c.requires.wanted.on_lists c.args.p c.in-Some.place c.in-Some.is in
          let there = get_or-place_on (row w.proposers c.args.p) c.args.r (omega (arith, same, on)) in
          v.if-reviewer_at-r.true (c.reviewer_at.ensures.named ∙ ap (entry w.proposers c.args.p) same ∙ there)
      | then-reviewer_at-r-via-else-reviewer_at-r+then-index v ↦
          let inside : c.args.p < length c.args.self.now.stood.items = (let one = c.requires.one_each in let l = c.requires.proposer in omega (arith, one, l)) in
          some_stands w pairs c.args.self.now.stood.items c.args.p k c.requires.proposer
          (sym (get_or_default c.args.self.now.stood.items c.args.p v.index.result.now false inside) ∙ sym v.index.ensures ∙ v.if-index.true) wants.once
    ]

pub returns-clause-stands : goal.returns-clause-stands
returns-clause-stands c = λ pairs k.
    let w = c.args.instance.now in
    let inside : c.args.p < length c.args.self.now.stood.items = (let one = c.requires.one_each in let l = c.requires.proposer in omega (arith, one, l)) in
    let none = partner_in-none w pairs c.args.self.now.stood.items c.args.p k c.requires.proposer
    (sym (get_or_default c.args.self.now.stood.items c.args.p c.index.result.now false inside) ∙ sym c.index.ensures ∙ c.if-index.false) in
    let on : c.in-Some.place < length (row w.proposers c.args.p) = c.requires.wanted.on_lists c.args.p c.in-Some.place c.in-Some.is in
    let place : place_of w.proposers c.args.p c.args.r ≡ c.in-Some.place = place_of-entry c.proposer_count-proposers.ensures.instance.proposer_entries c.args.p c.args.r c.in-Some.place on (sym c.reviewer_at.ensures.named ∙ c.if-reviewer_at-r.false) in
    record {
      wants = record { in_matching = c.in-Some.is ∙ ap Some (sym place); once = none };
      stood = stood_more w pairs c.args.self.now.stood.items c.args.p c.args.r k c.requires.proposer none;
    }
