use Rattle.std.proofs.Common.{◌≡◌, refl, sym, ap, ◌∙◌}
use Rattle.sm_lists.proofs.PlaceLemmas.{place_on-lt}
use Rattle.sm_agents.specs.Written.{Written, row, entry}
use Rattle.sm_instance.specs.Crosses.{cross_place}
use Rattle.sm_instance.proofs.AcceptLemmas.{cross_some}
use Rattle.sm_answer_solve.proofs.proposals.Proposals.at.Goals as goal

pub returns-clause-proposal : goal.returns-clause-proposal
returns-clause-proposal c =
    let w = c.args.instance.now in
    let p = c.args.p in
    let i = c.args.place in
    let cross : c.in_ok-place_there.field-0 ≡ cross_place w.reviewers (entry w.proposers p i) p =
    c.in_ok-place_there.ensures.cross ∙ ap (λ (v : Written). cross_place v.reviewers (entry v.proposers p i) p) (c.self.view_is ∙ c.requires.same) in
    let both = cross_some w.reviewers (entry w.proposers p i) p c.in-Some.place_there (sym cross ∙ c.in-Some.is) in
    rw c.reviewer_at.ensures.named
    (record {
      proposer = refl;
      reviewer = refl;
      acceptable = record { proposer_lists = place_on-lt (row w.proposers p) (entry w.proposers p i) i c.requires.on_list refl; reviewer_lists = both.1 };
      place = sym both.0;
    })
