use Rattle.std.proofs.Common.{◌≡◌, sym, ◌∙◌}
use Rattle.sm_agents.specs.Written.{row}
use Rattle.sm_seats.specs.Mutual.{lists_back, mutual_row}
use Rattle.sm_seats.proofs.FilterLemmas.{whole_filter}
use Rattle.sm_seats.proofs.reviewer_rows.add_lists.Goals as goal

pub returns-then-acceptable-reviewer_len : goal.returns-then-acceptable-reviewer_len
returns-then-acceptable-reviewer_len c =
    let w = c.args.instance.now in
    let r = c.args.r in
    let long = sym c.requires.acceptable ∙ c.if-acceptable-reviewer_len.true ∙ c.reviewer_len.ensures.length in
    let whole : mutual_row w.reviewers w.proposers r ≡ c.reviewer_list.result.now = whole_filter (lists_back w.proposers r) (row w.reviewers r) long ∙ sym c.reviewer_list.ensures in
    rw whole c.push_shared.ensures.pushed
