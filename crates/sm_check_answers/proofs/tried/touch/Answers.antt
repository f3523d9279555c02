use Rattle.sm_check_answers.proofs.TriedLemmas.{read_held}
use Rattle.sm_check_answers.proofs.tried.touch.Goals as goal

pub reviewer_at-requires-clause-on_list : goal.reviewer_at-requires-clause-on_list
reviewer_at-requires-clause-on_list c =
    c.requires.assignment.on_lists c.args.p c.in-Some.place (read_held c.requires.assignment c.args.p c.in-Some.place c.index.result.now c.requires.in_range c.index.ensures c.in-Some.is)
