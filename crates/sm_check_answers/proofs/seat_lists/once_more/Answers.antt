use Rattle.std.proofs.Common.{◌∙◌, ◌+◌, ℕ, min, ap, length}
use Rattle.std.proofs.lemmas.List.{get_or_default}
use Rattle.sm_check_answers.proofs.SeatListLemmas.{times_more}
use Rattle.sm_check_answers.proofs.seat_lists.once_more.Goals as goal

pub returns : goal.returns
returns c = λ agents k.
    let times = c.args.times.now.items in
    times_more (length times) agents times c.args.a c.requires k c.more_than.result
    (c.more_than.ensures ∙ ap (λ (x : ℕ). min 2 (x + 1)) (c.index.ensures ∙ get_or_default times c.args.a c.index.result.now 0 c.requires))
