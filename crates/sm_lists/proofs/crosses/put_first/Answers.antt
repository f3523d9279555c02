use Rattle.std.proofs.Common.{[], get_or, ◌∙◌}
use Rattle.sm_lists.specs.Held.{held_in}
use Rattle.sm_lists.proofs.BackLemmas.{put_kept, put_row, put_once_is}
use Rattle.sm_lists.proofs.crosses.put_first.Goals as goal

pub returns-in-Some-clause-kept : goal.returns-in-Some-clause-kept
returns-in-Some-clause-kept g c = put_kept g.C.KeptPlace.kept c.args.crosses.now c.put.new.self c.args.b c.in-Some.k c.of.result c.put.ensures

pub returns-in-Some-clause-put : goal.returns-in-Some-clause-put
returns-in-Some-clause-put g c =
    let f = g.C.KeptPlace.kept in
    let old = c.args.crosses.now in
    let k = c.in-Some.k in
    put_row f old c.put.new.self c.args.b k c.of.result _ c.requires.in_range c.put.ensures c.of.ensures
    ∙ put_once_is c.args.again c.args.at k c.args.place (get_or (held_in f old) c.args.b []) c.if-again.false c.in-Some.is
