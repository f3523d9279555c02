use Rattle.std.proofs.Common.{IfSome, ◌<◌, [], ℕ, List, Option, None, length, get_or, ap, subst, ◌∙◌, arith}
use Rattle.sm_lists.specs.Held.{held_in}
use Rattle.sm_lists.proofs.CrossLemmas.{length-held_in}
use Rattle.sm_lists.proofs.BackLemmas.{put_kept, put_row, shared_is, held_read}
use Rattle.sm_lists.proofs.crosses.share_place.Goals as goal

pub returns-in-Some-clause-kept : goal.returns-in-Some-clause-kept
returns-in-Some-clause-kept g c = put_kept g.C.KeptPlace.kept c.args.crosses.now c.put.new.self c.args.b c.args.place c.index-at-first.result c.put.ensures

pub returns-in-Some-clause-shared : goal.returns-in-Some-clause-shared
returns-in-Some-clause-shared g c =
    let f = g.C.KeptPlace.kept in
    let old = c.args.crosses.now in
    let b = c.args.b in
    let k = c.in-Some.first in
    let row : List (Option ℕ) = get_or (held_in f old) b [] in
    let on : k < length row = subst (λ o. IfSome o (λ i. i < length row)) c.in-Some.is c.requires.first in
    let long = length-held_in f old b in
    let same = ap length c.at.ensures in
    put_row f old c.put.new.self b c.args.place c.index-at-first.result (get_or row k None) c.requires.in_range c.put.ensures
    (held_read f old b k c.at.result.now c.index-at-first.result c.at.ensures (omega arith) c.index-at-first.is)
    ∙ shared_is c.args.first k c.args.place row c.in-Some.is
