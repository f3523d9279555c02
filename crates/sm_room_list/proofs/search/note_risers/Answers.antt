use Rattle.std.proofs.Common.{arith}
use Rattle.std.proofs.lemmas.Bool.{ltb-false}
use Rattle.sm_room_list.proofs.SearchLemmas.{note_one, noted_all}
use Rattle.sm_room_list.proofs.search.note_risers.Goals as goal

pub loop-k-init : goal.loop-k-init
loop-k-init c = record { tops = c.requires.tops; alike = c.requires.all; noted = record { one_each = c.requires.one_each; noted = λ j less e. absurd (omega arith) } }

pub loop-k-preserved : goal.loop-k-preserved
loop-k-preserved c =
    let count = c.persons-k-end.ensures.count in
    record {
      tops = c.follow.ensures.tops;
      alike = c.follow.ensures.alike c.if-not-follow.false;
      noted = note_one _ c.loop-k.invariant.alike (omega arith) (λ e. let l = ltb-false _ _ e in let t = c.top-top.ensures in omega arith) c.loop-k.invariant.noted;
    }

pub returns-then-not-follow-clause-shut : goal.returns-then-not-follow-clause-shut
returns-then-not-follow-clause-shut c =
    let count = c.persons-k-end.ensures.count in
    noted_all c.loop-k.k (note_one _ c.loop-k.invariant.alike (omega arith) (λ e. let l = ltb-false _ _ e in let t = c.top-top.ensures in omega arith) c.loop-k.invariant.noted) (c.follow.ensures.none c.if-not-follow.true)

pub returns-clause-shut : goal.returns-clause-shut
returns-clause-shut c =
    let count = c.persons-k-end.ensures.count in
    λ j h e. c.loop-k.invariant.noted.noted j (omega arith) e
