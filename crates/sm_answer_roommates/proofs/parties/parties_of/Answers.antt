use Rattle.std.proofs.Common.{rules, ◌∙◌, sym, arith}
use Rattle.std.proofs.lemmas.List.{map_push}
use Rattle.sm_answer_roommates.proofs.PartyLemmas.{none_found, found_same, found_more, all_found}
use Rattle.sm_answer_roommates.proofs.parties.parties_of.Goals as goal

pub loop-x-init : goal.loop-x-init
loop-x-init c =
    rw c.new-parties.ensures.items
    (none_found c.args.partition.now.next c.as_mut_slice-met.result.now _ (c.as_mut_slice-met.ensures.value ∙ c.in_ok-met.ensures.items_if_clones_equal (search rules)) (c.persons.ensures.count ∙ sym c.requires.one_each))

pub loop-x-preserved-then-met-x : goal.loop-x-preserved-then-met-x
loop-x-preserved-then-met-x c = found_same c.loop-x.invariant c.if-met-x.true

pub loop-x-preserved : goal.loop-x-preserved
loop-x-preserved c = rw (c.in_ok-push.ensures.items, map_push) (found_more c.requires c.loop-x.invariant c.in_ok-party_of.ensures)

pub returns : goal.returns
returns c = all_found c.loop-x.invariant (omega (arith, c.loop-x-test.false, c.persons-x-end.ensures.count, c.requires.one_each))
