use Rattle.std.proofs.Common.{ap, ◌∙◌, arith, get_or, length, rules}
use Rattle.std.proofs.lemmas.List.FromFn.{get_or-range_with_len, length-range_with_len}
use Rattle.sm_check_roommates.proofs.PartyLemmas.{none_parted}
use Rattle.sm_check_roommates.proofs.parties.Parties.none.Goals as goal

pub returns : goal.returns
returns c =
    let numbers = c.in_ok-next.ensures in
    none_parted c.in_ok-next.next.items c.in_ok-met.met.items (ap length numbers ∙ length-range_with_len 0 c.args.persons)
    (λ x inside. omega (arith, ap (λ l. get_or l x 0) numbers, get_or-range_with_len 0 c.args.persons x 0 inside)) (c.in_ok-met.ensures.items_if_clones_equal (search rules))
