use Rattle.std.proofs.Common.{sym}
use Rattle.sm_report.specs.Meanings.{left_in, seat_in}
use Rattle.sm_report.proofs.FieldLemmas.{pairs_on, pairs_stop}
use Rattle.sm_report.proofs.list_readers.each_seated.Goals as goal

pub pairs-preserved : goal.pairs-preserved
pairs-preserved c =
    pairs_on (left_in c.args.input.now) (seat_in c.args.input.now) c.pairs.found.items _ c.pairs.rest.now _ c.in-Some.pair _
    c.in-len2-up.len_at_least c.in_ok-push-in-Some.ensures.items (sym c.in-Some.ensures) c.pairs.invariant

pub returns-in_default-rest : goal.returns-in_default-rest
returns-in_default-rest c =
    pairs_stop (left_in c.args.input.now) (seat_in c.args.input.now) c.pairs.found.items c.pairs.rest.now _
    c.in_default.len_below c.in_default-rest.len_at_least c.pairs.invariant
