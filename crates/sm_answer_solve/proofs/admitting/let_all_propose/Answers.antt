use Rattle.std.proofs.Common.{◌≡◌, length, subst, arith}
use Rattle.sm_seats.proofs.CorrespondenceLaws.{sound_entries}
use Rattle.sm_answer_solve.specs.Admitting.{IsUnderWay}
use Rattle.sm_answer_solve.proofs.AdmitLemmas.{way_start}
use Rattle.sm_answer_solve.proofs.admitting.let_all_propose.Goals as goal

pub loop-p-init : goal.loop-p-init
loop-p-init c = record {
  way = way_start (sound_entries c.proposer_count-p-end.ensures.instance) _ _ c.requires.none c.requires.free;
  proposals = c.of-proposals.ensures;
}

pub returns : goal.returns
returns c =
    let w = c.args.instance.now in
    let all : c.loop-p.p ≡ length w.proposers = omega (arith, c.loop-p-test.false, c.proposer_count-p-end.ensures.count) in
    subst (λ n. IsUnderWay w n n c.loop-p.places c.loop-p.standings) all c.loop-p.invariant.way
