use Rattle.std.proofs.Common.{◌+◌, ◌∙◌, get_or, arith}
use Rattle.sm_seats.proofs.CorrespondenceLaws.{sound_entries}
use Rattle.sm_answer_solve.specs.Admitting.{IsProposalAt}
use Rattle.sm_answer_solve.proofs.AdmitLemmas.{way_begins, way_stops, way_passes, way_proposes, left_falls}
use Rattle.sm_answer_solve.proofs.admitting.let_propose.Goals as goal

pub proposals-init : goal.proposals-init
proposals-init c = record { arriving = way_begins (sound_entries c.requires.instance) c.requires.before; same = c.requires.proposals }

pub propose-requires-clause-proposed : goal.propose-requires-clause-proposed
propose-requires-clause-proposed c =
    let a = c.proposals.invariant.arriving in
    let x : IsProposalAt c.args.instance.now c.proposals.away (get_or c.proposals.places c.proposals.away 0) c.in-Some.proposal = rw c.in-Some.is at c.in_ok-next.ensures.proposal in
    record { begun = c.args.p + 1; proposing = rw x.proposer (way_proposes (sound_entries c.requires.instance) a (omega (arith, c.proposals-test.true, c.proposer_len.ensures.length)) x.reviewer x.acceptable x.place) }

pub proposals-preserved-in-Some-propose : goal.proposals-preserved-in-Some-propose
proposals-preserved-in-Some-propose c =
    let a = c.proposals.invariant.arriving in
    let x : IsProposalAt c.args.instance.now c.proposals.away (get_or c.proposals.places c.proposals.away 0) c.in-Some.proposal = rw c.in-Some.is at c.in_ok-next.ensures.proposal in
    let made = c.propose.ensures (c.args.p + 1) (rw x.proposer (way_proposes (sound_entries c.requires.instance) a (omega (arith, c.proposals-test.true, c.proposer_len.ensures.length)) x.reviewer x.acceptable x.place)) in
    record { arriving = (rw c.in-Some-propose.is at made).arriving; same = c.at.ensures.same ∙ c.proposals.invariant.same }

pub proposals-smaller-in-Some-propose : goal.proposals-smaller-in-Some-propose
proposals-smaller-in-Some-propose c =
    let a = c.proposals.invariant.arriving in
    let x : IsProposalAt c.args.instance.now c.proposals.away (get_or c.proposals.places c.proposals.away 0) c.in-Some.proposal = rw c.in-Some.is at c.in_ok-next.ensures.proposal in
    let made = c.propose.ensures (c.args.p + 1) (rw x.proposer (way_proposes (sound_entries c.requires.instance) a (omega (arith, c.proposals-test.true, c.proposer_len.ensures.length)) x.reviewer x.acceptable x.place)) in
    left_falls c.requires.instance (rw c.in-Some-propose.is at made)

pub returns-in-None-propose-clause-way : goal.returns-in-None-propose-clause-way
returns-in-None-propose-clause-way c =
    let a = c.proposals.invariant.arriving in
    let x : IsProposalAt c.args.instance.now c.proposals.away (get_or c.proposals.places c.proposals.away 0) c.in-Some.proposal = rw c.in-Some.is at c.in_ok-next.ensures.proposal in
    let made = c.propose.ensures (c.args.p + 1) (rw x.proposer (way_proposes (sound_entries c.requires.instance) a (omega (arith, c.proposals-test.true, c.proposer_len.ensures.length)) x.reviewer x.acceptable x.place)) in
    rw c.in-None-propose.is at made

pub proposals-preserved : goal.proposals-preserved
proposals-preserved c = record {
  arriving = (way_passes (sound_entries c.requires.instance) c.proposals.invariant.arriving (omega (arith, c.proposals-test.true, c.proposer_len.ensures.length)) (rw c.in-None.is at c.in_ok-next.ensures.proposal)).arriving;
  same = c.at.ensures.same ∙ c.proposals.invariant.same;
}

pub proposals-smaller : goal.proposals-smaller
proposals-smaller c =
    left_falls c.requires.instance (way_passes (sound_entries c.requires.instance) c.proposals.invariant.arriving (omega (arith, c.proposals-test.true, c.proposer_len.ensures.length)) (rw c.in-None.is at c.in_ok-next.ensures.proposal))

pub returns-clause-way : goal.returns-clause-way
returns-clause-way c = way_stops (sound_entries c.requires.instance) c.proposals.invariant.arriving (omega (arith, c.proposals-test.false, c.proposer_len.ensures.length))
