use Rattle.std.proofs.Common.{◌≡◌, ℕ, ◌-◌, ◌<◌, length, get_or, sym, ap, subst, ◌∙◌, arith}
use Rattle.sm_agents.specs.Written.{Written}
use Rattle.sm_agents.proofs.ListLemmas.{row_in_range}
use Rattle.sm_seats.proofs.TableLemmas.{seats_read}
use Rattle.sm_seats.proofs.CorrespondenceLaws.{sound_entries}
use Rattle.sm_answer_solve.specs.Admitting.{IsProposed, IsProposing}
use Rattle.sm_answer_solve.proofs.AdmitLemmas.{seat_in, holder_on, keeps, takes_in, takes_one, way_turned_away, next_fits}
use Rattle.sm_answer_solve.proofs.admitting.propose.Goals as goal
use Rattle.sm_answer_solve.proofs.admitting.propose.Goals.{then-offered-standing+else-standing-list, else-offered-standing}

-- the reviewer is one of the instance
there : {w : Written} {r away place : ℕ} {places standings : _} → IsProposed w r away place places standings → r < length w.reviewers
there {w} {r} {away} p = row_in_range w.reviewers r _ p.proposing.acceptable.reviewer_lists

pub bounds-firsts-proposal : goal.bounds-firsts-proposal
bounds-firsts-proposal c = let s = seats_read c.args.instance.now c.args.proposal.reviewer c.requires.firsts (there c.requires.proposed) in omega (arith, s.inside)

pub bounds-firsts-proposal-2 : goal.bounds-firsts-proposal-2
bounds-firsts-proposal-2 c = (seats_read c.args.instance.now c.args.proposal.reviewer c.requires.firsts (there c.requires.proposed)).inside

pub loop-seat-init : goal.loop-seat-init
loop-seat-init c begun a =
    let from : ℕ = get_or c.args.firsts.now c.args.proposal.reviewer 0 in
    subst (λ n. IsProposing c.args.instance.now begun c.args.proposal.reviewer n c.args.proposal.proposer c.args.proposal.place c.args.places.now c.args.standings.now) (let e : 0 ≡ from - from = omega arith in e) a

pub bounds-standings-seat : goal.bounds-standings-seat
bounds-standings-seat c =
    let s = seats_read c.args.instance.now c.args.proposal.reviewer c.requires.firsts (there c.requires.proposed) in
    let a = c.loop-seat.invariant c.requires.proposed.begun c.requires.proposed.proposing in
    seat_in (sound_entries c.requires.instance) a s.first (omega (arith, c.loop-seat.auto.seat)) (omega (arith, c.loop-seat-test.true, s.first, s.next))

pub returns-then-standing-list : goal.returns-then-standing-list
returns-then-standing-list c begun given =
    let s = seats_read c.args.instance.now c.args.proposal.reviewer c.requires.firsts (there c.requires.proposed) in
    let a = c.loop-seat.invariant begun given in
    takes_in (sound_entries c.requires.instance) a s.first (omega (arith, c.loop-seat.auto.seat)) (omega (arith, c.loop-seat-test.true, s.first, s.next))
    (omega (arith, c.if-offered-standing.true)) (c.if-standing-list.true ∙ ap length c.reviewer_list-list.ensures)

pub bounds-list-standing : goal.bounds-list-standing
bounds-list-standing c =
    let s = seats_read c.args.instance.now c.args.proposal.reviewer c.requires.firsts (there c.requires.proposed) in
    let a = c.loop-seat.invariant c.requires.proposed.begun c.requires.proposed.proposing in
    let long = ap length c.reviewer_list-list.ensures in
    let on = holder_on (sound_entries c.requires.instance) a s.first (omega (arith, c.loop-seat.auto.seat)) (omega (arith, c.loop-seat-test.true, s.first, s.next)) (λ same. c.if-standing-list.false (same ∙ sym long)) in
    omega (arith, on, long)

pub loop-seat-preserved : goal.loop-seat-preserved
loop-seat-preserved c begun given =
    let w = c.args.instance.now in
    let r = c.args.proposal.reviewer in
    let s = seats_read w r c.requires.firsts (there c.requires.proposed) in
    let a = c.loop-seat.invariant begun given in
    elim c.if-offered-standing.branch [
      | then-offered-standing+else-standing-list b ↦
          let long = ap length c.reviewer_list-list.ensures in
          let it = takes_one (sound_entries c.requires.instance) a s.first (omega (arith, c.loop-seat.auto.seat)) (omega (arith, c.loop-seat-test.true, s.first, s.next))
          (omega (arith, b.if-offered-standing.true)) (λ same. b.if-standing-list.false (same ∙ sym long)) in
          rw (b.standings-is, b.away-is, b.offered-is, c.reviewer_list-list.ensures) it
      | else-offered-standing b ↦
          rw (b.standings-is, b.away-is, b.offered-is) (keeps (sound_entries c.requires.instance) a s.first (omega (arith, c.loop-seat.auto.seat)) (omega (arith, c.loop-seat-test.true, s.first, s.next)) (omega (arith, b.if-offered-standing.false)))
    ]

pub bounds-places-away : goal.bounds-places-away
bounds-places-away c =
    let a = c.loop-seat.invariant c.requires.proposed.begun c.requires.proposed.proposing in
    omega (arith, row_in_range c.args.instance.now.proposers c.loop-seat.away _ a.acceptable.proposer_lists, a.way.proposers_each)

pub overflow_add-places : goal.overflow_add-places
overflow_add-places c =
    let a = c.loop-seat.invariant c.requires.proposed.begun c.requires.proposed.proposing in
    next_fits c.requires.instance a.way (omega (arith, a.at_is, a.acceptable.proposer_lists))

pub bounds-places-away-2 : goal.bounds-places-away-2
bounds-places-away-2 c =
    let a = c.loop-seat.invariant c.requires.proposed.begun c.requires.proposed.proposing in
    omega (arith, row_in_range c.args.instance.now.proposers c.loop-seat.away _ a.acceptable.proposer_lists, a.way.proposers_each)

pub returns : goal.returns
returns c begun given =
    let s = seats_read c.args.instance.now c.args.proposal.reviewer c.requires.firsts (there c.requires.proposed) in
    let a = c.loop-seat.invariant begun given in
    way_turned_away (sound_entries c.requires.instance) a (omega (arith, c.loop-seat-test.false, c.loop-seat.auto.seat, c.loop-seat.auto.seat-end, s.first, s.next, s.count))
