use Rattle.std.proofs.Common.{◌≡◌, ◌+◌, ◌<◌, ◌∙◌, ap, sym, arith, refl, set, length, Some, None, ℕ}
use Rattle.sm_agents.specs.Written.{capacity_of}
use Rattle.sm_instance.specs.Matching.{held, load}
use Rattle.sm_holding.specs.Holding.{taken, full, loads_of}
use Rattle.sm_holding.proofs.HoldingLemmas.{loads_long, load_is, some_there, none_there, loads_later, matching_later}
use Rattle.sm_holding.proofs.holding.Holding.add.Goals.{then-is_some-via-then-is_some, then-is_some-via-else-is_some+then-index-capacity}
use Rattle.sm_holding.proofs.holding.Holding.add.Goals as goal

pub index-requires-else-is_some : goal.index-requires-else-is_some
index-requires-else-is_some c =
    let long = ap length c.requires.held.loads ∙ loads_long c.args.instance.now c.args.self.now.matching.places.items in
    omega (arith, long, c.requires.reviewer)

pub returns-then-is_some : goal.returns-then-is_some
returns-then-is_some c =
    let w = c.args.instance.now in
    let places = c.args.self.now.matching.places.items in
    let inside : c.args.p < length places = (let one = c.requires.held.matching.assigned.one_each in omega (arith, one, c.requires.proposer)) in (
      elim c.then-is_some.branch [
        | then-is_some-via-then-is_some v ↦ taken (some_there places c.args.p c.index.result.now inside c.index.ensures (sym v.if-is_some.ensures))
        | then-is_some-via-else-is_some+then-index-capacity v ↦
            full (let load = load_is w places c.args.self.now.loads.items c.args.r v.index-else-is_some.result.now c.requires.held.loads c.requires.reviewer v.index-else-is_some.ensures in
            omega (arith, load, v.if-index-capacity.true, v.capacity.ensures.capacity))
      ],
      refl,
    )

pub index_mut-requires-in-Some : goal.index_mut-requires-in-Some
index_mut-requires-in-Some c =
    let long = ap length c.requires.held.loads ∙ loads_long c.args.instance.now c.args.self.now.matching.places.items in
    omega (arith, long, c.requires.reviewer)

pub overflow_add-index_mut : goal.overflow_add-index_mut
overflow_add-index_mut c =
    let w = c.args.instance.now in
    let places = c.args.self.now.matching.places.items in
    let before = load_is w places c.args.self.now.loads.items c.args.r c.index-else-is_some.result.now c.requires.held.loads c.requires.reviewer c.index-else-is_some.ensures in
    let now = load_is w places c.args.self.now.loads.items c.args.r c.index_mut-in-Some.result.now c.requires.held.loads c.requires.reviewer c.index_mut-in-Some.ensures.value in
    omega (arith, before, now, c.if-index-capacity.false, c.capacity.type_inv)

pub returns-else-index-capacity : goal.returns-else-index-capacity
returns-else-index-capacity c =
    let w = c.args.instance.now in
    let places = c.args.self.now.matching.places.items in
    let p = c.args.p in
    let r = c.args.r in
    let place = c.in-Some.place in
    let at = c.in-Some.ensures in
    let inside : p < length places = (let one = c.requires.held.matching.assigned.one_each in omega (arith, one, c.requires.proposer)) in
    let free : held places p ≡ None = none_there places p c.index.result.now inside c.index.ensures (sym c.if-is_some.ensures) in
    let before = load_is w places c.args.self.now.loads.items r c.index-else-is_some.result.now c.requires.held.loads c.requires.reviewer c.index-else-is_some.ensures in
    let now = load_is w places c.args.self.now.loads.items r c.index_mut-in-Some.result.now c.requires.held.loads c.requires.reviewer c.index_mut-in-Some.ensures.value in
    let room : load w places r < capacity_of w.reviewers r = omega (arith, before, c.if-index-capacity.false, c.capacity.ensures.capacity) in
    let loads = ap (λ (s : ℕ). set (loads_of w places) s (load w places s + 1)) at.there in
    record {
      acceptable = at.acceptable;
      free = free;
      room = room;
      places = ap (λ (i : ℕ). set places p (Some i)) at.at;
      held = record {
        matching = matching_later w places p place c.requires.held.matching c.requires.proposer free at.on_list (rw (at.there) at.acceptable) (rw (at.there) room);
        loads =
            ap (λ xs. set xs r (c.index_mut-in-Some.result.now + 1)) c.requires.held.loads
            ∙ ap (λ n. set (loads_of w places) r (n + 1)) now
            ∙ sym loads
            ∙ loads_later w places p place c.requires.held.matching.assigned.one_each c.requires.proposer free;
      };
    }
