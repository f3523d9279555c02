use Rattle.std.proofs.Common.{◌≡◌, length, arith, ap, sym}
use Rattle.std.proofs.lemmas.List.{length-map}
use Rattle.sm_market.specs.Vectors.{rows_of}
use Rattle.sm_lists.proofs.ResultLemmas.{IfOk-more}
use Rattle.sm_rotations.proofs.NeedsLemmas.{as_many}
use Rattle.sm_rotations.proofs.TurnedBackLemmas.{followers_in_range, needs_turned}
use Rattle.sm_rotations.proofs.predecessors.needs.Goals as goal

pub needs_by_followers-requires-clause-few : goal.needs_by_followers-requires-clause-few
needs_by_followers-requires-clause-few c =
    let long : length (rows_of c.in_ok-followers.followers.items) ≡ length c.in_ok-followers.followers.items = length-map c.in_ok-followers.followers.items (λ v. v.items) in
    omega (arith, ap length c.deref.ensures.value, c.in_ok-followers.ensures.few, c.in_ok-followers.ensures.followers.one_each, long, as_many c.args.chain.now.rotations.items)

pub needs_by_followers-requires-clause-in_range : goal.needs_by_followers-requires-clause-in_range
needs_by_followers-requires-clause-in_range c =
    let f = c.in_ok-followers.ensures.followers in
    let long : length (rows_of c.in_ok-followers.followers.items) ≡ length c.in_ok-followers.followers.items = length-map c.in_ok-followers.followers.items (λ v. v.items) in
    rw c.deref.ensures.value (λ i a inside. omega (arith, followers_in_range f (omega (arith, as_many c.args.chain.now.rotations.items)) i a inside, long))

pub returns-clause-one_each : goal.returns-clause-one_each
returns-clause-one_each c =
    let long : length (rows_of c.in_ok-followers.followers.items) ≡ length c.in_ok-followers.followers.items = length-map c.in_ok-followers.followers.items (λ v. v.items) in
    IfOk-more c.needs_by_followers.result _ _
    (λ n back. omega (arith, back.one_each, length-map n.items (λ v. v.items), ap length (ap rows_of c.deref.ensures.value), long, c.in_ok-followers.ensures.followers.one_each, as_many c.args.chain.now.rotations.items))
    c.needs_by_followers.ensures

pub returns-clause-needs : goal.returns-clause-needs
returns-clause-needs c =
    let long : length (rows_of c.in_ok-followers.followers.items) ≡ length c.in_ok-followers.followers.items = length-map c.in_ok-followers.followers.items (λ v. v.items) in
    let f = rw (sym (as_many c.args.chain.now.rotations.items)) at c.in_ok-followers.ensures.followers in
    IfOk-more c.needs_by_followers.result _ _
    (λ n back j inside. needs_turned f (rw (c.deref.ensures.value, sym long) at back) j (omega (arith, inside, as_many c.args.chain.now.rotations.items)))
    c.needs_by_followers.ensures
