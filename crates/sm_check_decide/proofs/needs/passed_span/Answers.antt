use Rattle.std.proofs.Common.{◌≡◌, ℕ, arith, ap, ◌∙◌}
use Rattle.sm_market.specs.Lists.{entry, place_of}
use Rattle.sm_theory.specs.Rotations.{proposer_at, reviewer_at, target_at}
use Rattle.sm_theory.proofs.Bridge.Rotation.{target_in}
use Rattle.sm_check_decide.proofs.NotingLemmas.{lands_on, gains, worse_is}
use Rattle.sm_check_decide.proofs.needs.passed_span.Goals as goal

pub reviewer_standing-requires-clause-in_range : goal.reviewer_standing-requires-clause-in_range
reviewer_standing-requires-clause-in_range c =
    let target : reviewer_at c.args.pairs.now c.next_in.result ≡ target_at c.args.pairs.now c.args.i = ap (reviewer_at c.args.pairs.now) c.next_in.ensures in
    omega (arith, target, target_in c.proposers.ensures.market c.requires.made.matching c.requires.exposed c.args.i c.requires.in_range)

pub returns-clause-in_range : goal.returns-clause-in_range
returns-clause-in_range c =
    let target : reviewer_at c.args.pairs.now c.next_in.result ≡ target_at c.args.pairs.now c.args.i = ap (reviewer_at c.args.pairs.now) c.next_in.ensures in
    omega (arith, target, target_in c.proposers.ensures.market c.requires.made.matching c.requires.exposed c.args.i c.requires.in_range)

pub returns-clause-better : goal.returns-clause-better
returns-clause-better c =
    let l = c.args.market.now in
    let p : ℕ = proposer_at c.args.pairs.now c.args.i in
    let there : entry l.proposers p c.place_behind.result ≡ target_at c.args.pairs.now c.args.i =
    ap (entry l.proposers p) c.place_behind.ensures ∙ lands_on c.proposers.ensures.market c.requires.made.matching c.requires.exposed c.args.i c.requires.in_range in
    c.cross.ensures.place ∙ ap (λ r. place_of l.reviewers r p) there

pub returns-clause-worse : goal.returns-clause-worse
returns-clause-worse c =
    let target : reviewer_at c.args.pairs.now c.next_in.result ≡ target_at c.args.pairs.now c.args.i = ap (reviewer_at c.args.pairs.now) c.next_in.ensures in
    c.reviewer_standing.ensures.standing ∙ rw target (worse_is c.proposers.ensures.market c.requires.made.matching c.requires.exposed c.args.i c.requires.in_range)

pub returns-clause-gains : goal.returns-clause-gains
returns-clause-gains c =
    let l = c.args.market.now in
    let h = c.proposers.ensures.market in
    let f = c.requires.made.matching in
    let x = c.requires.exposed in
    let p : ℕ = proposer_at c.args.pairs.now c.args.i in
    let target : reviewer_at c.args.pairs.now c.next_in.result ≡ target_at c.args.pairs.now c.args.i = ap (reviewer_at c.args.pairs.now) c.next_in.ensures in
    let there : entry l.proposers p c.place_behind.result ≡ target_at c.args.pairs.now c.args.i = ap (entry l.proposers p) c.place_behind.ensures ∙ lands_on h f x c.args.i c.requires.in_range in
    rw (c.cross.ensures.place, there, c.reviewer_standing.ensures.standing, target) (gains h f x c.args.i c.requires.in_range)
