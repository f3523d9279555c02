use Rattle.std.proofs.Common.{◌≡◌, ℕ, refl, ◌∙◌}
use Rattle.sm_market.specs.Lists.{place_of}
use Rattle.sm_market.specs.Matching.{standing}
use Rattle.sm_theory.specs.Rotations.{proposer_at, reviewer_at}
use Rattle.sm_check_net.proofs.MoveLemmas.{on_list}
use Rattle.sm_check_net.proofs.moves.move_of.Goals as goal

pub returns-clause-on_list : goal.returns-clause-on_list
returns-clause-on_list c =
    let p : ℕ = proposer_at c.args.pairs.now c.args.i in
    let paired : standing c.args.market.now.proposers c.args.m.now.places.proposers p ≡ place_of c.args.market.now.proposers p (reviewer_at c.args.pairs.now c.args.i) = rw (c.requires.exposed.paired c.args.i c.requires.in_range) refl in
    on_list c.args.i c.requires.made.matching c.requires.exposed c.requires.in_range (record { proposer = refl; from = c.proposer_standing.ensures.standing ∙ paired; to = c.place_behind.ensures })
