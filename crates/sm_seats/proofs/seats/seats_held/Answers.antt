use Rattle.std.proofs.Common.{◌≡◌, unwrap_or, ap, ◌∙◌}
use Rattle.sm_agents.specs.Written.{lists_of}
use Rattle.sm_market.specs.Lists.{Lists}
use Rattle.sm_seats.specs.SeatMarket.{seat_market}
use Rattle.sm_seats.proofs.CorrespondenceLaws.{sound_entries, is_seating}
use Rattle.sm_seats.proofs.LimitLaws.{market_within}
use Rattle.sm_seats.proofs.MarketLaws.{is_market}
use Rattle.sm_seats.proofs.CrossRows.{proposers_crossed, reviewers_crossed, lists_made}
use Rattle.sm_seats.proofs.SeatingMade.{market_made, seating_made}
use Rattle.sm_seats.proofs.KeptLemmas.{seating_kept}
use Rattle.sm_seats.proofs.BeginLemmas.{begins_kept}
use Rattle.sm_seats.proofs.seats.seats_held.Goals as goal

pub held-market-requires-clause-limits : goal.held-market-requires-clause-limits
held-market-requires-clause-limits c =
    let w = c.args.instance.now in
    rw (market_made w c.args.proposers.lists c.args.reviewers.lists c.requires.proposers c.requires.reviewers) (market_within (sound_entries c.requires.instance) c.requires.instance.limits.proposers c.requires.few)

pub held-market-requires-clause-market : goal.held-market-requires-clause-market
held-market-requires-clause-market c =
    let w = c.args.instance.now in
    rw (market_made w c.args.proposers.lists c.args.reviewers.lists c.requires.proposers c.requires.reviewers) (is_market (sound_entries c.requires.instance))

pub held-market-requires-clause-proposers : goal.held-market-requires-clause-proposers
held-market-requires-clause-proposers c =
    let w = c.args.instance.now in
    rw (c.requires.proposers, c.requires.reviewers, c.requires.proposer_crosses, lists_made w) (proposers_crossed (sound_entries c.requires.instance))

pub held-market-requires-clause-reviewers : goal.held-market-requires-clause-reviewers
held-market-requires-clause-reviewers c =
    let w = c.args.instance.now in
    rw (c.requires.proposers, c.requires.reviewers, c.requires.reviewer_crosses, lists_made w) (reviewers_crossed (sound_entries c.requires.instance))

pub invariant_of-result : goal.invariant_of-result
invariant_of-result c =
    let w = c.args.instance.now in
    let market : c.in_ok-market.market.value ≡ seat_market w = c.in_ok-market.ensures.ok ∙ c.held-market.ensures.lists ∙ market_made w c.args.proposers.lists c.args.reviewers.lists c.requires.proposers c.requires.reviewers in
    let lists : c.of-lists.result ≡ lists_of w.proposers = c.of-lists.ensures ∙ ap (λ (m : Lists). unwrap_or c.args.beside m.proposers) (c.in_ok-clone.ensures.cases ∙ c.in_ok-market.ensures.ok ∙ c.held-market.ensures.lists) ∙ c.requires.written in
    rw (seating_made w c.of.result.value c.of-lists.result c.in_ok-market.market.value c.args.reviewers.seats.items c.of.ensures lists market c.requires.seats) (record { kept = seating_kept c.requires.instance; placed = begins_kept c.requires.instance c.args.begins c.requires.begins })

pub returns-clause-seats : goal.returns-clause-seats
returns-clause-seats c =
    let w = c.args.instance.now in
    let market : c.in_ok-market.market.value ≡ seat_market w = c.in_ok-market.ensures.ok ∙ c.held-market.ensures.lists ∙ market_made w c.args.proposers.lists c.args.reviewers.lists c.requires.proposers c.requires.reviewers in
    let lists : c.of-lists.result ≡ lists_of w.proposers = c.of-lists.ensures ∙ ap (λ (m : Lists). unwrap_or c.args.beside m.proposers) (c.in_ok-clone.ensures.cases ∙ c.in_ok-market.ensures.ok ∙ c.held-market.ensures.lists) ∙ c.requires.written in
    seating_made w c.of.result.value c.of-lists.result c.in_ok-market.market.value c.args.reviewers.seats.items c.of.ensures lists market c.requires.seats

pub returns-clause-seating : goal.returns-clause-seating
returns-clause-seating c =
    let w = c.args.instance.now in
    let market : c.in_ok-market.market.value ≡ seat_market w = c.in_ok-market.ensures.ok ∙ c.held-market.ensures.lists ∙ market_made w c.args.proposers.lists c.args.reviewers.lists c.requires.proposers c.requires.reviewers in
    let lists : c.of-lists.result ≡ lists_of w.proposers = c.of-lists.ensures ∙ ap (λ (m : Lists). unwrap_or c.args.beside m.proposers) (c.in_ok-clone.ensures.cases ∙ c.in_ok-market.ensures.ok ∙ c.held-market.ensures.lists) ∙ c.requires.written in
    rw (seating_made w c.of.result.value c.of-lists.result c.in_ok-market.market.value c.args.reviewers.seats.items c.of.ensures lists market c.requires.seats) (is_seating (sound_entries c.requires.instance))
