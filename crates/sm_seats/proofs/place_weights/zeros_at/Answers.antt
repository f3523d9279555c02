use Rattle.std.proofs.Common.{pos, replicate, ◌≡◌, ℕ, ◌∙◌, List, ap, sym, length, refl}
use Rattle.std.specs.List.{range_with_len}
use Rattle.std.proofs.lemmas.List.FromFn.{length-range_with_len}
use Rattle.sm_market.specs.Lists.{Lists, row}
use Rattle.sm_seats.proofs.RankLemmas.{zeros}
use Rattle.sm_seats.proofs.place_weights.zeros_at.Goals as goal

pub returns-clause-weights : goal.returns-clause-weights
returns-clause-weights c =
    let s = c.args.seats.now in
    let p = c.args.p in
    let same = ap (λ (l : Lists). length (row l.proposers p)) c.market.ensures in
    let places : List ℕ = range_with_len 0 (length (row s.market.proposers p)) in
    let long : c.proposer_len-places.result ≡ length places = c.proposer_len-places.ensures ∙ same ∙ sym (length-range_with_len 0 (length (row s.market.proposers p))) in
    c.in_ok-vec.ensures.items_if_clones_equal (λ y e. e)
    ∙ ap (λ n. replicate n (pos 0)) long
    ∙ zeros (λ i. pos 0) (λ i. refl) places
