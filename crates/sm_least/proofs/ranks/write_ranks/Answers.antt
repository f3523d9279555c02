use Rattle.std.proofs.Common.{◌≡◌, ◌++◌, ◌∷◌, [], ℕ, List, map, take, slice_index, sym, ap, ◌∙◌, arith}
use Rattle.std.proofs.lemmas.List.{take_more, map_push}
use Rattle.sm_lists.specs.Rows.{place_on}
use Rattle.sm_least.specs.Regrets.{rank_of_level}
use Rattle.sm_least.proofs.GateLemmas.{place_on-divided}
use Rattle.sm_least.proofs.ranks.write_ranks.Goals as goal

pub bounds-ranks-place : goal.bounds-ranks-place
bounds-ranks-place c =
    let level : ℕ = slice_index c.args.stays.now c.loop-level.level-index in
    let some = c.requires.some c.loop-level.level-index c.loop-level-test.true in
    omega (arith, place_on-divided c.args.levels.now level c.requires.rising c.first_place-place.ensures (omega (arith, some, c.requires.few)), some)

pub loop-level-preserved : goal.loop-level-preserved
loop-level-preserved c =
    let i : ℕ = c.loop-level.level-index in
    let f : ℕ → ℕ = rank_of_level c.args.levels.now c.args.ranks.now in
    let level : ℕ = slice_index c.args.stays.now i in
    let some = c.requires.some i c.loop-level-test.true in
    let place : place_on c.args.levels.now level ≡ c.first_place-place.result = place_on-divided c.args.levels.now level c.requires.rising c.first_place-place.ensures (omega (arith, some, c.requires.few)) in
    let rank : slice_index c.args.ranks.now c.first_place-place.result ≡ f level = ap (slice_index c.args.ranks.now) (sym place) in
    c.in_ok-push.ensures.items ∙ ap (λ (l : List ℕ). l ++ slice_index c.args.ranks.now c.first_place-place.result ∷ []) c.loop-level.invariant
    ∙ ap (λ (x : ℕ). map f (take i c.args.stays.now) ++ x ∷ []) rank
    ∙ sym (ap (map f) (take_more c.args.stays.now i 0 c.loop-level-test.true) ∙ map_push f (take i c.args.stays.now) level)
