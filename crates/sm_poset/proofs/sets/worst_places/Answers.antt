use Rattle.std.proofs.Common.{◌≡◌, ℕ, ◌<◌, None, Option, List, length, sym, subst, ◌∙◌, arith}
use Rattle.std.proofs.lemmas.List.{length_push}
use Rattle.sm_market.specs.Matching.{held}
use Rattle.sm_lists.proofs.ItemLemmas.{push_cases}
use Rattle.sm_poset.specs.Moves.{rotation_of, IsWorstPlace, moves_in, moves_at}
use Rattle.sm_poset.proofs.ReadLemmas.{moves_read}
use Rattle.sm_poset.proofs.sets.worst_places.Goals as goal

pub worst_place-requires : goal.worst_place-requires
worst_place-requires c =
    let same : c.deref.result.now ≡ moves_at (moves_in c.args.moves.now) c.loop-p.p = c.deref.ensures.value ∙ moves_read c.args.moves.now c.loop-p.p c.index-moves-p.result (omega arith) c.index-moves-p.is in
    subst (λ (x : List (ℕ × ℕ)). (a : ℕ) → a < length x → rotation_of x a < length c.args.members.now) (sym same) (c.requires.in_range c.loop-p.p)

pub loop-p-preserved : goal.loop-p-preserved
loop-p-preserved c =
    let same : c.deref.result.now ≡ moves_at (moves_in c.args.moves.now) c.loop-p.p = c.deref.ensures.value ∙ moves_read c.args.moves.now c.loop-p.p c.index-moves-p.result (omega arith) c.index-moves-p.is in
    let P : ℕ → Option ℕ → Type 0 = λ q x. IsWorstPlace (held c.args.first.now.places.proposers q) (moves_at (moves_in c.args.moves.now) q) c.args.members.now x in
    let items = c.loop-p.places.items in
    let last : P c.loop-p.p c.worst_place.result =
    subst (λ (x : List (ℕ × ℕ)). IsWorstPlace (held c.args.first.now.places.proposers c.loop-p.p) x c.args.members.now c.worst_place.result) same
    (subst (λ (o : Option ℕ). IsWorstPlace o c.deref.result.now c.args.members.now c.worst_place.result) c.place.ensures c.worst_place.ensures) in
    let long = length_push items c.worst_place.result in
    let before = c.loop-p.invariant.long in
    rw c.in_ok-push.ensures.items (record {
      long = omega arith;
      worst = λ q h. push_cases P items c.worst_place.result None (subst (λ n. P n c.worst_place.result) (sym before) last) (λ j g. c.loop-p.invariant.worst j (omega arith)) q (omega arith);
    })
