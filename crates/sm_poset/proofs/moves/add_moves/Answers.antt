use Rattle.std.proofs.Common.{◌≡◌, ◌∷◌, ◌++◌, [], ℕ, ◌<◌, length, arith, refl, sym, ap, ◌∙◌, List, Vec}
use Rattle.std.specs.declared.alloc.Global.{Global}
use Rattle.std.proofs.lemmas.List.{get_or-map, map-set, length-map}
use Rattle.sm_market.specs.Lists.{row, place_of}
use Rattle.sm_market.proofs.CycleLemmas.{AreDistinct}
use Rattle.sm_theory.specs.Rotations.{proposer_at, reviewer_at, target_at}
use Rattle.sm_poset.specs.Moves.{moves_at, moves_in}
use Rattle.sm_poset.proofs.MoveLemmas.{moved_step, places_set, there_more}
use Rattle.sm_poset.proofs.moves.add_moves.Goals as goal

pub bounds-at-p : goal.bounds-at-p
bounds-at-p c = omega (arith, c.requires.in_range c.loop-i.i c.loop-i-test.true, c.loop-i.invariant.places.one_each)

pub place_from-place-requires-clause-in_range : goal.place_from-place-requires-clause-in_range
place_from-place-requires-clause-in_range c = c.requires.in_range c.loop-i.i c.loop-i-test.true

pub place_from-place-requires-clause-listed : goal.place_from-place-requires-clause-listed
place_from-place-requires-clause-listed c =
    let target : reviewer_at c.args.rotation.now c.next_in.result ≡ target_at c.args.rotation.now c.loop-i.i = ap (reviewer_at c.args.rotation.now) c.next_in.ensures in
    rw target (c.requires.listed c.loop-i.i c.loop-i-test.true)

pub place_from-place-requires-clause-on_list : goal.place_from-place-requires-clause-on_list
place_from-place-requires-clause-on_list c =
    c.loop-i.invariant.places.on_list (proposer_at c.args.rotation.now c.loop-i.i) (omega (arith, c.requires.listed c.loop-i.i c.loop-i-test.true))

pub bounds-moves-p : goal.bounds-moves-p
bounds-moves-p c =
    let same = c.loop-i.auto.moves in
    omega (arith, c.requires.in_range c.loop-i.i c.loop-i-test.true, c.requires.one_each)

pub loop-i-preserved : goal.loop-i-preserved
loop-i-preserved c =
    let p : ℕ = proposer_at c.args.rotation.now c.loop-i.i in
    let in_range = c.requires.in_range c.loop-i.i c.loop-i-test.true in
    let there : p < length c.loop-i.moves = let same = c.loop-i.auto.moves in omega (arith, in_range, c.requires.one_each) in
    let distinct : AreDistinct c.args.rotation.now = record { distinct = c.requires.distinct } in
    let long : length (moves_in c.loop-i.moves) ≡ length c.loop-i.moves = length-map c.loop-i.moves (λ v. v.items) in
    let old = sym (get_or-map (λ (v : Vec (ℕ × ℕ) Global). v.items) c.loop-i.moves p c.index-moves-p.result [] there) in
    let pushed : c.push.new.self.items ≡ moves_at (moves_in c.loop-i.moves) p ++ (c.args.k, c.place_from-place.result) ∷ [] =
    c.in_ok-push.ensures.items ∙ ap (λ (x : List (ℕ × ℕ)). x ++ (c.args.k, c.place_from-place.result) ∷ []) old in
    let target : reviewer_at c.args.rotation.now c.next_in.result ≡ target_at c.args.rotation.now c.loop-i.i = ap (reviewer_at c.args.rotation.now) c.next_in.ensures in
    let place : c.place_from-place.result ≡ place_of c.args.market.now.proposers p (target_at c.args.rotation.now c.loop-i.i) = c.place_from-place.ensures ∙ ap (place_of c.args.market.now.proposers p) target in
    let on : c.place_from-place.result < length (row c.args.market.now.proposers p) = omega (arith, place, c.requires.listed c.loop-i.i c.loop-i-test.true) in
    record {
      places = places_set c.loop-i.invariant.places p c.place_from-place.result on;
      there = there_more c.args.market.now c.args.rotation.now c.loop-i.at c.loop-i.i p c.place_from-place.result distinct c.loop-i-test.true refl (omega (arith, in_range, c.loop-i.invariant.places.one_each)) place c.loop-i.invariant.there;
      moved = rw (map-set (λ (v : Vec (ℕ × ℕ) Global). v.items) c.loop-i.moves p c.push.new.self)
          (moved_step {l = c.args.market.now} (moves_in c.loop-i.moves) (moves_in c.args.moves.now) c.args.k c.loop-i.i p c.place_from-place.result c.push.new.self.items distinct c.loop-i-test.true refl (omega arith) pushed place c.loop-i.invariant.moved);
    }
