use Rattle.std.proofs.Common.{◌≡◌, ℕ, ◌+◌, ◌-◌, ◌<◌, ◌++◌, ◌∷◌, [], List, get_or, ◌∙◌, sym, ap, map, arith, length}
use Rattle.std.specs.List.{range_with_len}
use Rattle.std.proofs.lemmas.List.FromFn.{map-range_with_len_more}
use Rattle.sm_agents.specs.Written.{row, entry}
use Rattle.sm_seats.specs.SeatMarket.{seat_count}
use Rattle.sm_seats.specs.Tables.{seats_listed}
use Rattle.sm_seats.proofs.CrossLemmas.{lists_back-told, cross_read}
use Rattle.sm_seats.proofs.TableLemmas.{read_at, seat_count-le, list_more, list_same}
use Rattle.sm_seats.proofs.places.write_seat_places.Goals as goal
use Rattle.sm_seats.proofs.places.write_seat_places.Goals.{then-is_some, else-is_some}

pub bounds-firsts-r : goal.bounds-firsts-r
bounds-firsts-r c = (read_at c.args.instance.now c.args.p c.loop-place.place c.proposer_len-count.ensures.instance c.requires.firsts c.proposer_list-list.ensures (omega (arith, c.loop-place-test.true))).inside

pub bounds-firsts-r-then-is_some : goal.bounds-firsts-r-then-is_some
bounds-firsts-r-then-is_some c = omega (arith, (read_at c.args.instance.now c.args.p c.loop-place.place c.proposer_len-count.ensures.instance c.requires.firsts c.proposer_list-list.ensures (omega (arith, c.loop-place-test.true))).inside)

pub overflow_sub-before : goal.overflow_sub-before
overflow_sub-before c =
    let s = read_at c.args.instance.now c.args.p c.loop-place.place c.proposer_len-count.ensures.instance c.requires.firsts c.proposer_list-list.ensures (omega (arith, c.loop-place-test.true)) in
    omega (arith, s.first, s.next)

pub overflow_add-before-then-is_some : goal.overflow_add-before-then-is_some
overflow_add-before-then-is_some c =
    let s = read_at c.args.instance.now c.args.p c.loop-place.place c.proposer_len-count.ensures.instance c.requires.firsts c.proposer_list-list.ensures (omega (arith, c.loop-place-test.true)) in
    let few = seat_count-le c.proposer_len-count.ensures.instance (get_or c.proposer_list-list.result.now c.loop-place.place 0) in
    omega (arith, s.count, few, c.loop-place.invariant.counted.few, c.loop-place-test.true, c.proposer_len-count.ensures.fits)

pub loop-place-preserved : goal.loop-place-preserved
loop-place-preserved c =
    let w = c.args.instance.now in
    let p = c.args.p in
    let i = c.loop-place.place in
    let on : i < length (row w.proposers p) = omega (arith, c.loop-place-test.true) in
    let cross = cross_read c.proposer_crosses-crosses.ensures on c.index-crosses-place.is c.place.ensures in
    let tells = lists_back-told w.reviewers p (entry w.proposers p i) cross c.is_some.ensures in
    let r = get_or c.proposer_list-list.result.now i 0 in
    let named : r ≡ entry w.proposers p i = ap (λ (l : List ℕ). get_or l i 0) c.proposer_list-list.ensures in
    let before : c.loop-place.before ≡ seats_listed w p i = c.loop-place.invariant.counted.counted in
    let places : c.push_reserved.new.self.items ≡ map (seats_listed w p) (range_with_len 0 (i + 1)) =
    c.push_reserved.ensures.items ∙ ap (λ (front : List ℕ). front ++ c.loop-place.before ∷ []) c.loop-place.invariant.places ∙ ap (λ (n : ℕ). map (seats_listed w p) (range_with_len 0 i) ++ n ∷ []) before
    ∙ sym (map-range_with_len_more (seats_listed w p) 0 i i (omega arith)) in
    let it = c.proposer_len-count.ensures.instance in
    elim c.if-is_some.branch [
      | then-is_some b ↦
          let s = read_at w p i it c.requires.firsts c.proposer_list-list.ensures on in
          let more : c.loop-place.before + (get_or c.args.firsts.now (r + 1) 0 - get_or c.args.firsts.now r 0) ≡ c.loop-place.before + seat_count w (entry w.proposers p i) =
          ap (λ n. c.loop-place.before + n) (s.count ∙ ap (seat_count w) named) in
          record { counted = rw b.before-is (rw more (list_more it on (tells ∙ b.if-is_some.true) c.loop-place.invariant.counted)); places = places; room = omega (arith, c.push_reserved.ensures.len, c.push_reserved.ensures.capacity, c.loop-place.invariant.room, c.loop-place-test.true) }
      | else-is_some b ↦ record { counted = rw b.before-is (list_same it on (tells ∙ b.if-is_some.false) c.loop-place.invariant.counted); places = places; room = omega (arith, c.push_reserved.ensures.len, c.push_reserved.ensures.capacity, c.loop-place.invariant.room, c.loop-place-test.true) }
    ]

pub returns : goal.returns
returns c =
    let w = c.args.instance.now in
    let p = c.args.p in
    let end : c.loop-place.place ≡ length (row w.proposers p) = omega (arith, c.loop-place-test.false) in
    let before : c.loop-place.before ≡ seats_listed w p c.loop-place.place = c.loop-place.invariant.counted.counted in
    c.push_reserved-2.ensures.items ∙ ap (λ (front : List ℕ). front ++ c.loop-place.before ∷ []) c.loop-place.invariant.places
    ∙ ap (λ (n : ℕ). map (seats_listed w p) (range_with_len 0 c.loop-place.place) ++ n ∷ []) before
    ∙ sym (map-range_with_len_more (seats_listed w p) 0 c.loop-place.place c.loop-place.place (omega arith))
    ∙ ap (λ n. map (seats_listed w p) (range_with_len 0 (n + 1))) end
