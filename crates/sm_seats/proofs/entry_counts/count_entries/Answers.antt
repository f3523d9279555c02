use Rattle.std.proofs.Common.{◌≡◌, ℕ, ◌*◌, ◌++◌, ◌∷◌, [], List, ◌∙◌, sym, ap, map, arith, length}
use Rattle.std.specs.List.{range_with_len}
use Rattle.std.proofs.lemmas.List.FromFn.{map-range_with_len_more}
use Rattle.sm_seats.specs.SeatMarket.{seat_count}
use Rattle.sm_seats.specs.Counted.{acceptable_at}
use Rattle.sm_seats.specs.SeatEntries.{seat_entries}
use Rattle.sm_seats.proofs.LimitLaws.{seat_entries_before-suc, seat_entries_end}
use Rattle.sm_seats.proofs.TableLemmas.{count_is}
use Rattle.sm_seats.proofs.entry_counts.count_entries.Goals as goal

pub overflow_add-entries : goal.overflow_add-entries
overflow_add-entries c =
    let w = c.args.instance.now in
    let r = c.loop-r.r in
    let acceptable = c.acceptable_count-acceptable.result in
    let e : c.min-count.result * acceptable ≡ seat_entries w r = ap (λ n. n * acceptable) (count_is w r c.min-count.ensures c.capacity.ensures.capacity c.acceptable_count-acceptable.ensures.count) ∙ ap (λ n. seat_count w r * n) c.acceptable_count-acceptable.ensures.count in
    let end = seat_entries_end w r (length w.reviewers) (omega (arith, c.loop-r-test.true)) in
    omega (arith, seat_entries_before-suc w r, e, end, c.requires.few, c.loop-r.invariant.entries)

pub loop-r-preserved : goal.loop-r-preserved
loop-r-preserved c =
    let w = c.args.instance.now in
    let r = c.loop-r.r in
    let acceptable = c.acceptable_count-acceptable.result in
    let e : c.min-count.result * acceptable ≡ seat_entries w r = ap (λ n. n * acceptable) (count_is w r c.min-count.ensures c.capacity.ensures.capacity c.acceptable_count-acceptable.ensures.count) ∙ ap (λ n. seat_count w r * n) c.acceptable_count-acceptable.ensures.count in
    record {
      acceptable = c.in_ok-push.ensures.items ∙ ap (λ (front : List ℕ). front ++ acceptable ∷ []) c.loop-r.invariant.acceptable
          ∙ ap (λ (n : ℕ). map (acceptable_at w) (range_with_len 0 r) ++ n ∷ []) c.acceptable_count-acceptable.ensures.count
          ∙ sym (map-range_with_len_more (acceptable_at w) 0 r r (omega arith));
      entries = omega (arith, seat_entries_before-suc w r, e, c.loop-r.invariant.entries);
    }
