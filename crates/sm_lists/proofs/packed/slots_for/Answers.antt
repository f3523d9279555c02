use Rattle.std.proofs.Common.{◌≡◌, ◌+◌, ◌++◌, ◌∷◌, [], ℕ, List, Bor, length, map, take, get_or, ap, sym, ◌∙◌, arith}
use Rattle.std.specs.List.{sum_by}
use Rattle.std.proofs.lemmas.List.{map_more, map_push}
use Rattle.std.proofs.lemmas.List.Sums.{sum_by_push}
use Rattle.sm_lists.specs.Rows.{lists_in}
use Rattle.sm_lists.proofs.PackedLemmas.{lists_fit, full_more}
use Rattle.sm_lists.proofs.packed.slots_for.Goals as goal

pub overflow_cast-end : goal.overflow_cast-end
overflow_cast-end c =
    let fit = lists_fit c.args.lists.now c.loop-list.list-index (record { ref_ptr = (0, 0); now = [] }) c.loop-list-test.true in
    let few = c.requires.entries in
    omega arith

pub overflow_add-end : goal.overflow_add-end
overflow_add-end c =
    let fit = lists_fit c.args.lists.now c.loop-list.list-index (record { ref_ptr = (0, 0); now = [] }) c.loop-list-test.true in
    let few = c.requires.entries in
    let count = c.loop-list.invariant.count in
    omega arith

pub loop-list-preserved : goal.loop-list-preserved
loop-list-preserved c =
    let len : List ℕ → ℕ = λ list. length list in
    let of : Bor (List ℕ) → List ℕ = λ list. list.now in
    let lent : List (Bor (List ℕ)) = c.args.lists.now in
    let i = c.loop-list.list-index in
    let list : List ℕ = (get_or lent i (record { ref_ptr = (0, 0); now = [] })).now in
    let more : lists_in (take (i + 1) lent) ≡ lists_in (take i lent) ++ list ∷ [] = map_more of lent i (record { ref_ptr = (0, 0); now = [] }) c.loop-list-test.true in
    record {
      count = ap (λ (n : ℕ). n + len list) c.loop-list.invariant.count ∙ sym (ap (sum_by len) more ∙ sum_by_push len (lists_in (take i lent)) list);
      full = rw (c.in_ok-push.ensures.items, ap (map len) more ∙ map_push len (lists_in (take i lent)) list) (full_more (len list) c.loop-list.invariant.full);
    }
