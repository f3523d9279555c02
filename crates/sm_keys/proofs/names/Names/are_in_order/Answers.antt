use Rattle.std.proofs.Common.{◌≡◌, ◌<◌, ℕ, List, Option, None, Some, subst, length, get_or}
use Rattle.indexmap.specs.IndexSet.{keys}
use Rattle.sm_keys.specs.Tables.{table_from, AreInOrder}
use Rattle.sm_keys.proofs.OrderLemmas.{in_order}
use Rattle.sm_keys.proofs.names.Names.are_in_order.Goals as goal

pub returns : goal.returns
returns c = λ yes.
    let n = c.self.inside in
    let t = table_from (keys n.texts) n.numbers.items n.stamps.items n.declared.items in
    let P : List (Option ℕ) → Type 0 = λ xs. (i : ℕ) → i < length xs → get_or xs i None ≡ Some i in
    subst AreInOrder c.self.view_is (in_order t c.self.invariant (subst P c.deref.ensures.value (c.are_counted.ensures yes)))
