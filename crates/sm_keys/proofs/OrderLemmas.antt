-- Names whose indexes are their numbers.
use Rattle.std.proofs.Common.{◌≡◌, ℕ, ◌<◌, true, List, [], ◌∷◌, length, get_or, map, Option, None, Some, refl, sym, ap, ◌∙◌, arith, position, is_some, unwrap_or}
use Rattle.std.specs.List.{list_any}
use Rattle.std.specs.Str.{bytes_eq}
use Rattle.sm_keys.specs.Tables.{number_in, Table, IsTable, text_at, AreBelow, AreInOrder}
use Rattle.sm_keys.proofs.PositionLemmas.{is_some-position, position-some}

-- they are where each number is that of its place
pub in_order : (t : Table) → IsTable t → ((i : ℕ) → i < length t.numbers → get_or t.numbers i None ≡ Some i) → AreInOrder t
in_order t table counted i inside =
    let p = bytes_eq (text_at t.texts i) in
    let at : position p t.declared ≡ Some i = sym (table.numbered i inside) ∙ counted i (omega (arith, table.number_each)) in
    let found : list_any p t.declared ≡ true = sym (is_some-position p t.declared) ∙ ap is_some at in
    ap (λ (o : Option ℕ). unwrap_or o 0) (sym (position-some p t.declared found) ∙ at)

-- then the numbers of a list are its indexes
pub same_numbers : (t : Table) → AreInOrder t → (ids : List ℕ) → AreBelow (length t.texts) ids → ids ≡ map (number_in t.declared) (map (text_at t.texts) ids)
same_numbers t order [] below = refl
same_numbers t order (i ∷ ids) below =
    ap (λ xs. i ∷ xs) (same_numbers t order ids below.1) ∙ ap (λ n. n ∷ map (number_in t.declared) (map (text_at t.texts) ids)) (sym (order i below.0))
