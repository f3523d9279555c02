-- All names have numbers where all are declared.
use Rattle.std.proofs.Common.{◌≡◌, ℕ, zero, suc, ◌<◌, ◌&&◌, ◌||◌, not, Bool, true, false, List, [], ◌∷◌, length, get_or, None, refl, ap, ◌∙◌, arith, is_some}
use Rattle.std.specs.List.{list_any, list_all}
use Rattle.sm_keys.specs.Tables.{is_unknown, Table, IsTable}
use Rattle.sm_keys.proofs.TableLemmas.{declared_at}

and_not : (s t u v : Bool) → s ≡ not t → u ≡ not v → (s && u) ≡ not (t || v)
and_not s true u v e f = ap (λ b. b && u) e
and_not s false u v e f = ap (λ b. b && u) e ∙ f

-- each element of one list passes where that of another doesn't
all_where_none : {X Y : Type 0} (p : X → Bool) (q : Y → Bool) (xs : List X) (ys : List Y) (d : X) (e : Y) → length xs ≡ length ys
    → ((i : ℕ) → i < length ys → p (get_or xs i d) ≡ not (q (get_or ys i e))) → list_all p xs ≡ not (list_any q ys)
all_where_none p q [] [] d e long each = refl
all_where_none p q [] (y ∷ ys) d e long each = absurd (omega arith)
all_where_none p q (x ∷ xs) [] d e long each = absurd (omega arith)
all_where_none p q (x ∷ xs) (y ∷ ys) d e long each =
    and_not (p x) (q y) (list_all p xs) (list_any q ys) (each zero (omega arith)) (all_where_none p q xs ys d e (omega arith) (λ i inside. each (suc i) (omega arith)))

-- all names have numbers where none is unknown
pub numbers_all : (t : Table) → IsTable t → list_all is_some t.numbers ≡ not (list_any (is_unknown t.declared) t.texts)
numbers_all t table =
    all_where_none is_some (is_unknown t.declared) t.numbers t.texts None [] table.number_each (λ i inside. declared_at t i table inside ∙ twice (list_any _ t.declared))
  where
    twice : (b : Bool) → b ≡ not (not b)
    twice true = refl
    twice false = refl
