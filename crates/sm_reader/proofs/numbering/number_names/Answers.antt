use Rattle.std.proofs.Common.{◌≡◌, ◌<◌, ◌+◌, ◌++◌, ◌∷◌, [], ℕ, List, ap, ◌∙◌, sym, subst, arith, append_assoc, length, map, take, drop, get_or, set}
use Rattle.std.proofs.lemmas.List.{drop-set-lt, drop_more, take_more_set}
use Rattle.sm_keys.specs.Tables.{number_in, text_at, AreBelow}
use Rattle.sm_keys.proofs.OrderLemmas.{same_numbers}
use Rattle.sm_reader.proofs.numbering.number_names.Goals as goal

pub returns-then-in_order : goal.returns-then-in_order
returns-then-in_order c = same_numbers c.args.names.now (c.requires.order c.if-in_order.true) c.args.entries.now c.requires.in_range

-- one more number is put
numbered_more : (number : List ℕ → ℕ) (text : ℕ → List ℕ) (xs : List ℕ) (i y : ℕ) → i < length xs → y ≡ number (text (get_or xs i 0))
    → take (i + 1) (set xs i y) ++ map number (map text (drop (i + 1) (set xs i y))) ≡ take i xs ++ map number (map text (drop i xs))
numbered_more number text xs i y inside is =
    let behind = map number (map text (drop (i + 1) xs)) in
    ap (λ zs. take (i + 1) (set xs i y) ++ map number (map text zs)) (drop-set-lt (i + 1) xs i y (omega arith))
    ∙ ap (λ zs. zs ++ behind) (take_more_set xs i y inside)
    ∙ append_assoc (take i xs) (y ∷ []) behind
    ∙ ap (λ n. take i xs ++ n ∷ behind) is
    ∙ ap (λ zs. take i xs ++ map number (map text zs)) (sym (drop_more xs i 0 inside))

pub entries-preserved : goal.entries-preserved
entries-preserved c =
    let t = c.args.names.now in
    let now = c.entries.entries in
    let i = c.entries.entry-index in
    let n = c.number.result in
    let inside : i < length now = omega (arith, c.entries-test.true, c.entries.auto) in
    record {
      numbered = numbered_more (number_in t.declared) (text_at t.texts) now i n inside c.number.ensures ∙ c.entries.invariant.numbered;
      in_range = subst (AreBelow (length t.texts)) (sym (drop-set-lt (i + 1) now i n (omega arith))) (subst (AreBelow (length t.texts)) (drop_more now i 0 inside) c.entries.invariant.in_range).1;
    }
