use Rattle.std.proofs.Common.{◌≡◌, ◌<◌, ◌+◌, ◌++◌, ◌∷◌, [], ℕ, List, arith, get_or, length, map, drop, ap, ◌∙◌}
use Rattle.std.specs.Borrow.{Bor}
use Rattle.std.proofs.lemmas.Grind.{common_steps}
use Rattle.sm_keys.specs.Tables.{number_in}
use Rattle.sm_text.specs.Slices.{texts_of}
use Rattle.sm_reader.proofs.numbering.number_tokens.Goals as goal

-- one more is put
one_more : (number : List ℕ → ℕ) (done : List ℕ) (tokens : List (Bor (List ℕ))) (i : ℕ) (d : Bor (List ℕ)) → i < length tokens
    → (done ++ number (get_or tokens i d).now ∷ []) ++ map number (texts_of (drop (i + 1) tokens)) ≡ done ++ map number (texts_of (drop i tokens))
one_more number done tokens i d inside = grind (arith, common_steps)

pub names-preserved : goal.names-preserved
names-preserved c =
    let number = number_in c.args.names.now.declared in
    let done = c.names.numbers.items in
    let behind = map number (texts_of (drop (c.names.at + 1) c.args.tokens.now)) in
    ap (λ ns. ns ++ behind) c.in_ok-push.ensures.items
    ∙ ap (λ n. (done ++ n ∷ []) ++ behind) c.number_of.ensures
    ∙ one_more number done c.args.tokens.now c.names.at _ c.names-test.true
    ∙ c.names.invariant
