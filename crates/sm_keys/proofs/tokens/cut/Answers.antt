use Rattle.std.proofs.Common.{◌≡◌, ◌-◌, [], ℕ, List, length, drop, subst, arith, rules}
use Rattle.std.specs.Borrow.{Bor}
use Rattle.std.proofs.lemmas.List.{length-map}
use Rattle.sm_text.specs.Tokens.{tokens}
use Rattle.sm_keys.specs.Tokens.{AreNamesAtEnd}
use Rattle.sm_text.specs.Slices.{texts_of}
use Rattle.sm_keys.proofs.NameLemmas.{names_from}
use Rattle.sm_keys.proofs.tokens.cut.Goals as goal

pub returns-clause-names : goal.returns-clause-names
returns-clause-names c =
    let into = c.tokens.into in
    let found = texts_of into.items in
    let count : length found ≡ c.len-2.result = omega (arith, c.len-2.ensures, into.ok.0, length-map into.items (λ (x : Bor (List ℕ)). x.now)) in
    let over : tokens (drop c.tokens.from c.args.line.now) ≡ [] = c.in_default.ensures.places in
    let whole : found ≡ tokens c.args.line.now = let cut = c.tokens.invariant.cut in search rules in
    subst (λ n. AreNamesAtEnd (n - c.tokens.others) (tokens c.args.line.now)) count
    (subst (λ ts. AreNamesAtEnd (length found - c.tokens.others) ts) whole
    (names_from c.tokens.others found c.tokens.invariant.names c.tokens.invariant.other (omega (arith, c.tokens.invariant.within, length-map into.items (λ (x : Bor (List ℕ)). x.now)))))
