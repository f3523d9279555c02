use Rattle.std.proofs.Common.{arith, ◌∙◌, sym, get_or, ℕ, List, []}
use Rattle.std.proofs.lemmas.Bool.Decides.{nat_tests}
use Rattle.std.specs.Borrow.{Bor}
use Rattle.std.proofs.lemmas.List.{get_or_default}
use Rattle.sm_text.specs.Tokens.{begins_run}
use Rattle.sm_keys.proofs.PositionLemmas.{all_texts_fail, all_texts_more, all_texts_end}
use Rattle.sm_text.specs.Slices.{texts_of}
use Rattle.sm_forms.proofs.NameLemmas.{all_names, names_begin}
use Rattle.sm_forms.proofs.forms.are_runs.Goals as goal

pub returns-then-tokens-names : goal.returns-then-tokens-names
returns-then-tokens-names c = sym (names_begin (texts_of c.args.tokens.now) (all_names c.args.names c.args.tokens.now c.requires ∙ grind (arith, nat_tests, c.if-tokens-names.true)))

pub returns-then-not-is_run : goal.returns-then-not-is_run
returns-then-not-is_run c =
    let d : Bor (List ℕ) = record { ref_ptr = (0, 0); now = [] } in
    let tokens = c.args.tokens.now in
    let i = c.tokens.token-index in
    let token = get_or tokens i d in
    sym (all_texts_fail begins_run tokens i token c.tokens-test.true (get_or_default tokens i d token c.tokens-test.true) (sym c.is_run.ensures ∙ c.if-not-is_run.true))

pub tokens-preserved : goal.tokens-preserved
tokens-preserved c =
    let d : Bor (List ℕ) = record { ref_ptr = (0, 0); now = [] } in
    let tokens = c.args.tokens.now in
    let i = c.tokens.token-index in
    let token = get_or tokens i d in
    all_texts_more begins_run tokens i token c.tokens-test.true (get_or_default tokens i d token c.tokens-test.true) c.tokens.invariant (sym c.is_run.ensures ∙ c.if-not-is_run.false)

pub returns : goal.returns
returns c = sym (all_texts_end begins_run c.args.tokens.now c.tokens.token-index c.tokens-test.false c.tokens.invariant)
