use Rattle.std.proofs.Common.{◌≡◌, ◌-◌, ◌∙◌, ℕ, List, [], length, get_or, sym, ap, subst, arith}
use Rattle.std.specs.Borrow.{Bor}
use Rattle.std.proofs.lemmas.List.{get_or-map, length-map}
use Rattle.sm_text.specs.Name.{is_name}
use Rattle.sm_text.specs.Slices.{texts_of}
use Rattle.sm_keys.specs.Tokens.{AreNamesAtEnd}
use Rattle.sm_keys.proofs.EnoughLemmas.{names_behind, names_before}
use Rattle.sm_keys.proofs.long.names_at_end.Goals as goal

pub returns-then-not-is_name : goal.returns-then-not-is_name
returns-then-not-is_name c =
    let d : Bor (List ℕ) = record { ref_ptr = (0, 0); now = [] } in
    let tokens = c.args.tokens.now in
    let others = c.others.others in
    let long : length (texts_of tokens) ≡ length tokens = length-map tokens (λ (x : Bor (List ℕ)). x.now) in
    let here : get_or (texts_of tokens) (others - 1) [] ≡ (get_or tokens (others - 1) d).now =
    get_or-map (λ (x : Bor (List ℕ)). x.now) tokens (others - 1) d [] (omega (arith, c.others-test.true, c.others.invariant.within)) in
    subst (λ n. AreNamesAtEnd (n - others) (texts_of tokens)) long
    (names_behind others (texts_of tokens) c.others.invariant.names (omega (arith, long, c.others.invariant.within)) (λ some. ap is_name here ∙ sym c.is_name.ensures ∙ c.if-not-is_name.true))

pub others-preserved : goal.others-preserved
others-preserved c =
    let d : Bor (List ℕ) = record { ref_ptr = (0, 0); now = [] } in
    let tokens = c.args.tokens.now in
    let others = c.others.others in
    let long : length (texts_of tokens) ≡ length tokens = length-map tokens (λ (x : Bor (List ℕ)). x.now) in
    let here : get_or (texts_of tokens) (others - 1) [] ≡ (get_or tokens (others - 1) d).now =
    get_or-map (λ (x : Bor (List ℕ)). x.now) tokens (others - 1) d [] (omega (arith, c.others-test.true, c.others.invariant.within)) in
    record {
      names = names_before others (texts_of tokens) c.others.invariant.names (omega (arith, c.others-test.true)) (omega (arith, long, c.others.invariant.within)) (ap is_name here ∙ sym c.is_name.ensures ∙ c.if-not-is_name.false);
      within = omega (arith, c.others.invariant.within);
    }

pub returns : goal.returns
returns c =
    let tokens = c.args.tokens.now in
    let others = c.others.others in
    let long : length (texts_of tokens) - others ≡ length tokens = omega (arith, c.others-test.false, length-map tokens (λ (x : Bor (List ℕ)). x.now)) in
    subst (λ n. AreNamesAtEnd n (texts_of tokens)) long
    (names_behind others (texts_of tokens) c.others.invariant.names (omega (arith, c.others.invariant.within, length-map tokens (λ (x : Bor (List ℕ)). x.now))) (λ some. absurd (omega (arith, some, c.others-test.false))))
