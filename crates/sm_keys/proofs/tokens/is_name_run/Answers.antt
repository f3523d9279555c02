use Rattle.std.proofs.Common.{◌≡◌, ◌∙◌, ◌&&◌, true, nat_le, length, get_or, sym, ap, arith}
use Rattle.std.proofs.lemmas.Bool.Decides.{nat_tests}
use Rattle.sm_text.specs.Limits.{most_name_bytes}
use Rattle.sm_text.specs.Name.{begins_name}
use Rattle.sm_keys.proofs.WholeLemmas.{is_name-run}
use Rattle.sm_keys.proofs.tokens.is_name_run.Goals as goal

pub returns-then-run-le-MOST_NAME_BYTES : goal.returns-then-run-le-MOST_NAME_BYTES
returns-then-run-le-MOST_NAME_BYTES c =
    let run = c.args.run.now in
    let few : true ≡ nat_le (length run) most_name_bytes = grind (arith, nat_tests) in
    c.begins_name.ensures ∙ ap (λ t. t && begins_name (get_or run 0 0)) few ∙ sym (is_name-run run c.requires.some c.requires.all)
