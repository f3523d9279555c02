use Rattle.std.proofs.Common.{◌≡◌, ◌∙◌, ◌+◌, ◌-◌, ◌<◌, length, ap, arith}
use Rattle.sm_text.specs.Tokens.{run_end}
use Rattle.sm_keys.proofs.RunLemmas.{run_ends}
use Rattle.sm_keys.proofs.tokens.long_run_len.Goals as goal

pub returns-then-stop-at-le-MOST_NAME_BYTES-clause-run : goal.returns-then-stop-at-le-MOST_NAME_BYTES-clause-run
returns-then-stop-at-le-MOST_NAME_BYTES-clause-run c =
    let line = c.args.line.now in
    let stop : c.args.at + (c.run_end-stop.result - c.args.at) ≡ run_end line (c.args.at + 8) = omega (arith, c.run_end-stop.ensures) in
    let inside : run_end line (c.args.at + 8) < length line = omega (arith, c.run_end-stop.ensures, c.if-stop-line.true) in
    ap (run_end line) stop ∙ run_ends line (c.args.at + 8) inside ∙ c.requires.run
