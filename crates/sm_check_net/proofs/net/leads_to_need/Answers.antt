use Rattle.std.proofs.Common.{ℕ, ◌-◌, ◌∙◌, arith, ap, List}
use Rattle.std.specs.Prelude.{◌==◌}
use Rattle.std.specs.List.{list_any}
use Rattle.sm_lists.specs.Rows.{rows_of}
use Rattle.sm_check_net.proofs.NetLemmas.{leads_is}
use Rattle.sm_check_net.proofs.net.leads_to_need.Goals as goal

pub has_number-requires : goal.has_number-requires
has_number-requires c = rw c.list_at.ensures (λ a b. c.requires.rising.rising _ a b)

pub returns : goal.returns
returns c = c.has_number.ensures ∙ ap (λ (xs : List ℕ). list_any (λ i. i == c.args.to - 1) xs) c.list_at.ensures ∙ leads_is (rows_of c.args.needs.now) c.args.from c.args.to (omega arith) (omega arith)
