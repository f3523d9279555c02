use Rattle.std.proofs.Common.{◌≡◌, ap}
use Rattle.sm_agents.specs.declared.parts.Parts.{Parts}
use Rattle.sm_reader.specs.Numbering.{NumbersSides}
use Rattle.sm_reader.proofs.NumberLemmas.{sides_of}
use Rattle.sm_reader.proofs.ResultLemmas.{if_ok}
use Rattle.sm_reader.proofs.numbering.numbered_sides.Goals as goal

pub returns-clause-kind : goal.returns-clause-kind
returns-clause-kind c = if_ok _ (λ (sides : Parts). sides.kind ≡ c.args.kind) c.parts_of.result c.parts_of.ensures (λ parts are. ap (λ (x : Parts). x.kind) are.is)

pub returns-clause-sides : goal.returns-clause-sides
returns-clause-sides c =
    if_ok _ (NumbersSides c.args.draft) c.parts_of.result c.parts_of.ensures
    (λ parts are. sides_of c.args.kind c.args.draft c.number_both-both.result c.number_said-said.result parts c.number_both-both.ensures c.number_said-said.ensures are)
