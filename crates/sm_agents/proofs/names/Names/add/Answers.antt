use Rattle.std.proofs.Common.{not, ap, ◌∙◌}
use Rattle.std.specs.List.{list_any}
use Rattle.std.specs.Str.{bytes_eq}
use Rattle.indexmap.specs.IndexSet.{keys}
use Rattle.sm_agents.specs.NameKeys.{text_of}
use Rattle.sm_agents.proofs.NameLemmas.{list_any-texts}
use Rattle.sm_agents.proofs.names.Names.add.Goals as goal

pub returns-then-added-clause-added : goal.returns-then-added-clause-added
returns-then-added-clause-added c =
    let name = c.in_ok-of.field-0 in
    c.in_ok-added.ensures.added
    ∙ ap not (list_any-texts (text_of name) (keys c.self.inside.names))
    ∙ ap (λ t. not (list_any (bytes_eq (text_of name)) t)) c.self.view_is
    ∙ ap (λ t. not (list_any (bytes_eq t) c.args.self.now)) c.in_ok-of.ensures

pub returns-else-added-clause-added : goal.returns-else-added-clause-added
returns-else-added-clause-added c =
    let name = c.in_ok-of.field-0 in
    c.in_ok-added.ensures.added
    ∙ ap not (list_any-texts (text_of name) (keys c.self.inside.names))
    ∙ ap (λ t. not (list_any (bytes_eq (text_of name)) t)) c.self.view_is
    ∙ ap (λ t. not (list_any (bytes_eq t) c.args.self.now)) c.in_ok-of.ensures
