use Rattle.std.proofs.Common.{◌≡◌, ◌∙◌, ap, not, is_some, subst}
use Rattle.std.specs.List.{list_any, list_all}
use Rattle.indexmap.specs.IndexSet.{keys}
use Rattle.sm_keys.specs.Tables.{is_unknown, Table, table_from}
use Rattle.sm_keys.proofs.AllLemmas.{numbers_all}
use Rattle.sm_keys.proofs.names.Names.are_declared.Goals as goal

pub returns : goal.returns
returns c =
    let n = c.self.inside in
    let t = table_from (keys n.texts) n.numbers.items n.stamps.items n.declared.items in
    let P : Table → Type 0 = λ t. c.are_numbers.result ≡ not (list_any (is_unknown t.declared) t.texts) in
    subst P c.self.view_is (c.are_numbers.ensures ∙ ap (list_all is_some) c.deref.ensures.value ∙ numbers_all t c.self.invariant)
