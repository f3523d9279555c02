use Rattle.std.proofs.Common.{◌≡◌, ◌<◌, ◌∙◌, subst, length}
use Rattle.std.specs.List.{list_any}
use Rattle.std.specs.Str.{bytes_eq}
use Rattle.indexmap.specs.IndexSet.{keys}
use Rattle.sm_keys.specs.Tables.{Table, table_from, text_at}
use Rattle.sm_keys.proofs.TableLemmas.{declared_at, number_at}
use Rattle.sm_keys.proofs.names.Names.is_declared.Goals as goal

pub returns : goal.returns
returns c =
    let n = c.self.inside in
    let t = table_from (keys n.texts) n.numbers.items n.stamps.items n.declared.items in
    let i = c.args.index in
    let P : Table → Type 0 = λ t. i < length t.texts → c.is_some.result ≡ list_any (bytes_eq (text_at t.texts i)) t.declared in
    subst P c.self.view_is (λ inside. c.is_some.ensures ∙ number_at t i c.index.result.now c.self.invariant inside c.index.ensures ∙ declared_at t i c.self.invariant inside) c.requires
