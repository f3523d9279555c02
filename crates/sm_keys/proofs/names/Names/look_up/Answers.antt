use Rattle.std.proofs.Common.{◌≡◌, Some, None, ap, ◌∙◌, sym, subst, position}
use Rattle.std.specs.Str.{bytes_eq}
use Rattle.indexmap.specs.IndexSet.{keys}
use Rattle.sm_keys.specs.Tables.{Table, table_from}
use Rattle.sm_keys.proofs.PositionLemmas.{position_keys}
use Rattle.sm_keys.proofs.TableLemmas.{found_by_index, missing_by_index}
use Rattle.sm_keys.proofs.names.Names.look_up.Goals as goal

pub returns-in-Some : goal.returns-in-Some
returns-in-Some c =
    let n = c.self.inside in
    let t = table_from (keys n.texts) n.numbers.items n.stamps.items n.declared.items in
    let name = c.of.result.text.now in
    let found : position (bytes_eq name) t.texts ≡ Some c.in-Some.index = sym (position_keys name (keys n.texts)) ∙ sym c.get_index_of.ensures.index ∙ c.in-Some.is in
    let P : Table → Type 0 = λ t. c.index.result.now ≡ position (bytes_eq c.args.name.now) t.declared in
    subst P c.self.view_is (found_by_index t name c.in-Some.index c.index.result.now c.self.invariant found c.index.ensures ∙ ap (λ x. position (bytes_eq x) t.declared) c.of.ensures)

pub returns-in-None : goal.returns-in-None
returns-in-None c =
    let n = c.self.inside in
    let t = table_from (keys n.texts) n.numbers.items n.stamps.items n.declared.items in
    let name = c.of.result.text.now in
    let missing : position (bytes_eq name) t.texts ≡ None = sym (position_keys name (keys n.texts)) ∙ sym c.get_index_of.ensures.index ∙ c.in-None.is in
    let P : Table → Type 0 = λ t. None ≡ position (bytes_eq c.args.name.now) t.declared in
    subst P c.self.view_is (missing_by_index t name c.self.invariant missing ∙ ap (λ x. position (bytes_eq x) t.declared) c.of.ensures)
