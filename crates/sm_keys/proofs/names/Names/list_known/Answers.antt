use Rattle.std.proofs.Common.{◌≡◌, ◌∙◌, List, ℕ, length, sym, ap, subst}
use Rattle.std.specs.Prelude.{vec_len}
use Rattle.indexmap.specs.IndexSet.{keys}
use Rattle.sm_keys.specs.Tables.{Table, table_from}
use Rattle.sm_keys.specs.Keys.{key_texts}
use Rattle.sm_keys.specs.Lines.{IsListingLine}
use Rattle.sm_keys.proofs.ListingLemmas.{written_over}
use Rattle.sm_keys.proofs.names.Names.list_known.Goals as goal

pub returns-clause-further : goal.returns-clause-further
returns-clause-further c = λ first listing.
    let n = c.self.inside in
    let t = table_from (keys n.texts) n.numbers.items n.stamps.items n.declared.items in
    let line = c.args.line.now in
    let new = c.list_known.new.stamps in
    let before = c.args.indexes.now in
    let indexes = c.list_known.new.indexes in
    let long : length new ≡ length n.stamps.items = c.list_known.ensures.further.each ∙ ap length c.deref_mut.ensures.value in
    let so_far : IsListingLine first t line c.args.from c.args.stamp (vec_len before) before.items =
    subst (λ (x : Table). IsListingLine first x line c.args.from c.args.stamp (vec_len before) before.items) (sym c.self.view_is) listing in
    subst (λ (x : List ℕ). IsListingLine first (table_from (keys n.texts) n.numbers.items x n.declared.items) line c.list_known.result c.args.stamp (vec_len indexes) indexes.items)
    (sym (written_over n.stamps.len new n.stamps.items long n.stamps.ok.0))
    (c.list_known.ensures.further.further first t c.self.invariant (ap key_texts (sym c.as_slice.ensures.keys)) (sym c.deref_mut.ensures.value) so_far)
