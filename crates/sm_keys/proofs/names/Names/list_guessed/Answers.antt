use Rattle.std.proofs.Common.{◌≡◌, ◌∙◌, List, ℕ, length, sym, ap, subst}
use Rattle.std.specs.Prelude.{vec_len}
use Rattle.std.proofs.lemmas.List.{length-map}
use Rattle.indexmap.specs.IndexSet.{keys}
use Rattle.sm_text.specs.Slices.{texts_of}
use Rattle.sm_keys.specs.Tables.{Table, IsTable, IsListing, table_from}
use Rattle.sm_keys.specs.Keys.{key_texts, text_of}
use Rattle.sm_keys.proofs.ListingLemmas.{restamped, written_over}
use Rattle.sm_keys.proofs.names.Names.list_guessed.Goals as goal

pub list_next-requires-clause-each : goal.list_next-requires-clause-each
list_next-requires-clause-each c =
    ap length c.deref_mut.ensures.value ∙ c.self.invariant.stamp_each ∙ length-map (keys c.self.inside.texts) text_of ∙ ap length (sym c.as_slice-names.ensures.keys)

pub invariant_of-self : goal.invariant_of-self
invariant_of-self c =
    let n = c.self.inside in
    let t = table_from (keys n.texts) n.numbers.items n.stamps.items n.declared.items in
    let new = c.list_next.new.stamps in
    let long : length new ≡ length n.stamps.items = c.list_next.ensures.further.each ∙ ap length c.deref_mut.ensures.value in
    subst (λ (x : List ℕ). IsTable (table_from (keys n.texts) n.numbers.items x n.declared.items)) (sym (written_over n.stamps.len new n.stamps.items long n.stamps.ok.0))
    (restamped t new c.self.invariant long)

pub returns-clause-further : goal.returns-clause-further
returns-clause-further c = λ first listing.
    let n = c.self.inside in
    let t = table_from (keys n.texts) n.numbers.items n.stamps.items n.declared.items in
    let entries = texts_of c.args.entries.now in
    let new = c.list_next.new.stamps in
    let indexes = c.list_next.new.indexes in
    let long : length new ≡ length n.stamps.items = c.list_next.ensures.further.each ∙ ap length c.deref_mut.ensures.value in
    let before : IsListing first t entries c.args.line (vec_len c.args.indexes.now) c.args.indexes.now.items =
    subst (λ (x : Table). IsListing first x entries c.args.line (vec_len c.args.indexes.now) c.args.indexes.now.items) (sym c.self.view_is) listing in
    subst (λ (x : List ℕ). IsListing first (table_from (keys n.texts) n.numbers.items x n.declared.items) entries c.args.line (vec_len indexes) indexes.items)
    (sym (written_over n.stamps.len new n.stamps.items long n.stamps.ok.0))
    (c.list_next.ensures.further.further first t c.self.invariant (ap key_texts (sym c.as_slice-names.ensures.keys)) (sym c.deref_mut.ensures.value) before)
