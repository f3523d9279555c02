use Rattle.std.proofs.Common.{subst}
use Rattle.indexmap.specs.IndexSet.{keys}
use Rattle.sm_keys.specs.Tables.{Table, table_from, IsAt, Interns}
use Rattle.sm_keys.specs.Keys.{key_texts}
use Rattle.sm_keys.proofs.TableLemmas.{interned_at}
use Rattle.sm_keys.proofs.names.Names.recall_again.Goals as goal

pub returns-then-has_index : goal.returns-then-has_index
returns-then-has_index c =
    let n = c.self.inside in
    let t = table_from (keys n.texts) n.numbers.items n.stamps.items n.declared.items in
    let name = c.args.name.text.now in
    let i = c.second_guess-guess.result in
    let here : IsAt t.texts name i = subst (λ ks. IsAt (key_texts ks) name i) c.as_slice.ensures.keys (c.has_index.ensures c.if-has_index.true) in
    subst (λ (x : Table). Interns x x name i) c.self.view_is (interned_at t name i c.self.invariant here.in_range here.names)
