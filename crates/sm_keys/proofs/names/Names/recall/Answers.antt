use Rattle.std.proofs.Common.{ℕ, subst}
use Rattle.std.proofs.lemmas.Option.{IfSome_then}
use Rattle.indexmap.specs.IndexSet.{keys}
use Rattle.sm_keys.specs.Tables.{Table, table_from, IsAt, Interns}
use Rattle.sm_keys.specs.Keys.{key_texts}
use Rattle.sm_keys.proofs.TableLemmas.{interned_at}
use Rattle.sm_keys.proofs.names.Names.recall.Goals as goal

pub returns : goal.returns
returns c =
    let n = c.self.inside in
    let t = table_from (keys n.texts) n.numbers.items n.stamps.items n.declared.items in
    let name = c.args.name.now in
    IfSome_then c.guessed.result c.guessed.ensures (λ (i : ℕ) at.
    let here : IsAt t.texts name i = subst (λ ks. IsAt (key_texts ks) name i) c.as_slice.ensures.keys at in
    subst (λ (x : Table). Interns x x name i) c.self.view_is (interned_at t name i c.self.invariant here.in_range here.names))
