use Rattle.std.proofs.Common.{◌≡◌, ◌<◌, ◌∙◌, sym, subst, arith, length, ℕ, List}
use Rattle.std.specs.Borrow.{Bor}
use Rattle.std.proofs.lemmas.List.{length-map}
use Rattle.indexmap.specs.IndexSet.{keys}
use Rattle.sm_keys.specs.Tables.{number_in, Table, table_from, text_at}
use Rattle.sm_text.specs.Slices.{texts_of}
use Rattle.sm_keys.proofs.TableLemmas.{number_in-none}
use Rattle.sm_keys.proofs.names.Names.number.Goals as goal

pub returns-in-None : goal.returns-in-None
returns-in-None c =
    let n = c.self.inside in
    let t = table_from (keys n.texts) n.numbers.items n.stamps.items n.declared.items in
    let i = c.args.index in
    let count : c.len.result ≡ length (texts_of n.declared.items) = omega (arith, c.len.ensures, n.declared.ok.0, length-map n.declared.items (λ (x : Bor (List ℕ)). x.now)) in
    let P : Table → Type 0 = λ t. i < length t.texts → c.len.result ≡ number_in t.declared (text_at t.texts i) in
    subst P c.self.view_is (λ inside. count ∙ sym (number_in-none t i c.index.result.now c.self.invariant inside c.index.ensures c.in-None.is)) c.requires.in_range
