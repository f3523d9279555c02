use Rattle.std.proofs.Common.{◌≡◌, ◌∙◌, sym, subst, arith, length, ℕ, List}
use Rattle.std.specs.Borrow.{Bor}
use Rattle.std.proofs.lemmas.List.{length-map}
use Rattle.indexmap.specs.IndexSet.{keys}
use Rattle.sm_keys.specs.Tables.{Table, table_from}
use Rattle.sm_text.specs.Slices.{texts_of}
use Rattle.sm_keys.proofs.PositionLemmas.{none_past}
use Rattle.std.specs.Str.{bytes_eq}
use Rattle.sm_keys.proofs.names.Names.number_of.Goals as goal

pub returns-in-None : goal.returns-in-None
returns-in-None c =
    let n = c.self.inside in
    let t = table_from (keys n.texts) n.numbers.items n.stamps.items n.declared.items in
    let count : c.len.result ≡ length (texts_of n.declared.items) = omega (arith, c.len.ensures, n.declared.ok.0, length-map n.declared.items (λ (x : Bor (List ℕ)). x.now)) in
    let P : Table → Type 0 = λ t. c.len.result ≡ length t.declared in
    subst P c.self.view_is count ∙ sym (none_past (bytes_eq c.args.name.now) c.args.self.now.declared (sym c.find.ensures ∙ c.in-None.is))
