use Rattle.std.proofs.Common.{◌∙◌, [], List, ap}
use Rattle.std.specs.Cmp.{on_equiv}
use Rattle.std.specs.Cmp.Lexicographic.{nat_list_eq_equiv}
use Rattle.std.specs.Str.{bytes_eq}
use Rattle.indexmap.specs.IndexSet.{keys, insert_all}
use Rattle.indexmap.proofs.SetLemmas.{set_all_distinct}
use Rattle.sm_keys.specs.Keys.{text_of}
use Rattle.sm_keys.specs.declared.key.Key.{Key}
use Rattle.sm_keys.proofs.names.put_anew.Goals as goal

pub returns : goal.returns
returns c =
    let old = keys c.args.texts.now in
    let equal = (λ (a b : Key). bytes_eq (text_of a) (text_of b)) in
    ap keys c.swap.ensures.x_after ∙ c.in_ok-append.ensures.keys ∙ ap (λ (ks : List Key). insert_all equal ks old) c.in_ok-anew.ensures.empty
    ∙ set_all_distinct (on_equiv text_of nat_list_eq_equiv) [] old c.len.ensures.unique
