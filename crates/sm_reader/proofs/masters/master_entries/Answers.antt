use Rattle.std.proofs.Common.{◌≡◌, ℕ, List, length, refl, sym, ap, ◌∙◌, arith, Some, slice_range}
use Rattle.std.specs.Borrow.{Bor}
use Rattle.std.specs.List.{list_all}
use Rattle.std.specs.Map.{lookup}
use Rattle.std.specs.Option.{option_map}
use Rattle.std.specs.Str.{bytes_eq}
use Rattle.std.proofs.lemmas.List.{length-map}
use Rattle.sm_keys.specs.Keys.{spelled}
use Rattle.sm_keys.specs.declared.text_key.TextKey.{TextKey}
use Rattle.sm_text.specs.Name.{is_name}
use Rattle.sm_text.specs.Slices.{texts_of}
use Rattle.sm_reader.specs.Draft.{names_on}
use Rattle.sm_reader.proofs.MasterLemmas.{named_among, found_names, texts_between, all_at_end}
use Rattle.sm_reader.proofs.masters.master_entries.Goals as goal

pub slice_bounds-names-count : goal.slice_bounds-names-count
slice_bounds-names-count c =
    let d = c.args.draft.now in
    let name = c.args.master.now in
    let has = found_names (texts_of d.on_masters.items) (λ (k : TextKey). bytes_eq name (spelled k)) d.masters.entries c.in-Some.list.now (sym c.in-Some.ensures.value) c.requires in
    omega (arith, has.0)

pub slice_bounds-names-start : goal.slice_bounds-names-start
slice_bounds-names-start c =
    let d = c.args.draft.now in
    let name = c.args.master.now in
    let has = found_names (texts_of d.on_masters.items) (λ (k : TextKey). bytes_eq name (spelled k)) d.masters.entries c.in-Some.list.now (sym c.in-Some.ensures.value) c.requires in
    omega (arith, has.0, has.1, length-map d.on_masters.items (λ (x : Bor (List ℕ)). x.now), c.deref.ensures.len, ap length c.deref.ensures.value)

pub slice_bounds-names-end : goal.slice_bounds-names-end
slice_bounds-names-end c =
    let d = c.args.draft.now in
    let name = c.args.master.now in
    let has = found_names (texts_of d.on_masters.items) (λ (k : TextKey). bytes_eq name (spelled k)) d.masters.entries c.in-Some.list.now (sym c.in-Some.ensures.value) c.requires in
    omega (arith, has.0, has.1, length-map d.on_masters.items (λ (x : Bor (List ℕ)). x.now), c.deref.ensures.len, ap length c.deref.ensures.value)

pub returns-in_ok-from_slice-in-Some-clause-found : goal.returns-in_ok-from_slice-in-Some-clause-found
returns-in_ok-from_slice-in-Some-clause-found c =
    let d = c.args.draft.now in
    let all = texts_of d.on_masters.items in
    let name = c.args.master.now in
    let list = c.in-Some.list.now in
    let test = λ (k : TextKey). bytes_eq name (spelled k) in
    let at : lookup test d.masters.entries ≡ Some list = sym c.in-Some.ensures.value in
    let has = found_names all test d.masters.entries list at c.requires in
    let names : texts_of c.in_ok-from_slice-in-Some.field-0.items ≡ names_on all list =
    ap texts_of (c.in_ok-from_slice-in-Some.ensures.items ∙ ap (λ (xs : List (Bor (List ℕ))). slice_range xs list.start list.stop) c.deref.ensures.value)
    ∙ texts_between d.on_masters.items list.start list.stop in
    record {
      found = named_among all name d.masters.entries ∙ ap (option_map (names_on all)) at ∙ ap Some (sym names);
      are_names = all_at_end (texts_of c.in_ok-from_slice-in-Some.field-0.items) (ap (list_all is_name) names ∙ has.2);
    }

pub returns-in-None-clause-refused : goal.returns-in-None-clause-refused
returns-in-None-clause-refused c =
    let d = c.args.draft.now in
    let all = texts_of d.on_masters.items in
    let name = c.args.master.now in
    (refl, refl, named_among all name d.masters.entries ∙ ap (option_map (names_on all)) (sym c.in-None.ensures.value))
