use Rattle.std.proofs.Common.{◌≡◌, ◌++◌, ◌∷◌, [], ℕ, List, length, is_some, refl, ap, ◌∙◌, arith}
use Rattle.std.specs.Borrow.{Bor}
use Rattle.std.specs.Map.{lookup}
use Rattle.std.specs.Str.{bytes_eq}
use Rattle.std.proofs.lemmas.List.{length-map, length-append, map-append}
use Rattle.indexmap.proofs.CallerLemmas.{insert_entry-new}
use Rattle.sm_text.specs.Slices.{texts_of}
use Rattle.sm_keys.specs.Keys.{spelled}
use Rattle.sm_keys.specs.declared.text_key.TextKey.{TextKey}
use Rattle.sm_reader.specs.Draft.{masters_declared}
use Rattle.sm_reader.specs.declared.draft.MasterList.{MasterList}
use Rattle.sm_reader.proofs.MasterLemmas.{declared_among, fits_within}
use Rattle.sm_reader.proofs.masters.put_master.Goals as goal
use Rattle.sm_agents.proofs.SecondLemmas.{none_of}

pub returns : goal.returns
returns c =
    let d = c.args.draft.now in
    let name = c.args.master.name.now in
    let entries = texts_of c.args.master.entries.now in
    let mid = c.make_ready.new.map in
    let key : TextKey = record { text = c.args.master.name } in
    let list : MasterList = record { start = c.len-start.result; stop = c.len.result } in
    let right = fits_within (masters_declared d) name entries d.entries c.requires.faultless in
    let long : length entries ≡ length c.args.master.entries.now = length-map c.args.master.entries.now (λ (x : Bor (List ℕ)). x.now) in
    let none = none_of (lookup (λ (k : TextKey). bytes_eq name (spelled k)) mid.entries)
    (ap (λ (es : List (TextKey × MasterList)). is_some (lookup (λ (k : TextKey). bytes_eq name (spelled k)) es)) c.in_ok-make_ready.ensures
    ∙ declared_among (texts_of d.on_masters.items) name d.masters.entries ∙ right.0) in
    record {
      key = key;
      list = list;
      faultless = c.requires.faultless;
      spells = refl;
      starts = omega (arith, c.requires.few, right.1);
      stops = omega (arith, c.requires.few, right.1, long, ap length c.in_ok-extend_from_slice.ensures.items, length-append d.on_masters.items c.args.master.entries.now);
      fits = right.1;
      masters = c.in_ok-insert.ensures.entries ∙ insert_entry-new _ mid key list none ∙ ap (λ es. es ++ (key, list) ∷ []) c.in_ok-make_ready.ensures;
      names = ap texts_of c.in_ok-extend_from_slice.ensures.items ∙ map-append (λ (x : Bor (List ℕ)). x.now) d.on_masters.items c.args.master.entries.now;
      entries_more = omega (arith, long);
      changes = refl;
    }
