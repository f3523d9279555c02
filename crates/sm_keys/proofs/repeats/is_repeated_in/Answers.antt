use Rattle.std.proofs.Common.{◌≡◌, ◌+◌, ◌<◌, ◌++◌, ◌∷◌, [], ◌∙◌, ap, sym, length, suc, take, drop, false, true, arith}
use Rattle.std.specs.List.{list_any}
use Rattle.std.specs.Str.{bytes_eq}
use Rattle.std.proofs.lemmas.Bool.{not-true, not-false}
use Rattle.indexmap.specs.IndexSet.{keys}
use Rattle.sm_text.specs.Slices.{texts_of}
use Rattle.sm_keys.specs.Keys.{spellings}
use Rattle.sm_keys.specs.Tables.{has_repeated}
use Rattle.sm_keys.specs.Repeats.{of_class}
use Rattle.sm_keys.proofs.ListingLemmas.{repeated_among, repeated_push}
use Rattle.sm_keys.proofs.RepeatLemmas.{slice_at, class_more, class_same, class_between}
use Rattle.sm_keys.proofs.TextKeyLemmas.{text_among, spellings-put}
use Rattle.sm_keys.proofs.repeats.is_repeated_in.Goals as goal

pub names-init : goal.names-init
names-init c =
    let found = c.place_from-place.ensures in
    let none : spellings (keys c.clear.new.self) ≡ [] = ap spellings c.clear.ensures.empty in
    record {
      seen = λ class_of each. none ∙ sym (class_same c.args.names.now c.args.classes.now class_of c.args.class each 0 c.place_from-place.result found.later (omega (arith, found.within, c.requires)) found.before);
      differ = ap has_repeated none;
      within = found.within;
      there = found.there;
    }

pub returns-then-not-branch : goal.returns-then-not-branch
returns-then-not-branch c = λ class_of each.
    let names = c.args.names.now in
    let texts = texts_of names in
    let k = c.args.class in
    let i = c.names.place in
    let inside : i < length names = omega (arith, c.names-test.true) in
    let name = (slice_at names i).now in
    let seen = keys c.names.seen in
    let among : list_any (bytes_eq name) (spellings seen) ≡ true = sym (text_among seen name) ∙ not-false _ (sym c.in_ok-insert.ensures.added ∙ c.if-not-branch.true) in
    let met : list_any (bytes_eq name) (of_class class_of k (take i texts)) ≡ true = ap (list_any (bytes_eq name)) (sym (c.names.invariant.seen class_of each)) ∙ among in
    sym (ap has_repeated (class_between names c.args.classes.now class_of k each i inside (c.names.invariant.there (omega (arith, inside, c.requires))))
    ∙ repeated_among (of_class class_of k (take i texts)) (of_class class_of k (drop (suc i) texts)) name met)

pub names-preserved : goal.names-preserved
names-preserved c =
    let names = c.args.names.now in
    let classes = c.args.classes.now in
    let k = c.args.class in
    let i = c.names.place in
    let inside : i < length names = omega (arith, c.names-test.true) in
    let name = (slice_at names i).now in
    let seen = keys c.names.seen in
    let found = c.place_from-place-in-names.ensures in
    let absent : list_any (bytes_eq name) (spellings seen) ≡ false = sym (text_among seen name) ∙ not-true _ (sym c.in_ok-insert.ensures.added ∙ c.if-not-branch.false) in
    let put : spellings (keys c.insert.new.self) ≡ spellings seen ++ name ∷ [] = spellings-put seen (record { text = slice_at names i }) (keys c.insert.new.self) c.in_ok-insert.ensures.keys absent in
    record {
      seen = λ class_of each.
          put ∙ ap (λ xs. xs ++ name ∷ []) (c.names.invariant.seen class_of each)
          ∙ sym (class_more names classes class_of k each i inside (c.names.invariant.there (omega (arith, inside, c.requires))))
          ∙ sym (class_same names classes class_of k each (i + 1) c.place_from-place-in-names.result found.later (omega (arith, found.within, c.requires)) found.before);
      differ = ap has_repeated put ∙ repeated_push (spellings seen) name c.names.invariant.differ absent;
      within = found.within;
      there = found.there;
    }
