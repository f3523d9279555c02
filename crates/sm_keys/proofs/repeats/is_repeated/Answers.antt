use Rattle.std.proofs.Common.{◌≡◌, ◌++◌, ◌∷◌, [], ◌∙◌, ap, sym, suc, take, drop, false, true, arith}
use Rattle.std.specs.List.{list_any}
use Rattle.std.specs.Str.{bytes_eq}
use Rattle.std.proofs.lemmas.Bool.{not-true, not-false}
use Rattle.indexmap.specs.IndexSet.{keys}
use Rattle.sm_text.specs.Slices.{texts_of}
use Rattle.sm_keys.specs.Keys.{spellings}
use Rattle.sm_keys.specs.Tables.{has_repeated}
use Rattle.sm_keys.proofs.ListingLemmas.{repeated_among, repeated_push}
use Rattle.sm_keys.proofs.RepeatLemmas.{slice_at, text_more, text_between}
use Rattle.sm_keys.proofs.TextKeyLemmas.{text_among, spellings-put}
use Rattle.sm_keys.proofs.repeats.is_repeated.Goals as goal

pub returns-then-not-branch : goal.returns-then-not-branch
returns-then-not-branch c =
    let names = c.args.names.now in
    let texts = texts_of names in
    let i = c.names.place in
    let name = (slice_at names i).now in
    let seen = keys c.names.seen in
    let met : list_any (bytes_eq name) (spellings seen) ≡ true = sym (text_among seen name) ∙ not-false _ (sym c.in_ok-insert.ensures.added ∙ c.if-not-branch.true) in
    let among : list_any (bytes_eq name) (take i texts) ≡ true = ap (list_any (bytes_eq name)) (sym c.names.invariant.seen) ∙ met in
    sym (ap has_repeated (text_between names i (omega (arith, c.names-test.true))) ∙ repeated_among (take i texts) (drop (suc i) texts) name among)

pub names-preserved : goal.names-preserved
names-preserved c =
    let names = c.args.names.now in
    let i = c.names.place in
    let name = (slice_at names i).now in
    let seen = keys c.names.seen in
    let absent : list_any (bytes_eq name) (spellings seen) ≡ false = sym (text_among seen name) ∙ not-true _ (sym c.in_ok-insert.ensures.added ∙ c.if-not-branch.false) in
    let put : spellings (keys c.insert.new.self) ≡ spellings seen ++ name ∷ [] = spellings-put seen (record { text = slice_at names i }) (keys c.insert.new.self) c.in_ok-insert.ensures.keys absent in
    record {
      seen = put ∙ ap (λ xs. xs ++ name ∷ []) c.names.invariant.seen ∙ sym (text_more names i (omega (arith, c.names-test.true)));
      differ = ap has_repeated put ∙ repeated_push (spellings seen) name c.names.invariant.differ absent;
    }
