use Rattle.std.proofs.Common.{◌≡◌, ◌<◌, ◌∙◌, sym, ap, true, [], length, arith}
use Rattle.std.specs.Str.{bytes_eq}
use Rattle.std.proofs.lemmas.List.{get_or-map, length-map}
use Rattle.std.proofs.lemmas.Bool.Decides.{nat_tests}
use Rattle.sm_keys.specs.Keys.{text_of}
use Rattle.sm_keys.proofs.TextLemmas.{equal_text}
use Rattle.sm_keys.proofs.names.has_index.Goals as goal

pub returns-in-Some : goal.returns-in-Some
returns-in-Some c = λ yes.
    let names = c.args.names.now in
    let i = c.args.index in
    let known = c.in-Some.known.now in
    let test = c.in-Some.ensures.lookup.0 in
    let inside : i < length names = grind (arith, nat_tests) in
    let same : bytes_eq known.text.now c.args.name.text.now ≡ true = sym c.eq.ensures ∙ yes in
    record {
      in_range = omega (arith, length-map names text_of);
      names = get_or-map text_of names i known [] inside ∙ ap text_of (sym c.in-Some.ensures.lookup.1) ∙ equal_text known.text.now c.args.name.text.now same;
    }
