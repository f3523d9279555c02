use Rattle.std.proofs.Common.{◌≡◌, ◌&&◌, ◌||◌, ◌++◌, ◌∷◌, [], ℕ, List, true, false, is_none, is_some, refl, sym, ap, ◌∙◌}
use Rattle.std.specs.Borrow.{Bor}
use Rattle.std.specs.List.{list_any}
use Rattle.std.specs.Map.{lookup}
use Rattle.std.specs.Option.{option_map}
use Rattle.std.specs.Str.{bytes_eq}
use Rattle.indexmap.proofs.CallerLemmas.{insert_entry-new}
use Rattle.sm_agents.specs.Named.{is_given_to}
use Rattle.sm_keys.specs.Keys.{spelled}
use Rattle.sm_keys.specs.declared.text_key.TextKey.{TextKey}
use Rattle.sm_reader.specs.Judging.{weight_in, second_in}
use Rattle.sm_reader.specs.Draft.{weights_in}
use Rattle.sm_reader.specs.declared.draft.Weights.{Weights}
use Rattle.sm_reader.proofs.PairLemmas.{weighed_among, weight_fault_is, given_is}
use Rattle.sm_reader.proofs.judging.add_weight.Goals as goal
use Rattle.sm_agents.proofs.SecondLemmas.{none_of}

pub returns-then-is_some-clause-fault : goal.returns-then-is_some-clause-fault
returns-then-is_some-clause-fault c =
    let p = c.args.proposer.now in
    let r = c.args.reviewer.now in
    let further = option_map (λ (x : Bor (List ℕ)). x.now) c.args.weights.second in
    let spelled_out = c.in-Some.ensures in
    let numbers : (is_none (weight_in c.args.weights.weight.now) || is_none (second_in further)) ≡ false = rw (spelled_out.weight, spelled_out.second) refl in
    let met : list_any (is_given_to p r) (weights_in c.args.draft.now) ≡ true =
    sym (weighed_among p r c.args.draft.now.weights.entries)
    ∙ ap (λ (es : List ((TextKey × TextKey) × Weights)). is_some (lookup (λ (k : TextKey × TextKey). bytes_eq p (spelled k.0) && bytes_eq r (spelled k.1)) es)) (sym c.in_ok-make_ready.ensures)
    ∙ sym (ap is_some c.in_ok-insert.ensures.old) ∙ sym c.is_some.ensures ∙ c.if-is_some.true in
    (weight_fault_is (weights_in c.args.draft.now) p r c.args.weights.weight.now further false true c.in_ok-check_pair.ensures.names numbers met, refl)

pub returns-clause-put : goal.returns-clause-put
returns-clause-put c =
    let d = c.args.draft.now in
    let p = c.args.proposer.now in
    let r = c.args.reviewer.now in
    let run = c.args.weights.weight.now in
    let further = option_map (λ (x : Bor (List ℕ)). x.now) c.args.weights.second in
    let mid = c.make_ready.new.map in
    let weights = c.in-Some.weights in
    let key : TextKey × TextKey = (record { text = c.args.proposer }, record { text = c.args.reviewer }) in
    let spelled_out = c.in-Some.ensures in
    let numbers : (is_none (weight_in run) || is_none (second_in further)) ≡ false = rw (spelled_out.weight, spelled_out.second) refl in
    let absent = sym c.is_some.ensures ∙ c.if-is_some.false in
    let none = sym c.in_ok-insert.ensures.old ∙ none_of c.in_ok-insert.field-0 absent in
    let met : list_any (is_given_to p r) (weights_in d) ≡ false =
    sym (weighed_among p r d.weights.entries)
    ∙ ap (λ (es : List ((TextKey × TextKey) × Weights)). is_some (lookup (λ (k : TextKey × TextKey). bytes_eq p (spelled k.0) && bytes_eq r (spelled k.1)) es)) (sym c.in_ok-make_ready.ensures)
    ∙ sym (ap is_some c.in_ok-insert.ensures.old) ∙ absent in
    record {
      added = (key, weights);
      faultless = weight_fault_is (weights_in d) p r run further false false c.in_ok-check_pair.ensures.names numbers met;
      given = given_is p r run further c.args.line weights spelled_out;
      weights = c.in_ok-insert.ensures.entries ∙ insert_entry-new _ mid key weights none ∙ ap (λ es. es ++ (key, weights) ∷ []) c.in_ok-make_ready.ensures;
      changes = refl;
    }
