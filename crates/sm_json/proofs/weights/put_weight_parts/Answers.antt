use Rattle.std.proofs.Common.{codes, Some, [], ◌∷◌, ◌++◌, map, option_map}
use Rattle.std.specs.Fmt.{signed_decimal}
use Rattle.serde_json.specs.View.{view}
use Rattle.sm_text.specs.Lines.{LF}
use Rattle.sm_instance_lines.specs.Printed.{pair_text}
use Rattle.sm_json.specs.Values.{weight_in}
use Rattle.sm_json.specs.Parts.{both_in, second_in}
use Rattle.sm_json.specs.JsonText.{second_text}
use Rattle.sm_json.specs.Adding.{joined}
use Rattle.sm_json.proofs.AddLemmas.{adds_then}
use Rattle.sm_json.proofs.weights.put_weight_parts.Goals as goal

pub returns : goal.returns
returns c =
    adds_then c.args.into.now.bytes c.put_both.new.into.bytes c.put_end.new.into.bytes (option_map (λ pair. codes "weight " ++ pair_text pair) (both_in (view c.args.proposer.now) (view c.args.reviewer.now))) (joined (option_map (λ z. 32 ∷ signed_decimal z) (weight_in (view c.args.first.now))) (joined (option_map second_text (second_in (map view c.args.more.now))) (Some (LF ∷ [])))) c.put_end.result c.in_ok-put_both.ensures
    (adds_then c.put_both.new.into.bytes c.put_number.new.into.bytes c.put_end.new.into.bytes (option_map (λ z. 32 ∷ signed_decimal z) (weight_in (view c.args.first.now))) (joined (option_map second_text (second_in (map view c.args.more.now))) (Some (LF ∷ []))) c.put_end.result c.in_ok-put_number.ensures
    (adds_then c.put_number.new.into.bytes c.put_second.new.into.bytes c.put_end.new.into.bytes (option_map second_text (second_in (map view c.args.more.now))) (Some (LF ∷ [])) c.put_end.result c.in_ok-put_second.ensures
    (c.put_end.ensures)))
