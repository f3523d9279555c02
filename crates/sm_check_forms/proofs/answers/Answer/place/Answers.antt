use Rattle.std.proofs.Common.{◌≡◌, ◌≤◌, ◌∙◌, ◌∷◌, ◌++◌, [], ap, refl, arith, length}
use Rattle.std.specs.Prelude.{filter_map}
use Rattle.std.proofs.lemmas.Bool.Decides.{nat_tests}
use Rattle.sm_report.specs.Lines.{line_of}
use Rattle.sm_check_forms.specs.Layouts.{behind}
use Rattle.sm_check_forms.specs.Forms.{opening_of}
use Rattle.sm_check_forms.specs.Lefts.{layouts_left}
use Rattle.sm_check_forms.specs.Taking.{lines_in}
use Rattle.sm_check_forms.proofs.TakingLemmas.{lefts_next, begun_next, some_more, not_empty}
use Rattle.sm_check_forms.proofs.answers.Answer.place.Goals as goal

pub returns : goal.returns
returns c =
    let input = c.args.input.now in
    let line = line_of c.args.line.now in
    let old = c.args.self.now in
    let e = c.is_empty.ensures in
    let t = c.if-is_empty.false in
    let some = not_empty old.lines.items (let h : 1 ≤ length old.lines.items = grind (arith, nat_tests) in h) in
    let next : layouts_left c.take.new.self ≡ filter_map (λ parts. behind parts (opening_of input line)) (layouts_left old.left) =
    c.take.ensures.left ∙ ap (λ o. filter_map (λ parts. behind parts o) (layouts_left old.left)) (c.opening_of.ensures.opening input) in
    let lefts = lefts_next input (lines_in old) (layouts_left old.left) (layouts_left c.take.new.self) line some c.requires.so_far.lefts next in
    record {
      same_lines = refl;
      right = c.are_begun.ensures ∙ begun_next input (lines_in old ++ line ∷ []) (layouts_left c.take.new.self) (some_more (lines_in old) line) lefts;
      lefts = λ _. lefts;
      running = c.take.ensures.running;
    }
