use Rattle.std.proofs.Common.{sym}
use Rattle.serde_json.specs.View.{view}
use Rattle.sm_json.specs.Parts.{two_in}
use Rattle.sm_json.specs.Reading.{instance_added, two_added}
use Rattle.sm_json.proofs.AddLemmas.{adds_same}
use Rattle.sm_json.proofs.ReadLemmas.{two_text}
use Rattle.sm_json.proofs.reading.put_two_sides.Goals as goal

pub returns-in-Some-get : goal.returns-in-Some-get
returns-in-Some-get c =
    let kind = c.args.kind in
    let d = view c.args.value.now in
    let p = view c.in-Some.proposers.now in
    let r = view c.in-Some-get.reviewers.now in
    adds_same c.args.into.now.bytes c.put_sides.new.into.bytes (two_added kind d p r) (instance_added (two_in kind d)) c.put_sides.result
    (sym (two_text kind d p r c.requires.only c.in-Some.ensures c.in-Some-get.ensures)) c.put_sides.ensures
