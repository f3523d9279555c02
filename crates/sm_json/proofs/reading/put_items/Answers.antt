use Rattle.std.proofs.Common.{codes, []}
use Rattle.serde_json.specs.View.{view}
use Rattle.serde_json.specs.Find.{get}
use Rattle.sm_json.specs.Parts.{by_member}
use Rattle.sm_json.specs.Adding.{joined}
use Rattle.sm_json.specs.Roles.{pairs_added, weights_added, order_added}
use Rattle.sm_json.proofs.AddLemmas.{adds_then}
use Rattle.sm_json.proofs.reading.put_items.Goals as goal

pub returns : goal.returns
returns c =
    adds_then c.args.into.now.bytes c.put_weights.new.into.bytes c.put_order.new.into.bytes (by_member [] weights_added (get (codes "weights") (view c.args.value.now))) (joined (by_member [] (pairs_added (codes "force ")) (get (codes "forced") (view c.args.value.now))) (joined (by_member [] (pairs_added (codes "forbid ")) (get (codes "forbidden") (view c.args.value.now))) (by_member [] order_added (get (codes "order") (view c.args.value.now))))) c.put_order.result c.in_ok-put_weights.ensures
    (adds_then c.put_weights.new.into.bytes c.put_pairs.new.into.bytes c.put_order.new.into.bytes (by_member [] (pairs_added (codes "force ")) (get (codes "forced") (view c.args.value.now))) (joined (by_member [] (pairs_added (codes "forbid ")) (get (codes "forbidden") (view c.args.value.now))) (by_member [] order_added (get (codes "order") (view c.args.value.now)))) c.put_order.result c.in_ok-put_pairs.ensures
    (adds_then c.put_pairs.new.into.bytes c.put_pairs-2.new.into.bytes c.put_order.new.into.bytes (by_member [] (pairs_added (codes "forbid ")) (get (codes "forbidden") (view c.args.value.now))) (by_member [] order_added (get (codes "order") (view c.args.value.now))) c.put_order.result c.in_ok-put_pairs-2.ensures
    (c.put_order.ensures)))
