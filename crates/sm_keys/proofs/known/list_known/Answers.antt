use Rattle.std.proofs.Common.{◌≡◌, ◌+◌, ◌++◌, ◌∷◌, [], set, arith}
use Rattle.std.specs.Prelude.{vec_len}
use Rattle.sm_keys.specs.Keys.{key_texts}
use Rattle.sm_keys.specs.Lines.{ListsLineFurther}
use Rattle.sm_keys.proofs.LineLemmas.{line_further}
use Rattle.sm_keys.proofs.known.list_known.Goals as goal

pub names-preserved : goal.names-preserved
names-preserved c =
    let texts = key_texts c.args.known.names.now in
    let line = c.args.line.now in
    let from = vec_len c.args.indexes.now in
    let before = c.args.indexes.now.items in
    let i = vec_len c.names.indexes in
    let index = c.in-Some.index in
    let next = c.in-Some.next in
    let long : vec_len c.push_reserved.new.self ≡ i + 1 = omega (arith, c.push_reserved.ensures.len) in
    let more : ListsLineFurther texts c.args.stamps.now (set c.names.stamps index c.args.stamp) line c.args.stamp c.args.from next from (i + 1) before (c.names.indexes.items ++ index ∷ []) =
    line_further texts c.args.stamps.now line c.args.stamp c.args.from from before c.names.stamps c.names.at next i c.names.indexes.items index c.names.invariant.listed c.requires.some c.in-Some.ensures (c.stamp_name.ensures.other c.if-not-stamp_name.false) in
    record {
      listed = rw (c.push_reserved.ensures.items, long, c.stamp_name.ensures.stamped c.if-not-stamp_name.false) more;
      behind = omega (arith, c.names.invariant.behind, c.in-Some.ensures.later);
      room = omega (arith, c.push_reserved.ensures.capacity, c.names.invariant.room, long, c.in-Some.ensures.later, c.in-Some.ensures.within);
    }

pub ends-preserved : goal.ends-preserved
ends-preserved c =
    let texts = key_texts c.args.known.names.now in
    let line = c.args.line.now in
    let from = vec_len c.args.indexes.now in
    let before = c.args.indexes.now.items in
    let i = vec_len c.ends.indexes in
    let index = c.in-Some-name_at_end.index in
    let next = c.in-Some-name_at_end.next in
    let long : vec_len c.push_reserved-in-Some-name_at_end.new.self ≡ i + 1 = omega (arith, c.push_reserved-in-Some-name_at_end.ensures.len) in
    let more : ListsLineFurther texts c.args.stamps.now (set c.ends.stamps index c.args.stamp) line c.args.stamp c.args.from next from (i + 1) before (c.ends.indexes.items ++ index ∷ []) =
    line_further texts c.args.stamps.now line c.args.stamp c.args.from from before c.ends.stamps c.ends.at next i c.ends.indexes.items index c.ends.invariant.listed c.requires.some c.in-Some-name_at_end.ensures (c.stamp_name-in-Some-name_at_end.ensures.other c.if-not-stamp_name-2.false) in
    record {
      listed = rw (c.push_reserved-in-Some-name_at_end.ensures.items, long, c.stamp_name-in-Some-name_at_end.ensures.stamped c.if-not-stamp_name-2.false) more;
      behind = omega (arith, c.ends.invariant.behind, c.in-Some-name_at_end.ensures.later);
      room = omega (arith, c.push_reserved-in-Some-name_at_end.ensures.capacity, c.ends.invariant.room, long, c.in-Some-name_at_end.ensures.later, c.in-Some-name_at_end.ensures.within);
    }
