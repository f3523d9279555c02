use Rattle.std.proofs.Common.{◌≡◌, ◌∙◌, ◌+◌, ◌<◌, ◌++◌, ◌∷◌, [], ℕ, List, get_or, set, length, sym, subst, arith}
use Rattle.std.specs.Prelude.{vec_len}
use Rattle.std.specs.Borrow.{Bor}
use Rattle.std.proofs.lemmas.List.{get_or-map, length-map}
use Rattle.sm_text.specs.Slices.{texts_of}
use Rattle.sm_keys.specs.Tables.{ListsFurther}
use Rattle.sm_keys.specs.Keys.{key_texts, text_of}
use Rattle.sm_keys.proofs.ListingLemmas.{further_more}
use Rattle.sm_keys.proofs.names.list_next.Goals as goal

pub entries-preserved : goal.entries-preserved
entries-preserved c =
    let texts = key_texts c.args.names.now in
    let entries = c.args.entries.now in
    let d : Bor (List ℕ) = record { ref_ptr = (0, 0); now = [] } in
    let from = vec_len c.args.indexes.now in
    let before = c.args.indexes.now.items in
    let i = c.entries.place in
    let index = c.in-Some.index in
    let now = c.entries.stamps in
    let at = c.in-Some.ensures in
    let inside : i < length entries = omega (arith, c.entries-test.true) in
    let long : vec_len c.push_reserved.new.self ≡ i + 1 = omega (arith, c.push_reserved.ensures.len, c.entries.invariant.place) in
    let more : ListsFurther texts c.args.stamps.now (set now index c.args.line) (texts_of entries) c.args.line from (i + 1) before (c.entries.indexes.items ++ index ∷ []) =
    further_more texts c.args.stamps.now (texts_of entries) c.args.line from before now i c.entries.indexes.items (get_or entries i d).now index
    (subst (λ n. ListsFurther texts c.args.stamps.now now (texts_of entries) c.args.line from n before c.entries.indexes.items) c.entries.invariant.place c.entries.invariant.listed)
    c.requires.some (omega (arith, inside, length-map entries (λ (x : Bor (List ℕ)). x.now))) (get_or-map (λ (x : Bor (List ℕ)). x.now) entries i d [] inside) at c.if-stamps-index.false
    (c.requires.each ∙ sym (length-map c.args.names.now text_of)) in
    record {
      listed = rw (c.push_reserved.ensures.items, long) more;
      place = long;
      room = omega (arith, c.push_reserved.ensures.capacity, c.entries.invariant.room);
    }
