use Rattle.std.proofs.Common.{◌≡◌, ◌+◌, ◌<◌, ℕ, List, [], Option, length, map, get_or, set, refl, ap, subst, sym, ◌∙◌, arith}
use Rattle.std.proofs.lemmas.Bool.{eqb-true, eq-eqb, false≢true}
use Rattle.std.proofs.lemmas.List.{length-map, length-set}
use Rattle.sm_lists.specs.Rows.{row, place_on}
use Rattle.sm_lists.specs.Crosses.{found_on, cross_place}
use Rattle.sm_lists.specs.Namings.{naming_at}
use Rattle.sm_lists.specs.Held.{held_in}
use Rattle.sm_lists.specs.Kept.{noted_of}
use Rattle.sm_lists.specs.declared.naming.Naming.{Naming}
use Rattle.sm_lists.proofs.RowLemmas.{row_in_range}
use Rattle.sm_lists.proofs.NamingLemmas.{naming_read}
use Rattle.sm_lists.proofs.FirstLemmas.{AreFirst}
use Rattle.sm_lists.proofs.CrossLemmas.{AreWritten, held_in-written, lengths_kept, length-held_in, written_more, written_all}
use Rattle.sm_lists.proofs.BackLemmas.{kept_same, kept_more, back_start, back_next, back_all, last_seen, last_fresh}
use Rattle.sm_lists.proofs.crosses.write_namings.Goals as goal

pub loop-naming-init : goal.loop-naming-init
loop-naming-init g c =
    record {
      last = record { none_yet = λ _. refl; there = λ e l. absurd (omega arith) };
      one_each = refl;
      as_long = λ a. refl;
      written = λ rows others named notes start.
          record {
            one_each = start.one_each;
            as_long = start.as_long;
            earlier = start.written;
            later = λ a i l. start.unwritten a i (omega arith);
            here = λ e l. absurd (omega arith);
          };
      kept = kept_same _;
      first = λ rows others named notes long none. back_start _ _ _ none;
    }

pub put-requires-clause-in_range : goal.put-requires-clause-in_range
put-requires-clause-in_range g c =
    let k = c.loop-naming.naming-index in
    let read = naming_read g.N.KeptNaming.kept c.args.namings.now k c.naming-item.result c.naming-by.result c.loop-naming-test.true c.naming-item.is c.naming-by.ensures in
    let by = ap (λ (y : Naming). y.by) read in
    let in_range = c.requires.by k c.loop-naming-test.true in
    let same = c.loop-naming.invariant.one_each in
    omega arith

pub put-requires-clause-on_list : goal.put-requires-clause-on_list
put-requires-clause-on_list g c =
    let k = c.loop-naming.naming-index in
    let read = naming_read g.N.KeptNaming.kept c.args.namings.now k c.naming-item.result c.naming-by.result c.loop-naming-test.true c.naming-item.is c.naming-by.ensures in
    let y : Naming = c.naming-by.result in
    let old = held_in g.C.KeptPlace.kept c.args.of_rows.now in
    let On : Naming → Type 0 = λ z. z.place < length (get_or old z.by []) in
    let on : On y = subst On (sym read) (c.requires.on_list k c.loop-naming-test.true) in
    let as_long = c.loop-naming.invariant.as_long y.by in
    let here = length-held_in g.C.KeptPlace.kept c.loop-naming.of_rows y.by in
    omega arith

pub put_first-requires-clause-fits : goal.put_first-requires-clause-fits
put_first-requires-clause-fits g c =
    let k = c.loop-naming.naming-index in
    let read = naming_read g.N.KeptNaming.kept c.args.namings.now k c.naming-item.result c.naming-by.result c.loop-naming-test.true c.naming-item.is c.naming-by.ensures in
    let place = ap (λ (y : Naming). y.place) read in
    let fits = c.requires.places_fit k c.loop-naming-test.true in
    omega arith

pub loop-naming-preserved : goal.loop-naming-preserved
loop-naming-preserved g c =
    let k = c.loop-naming.naming-index in
    let b = c.args.b in
    let f = g.C.KeptPlace.kept in
    let y : Naming = c.naming-by.result in
    let namings : List Naming = map g.N.KeptNaming.kept c.args.namings.now in
    let read : y ≡ naming_at namings k = naming_read g.N.KeptNaming.kept c.args.namings.now k c.naming-item.result y c.loop-naming-test.true c.naming-item.is c.naming-by.ensures in
    let by : y.by ≡ (naming_at namings k).by = ap (λ (y : Naming). y.by) read in
    let place : y.place ≡ (naming_at namings k).place = ap (λ (y : Naming). y.place) read in
    let long = length-map c.args.namings.now g.N.KeptNaming.kept in
    let lt : k < length namings = omega arith in
    let before = c.loop-naming.invariant in
    let lists = c.loop-naming.of_rows in
    let crosses : List (List (Option ℕ)) = held_in f lists in
    let o : Option ℕ = f c.of.result in
    let new = ap (map (map f)) c.put.ensures ∙ held_in-written f lists y.by y.place c.of.result in
    record {
      last = record { none_yet = λ none. absurd (omega arith); there = λ e l. let is : k ≡ e = omega arith in by ∙ ap (λ i. (naming_at namings i).by) is };
      one_each = ap (λ l. length l) c.put.ensures ∙ length-set lists y.by _ ∙ before.one_each;
      as_long = λ a. ap (λ (l : List (List (Option ℕ))). length (get_or l a [])) new ∙ lengths_kept crosses y.by y.place o a ∙ before.as_long a;
      written = λ rows others named notes start.
          let listed : (naming_at namings k).by < length rows = row_in_range rows (naming_at namings k).by (naming_at namings k).place (named.on_list k lt) in
          let is : o ≡ cross_place others b (naming_at namings k).by = c.of.ensures ∙ c.place-at.ensures ∙ ap (noted_of c.args.listed.now.places) by ∙ notes (naming_at namings k).by listed in
          let More : Naming → Type 0 = λ z. AreWritten rows others b namings (k + 1) (set crosses z.by (set (get_or crosses z.by []) z.place o)) in
          rw new (subst More (sym read) (written_more o named lt (before.written rows others named notes start) is));
      kept = kept_more before.kept c.put_first.ensures.kept;
      first = λ rows others named notes as_long none.
          let listed : (naming_at namings k).by < length rows = row_in_range rows (naming_at namings k).by (naming_at namings k).place (named.on_list k lt) in
          let few : (naming_at namings k).by < 4294967295 = let in_range = c.requires.by k c.loop-naming-test.true in let few = c.requires.few in omega arith in
          let is : c.place-at.result ≡ found_on (row others b) (naming_at namings k).by = c.place-at.ensures ∙ ap (noted_of c.args.listed.now.places) by ∙ notes (naming_at namings k).by listed in
          back_next (row others b) namings k c.put_first.ensures.put place (before.kept.as_long b ∙ as_long) is
          (λ same. last_seen before.last few (sym by ∙ eqb-true y.by c.loop-naming.last same))
          (λ other. last_fresh named lt before.last (λ same. false≢true (sym other ∙ eq-eqb y.by c.loop-naming.last (by ∙ same))))
          (before.first rows others named notes as_long none);
    }

pub returns-clause-written : goal.returns-clause-written
returns-clause-written g c =
    let namings : List Naming = map g.N.KeptNaming.kept c.args.namings.now in
    let long = length-map c.args.namings.now g.N.KeptNaming.kept in
    let whole : c.loop-naming.naming-index ≡ length namings = omega arith in
    λ rows others named notes start.
    let All : ℕ → Type 0 = λ k. AreWritten rows others c.args.b namings k (held_in g.C.KeptPlace.kept c.loop-naming.of_rows) in
    written_all named (subst All whole (c.loop-naming.invariant.written rows others named notes start))

pub returns-clause-first : goal.returns-clause-first
returns-clause-first g c =
    let namings : List Naming = map g.N.KeptNaming.kept c.args.namings.now in
    let b = c.args.b in
    let long = length-map c.args.namings.now g.N.KeptNaming.kept in
    let whole : c.loop-naming.naming-index ≡ length namings = omega arith in
    let crosses : List (Option ℕ) = get_or (held_in g.C.KeptPlace.kept c.loop-naming.of_others) b [] in
    λ rows others named sides notes as_long none.
    let All : ℕ → Type 0 = λ k. AreFirst (λ e. place_on (row others b) (naming_at namings e).by) (λ e. (naming_at namings e).place) k crosses in
    back_all rows others named sides notes (c.loop-naming.invariant.kept.as_long b ∙ as_long) (subst All whole (c.loop-naming.invariant.first rows others named notes as_long none))
