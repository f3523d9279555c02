use Rattle.std.proofs.Common.{◌≡◌, ◌<◌, ◌≤◌, ℕ, List, [], Option, None, length, map, get_or, ap, sym, subst, ◌∙◌, arith, ⊎_elim}
use Rattle.std.proofs.lemmas.Bool.{cases_eq}
use Rattle.std.proofs.lemmas.List.{length-map, length-replicate}
use Rattle.sm_lists.specs.Rows.{row, lists_in}
use Rattle.sm_lists.specs.Crosses.{found_on, cross_place, AreCrossPlacesOf}
use Rattle.sm_lists.specs.Namings.{naming_at, AreNamingsOf}
use Rattle.sm_lists.specs.Held.{held_in}
use Rattle.sm_lists.specs.Kept.{noted_of, Noted, AreKeptBut, HaveFirst, HaveAll}
use Rattle.sm_lists.proofs.RowLemmas.{row_in_range}
use Rattle.sm_lists.proofs.NamingLemmas.{namings_read}
use Rattle.sm_lists.proofs.CrossLemmas.{places_start, places_end, noted_fits, held_in-filled}
use Rattle.sm_lists.proofs.BackLemmas.{kept_more, own_places}
use Rattle.sm_lists.proofs.crosses.cross_places.Goals as goal

pub loop-b-init : goal.loop-b-init
loop-b-init g c =
    let f = g.C.KeptPlace.kept in
    let start =
    places_start (lists_in c.args.others.now) (lists_in c.args.rows.now) (held_in f c.in_ok-of_others.of_others)
    (ap (map (map f)) c.in_ok-of_others.ensures ∙ held_in-filled f c.of-2.result None (lists_in c.args.others.now) c.of-2.ensures) in
    record {
      listed_rounds = ap (λ (n : Noted). n.rounds) c.in_ok-listed.ensures;
      listed_long = ap (λ (n : Noted). length n.places) c.in_ok-listed.ensures ∙ length-replicate _ _;
      before = places_start (lists_in c.args.rows.now) (lists_in c.args.others.now) (held_in f c.in_ok-of_rows.of_rows)
          (ap (map (map f)) c.in_ok-of_rows.ensures ∙ held_in-filled f c.of.result None (lists_in c.args.rows.now) c.of.ensures);
      back_each = start.one_each;
      back_long = start.as_long;
      back_of = λ d l. absurd (omega arith);
      back_none = λ d k l. start.unwritten d k (omega arith);
    }

pub write_namings-requires-clause-few : goal.write_namings-requires-clause-few
write_namings-requires-clause-few g c =
    let same = c.loop-b.invariant.before.one_each in
    let held = length-map c.loop-b.of_rows (map g.C.KeptPlace.kept) in
    let few = c.requires.rows.agents in
    omega arith

pub write_namings-requires-clause-by : goal.write_namings-requires-clause-by
write_namings-requires-clause-by g c = λ e l.
    let rows : List (List ℕ) = lists_in c.args.rows.now in
    let items = c.at.result.now in
    let many = length-map c.args.others.now (λ list. list.now) in
    let named : AreNamingsOf rows (length rows) 0 c.loop-b.b (map g.N.KeptNaming.kept items) =
    namings_read g.N.KeptNaming.kept c.args.namings.now c.loop-b.b items c.requires.namings (omega arith) c.at.ensures in
    let long = length-map items g.N.KeptNaming.kept in
    let x = naming_at (map g.N.KeptNaming.kept items) e in
    let in_range = row_in_range rows x.by x.place (named.on_list e (omega arith)) in
    let same = c.loop-b.invariant.before.one_each in
    let held = length-map c.loop-b.of_rows (map g.C.KeptPlace.kept) in
    omega arith

pub write_namings-requires-clause-on_list : goal.write_namings-requires-clause-on_list
write_namings-requires-clause-on_list g c = λ e l.
    let rows : List (List ℕ) = lists_in c.args.rows.now in
    let items = c.at.result.now in
    let many = length-map c.args.others.now (λ list. list.now) in
    let named : AreNamingsOf rows (length rows) 0 c.loop-b.b (map g.N.KeptNaming.kept items) =
    namings_read g.N.KeptNaming.kept c.args.namings.now c.loop-b.b items c.requires.namings (omega arith) c.at.ensures in
    let long = length-map items g.N.KeptNaming.kept in
    let x = naming_at (map g.N.KeptNaming.kept items) e in
    let on = named.on_list e (omega arith) in
    let same = c.loop-b.invariant.before.as_long x.by in
    omega arith

pub write_namings-requires-clause-places_fit : goal.write_namings-requires-clause-places_fit
write_namings-requires-clause-places_fit g c = λ e l.
    let rows : List (List ℕ) = lists_in c.args.rows.now in
    let items = c.at.result.now in
    let many = length-map c.args.others.now (λ list. list.now) in
    let named : AreNamingsOf rows (length rows) 0 c.loop-b.b (map g.N.KeptNaming.kept items) =
    namings_read g.N.KeptNaming.kept c.args.namings.now c.loop-b.b items c.requires.namings (omega arith) c.at.ensures in
    let long = length-map items g.N.KeptNaming.kept in
    let x = naming_at (map g.N.KeptNaming.kept items) e in
    let on = named.on_list e (omega arith) in
    let short = c.requires.short_rows.lists x.by in
    omega arith

pub write_namings-requires-clause-fits : goal.write_namings-requires-clause-fits
write_namings-requires-clause-fits g c =
    let list = row (lists_in c.args.others.now) c.loop-b.b in
    let same = c.note_list-repeats.ensures.one_each in
    noted_fits c.note_list-repeats.new.notes.places (λ _. list) (λ a. a) g.C.KeptPlace.most (λ _. c.requires.short_others.lists c.loop-b.b)
    (λ a l. c.note_list-repeats.ensures.found a (omega arith) ∙ ap (λ s. found_on s a) c.lent_at-list.ensures)

pub write_namings-requires-clause-in_range : goal.write_namings-requires-clause-in_range
write_namings-requires-clause-in_range g c =
    let many = length-map c.args.others.now (λ list. list.now) in
    let same = c.loop-b.invariant.back_each in
    let held = length-map c.loop-b.of_others (map g.C.KeptPlace.kept) in
    omega arith

pub write_namings-requires-clause-noted : goal.write_namings-requires-clause-noted
write_namings-requires-clause-noted g c =
    let list : List ℕ = row (lists_in c.args.others.now) c.loop-b.b in
    let crosses : List (Option ℕ) = get_or (held_in g.C.KeptPlace.kept c.loop-b.of_others) c.loop-b.b [] in
    let same = c.note_list-repeats.ensures.one_each in
    let le : length list ≤ length crosses = let long = c.loop-b.invariant.back_long c.loop-b.b in omega arith in
    noted_fits c.note_list-repeats.new.notes.places (λ _. list) (λ a. a) (length crosses) (λ _. le)
    (λ a l. c.note_list-repeats.ensures.found a (omega arith) ∙ ap (λ s. found_on s a) c.lent_at-list.ensures)

pub share_places-requires-clause-in_range : goal.share_places-requires-clause-in_range
share_places-requires-clause-in_range g c =
    let many = length-map c.args.others.now (λ list. list.now) in
    let each = c.loop-b.invariant.back_each in
    let same = c.write_namings.ensures.kept.one_each in
    let held = length-map c.write_namings.new.of_others (map g.C.KeptPlace.kept) in
    omega arith

pub share_places-requires-clause-as_long : goal.share_places-requires-clause-as_long
share_places-requires-clause-as_long g c =
    c.write_namings.ensures.kept.as_long c.loop-b.b ∙ c.loop-b.invariant.back_long c.loop-b.b ∙ sym (ap (λ (list : List ℕ). length list) c.lent_at-list.ensures)

pub loop-b-preserved : goal.loop-b-preserved
loop-b-preserved g c =
    let rows : List (List ℕ) = lists_in c.args.rows.now in
    let others : List (List ℕ) = lists_in c.args.others.now in
    let b = c.loop-b.b in
    let f = g.C.KeptPlace.kept in
    let before = c.loop-b.invariant in
    let items = c.at.result.now in
    let many = length-map c.args.others.now (λ list. list.now) in
    let all = length-map c.args.rows.now (λ list. list.now) in
    let named : AreNamingsOf rows (length rows) 0 b (map g.N.KeptNaming.kept items) =
    namings_read g.N.KeptNaming.kept c.args.namings.now b items c.requires.namings (omega arith) c.at.ensures in
    let noted : List (Option ℕ) = c.note_list-repeats.new.notes.places in
    let listed_same = c.note_list-repeats.ensures.one_each in
    let listed_long = before.listed_long in
    let sides : length noted ≡ length rows = omega arith in
    let notes : (a : ℕ) → a < length rows → noted_of noted a ≡ cross_place others b a =
    λ a l. c.note_list-repeats.ensures.found a (omega arith) ∙ ap (λ s. found_on s a) c.lent_at-list.ensures in
    let crosses : List (List (Option ℕ)) = held_in f c.share_places.new.crosses in
    let kept : AreKeptBut b (held_in f c.loop-b.of_others) crosses = kept_more c.write_namings.ensures.kept c.share_places.ensures.kept in
    let own : ℕ → Option ℕ = λ a. cross_place rows a b in
    let first : HaveFirst own (row others b) noted (get_or (held_in f c.write_namings.new.of_others) b []) =
    c.write_namings.ensures.first rows others named sides notes (before.back_long b) (λ k. before.back_none b k (omega arith)) in
    let whole : HaveAll own (row others b) (get_or crosses b []) =
    subst (λ list. HaveAll own list (get_or crosses b [])) c.lent_at-list.ensures
    (c.share_places.ensures.all own (subst (λ list. HaveFirst own list noted (get_or (held_in f c.write_namings.new.of_others) b [])) (sym c.lent_at-list.ensures) first)) in
    let here : AreCrossPlacesOf others rows b (get_or crosses b []) = own_places rows others whole in
    record {
      listed_rounds = let round = c.note_list-repeats.ensures.round in let t = before.listed_rounds in omega arith;
      listed_long = listed_same ∙ listed_long;
      before = c.write_namings.ensures.written rows others named notes before.before;
      back_each = kept.one_each ∙ before.back_each;
      back_long = λ d. kept.as_long d ∙ before.back_long d;
      back_of = λ d l. ⊎_elim
          (λ (same : d ≡ b). subst (λ e. AreCrossPlacesOf others rows e (get_or crosses e [])) (sym same) here)
          (λ other. subst (AreCrossPlacesOf others rows d) (sym (kept.others d other)) (before.back_of d (omega arith)))
          (cases_eq d b);
      back_none = λ d k l. ap (λ (list : List (Option ℕ)). get_or list k None) (kept.others d (λ same. omega arith)) ∙ before.back_none d k (omega arith);
    }

pub returns-clause-rows : goal.returns-clause-rows
returns-clause-rows g c =
    let many = length-map c.args.others.now (λ list. list.now) in
    places_end (omega arith) c.loop-b.invariant.before

pub returns-clause-others : goal.returns-clause-others
returns-clause-others g c =
    let many = length-map c.args.others.now (λ list. list.now) in
    record { one_each = c.loop-b.invariant.back_each; of = λ d l. c.loop-b.invariant.back_of d (omega arith) }
