use Rattle.std.proofs.Common.{◌≡◌, ℕ, ◌+◌, ◌<◌, ◌≤◌, List, length, get_or, ap, sym, ◌∙◌, arith}
use Rattle.std.proofs.lemmas.List.{get_or_past}
use Rattle.std.proofs.lemmas.Bool.Decides.{nat_tests}
use Rattle.sm_lists.specs.Rows.{row, entry}
use Rattle.sm_lists.specs.Spans.{rows_in}
use Rattle.sm_lists.proofs.RaisedLemmas.{length-raised_rows, length-row-raised_rows, entry-raised_rows}
use Rattle.sm_lists.proofs.RaisedSpanLemmas.{length-rows_in}
use Rattle.sm_lists.proofs.raised_rows.RaisedRows.entry_at.Goals as goal

pub entry_in-entry-requires-clause-in_range : goal.entry_in-entry-requires-clause-in_range
entry_in-entry-requires-clause-in_range c =
    let s = c.self.inside in
    let same = ap length c.self.view_is in
    let spans = ap length c.deref.ensures.value in
    omega (arith, c.requires.in_range, same, spans, length-raised_rows (rows_in s.entries s.spans.items) s.raises.items, length-rows_in s.entries s.spans.items)

pub entry_in-entry-requires-clause-on_list : goal.entry_in-entry-requires-clause-on_list
entry_in-entry-requires-clause-on_list c =
    let s = c.self.inside in
    let same = ap (λ t. length (row t c.args.a)) c.self.view_is in
    let spans = ap (λ l. length (row (rows_in s.entries l) c.args.a)) c.deref.ensures.value in
    omega (arith, c.requires.on_list, same, spans, length-row-raised_rows (rows_in s.entries s.spans.items) s.raises.items c.args.a)

pub returns-in-Some : goal.returns-in-Some
returns-in-Some c =
    let s = c.self.inside in
    let rows : List (List ℕ) = rows_in s.entries s.spans.items in
    let raises : List ℕ = s.raises.items in
    let same = ap (λ t. length (row t c.args.a)) c.self.view_is in
    let on : c.args.place < length (row rows c.args.a) = omega (arith, c.requires.on_list, same, length-row-raised_rows rows raises c.args.a) in
    let read : c.entry_in-entry.result ≡ entry rows c.args.a c.args.place = c.entry_in-entry.ensures ∙ ap (λ l. entry (rows_in s.entries l) c.args.a c.args.place) c.deref.ensures.value in
    let raise : c.in-Some.raise.now ≡ get_or raises c.args.a 0 = grind (arith, c.in-Some.ensures.lookup, c.deref-2.ensures.value, nat_tests) in
    rw (← c.self.view_is) (ap (λ n. n + c.in-Some.raise.now) read ∙ ap (λ n. entry rows c.args.a c.args.place + n) raise ∙ sym (entry-raised_rows rows raises c.args.a c.args.place on))

pub returns-in-None : goal.returns-in-None
returns-in-None c =
    let s = c.self.inside in
    let rows : List (List ℕ) = rows_in s.entries s.spans.items in
    let raises : List ℕ = s.raises.items in
    let same = ap (λ t. length (row t c.args.a)) c.self.view_is in
    let on : c.args.place < length (row rows c.args.a) = omega (arith, c.requires.on_list, same, length-row-raised_rows rows raises c.args.a) in
    let read : c.entry_in-entry.result ≡ entry rows c.args.a c.args.place = c.entry_in-entry.ensures ∙ ap (λ l. entry (rows_in s.entries l) c.args.a c.args.place) c.deref.ensures.value in
    let past : length raises ≤ c.args.a = grind (arith, c.in-None.ensures.lookup, c.deref-2.ensures.value, nat_tests) in
    let none : 0 ≡ get_or raises c.args.a 0 = sym (get_or_past raises c.args.a 0 past) in
    rw (← c.self.view_is) (read ∙ (let n = entry rows c.args.a c.args.place in let e : n ≡ n + get_or raises c.args.a 0 = omega (arith, none) in e) ∙ sym (entry-raised_rows rows raises c.args.a c.args.place on))
