use Rattle.std.proofs.Common.{◌≡◌, ◌∙◌, ◌+◌, ◌-◌, ◌<◌, ◌++◌, ◌∷◌, [], true, length, take, drop, sym, ap, arith}
use Rattle.std.specs.Prelude.{vec_len}
use Rattle.std.proofs.lemmas.Bool.{not-false}
use Rattle.sm_text.specs.Name.{is_name}
use Rattle.sm_text.specs.Tokens.{IsLeading}
use Rattle.sm_keys.specs.Tables.{HasStamp, IsStamped}
use Rattle.sm_keys.specs.Lines.{IsListingLine}
use Rattle.sm_keys.proofs.LineLemmas.{line_none, line_more, line_moved, line_some, line_all}
use Rattle.sm_keys.proofs.names.Names.list_tokens.Goals as goal

pub list_known-at-requires-clause-some : goal.list_known-at-requires-clause-some
list_known-at-requires-clause-some c = omega (arith, c.requires.fresh 0)

pub tokens-init : goal.tokens-init
tokens-init c =
    let t = c.args.self.now in
    let line = c.args.line.now in
    let none : vec_len c.args.indexes.now ≡ 0 = omega (arith, c.args.indexes.now.ok.0, ap length c.requires.none) in
    let moved = line_moved t t line 0 c.behind_blank.result c.args.stamp 0 [] (line_none t line c.args.stamp c.requires.fresh) c.behind_blank.ensures.tokens in
    record {
      listing = c.list_known-at.ensures.further t (rw (c.requires.none, none) moved);
      room = c.list_known-at.ensures.room;
    }

pub returns-in_default-2 : goal.returns-in_default-2
returns-in_default-2 c =
    let line = c.args.line.now in
    let token = c.in-Some.token in
    let indexes = c.tokens.indexes in
    let met : HasStamp c.tokens.self c.list_name.new.self (take (token.stop - token.start) (drop token.start line)) c.args.stamp = rw c.in_default-2.is at c.in_ok-index.ensures in
    line_some c.args.self.now c.tokens.self c.list_name.new.self line c.tokens.at c.args.stamp (vec_len indexes) indexes.items c.tokens.invariant.listing
    (λ none. omega (arith, indexes.ok.0, ap length none)) met.extends met.declared met.stamps

pub tokens-preserved : goal.tokens-preserved
tokens-preserved c =
    let line = c.args.line.now in
    let token = c.in-Some.token in
    let name = take (token.stop - token.start) (drop token.start line) in
    let indexes = c.tokens.indexes in
    let i = vec_len indexes in
    let index = c.in-Some-2.index in
    let leading : IsLeading line c.tokens.at token.start token.stop = c.in-Some.ensures.places in
    let is : is_name name ≡ true = sym c.in-Some.ensures.name ∙ not-false c.in-Some.token.name c.if-not-token.false in
    let met : IsStamped c.tokens.self c.list_name.new.self name c.args.stamp index = rw c.in-Some-2.is at c.in_ok-index.ensures in
    let some : 0 < c.args.stamp = omega (arith, c.requires.fresh 0) in
    let more : IsListingLine c.args.self.now c.list_name.new.self line token.stop c.args.stamp (i + 1) (indexes.items ++ index ∷ []) =
    line_more c.args.self.now c.tokens.self c.list_name.new.self line c.tokens.at token.stop c.args.stamp i indexes.items name index some c.tokens.invariant.listing leading.leads is met in
    let moved = line_moved c.args.self.now c.list_name.new.self line token.stop c.behind_blank-in-Some.result c.args.stamp (i + 1) (indexes.items ++ index ∷ []) more c.behind_blank-in-Some.ensures.tokens in
    let long : vec_len c.push_reserved.new.self ≡ i + 1 = omega (arith, c.push_reserved.ensures.len) in
    record {
      listing = c.list_known-at-in-Some.ensures.further c.args.self.now (rw (c.push_reserved.ensures.items, long) moved);
      room = c.list_known-at-in-Some.ensures.room;
    }

pub returns : goal.returns
returns c =
    let indexes = c.tokens.indexes in
    line_all c.args.self.now c.tokens.self c.args.line.now c.tokens.at c.args.stamp (vec_len indexes) indexes.items c.tokens.invariant.listing c.in_default.ensures.places
