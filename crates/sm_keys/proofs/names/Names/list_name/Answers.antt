use Rattle.std.proofs.Common.{◌∙◌, sym, refl, subst}
use Rattle.indexmap.specs.IndexSet.{keys}
use Rattle.sm_keys.specs.Tables.{Table, table_from, Interns}
use Rattle.sm_keys.proofs.TableLemmas.{stamped_new, stamp_here}
use Rattle.sm_keys.proofs.names.Names.list_name.Goals as goal

pub returns-then-index-line : goal.returns-then-index-line
returns-then-index-line c =
    let n = c.self.inside in
    let t = table_from (keys n.texts) n.numbers.items n.stamps.items n.declared.items in
    let i = c.in_ok-index.index in
    let at = c.in_ok-index.ensures in
    let now : Interns c.args.self.now t c.args.name.now i = subst (λ (x : Table). Interns c.args.self.now x c.args.name.now i) (sym c.self.view_is) at in
    record {
      stamp_each = at.was.stamp_each;
      at = i;
      extends = at.extends;
      declared = at.declared;
      stamps = at.stamps;
      names = at.names;
      stamped = sym (now.stamps i) ∙ sym (stamp_here _ _ _ _ now c.index.ensures) ∙ c.if-index-line.true;
    }

pub returns : goal.returns
returns c =
    let n = c.self.inside in
    let t = table_from (keys n.texts) n.numbers.items n.stamps.items n.declared.items in
    let i = c.in_ok-index.index in
    let now : Interns c.args.self.now t c.args.name.now i = subst (λ (x : Table). Interns c.args.self.now x c.args.name.now i) (sym c.self.view_is) c.in_ok-index.ensures in
    stamped_new c.args.self.now t _ _ _ i now (λ e. c.if-index-line.false (stamp_here _ _ _ _ now c.index.ensures ∙ e)) refl refl refl refl
