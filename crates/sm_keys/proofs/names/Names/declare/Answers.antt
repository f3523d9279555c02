use Rattle.std.proofs.Common.{◌≡◌, ◌++◌, ◌∷◌, [], cond, ap, ◌∙◌, sym, refl, subst, length, set, Some, ℕ, List, arith, get_or, None, is_some}
use Rattle.std.specs.Result.{is_ok}
use Rattle.std.specs.Borrow.{Bor}
use Rattle.std.proofs.lemmas.List.{length-map}
use Rattle.indexmap.specs.IndexSet.{keys}
use Rattle.sm_keys.specs.Tables.{Table, table_from, Interns}
use Rattle.sm_text.specs.Slices.{texts_of}
use Rattle.sm_keys.proofs.PositionLemmas.{texts_of-push}
use Rattle.sm_keys.proofs.TableLemmas.{declared_old, declared_new, number_here}
use Rattle.sm_keys.proofs.names.Names.declare.Goals as goal

pub returns-then-is_some : goal.returns-then-is_some
returns-then-is_some c =
    let n = c.self.inside in
    let t = table_from (keys n.texts) n.numbers.items n.stamps.items n.declared.items in
    let i = c.in_ok-index.index in
    let at = c.in_ok-index.ensures in
    let now : Interns c.args.self.now t c.args.name.now i = subst (λ (x : Table). Interns c.args.self.now x c.args.name.now i) (sym c.self.view_is) at in
    declared_old _ _ _ i at (ap (λ (x : Table). is_some (get_or x.numbers i None)) (sym c.self.view_is) ∙ number_here _ _ _ _ now c.index.ensures ∙ sym c.is_some.ensures ∙ c.if-is_some.true)

pub invariant_of-self-2 : goal.invariant_of-self-2
invariant_of-self-2 c =
    let n = c.self.inside in
    let t = table_from (keys n.texts) n.numbers.items n.stamps.items n.declared.items in
    let i = c.in_ok-index.index in
    let now : Interns c.args.self.now t c.args.name.now i = subst (λ (x : Table). Interns c.args.self.now x c.args.name.now i) (sym c.self.view_is) c.in_ok-index.ensures in
    let count : c.len.result ≡ length (texts_of n.declared.items) =
    omega (arith, c.len.ensures, c.in_ok-reserve.ensures.len, n.declared.ok.0, length-map n.declared.items (λ (x : Bor (List ℕ)). x.now)) in
    let pushed : c.push.new.self.items ≡ n.declared.items ++ c.args.name ∷ [] =
    c.push.ensures.items ∙ ap (λ r. cond (is_ok r) (c.reserve.new.self.items ++ c.args.name ∷ []) c.reserve.new.self.items) c.unwrap.ensures
    ∙ ap (λ xs. xs ++ c.args.name ∷ []) c.in_ok-reserve.ensures.items in
    (declared_new c.args.self.now t (table_from (keys n.texts) (set n.numbers.items i (Some c.len.result)) n.stamps.items c.push.new.self.items) c.args.name.now i now
    (number_here _ _ _ _ now c.index.ensures ∙ sym c.is_some.ensures ∙ c.if-is_some.false)
    refl (ap (λ k. set n.numbers.items i (Some k)) count) refl (ap texts_of pushed ∙ texts_of-push n.declared.items c.args.name)).table

pub returns : goal.returns
returns c =
    let n = c.self.inside in
    let t = table_from (keys n.texts) n.numbers.items n.stamps.items n.declared.items in
    let i = c.in_ok-index.index in
    let now : Interns c.args.self.now t c.args.name.now i = subst (λ (x : Table). Interns c.args.self.now x c.args.name.now i) (sym c.self.view_is) c.in_ok-index.ensures in
    let count : c.len.result ≡ length (texts_of n.declared.items) =
    omega (arith, c.len.ensures, c.in_ok-reserve.ensures.len, n.declared.ok.0, length-map n.declared.items (λ (x : Bor (List ℕ)). x.now)) in
    let pushed : c.push.new.self.items ≡ n.declared.items ++ c.args.name ∷ [] =
    c.push.ensures.items ∙ ap (λ r. cond (is_ok r) (c.reserve.new.self.items ++ c.args.name ∷ []) c.reserve.new.self.items) c.unwrap.ensures
    ∙ ap (λ xs. xs ++ c.args.name ∷ []) c.in_ok-reserve.ensures.items in
    declared_new c.args.self.now t (table_from (keys n.texts) (set n.numbers.items i (Some c.len.result)) n.stamps.items c.push.new.self.items) c.args.name.now i now
    (number_here _ _ _ _ now c.index.ensures ∙ sym c.is_some.ensures ∙ c.if-is_some.false)
    refl (ap (λ k. set n.numbers.items i (Some k)) count) refl (ap texts_of pushed ∙ texts_of-push n.declared.items c.args.name)
