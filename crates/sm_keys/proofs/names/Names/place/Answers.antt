use Rattle.std.proofs.Common.{◌≡◌, ◌++◌, ◌∷◌, [], true, false, cond, ap, ◌∙◌, sym, refl, subst, length, ℕ, Option, None}
use Rattle.std.specs.Result.{is_ok}
use Rattle.std.specs.List.{list_any}
use Rattle.std.specs.Str.{bytes_eq}
use Rattle.std.proofs.lemmas.Bool.{not-true, not-false}
use Rattle.indexmap.specs.IndexSet.{keys}
use Rattle.sm_keys.specs.Tables.{Table, table_from, Interns}
use Rattle.sm_keys.specs.Keys.{text_of, key_texts}
use Rattle.sm_keys.specs.declared.key.Key.{Key}
use Rattle.sm_keys.proofs.PositionLemmas.{list_any_texts, position_texts, position_or_len-none, key_texts-push}
use Rattle.sm_keys.proofs.TableLemmas.{interned_new, interned_old}
use Rattle.sm_keys.proofs.names.Names.place.Goals.{then-is_new, else-is_new}
use Rattle.sm_keys.proofs.names.Names.place.Goals as goal

pub invariant_of-self-then-is_new : goal.invariant_of-self-then-is_new
invariant_of-self-then-is_new c =
    let n = c.self.inside in
    let t = table_from (keys n.texts) n.numbers.items n.stamps.items n.declared.items in
    let key = c.args.name in
    let name = key.text in
    let old = keys n.texts in
    let absent : list_any (λ (k : Key). bytes_eq name.now (text_of k)) old ≡ false = not-true _ (sym c.in_ok-place.ensures.added ∙ c.if-is_new.true) in
    let missing : list_any (bytes_eq name.now) (key_texts old) ≡ false = sym (list_any_texts name.now old) ∙ absent in
    let put : keys c.insert_full.new.self ≡ old ++ key ∷ [] = c.in_ok-place.ensures.keys ∙ ap (λ b. cond b old (old ++ key ∷ [])) absent in
    let none : Option ℕ = None in
    let numbers : c.push.new.self.items ≡ n.numbers.items ++ none ∷ [] =
    c.push.ensures.items ∙ ap (λ r. cond (is_ok r) (c.reserve.new.self.items ++ none ∷ []) c.reserve.new.self.items) c.unwrap.ensures
    ∙ ap (λ xs. xs ++ none ∷ []) c.in_ok-reserve.ensures.items in
    let stamps : c.push-then-is_new.new.self.items ≡ n.stamps.items ++ 0 ∷ [] =
    c.push-then-is_new.ensures.items ∙ ap (λ r. cond (is_ok r) (c.reserve-2.new.self.items ++ 0 ∷ []) c.reserve-2.new.self.items) c.unwrap-then-is_new.ensures
    ∙ ap (λ xs. xs ++ 0 ∷ []) c.in_ok-reserve-2.ensures.items in
    let index : c.in_ok-place.place ≡ length (key_texts old) =
    c.in_ok-place.ensures.index ∙ position_texts name.now old ∙ position_or_len-none (bytes_eq name.now) (key_texts old) missing in
    let new = table_from (keys c.insert_full.new.self) c.push.new.self.items c.push-then-is_new.new.self.items n.declared.items in
    let placed = interned_new t new name.now c.in_ok-place.place c.self.invariant missing (ap key_texts put ∙ key_texts-push old key) numbers stamps refl index in
    placed.table

pub invariant_of-self-else-is_new : goal.invariant_of-self-else-is_new
invariant_of-self-else-is_new c =
    let n = c.self.inside in
    let t = table_from (keys n.texts) n.numbers.items n.stamps.items n.declared.items in
    let key = c.args.name in
    let name = key.text in
    let old = keys n.texts in
    let there : list_any (λ (k : Key). bytes_eq name.now (text_of k)) old ≡ true = not-false _ (sym c.in_ok-place.ensures.added ∙ c.if-is_new.false) in
    let put : keys c.insert_full.new.self ≡ old = c.in_ok-place.ensures.keys ∙ ap (λ b. cond b old (old ++ key ∷ [])) there in
    let new = table_from (keys c.insert_full.new.self) c.reserve.new.self.items c.reserve-2.new.self.items n.declared.items in
    let placed = interned_old t new name.now c.in_ok-place.place c.self.invariant (sym (list_any_texts name.now old) ∙ there) (ap key_texts put) c.in_ok-reserve.ensures.items c.in_ok-reserve-2.ensures.items refl
    (c.in_ok-place.ensures.index ∙ position_texts name.now old) in
    placed.table

pub returns : goal.returns
returns c = elim c.if-is_new.branch [
  | then-is_new w ↦
      let n = c.self.inside in
      let t = table_from (keys n.texts) n.numbers.items n.stamps.items n.declared.items in
      let key = c.args.name in
      let name = key.text in
      let old = keys n.texts in
      let absent : list_any (λ (k : Key). bytes_eq name.now (text_of k)) old ≡ false = not-true _ (sym c.in_ok-place.ensures.added ∙ w.if-is_new.true) in
      let missing : list_any (bytes_eq name.now) (key_texts old) ≡ false = sym (list_any_texts name.now old) ∙ absent in
      let put : keys c.insert_full.new.self ≡ old ++ key ∷ [] = c.in_ok-place.ensures.keys ∙ ap (λ b. cond b old (old ++ key ∷ [])) absent in
      let none : Option ℕ = None in
      let numbers : w.push.new.self.items ≡ n.numbers.items ++ none ∷ [] =
      w.push.ensures.items ∙ ap (λ r. cond (is_ok r) (c.reserve.new.self.items ++ none ∷ []) c.reserve.new.self.items) w.unwrap.ensures
      ∙ ap (λ xs. xs ++ none ∷ []) c.in_ok-reserve.ensures.items in
      let stamps : w.push-then-is_new.new.self.items ≡ n.stamps.items ++ 0 ∷ [] =
      w.push-then-is_new.ensures.items ∙ ap (λ r. cond (is_ok r) (c.reserve-2.new.self.items ++ 0 ∷ []) c.reserve-2.new.self.items) w.unwrap-then-is_new.ensures
      ∙ ap (λ xs. xs ++ 0 ∷ []) c.in_ok-reserve-2.ensures.items in
      let index : c.in_ok-place.place ≡ length (key_texts old) =
      c.in_ok-place.ensures.index ∙ position_texts name.now old ∙ position_or_len-none (bytes_eq name.now) (key_texts old) missing in
      let new = table_from (keys c.insert_full.new.self) w.push.new.self.items w.push-then-is_new.new.self.items n.declared.items in
      let placed = interned_new t new name.now c.in_ok-place.place c.self.invariant missing (ap key_texts put ∙ key_texts-push old key) numbers stamps refl index in
      subst (λ (x : Table). Interns x c.if-is_new.self name.now c.in_ok-place.place) c.self.view_is
      (subst (λ (x : Table). Interns t x name.now c.in_ok-place.place) (sym w.self-is) placed)
  | else-is_new w ↦
      let n = c.self.inside in
      let t = table_from (keys n.texts) n.numbers.items n.stamps.items n.declared.items in
      let key = c.args.name in
      let name = key.text in
      let old = keys n.texts in
      let there : list_any (λ (k : Key). bytes_eq name.now (text_of k)) old ≡ true = not-false _ (sym c.in_ok-place.ensures.added ∙ w.if-is_new.false) in
      let put : keys c.insert_full.new.self ≡ old = c.in_ok-place.ensures.keys ∙ ap (λ b. cond b old (old ++ key ∷ [])) there in
      let new = table_from (keys c.insert_full.new.self) c.reserve.new.self.items c.reserve-2.new.self.items n.declared.items in
      let placed = interned_old t new name.now c.in_ok-place.place c.self.invariant (sym (list_any_texts name.now old) ∙ there) (ap key_texts put) c.in_ok-reserve.ensures.items c.in_ok-reserve-2.ensures.items refl
      (c.in_ok-place.ensures.index ∙ position_texts name.now old) in
      subst (λ (x : Table). Interns x c.if-is_new.self name.now c.in_ok-place.place) c.self.view_is
      (subst (λ (x : Table). Interns t x name.now c.in_ok-place.place) (sym w.self-is) placed)
]
