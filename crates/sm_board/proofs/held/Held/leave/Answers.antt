use Rattle.std.proofs.Common.{◌≡◌, ℕ, ◌-◌, ◌++◌, ◌∷◌, [], Bool, false, arith, ap, sym, ◌∙◌, List, length, slice_index, refl, set, take}
use Rattle.std.proofs.lemmas.List.{length-set, take-take, get_or_default}
use Rattle.sm_market.specs.Lists.{row}
use Rattle.sm_board.specs.Courses.{Held}
use Rattle.sm_lists.proofs.ResultLemmas.{take-append_at_length}
use Rattle.sm_board.proofs.HeldLemmas.{leave_held, held_is, room_back, last_entered, count_is, last_member}
use Rattle.sm_board.proofs.held.Held.leave.Goals as goal

long : (c : goal.After-deref_mut-3) → length c.args.self.now.log ≡ c.self.inside.count
long c = count_is c.self.inside.log.items c.self.inside.count c.args.self.now.log c.self.invariant (ap (λ (h : Held). h.log) c.self.view_is)

x_is : (c : goal.After-deref_mut-3) → c.index-x.result.now ≡ slice_index c.self.inside.log.items (c.self.inside.count - 1)
x_is c = c.index-x.ensures ∙ get_or_default c.self.inside.log.items (c.self.inside.count - 1) c.index-x.result.now 0 (omega (arith, long c, c.requires.some, c.self.invariant))

last : (c : goal.After-deref_mut-3) → c.args.self.now.log ≡ take (c.self.inside.count - 1) c.self.inside.log.items ++ c.index-x.result.now ∷ []
last c = sym (ap (λ (h : Held). h.log) c.self.view_is) ∙ last_entered c.self.inside.log.items c.self.inside.count (omega (arith, long c, c.requires.some)) c.self.invariant ∙ ap (λ (x : ℕ). take (c.self.inside.count - 1) c.self.inside.log.items ++ x ∷ []) (sym (x_is c))

at_is : (c : goal.After-deref_mut-3) → c.deref_mut-2.result.now ≡ c.args.self.now.stays
at_is c = c.deref_mut-2.ensures.value ∙ ap (λ (h : Held). h.stays) c.self.view_is

pub move_back-requires-clause-some : goal.move_back-requires-clause-some
move_back-requires-clause-some c = λ a k.
    let member = last_member _ c.index-x.result.now c.requires.held (last c) in
    let w = room_back c.requires.board c.args.self.now c.requires.held c.index-x.result.now member a k in
    let p : ℕ = slice_index (row c.args.board.now.movers c.index-x.result.now) a in
    let e : slice_index c.deref_mut-2.result.now p ≡ slice_index c.args.self.now.stays p = ap (λ (xs : List ℕ). slice_index xs p) (at_is c) in
    (omega (arith, w.0), omega (arith, w.1))

long_then : (c : goal.After-self-4-1) → length c.args.self.now.log ≡ c.self.inside.count
long_then c = count_is c.self.inside.log.items c.self.inside.count c.args.self.now.log c.self.invariant (ap (λ (h : Held). h.log) c.self.view_is)

x_then : (c : goal.After-self-4-1) → c.index-x.result.now ≡ slice_index c.self.inside.log.items (c.self.inside.count - 1)
x_then c = c.index-x.ensures ∙ get_or_default c.self.inside.log.items (c.self.inside.count - 1) c.index-x.result.now 0 (omega (arith, long_then c, c.requires.some, c.self.invariant))

last_then : (c : goal.After-self-4-1) → c.args.self.now.log ≡ take (c.self.inside.count - 1) c.self.inside.log.items ++ c.index-x.result.now ∷ []
last_then c = sym (ap (λ (h : Held). h.log) c.self.view_is) ∙ last_entered c.self.inside.log.items c.self.inside.count (omega (arith, long_then c, c.requires.some)) c.self.invariant ∙ ap (λ (x : ℕ). take (c.self.inside.count - 1) c.self.inside.log.items ++ x ∷ []) (sym (x_then c))

pub returns-clause-logged : goal.returns-clause-logged
returns-clause-logged c =
    sym (take-take (c.self.inside.count - 1) c.self.inside.count c.self.inside.log.items (omega arith))
    ∙ ap (λ (h : Held). take (c.self.inside.count - 1) h.log) c.self.view_is
    ∙ ap (λ (n : ℕ). take (n - 1) c.args.self.now.log) (sym (long_then c))

pub returns-clause-held : goal.returns-clause-held
returns-clause-held c =
    let at : c.deref_mut-2.result.now ≡ c.args.self.now.stays = c.deref_mut-2.ensures.value ∙ ap (λ (h : Held). h.stays) c.self.view_is in
    let now : c.deref_mut-3.result.now ≡ c.args.self.now.levels = c.deref_mut-3.ensures.value ∙ ap (λ (h : Held). h.levels) c.self.view_is in
    let w = leave_held c.args.self.now c.index-x.result.now (take (c.self.inside.count - 1) c.self.inside.log.items) c.move_back.new.at c.move_back.new.now c.requires.board c.requires.held (last_then c) (rw (at, now) at c.move_back.ensures) in
    let index : slice_index c.deref.result.now (c.self.inside.count - 1) ≡ c.index-x.result.now = ap (λ (xs : List ℕ). slice_index xs (c.self.inside.count - 1)) c.deref.ensures.value ∙ sym (x_then c) in
    held_is
    (take-append_at_length c.self.inside.set.members.len c.leave.new.members _ (ap length c.leave.ensures.member ∙ length-set c.deref_mut.result.now (slice_index c.deref.result.now (c.self.inside.count - 1)) false ∙ c.deref_mut.ensures.len)
    ∙ c.leave.ensures.member ∙ ap (λ (k : ℕ). set c.deref_mut.result.now k false) index ∙ ap (λ (xs : List Bool). set xs c.index-x.result.now false) (c.deref_mut.ensures.value ∙ ap (λ (h : Held). h.set) c.self.view_is))
    refl
    (ap (λ (h : Held). h.room) c.self.view_is)
    (take-append_at_length c.self.inside.stays.len c.move_back.new.at _ (c.move_back.ensures.at_each ∙ c.deref_mut-2.ensures.len))
    (take-append_at_length c.self.inside.levels.len c.move_back.new.now _ (c.move_back.ensures.now_each ∙ c.deref_mut-3.ensures.len))
    w
